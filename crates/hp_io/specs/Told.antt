-- What an object tells of itself, or keeps to itself: an `Option`.
use Rattle.std.specs.Prelude.{◌≡◌, ◌++◌, List, Option, None, Some, IfSome, option_map, ⊤}

-- P of what is told, if it is told
abbrev pub Told : {X : Type 0} → Option X → (X → Type 0) → Type 0
Told told P = IfSome told P

-- told before and after, and R of the two, or not told at all
abbrev pub BothTold : {X : Type 0} → Option X → Option X → (X → X → Type 0) → Type 0
BothTold None None R = ⊤
BothTold None (Some y) R = ⊥
BothTold (Some x) None R = ⊥
BothTold (Some x) (Some y) R = R x y

-- a list, where it is told, grew by these items at its end
abbrev pub Grows : {X : Type 0} → Option (List X) → Option (List X) → List X → Type 0
Grows before after more = after ≡ option_map (λ xs. xs ++ more) before

-- a list, where it is told, lost these items at its front
abbrev pub Loses : {X : Type 0} → Option (List X) → Option (List X) → List X → Type 0
Loses before after front = before ≡ option_map (λ xs. front ++ xs) after
