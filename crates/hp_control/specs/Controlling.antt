-- The functions of control bits.
use Rattle.std.specs.Prelude.{ℕ, ◌≡◌, ◌≢◌, ◌==◌, ◌↔◌, IsTrue, Bool, true, false, List, ◌∷◌, Option, Some, None, slice_index_or, if◌then◌else◌}
use Rattle.hp_diagram.specs.declared.reference.Ref.{Ref}
use Rattle.hp_diagram.specs.Diagrams.{Diagrams, function, Has, Means}
use Rattle.hp_boolx.specs.Search.{Bits, Set, some_of}
use Rattle.hp_boolx.specs.Game.{Game, Permitted, first_bit}
use Rattle.hp_boolx.specs.Solved.{IsChoice}
use Rattle.hp_synth.specs.Building.{functions_at}
use Rattle.hp_synth.specs.Valued.{Valued, Fun, read, through, over, states, earlies, controls}

pub record IsOnly (by : List (Option Ref)) (k : ℕ) (r : Ref) : Type 0 where
  pub at : slice_index_or by k None ≡ Some r
  pub others : (y : ℕ) → y ≢ k → slice_index_or by y None ≡ None

-- the function where the variable has the value of another function
abbrev pub put_in : Diagrams → Ref → ℕ → Ref → Fun
put_in t f k r v = function t f (λ y. if y == k then function t r v else v y)

-- what is left to choose from, behind a chosen bit
abbrev pub bit_of : Bool → ℕ → Set → Bool
bit_of b n p = first_bit b (some_of n (λ c. p (true ∷ c))) (some_of n (λ c. p (false ∷ c)))

-- what is left to choose from, where variables stand at places: the reference is that of a set of choices, as a function of n control bits from k on
abbrev pub AreLeft : Game → (ℕ → ℕ) → Diagrams → ℕ → ℕ → (Bits → Bits → Set) → Ref → Type 0
AreLeft g place t k n q p = Means t (over place (λ v. q (states g v) (earlies g v) (read k n v))) p

-- The references are the bits of the controller's choice, at each state and all early values.
abbrev pub AreFunctions : Game → Diagrams → List Ref → Type 0
AreFunctions g t funs = (v : Valued) → IsChoice g (states g v) (earlies g v) (functions_at t funs v)

-- The same in a table where the machine's variables stand at places.
abbrev pub AreFunctionsAt : Game → (ℕ → ℕ) → Diagrams → List Ref → Type 0
AreFunctionsAt g place t funs = (v : Valued) → IsChoice g (states g (through place v)) (earlies g (through place v)) (functions_at t funs v)

-- The reference is true exactly where, at the state and the early values, the controls are a permitted choice.
pub record IsPermissive (g : Game) (t : Diagrams) (r : Ref) : Type 0 where
  pub has : Has t r
  pub value : (v : Valued) → IsTrue (function t r v) ↔ Permitted g (states g v) (earlies g v) (controls g v)
