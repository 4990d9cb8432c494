-- How classes spread from number to number, as the code holds them.
use Rattle.std.specs.Prelude.{◌≡◌, ⊤, ◌⊎◌, ℕ, ◌+◌, ◌<◌, Bool, true, false, not, IsTrue, if◌then◌else◌, List, [], ◌∷◌, ◌++◌, length, get_or, set, map, max}
use Rattle.std.specs.declared.alloc.Global.{Global}
use Rattle.std.specs.declared.vec.Vec.{Vec}
use Rattle.hp_init.specs.declared.ask.Source.TheVariants.{Always, Class}
use Rattle.hp_init.specs.declared.ask.Ask.{Ask}
use Rattle.hp_init.specs.declared.ask.Ask.TheVariants.{Follows, First}
use Rattle.hp_init.specs.Asks.{Valued, ObeysAll}

-- a class for each number; numbers that are not listed are First
abbrev pub valued : List Bool → Valued
valued second v = get_or second v false

-- the classes are below all others that obey what is asked
abbrev pub AreLeast : Valued → List Ask → Type 0
AreLeast second asks = (r : Valued) → ObeysAll r asks → (v : ℕ) → IsTrue (second v) → IsTrue (r v)

-- ---- the numbers that are named

abbrev pub greater : ℕ → Ask → ℕ
greater n (Follows Always k) = max n k
greater n (Follows (Class j) k) = max (max n j) k
greater n (First s at) = n

abbrev pub greatest : ℕ → List Ask → ℕ
greatest n [] = n
greatest n (a ∷ asks) = greatest (greater n a) asks

-- ---- what follows each number, and what follows always

abbrev pub lists : List (Vec ℕ Global) → List (List ℕ)
lists vs = map (λ v. v.items) vs

abbrev pub noted : Ask → List (List ℕ) → List (List ℕ)
noted (Follows Always k) ls = ls
noted (Follows (Class j) k) ls = set ls j (get_or ls j [] ++ k ∷ [])
noted (First s at) ls = ls

abbrev pub all_noted : List Ask → List (List ℕ) → List (List ℕ)
all_noted [] ls = ls
all_noted (a ∷ asks) ls = all_noted asks (noted a ls)

-- ---- marking

-- which numbers are Second, and those whose followers have still to be marked
pub record Marks : Type 0 where
  pub second : List Bool
  pub waiting : List ℕ

abbrev pub marks : List Bool → List ℕ → Marks
marks second waiting = record { second = second; waiting = waiting }

-- the number is there, and not yet Second
abbrev pub is_unmarked : List Bool → ℕ → Bool
is_unmarked second k = not (get_or second k true)

abbrev pub marked : ℕ → Marks → Marks
marked k m = if is_unmarked m.second k then record { second = set m.second k true; waiting = m.waiting ++ k ∷ [] } else m

abbrev pub all_marked : List ℕ → Marks → Marks
all_marked [] m = m
all_marked (k ∷ ks) m = all_marked ks (marked k m)

-- those that follow always
abbrev pub marked_by : Ask → Marks → Marks
marked_by (Follows Always k) m = marked k m
marked_by (Follows (Class j) k) m = m
marked_by (First s at) m = m

abbrev pub all_marked_by : List Ask → Marks → Marks
all_marked_by [] m = m
all_marked_by (a ∷ asks) m = all_marked_by asks (marked_by a m)

abbrev pub unmarked : List Bool → ℕ
unmarked [] = 0
unmarked (b ∷ bs) = (if b then 0 else 1) + unmarked bs

-- ---- what holds while classes spread

abbrev pub Among : List ℕ → ℕ → Type 0
Among [] k = ⊥
Among (x ∷ xs) k = (x ≡ k) ⊎ Among xs k

abbrev pub AllSecond : Valued → List ℕ → Type 0
AllSecond q [] = ⊤
AllSecond q (k ∷ ks) = IsTrue (q k) × AllSecond q ks

abbrev pub AllBelow : ℕ → List ℕ → Type 0
AllBelow n [] = ⊤
AllBelow n (k ∷ ks) = (k < n) × AllBelow n ks

-- what follows a Second number is Second too
abbrev pub Keeps : List (List ℕ) → Valued → Type 0
Keeps followers q = (v : ℕ) → IsTrue (q v) → AllSecond q (get_or followers v [])

-- what follows a Second number is Second too, unless the number waits
pub record Spreads (followers : List (List ℕ)) (m : Marks) : Type 0 where
  pub closed : (v : ℕ) → IsTrue (valued m.second v) → Among m.waiting v ⊎ AllSecond (valued m.second) (get_or followers v [])
  pub reached : (v : ℕ) → Among m.waiting v → IsTrue (valued m.second v)
  pub within : (v : ℕ) → AllBelow (length m.second) (get_or followers v [])

abbrev pub Within : Valued → Valued → Type 0
Within q r = (v : ℕ) → IsTrue (q v) → IsTrue (r v)

-- one lot of classes grew to another, and no further than what keeps to the followers
pub record Grew (followers : List (List ℕ)) (old new : List Bool) : Type 0 where
  pub grown : Within (valued old) (valued new)
  pub least : (r : Valued) → Keeps followers r → Within (valued old) r → Within (valued new) r
