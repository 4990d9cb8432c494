-- What something reads, and how it is told for each place of an instant.
use Rattle.std.specs.Prelude.{ℕ, ◌≡◌, ◌⊎◌, List, [], ◌∷◌}
use Rattle.hp_tree.specs.Instant.{Step, Body, Named, Equations, Head, Tail, Right, Test, Arms as ArmsOf, States as StatesOf, Until, Unless, Active, Next, Pending, First, Second, Third, Args, Instance, Place}

-- The places that something reads, and the places `also` that it depends on without reading them: a value is there or not by the names of its clock, and a next word holds the active state where no weak condition is true.
-- No cycle needs the latter. Nothing reads a next word at the same instant; and who reads a value on a clock reads the names of that clock, or stands on it.
pub data Sources : Type 0 where
  none : Sources
  only : Place → Sources
  both : Sources → Sources → Sources
  also : Sources → Sources

-- All of them are in a set.
abbrev pub Within : (Place → Type 0) → Sources → Type 0
Within P none = Unit {0}
Within P (only p) = P p
Within P (both s t) = Within P s × Within P t
Within P (also s) = Within P s

-- A place is one of those that are read.
abbrev pub IsRead : Place → Sources → Type 0
IsRead p none = ⊥
IsRead p (only q) = p ≡ q
IsRead p (both s t) = IsRead p s ⊎ IsRead p t
IsRead p (also s) = ⊥

-- A place is one of all those that are depended on.
abbrev pub IsSource : Place → Sources → Type 0
IsSource p none = ⊥
IsSource p (only q) = p ≡ q
IsSource p (both s t) = IsSource p s ⊎ IsSource p t
IsSource p (also s) = IsSource p s

-- A place is one of those that are depended on besides.
abbrev pub IsBeside : Place → Sources → Type 0
IsBeside p none = ⊥
IsBeside p (only q) = ⊥
IsBeside p (both s t) = IsBeside p s ⊎ IsBeside p t
IsBeside p (also s) = IsSource p s

-- what each place of something, and what each name, stands for
abbrev pub PlaceSources : Type 0
PlaceSources = Place → Sources

abbrev pub NameSources : Type 0
NameSources = List ℕ → Sources

-- the same for the places of a part
abbrev pub below : {A : Type 0} → Step → (Place → A) → Place → A
below s k p = k (s ∷ p)

-- ---- what the places of something read, made of what those of its parts read

abbrev pub nowhere : PlaceSources
nowhere p = none

abbrev pub at_one : Sources → PlaceSources → PlaceSources
at_one s k [] = s
at_one s k (First ∷ p) = k p
at_one s k p = none

abbrev pub at_two : Sources → PlaceSources → PlaceSources → PlaceSources
at_two s k l [] = s
at_two s k l (First ∷ p) = k p
at_two s k l (Second ∷ p) = l p
at_two s k l p = none

abbrev pub at_three : Sources → PlaceSources → PlaceSources → PlaceSources → PlaceSources
at_three s k l m [] = s
at_three s k l m (First ∷ p) = k p
at_three s k l m (Second ∷ p) = l p
at_three s k l m (Third ∷ p) = m p
at_three s k l m p = none

abbrev pub at_row : PlaceSources → PlaceSources → PlaceSources
at_row k l (Head ∷ p) = k p
at_row k l (Tail ∷ p) = l p
at_row k l p = none

abbrev pub at_merge : Sources → PlaceSources → PlaceSources
at_merge s k [] = s
at_merge s k (Args ∷ p) = k p
at_merge s k p = none

-- a call: itself, its arguments, and what it gives, which reads the call
abbrev pub at_call : Sources → Sources → PlaceSources → PlaceSources
at_call s call k [] = s
at_call s call k (Args ∷ p) = k p
at_call s call k (Instance ∷ p) = call
at_call s call k p = none

abbrev pub at_block : NameSources → PlaceSources → PlaceSources
at_block named k (Named x ∷ []) = named x
at_block named k (Equations ∷ p) = k p
at_block named k p = none

abbrev pub at_right : PlaceSources → PlaceSources
at_right k (Right ∷ p) = k p
at_right k p = none

-- All that stands in an arm, or in the body of a `reset`, reads the control.
abbrev pub at_arms : PlaceSources → Sources → PlaceSources → PlaceSources
at_arms k control l (Test ∷ p) = k p
at_arms k control l (ArmsOf ∷ p) = both control (l p)
at_arms k control l p = none

abbrev pub at_body : PlaceSources → Sources → PlaceSources → PlaceSources
at_body k control l (Test ∷ p) = k p
at_body k control l (Body ∷ p) = both control (l p)
at_body k control l p = none

-- So does all that stands in the body of a state, and its weak conditions, which are read there.
abbrev pub at_state : Sources → PlaceSources → PlaceSources → PlaceSources → PlaceSources
at_state control k l m (Body ∷ p) = both control (k p)
at_state control k l m (Until ∷ p) = both control (l p)
at_state control k l m (Unless ∷ p) = m p
at_state control k l m p = none

abbrev pub at_words : Sources → Sources → PlaceSources → PlaceSources
at_words active next k (Active ∷ []) = active
at_words active next k (Next ∷ []) = next
at_words active next k (Pending ∷ []) = next
at_words active next k (StatesOf ∷ p) = k p
at_words active next k p = none
