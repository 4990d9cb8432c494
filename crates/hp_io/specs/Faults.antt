-- Faults of an object: calls that failed. The code keeps a count in 64 bits, and it stays at its last value.
use Rattle.std.specs.Prelude.{◌≡◌, ◌≤◌, ◌+◌, ◌-◌, ◌^◌, ℕ, Bool, true, false, List, min}

-- Of the calls of one kind on an object: how often they failed, whether the last call on the object failed, and whether the object tells that they never fail.
pub record Faults : Type 0 where
  pub count : ℕ
  pub is_last : Bool
  pub is_calm : Bool

-- a count after one more
abbrev pub one_more : ℕ → ℕ
one_more count = min (count + 1) (2 ^ 64 - 1)

-- these calls never fail
abbrev pub IsCalm : Faults → Type 0
IsCalm faults = faults.is_calm ≡ true

-- none of these calls failed
pub record Same (before after : Faults) : Type 0 where
  pub count : after.count ≡ before.count
  pub calm : after.is_calm ≡ before.is_calm

-- none failed, and the last call on the object did not fail
abbrev pub Worked : Faults → Faults → Type 0
Worked before after = Same before after × (after.is_last ≡ false)

-- one of these calls failed, and it was the last call on the object
pub record Rose (before after : Faults) : Type 0 where
  pub may : before.is_calm ≡ false
  pub count : after.count ≡ one_more before.count
  pub calm : after.is_calm ≡ before.is_calm
  pub last : after.is_last ≡ true

-- of the calls for each name, none failed
abbrev pub AllSame : (List ℕ → Faults) → (List ℕ → Faults) → Type 0
AllSame before after = (name : List ℕ) → Same (before name) (after name)

-- of the calls for each name, none failed that was the last on the object
abbrev pub NoneLast : (List ℕ → Faults) → Type 0
NoneLast faults = (name : List ℕ) → (faults name).is_last ≡ false

-- of the counts of all names, none fell
abbrev pub NoneFell : (List ℕ → Faults) → (List ℕ → Faults) → Type 0
NoneFell before after = (name : List ℕ) → (before name).count ≤ (after name).count
