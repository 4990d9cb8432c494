-- Where the variables of a machine stand in a table, and what its functions are there.
use Rattle.std.specs.Prelude.{◌≡◌, ◌⊎◌, ◌+◌, ℕ, ◌<◌, ◌≤◌, Bool, false, IsTrue, List, [], length, slice_index_or}
use Rattle.hp_quant.specs.Turns.{marked}
use Rattle.hp_synth.specs.declared.layout.Layout.{Layout}

-- a number of a list, and the index itself behind its end
abbrev pub at : List ℕ → ℕ → ℕ
at xs x = slice_index_or xs x x

-- the place of a variable in the table
abbrev pub place : Layout → ℕ → ℕ
place l x = at l.places.items x

-- the variable at a place
abbrev pub variable : Layout → ℕ → ℕ
variable l y = at l.variables.items y

-- each of so many variables has one of so many places, and no other variable has it; further ones stand where they are
pub record IsLayout (vars : ℕ) (l : Layout) : Type 0 where
  pub fits : l.counts.registers + l.counts.early + l.counts.control + l.counts.late ≡ vars
  pub within : (x : ℕ) → x < vars → place l x < vars
  pub beyond : (x : ℕ) → vars ≤ x → place l x ≡ x
  pub there : (x : ℕ) → variable l (place l x) ≡ x
  pub again : (y : ℕ) → place l (variable l y) ≡ y

-- each variable stands at the place of its own number
abbrev pub IsPlain : Layout → Type 0
IsPlain l = (l.places.items ≡ []) × (l.variables.items ≡ [])

-- the second list has at the place of each variable, which the first one tells, that variable
abbrev pub Undoes : List ℕ → List ℕ → Type 0
Undoes places variables = (x : ℕ) → x < length places → (at places x < length variables) × (at variables (at places x) ≡ x)

-- both lists are so long, and each undoes the other
pub record AreInverse (vars : ℕ) (places variables : List ℕ) : Type 0 where
  pub many : length places ≡ vars
  pub as_many : length variables ≡ vars
  pub there : Undoes places variables
  pub again : Undoes variables places

-- the places of the variables from `from` up to, not including, `to` are marked, and no others
pub record MarksPlaces (l : Layout) (of : List Bool) (from to : ℕ) : Type 0 where
  pub inside : (x : ℕ) → from ≤ x → x < to → IsTrue (marked of (place l x))
  pub outside : (x : ℕ) → (x < from) ⊎ (to ≤ x) → marked of (place l x) ≡ false
