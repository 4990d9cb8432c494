-- What is added to some gates.
use Rattle.std.specs.Prelude.{ℕ, zero, suc, ◌+◌, ◌<◌, ◌≤◌, ◌≡◌, Bool, true, false, List, [], ◌∷◌, length}
use Rattle.hp_boolx.specs.declared.gate.Gate.{Gate}
use Rattle.hp_boolx.specs.declared.gate.Gate.TheVariants.{Const, Var, Not, And, Or, Xor, Ite}
use Rattle.hp_boolx.specs.Search.{Bits}
use Rattle.hp_boolx.specs.Machine.{AreFit, bit, values}

-- the value of a gate, where variables have these values
abbrev pub at : List Gate → Bits → ℕ → Bool
at gates v k = bit (values v [] gates) k

-- some values in a row
abbrev pub row : Bits → ℕ → ℕ → Bits
row bs start zero = []
row bs start (suc width) = bit bs start ∷ row bs (suc start) width

-- the values of gates in a row
abbrev pub word : List Gate → Bits → ℕ → ℕ → Bits
word gates v start width = row (values v [] gates) start width

-- The first two gates are false and true.
pub record HasFirst (gates : List Gate) : Type 0 where
  pub two : 2 ≤ length gates
  pub low : (v : Bits) → at gates v 0 ≡ false
  pub high : (v : Bits) → at gates v 1 ≡ true

-- Gates stay, with their values.
pub record Keeps (old new : List Gate) : Type 0 where
  pub longer : length old ≤ length new
  pub kept : (v : Bits) (k : ℕ) → k < length old → at new v k ≡ at old v k
  pub first : HasFirst old → HasFirst new

-- the variables that a gate names are below this number
abbrev pub named : Gate → ℕ
named (Const b) = 0
named (Var x) = x + 1
named (Not i) = 0
named (And i j) = 0
named (Or i j) = 0
named (Xor i j) = 0
named (Ite i j k) = 0

-- What is added names gates before it, and variables below a number.
abbrev pub AddsFit : ℕ → List Gate → List Gate → Type 0
AddsFit below old new = (all : ℕ) → below ≤ all → AreFit all 0 old → AreFit all 0 new

-- Gates stay, and there is one with this value.
pub record Adds (below : ℕ) (old new : List Gate) (r : ℕ) (f : Bits → Bool) : Type 0 where
  pub keeps : Keeps old new
  pub there : r < length new
  pub value : (v : Bits) → at new v r ≡ f v
  pub fit : AddsFit below old new

-- Gates stay, and there are so many in a row with these values.
pub record AddsRow (below : ℕ) (old new : List Gate) (r width : ℕ) (f : Bits → Bits) : Type 0 where
  pub keeps : Keeps old new
  pub there : r + width ≤ length new
  pub value : (v : Bits) → word new v r width ≡ f v
  pub fit : AddsFit below old new
