-- Which lines are reached.
use Rattle.std.specs.Prelude.{◌≡◌, ℕ, zero, suc, ◌<◌, ◌≤◌, Bool, true, false, List, length, All, slice_index_or, slice_get, slice_set, Some}
use Rattle.hp_quant.specs.declared.line.Line.{Line}
use Rattle.hp_cert.specs.Proving.{Reaches}

-- some of these references comes to a line
pub record ReachedBy (lines : List Line) (roots : List ℕ) (i : ℕ) : Type 0 where
  pub at : ℕ
  pub within : at < length roots
  pub comes : Reaches lines (slice_index_or roots at 0) (suc (suc i))

-- a line is marked
abbrev pub Marked : List Bool → ℕ → Type 0
Marked marks i = slice_index_or marks i false ≡ true

-- the line of a reference is marked, if it has one
abbrev pub IsMarked : List Bool → ℕ → Type 0
IsMarked marks zero = Unit {0}
IsMarked marks (suc zero) = Unit {0}
IsMarked marks (suc (suc i)) = Marked marks i

-- with the line of a reference marked
abbrev pub marked : List Bool → ℕ → List Bool
marked marks zero = marks
marked marks (suc zero) = marks
marked marks (suc (suc i)) = slice_set marks i true

-- the references are marked, and no line is that is not reached
pub record AreSound (lines : List Line) (roots : List ℕ) (marks : List Bool) : Type 0 where
  pub len : length marks ≡ length lines
  pub begun : All (IsMarked marks) roots
  pub sound : (i : ℕ) → Marked marks i → ReachedBy lines roots i

-- from a line on, what a marked line refers to is marked
abbrev pub AreClosed : List Line → List Bool → ℕ → Type 0
AreClosed lines marks n = (j : ℕ) (l : Line) → n ≤ j → slice_get lines j ≡ Some l → Marked marks j → IsMarked marks l.low × IsMarked marks l.high

-- exactly the lines are marked that are reached
pub record AreReached (lines : List Line) (roots : List ℕ) (marks : List Bool) : Type 0 where
  pub sound : AreSound lines roots marks
  pub closed : AreClosed lines marks 0

-- marked lines have variables below a number
abbrev pub AreBelow : List Line → List Bool → ℕ → Type 0
AreBelow lines marks bound = (i : ℕ) (l : Line) → slice_get lines i ≡ Some l → Marked marks i → l.var < bound
