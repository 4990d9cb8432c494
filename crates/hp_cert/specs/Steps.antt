-- What the functions of lines are in a table.
use Rattle.std.specs.Prelude.{◌≡◌, ℕ, zero, suc, ◌+◌, ◌<◌, Bool, false, IsTrue, List, ◌∷◌, length, slice_index_or, slice_get, Option, Some, None}
use Rattle.hp_boolx.specs.Game.{Game}
use Rattle.hp_boolx.specs.Search.{Bits, Set}
use Rattle.hp_boolx.specs.Solved.{rank, rank_step}
use Rattle.hp_diagram.specs.declared.reference.Ref.{Ref}
use Rattle.hp_diagram.specs.Diagrams.{Diagrams, Means}
use Rattle.hp_quant.specs.declared.line.Line.{Line}
use Rattle.hp_quant.specs.Lines.{line_function}
use Rattle.hp_synth.specs.Building.{HasEach}
use Rattle.hp_synth.specs.Valued.{over}
use Rattle.hp_cert.specs.Marks.{Marked}

-- the references of so many lines, in a table where variables stand at places: a marked line has its function
pub record AreOfMarked (place : ℕ → ℕ) (t : Diagrams) (lines : List Line) (marks : List Bool) (refs : List Ref) (count : ℕ) : Type 0 where
  pub len : length refs ≡ count
  pub has : HasEach t refs
  pub right : (i : ℕ) (r : Ref) → slice_get refs i ≡ Some r → Marked marks i → Means t (over place (line_function lines (i + 2))) r

-- what is left of a set of choices behind so many of their first bits, which are those of a function of states and early values
abbrev pub left_of : (Bits → Bits → Set) → (Bits → Bits → Bits) → ℕ → Bits → Bits → Set
left_of q F zero s u c = q s u c
left_of q F (suc i) s u c = left_of q F i s u (slice_index_or (F s u) i false ∷ c)

-- a set, and the one before it: from each of its states the latter, or a violation, can be forced by the next instant
abbrev pub IsStrong : Game → List Set → ℕ → Type 0
IsStrong g Xs k = IsTrue (rank_step g (rank Xs k) (rank Xs (suc k)))

-- the first set of which that does not hold
abbrev pub FirstWeak : Game → List Set → Option ℕ → Type 0
FirstWeak g Xs None = (k : ℕ) → k < length Xs → IsStrong g Xs k
FirstWeak g Xs (Some k) = (k < length Xs) × ((j : ℕ) → j < k → IsStrong g Xs j) × (IsStrong g Xs k → ⊥)
