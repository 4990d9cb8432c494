-- What a machine says to the lines of a trace, and which line it refuses.
use Rattle.std.specs.Prelude.{ℕ, suc, List, [], ◌∷◌, ◌++◌, Option, None, Some, Result, Ok, Err}
use Rattle.hp_lines.specs.declared.read.LineErr.{LineErr}
use Rattle.hp_driver.specs.declared.trace_limits.BadLine.{BadLine}
use Rattle.hp_driver.specs.declared.trace_limits.Fault.{Fault}
use Rattle.hp_driver.specs.LineFaults.{on_line, bad}

-- A machine answers a line and goes into its next state, or it says why it refuses the line.
abbrev pub Machine : Type 0 → Type 0
Machine S = S → List ℕ → Result (List ℕ × S) LineErr

module _ {S : Type 0} (machine : Machine S) where
  -- the answer to line n, or its fault
  abbrev pub answer : S → ℕ → List ℕ → Result (List ℕ × S) Fault
  answer s n line = on_line n line (machine s line)

  -- what is said to lines, the first of which is line n: the answers up to the first line that is refused
  abbrev pub said_to : S → ℕ → List (List ℕ) → List ℕ
  said_to s n [] = []
  said_to s n (line ∷ lines) = elim (answer s n line) [ Ok a ↦ a.0 ++ said_to a.1 (suc n) lines | Err fault ↦ [] ]

  -- the first line that is refused, and its fault
  abbrev pub refused_in : S → ℕ → List (List ℕ) → Option BadLine
  refused_in s n [] = None
  refused_in s n (line ∷ lines) = elim (answer s n line) [ Ok a ↦ refused_in a.1 (suc n) lines | Err fault ↦ Some (bad n fault) ]
