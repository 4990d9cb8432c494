-- How a machine's trace ended, as a status.
use Rattle.std.specs.Prelude.{◌≡◌, ℕ, true, List, [], ◌∷◌, ◌++◌, ◌<◌, ◌⊎◌, length, take, Option}
use Rattle.hp_io.specs.Told.{Grows}
use Rattle.hp_io.specs.declared.console.Event.{Event}
use Rattle.hp_driver.specs.BadLines.{bad_line_line}
use Rattle.hp_driver.specs.Course.{Takes}
use Rattle.hp_driver.specs.Hearing.{Course}
use Rattle.hp_driver.specs.Lines.{lines_of}
use Rattle.hp_driver.specs.Log.{heard, said}
use Rattle.hp_driver.specs.Trace.{Machine}
use Rattle.hp_driver.specs.declared.trace_limits.BadLine.{BadLine}
use Rattle.hp_driver.specs.declared.trace_limits.End.TheVariants.{Done, Refused, TakeFailed, PutFailed}

-- the events of a trace, the line of its diagnostics, and its status
module _ {S : Type 0} (machine : Machine S) (start : S) where
  pub data Ran : List Event → List ℕ → ℕ → Type 0 where
    no_memory : Ran [] [] 6
    done : {log : List Event} → Course machine start log Done → Ran log [] 0
    refused : {log : List Event} (line : BadLine) → Course machine start log (Refused line) → Ran log (bad_line_line line) 3
    take_failed : {log : List Event} → Course machine start log TakeFailed → Ran log [] 4
    put_failed : {log : List Event} → Course machine start log PutFailed → Ran log [] 5
    line_failed : {log : List Event} {status : ℕ} (line : List ℕ) (b : ℕ) (rest : List ℕ) → Ran log (line ++ b ∷ rest) status → Ran log line 5

  -- where the input was read to its end, all lines were taken, and the machine is in this state
  abbrev pub RanTo : List Event → ℕ → S → Type 0
  RanTo log status t = status ≡ 0 → Takes machine start 1 (lines_of true (heard log)) (said log) t

-- A line of diagnostics was told and its status given, or only the first bytes of it.
abbrev pub Reports : Option (List ℕ) → Option (List ℕ) → List ℕ → ℕ → ℕ → Type 0
Reports before after line status result =
    ((result ≡ status) × Grows before after line)
    ⊎ ((result ≡ 5) × ((n : ℕ) × (n < length line) × Grows before after (take n line)))

-- The same, or no memory for the line.
abbrev pub ReportsOrNot : Option (List ℕ) → Option (List ℕ) → List ℕ → ℕ → ℕ → Type 0
ReportsOrNot before after line status result = Reports before after line status result ⊎ ((result ≡ 6) × Grows before after [])
