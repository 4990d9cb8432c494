-- Where a reactor and what is kept beside it stand in a trace.
use Rattle.std.specs.Prelude.{◌≡◌, ℕ, ◌+◌, ◌*◌, ◌≤◌, ◌<◌, ◌⊎◌, List, [], ◌++◌, length, Result, Ok, Err, vec_len, vec_capacity}
use Rattle.hp_io.specs.Faults.{Faults, Rose, Same}
use Rattle.hp_lines.specs.declared.read.LineErr.{LineErr}
use Rattle.hp_lines.specs.declared.read.TheConstants.{MAX_LINE}
use Rattle.hp_driver.specs.declared.trace_limits.BadLine.{BadLine}
use Rattle.hp_driver.specs.declared.trace_limits.Fault.TheVariants.{Line, Long, Many}
use Rattle.hp_driver.specs.declared.trace_limits.Stop.{Stop}
use Rattle.hp_driver.specs.declared.trace_limits.Stop.TheVariants.{Refused, PutFailed}
use Rattle.hp_driver.specs.LineFaults.{bad}
use Rattle.hp_driver.specs.Trace.{Machine}
use Rattle.hp_driver.specs.Course.{At, Moves, Stops, InStep, Closes}
use Rattle.hp_io.specs.declared.console.Event.{Event}
use Rattle.hp_driver.specs.declared.trace_limits.End.{End}
use Rattle.hp_driver.specs.declared.trace_limits.End.TheVariants.{TakeFailed, Refused as RefusedEnd, PutFailed as PutFailedEnd}
use Rattle.hp_driver.specs.declared.trace_limits.Hearing.{Hearing}
use Rattle.hp_driver.specs.declared.trace_limits.TheConstants.{MAX_LINES}

abbrev pub at : {S : Type 0} → S → Hearing → At S
at s h = record { piece = h.piece.items; pending = h.pending.items; number = h.number; state = s }

-- It has room for any line, and for one answer at least. The unfinished line is not too long, and is no line too many.
pub record HasRoom (h : Hearing) (room : ℕ) : Type 0 where
  pub for_line : MAX_LINE ≤ vec_capacity h.piece
  pub for_answer : room ≤ vec_capacity h.pending
  pub line : vec_len h.piece ≤ MAX_LINE
  pub lines : MAX_LINE * h.number + vec_len h.piece ≤ MAX_LINE * MAX_LINES

-- a line was answered, and nothing is unfinished
pub record AnswersLine {S : Type 0} (machine : Machine S) (s t : S) (line : List ℕ) (old new : Hearing) : Type 0 where
  pub out : List ℕ
  pub answered : machine s line ≡ Ok (out, t)
  pub piece : new.piece.items ≡ []
  pub pending : new.pending.items ≡ old.pending.items ++ out
  pub number : new.number ≡ old.number + 1

-- the words of a line were refused
pub record RefusesLine {S : Type 0} (machine : Machine S) (s : S) (line : List ℕ) (old new : Hearing) (refused : BadLine) : Type 0 where
  pub error : LineErr
  pub is_refused : machine s line ≡ Err error
  pub pending : new.pending.items ≡ old.pending.items
  pub is : refused ≡ bad (old.number + 1) (Line error)

-- The unfinished line with more bytes is refused before its words are read: it is a line too many, or it is too long.
abbrev pub IsPast : Hearing → List ℕ → BadLine → Type 0
IsPast h more refused =
    ((MAX_LINES ≤ h.number) × (refused ≡ bad (h.number + 1) Many))
    ⊎ ((h.number < MAX_LINES) × (MAX_LINE < vec_len h.piece + length more) × (refused ≡ bad (h.number + 1) Long))

-- A put failed exactly where its count rose, and no call on the console followed it.
abbrev pub PutCause : {T : Type 0} → Result T Stop → Faults → Faults → Type 0
PutCause (Ok x) before after = Same before after
PutCause (Err (Refused line)) before after = Same before after
PutCause (Err PutFailed) before after = Rose before after

-- The pending answers were said, or the first of them.
abbrev pub SaysPending : {T : Type 0} → Result T Stop → List ℕ → List ℕ → Type 0
SaysPending (Ok x) pending out = out ≡ pending
SaysPending (Err (Refused line)) pending out = ⊥
SaysPending (Err PutFailed) pending out = (rest : List ℕ) × (out ++ rest ≡ pending)

-- from one place in a trace to another, or to a stop
abbrev pub Hears : {S T : Type 0} (machine : Machine S) → Result T Stop → At S → List ℕ → List ℕ → At S → Type 0
Hears machine (Ok x) a bytes out b = Moves machine a bytes out b
Hears machine (Err stop) a bytes out b = Stops machine a bytes out stop

-- Before the refusal of a line the pending answers were said, or the first of them.
abbrev pub SaysBefore : Stop → BadLine → List ℕ → List ℕ → Type 0
SaysBefore (Refused other) line pending out = (other ≡ line) × (out ≡ pending)
SaysBefore PutFailed line pending out = (rest : List ℕ) × (out ++ rest ≡ pending)

-- A take or a put failed exactly where its count rose, and no call on the console followed it.
abbrev pub TakeCauseOf : End → Faults → Faults → Type 0
TakeCauseOf TakeFailed before after = Rose before after
TakeCauseOf end before after = Same before after

abbrev pub PutCauseOf : End → Faults → Faults → Type 0
PutCauseOf PutFailedEnd before after = Rose before after
PutCauseOf end before after = Same before after

-- what a trace was like, from the machine's start to its end
pub record Course {S : Type 0} (machine : Machine S) (start : S) (log : List Event) (end : End) : Type 0 where
  pub in_step : InStep machine start log
  pub closes : Closes machine start log end

-- a stop within a piece ends the trace
abbrev pub end_of : Stop → End
end_of (Refused line) = RefusedEnd line
end_of PutFailed = PutFailedEnd
