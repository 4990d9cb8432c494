-- The faults of a line of a trace, by its number, its length and its words.
use Rattle.std.specs.Prelude.{ℕ, nat_lt, if◌then◌else◌, List, length, Result, Ok, Err}
use Rattle.hp_lines.specs.declared.read.LineErr.{LineErr}
use Rattle.hp_driver.specs.declared.trace_limits.BadLine.{BadLine}
use Rattle.hp_driver.specs.declared.trace_limits.Fault.{Fault}
use Rattle.hp_driver.specs.declared.trace_limits.Fault.TheVariants.{Line, Long, Many}

-- what the words of a line give, or what is at fault with them
abbrev pub by_words : {A : Type 0} → Result A LineErr → Result A Fault
by_words (Ok x) = Ok x
by_words (Err e) = Err (Line e)

-- what line n gives, or its fault: there is one line too many, or it is too long, or its words are at fault
abbrev pub on_line : {A : Type 0} → ℕ → List ℕ → Result A LineErr → Result A Fault
on_line n line r = if nat_lt 1000000000 n then Err Many else (if nat_lt 65536 (length line) then Err Long else by_words r)

-- line n has this fault
abbrev pub bad : ℕ → Fault → BadLine
bad n fault = record { number = n; fault = fault }
