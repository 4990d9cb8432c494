-- The lines of diagnostics that name a line of the trace.
use Rattle.std.specs.Prelude.{ℕ, List, ◌++◌, codes, decimal}
use Rattle.hp_lines.specs.declared.read.LineErr.TheVariants.{Count, Word}
use Rattle.hp_driver.specs.declared.trace_limits.BadLine.{BadLine}
use Rattle.hp_driver.specs.declared.trace_limits.Fault.{Fault}
use Rattle.hp_driver.specs.declared.trace_limits.Fault.TheVariants.{Line, Long, Many}

-- a line of the trace is refused, for the first word that is no value of its input, for its number of words, for its length, or for its own number
abbrev pub fault_line : Fault → ℕ → List ℕ
fault_line (Line (Word word)) n = codes "L1 " ++ (decimal n ++ (codes " " ++ (decimal word ++ codes "\n")))
fault_line (Line (Count found)) n = codes "L2 " ++ (decimal n ++ (codes " " ++ (decimal found ++ codes "\n")))
fault_line Long n = codes "L3 " ++ (decimal n ++ codes "\n")
fault_line Many n = codes "L4 " ++ (decimal n ++ codes "\n")

abbrev pub bad_line_line : BadLine → List ℕ
bad_line_line line = fault_line line.fault line.number
