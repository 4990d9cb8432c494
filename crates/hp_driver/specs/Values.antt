-- The inputs on the lines of a trace.
use Rattle.std.specs.Prelude.{ℕ, suc, List, [], ◌∷◌, Option, None, Some, Result, Ok, Err}
use Rattle.std.specs.Option.{unwrap_or}
use Rattle.hp_base.specs.declared.value.Value.{Value}
use Rattle.hp_base.specs.Kinds.{KindData}
use Rattle.hp_lines.specs.declared.read.LineErr.{LineErr}
use Rattle.hp_lines.specs.Words.{words}
use Rattle.hp_lines.specs.Values.{values_of}
use Rattle.hp_lines.specs.Refusals.{refusal}
use Rattle.hp_driver.specs.declared.trace_limits.BadLine.{BadLine}
use Rattle.hp_driver.specs.declared.trace_limits.Fault.{Fault}
use Rattle.hp_driver.specs.LineFaults.{on_line, bad}

-- the values of these kinds that a line spells, or why it spells none; words that are not refused spell values
abbrev pub reading : List KindData → List ℕ → Result (List Value) LineErr
reading kinds line = elim (refusal kinds (words line)) [ None ↦ Ok (unwrap_or (values_of kinds (words line)) []) | Some e ↦ Err e ]

-- the inputs that line n of a trace spells, or its fault
abbrev pub inputs_on : List KindData → ℕ → List ℕ → Result (List Value) Fault
inputs_on kinds n line = on_line n line (reading kinds line)

-- the inputs on the lines before the first one that has a fault, where the first is line n
abbrev pub inputs_until : List KindData → ℕ → List (List ℕ) → List (List Value)
inputs_until kinds n [] = []
inputs_until kinds n (line ∷ lines) = elim (inputs_on kinds n line) [ Ok values ↦ values ∷ inputs_until kinds (suc n) lines | Err fault ↦ [] ]

-- the first line that has a fault
abbrev pub first_bad : List KindData → ℕ → List (List ℕ) → Option BadLine
first_bad kinds n [] = None
first_bad kinds n (line ∷ lines) = elim (inputs_on kinds n line) [ Ok values ↦ first_bad kinds (suc n) lines | Err fault ↦ Some (bad n fault) ]
