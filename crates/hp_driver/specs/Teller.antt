-- An executor as a machine that answers lines with outputs and the values of a contract.
use Rattle.std.specs.Prelude.{ℕ, List, refl}
use Rattle.std.specs.Coded.{Coded, code_by, coded×}
use Rattle.hp_base.specs.Kinds.{kinds_of}
use Rattle.hp_base.specs.declared.value.Value.{Value}
use Rattle.hp_exec.specs.Executors.{Executor, answered, stepped, executor_code}
use Rattle.hp_driver.specs.Reader.{reader}
use Rattle.hp_driver.specs.Telling.{told_line}
use Rattle.hp_driver.specs.Trace.{Machine}
use Rattle.hp_driver.specs.declared.telling.Ending.{Ending}
use Rattle.hp_driver.specs.contracts.telling.Ending as ending_row

pub record Teller : Type 0 where
  pub executor : Executor
  pub ending : Ending

abbrev pub teller : Executor → Ending → Teller
teller e ending = record { executor = e; ending = ending }

abbrev pub teller_code : Coded Teller
teller_code = code_by (Executor × Ending) (coded× executor_code ending_row.the_row.coded) (λ t. (t.executor, t.ending)) (λ f. teller f.0 f.1) (λ t. refl)

-- the line of a step on some inputs, and the executor behind it
abbrev pub told_of : Teller → List Value → List ℕ × Teller
told_of t inputs = (told_line t.ending (kinds_of t.executor.signature.outputs) (answered t.executor inputs), teller (stepped t.executor inputs) t.ending)

-- It reads the inputs of a step from each line, and says the outputs of the step and the two words.
abbrev pub telling : Machine Teller
telling t = reader (kinds_of t.executor.signature.inputs) told_of t
