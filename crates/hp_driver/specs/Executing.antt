-- An executor as a machine that answers lines.
use Rattle.std.specs.Prelude.{ℕ, List}
use Rattle.hp_base.specs.Kinds.{kinds_of}
use Rattle.hp_base.specs.declared.value.Value.{Value}
use Rattle.hp_lines.specs.Lines.{line_of}
use Rattle.hp_obc.specs.Steps.{Behaviour}
use Rattle.hp_exec.specs.Executors.{Executor, Runs, IsKinded, answered, stepped}
use Rattle.hp_driver.specs.Trace.{Machine}
use Rattle.hp_driver.specs.Reader.{reader}

-- the line of the outputs of a step on some inputs, and the executor behind it
abbrev pub step_of : Executor → List Value → List ℕ × Executor
step_of e inputs = (line_of (kinds_of e.signature.outputs) (answered e inputs), stepped e inputs)

-- It reads the inputs of a step from each line, and says the outputs of the step.
abbrev pub executing : Machine Executor
executing e = reader (kinds_of e.signature.inputs) step_of e

-- An executor does what some behaviour says, and has reached its memory by steps on inputs of its kinds.
pub record HasBehaviour (e : Executor) : Type 0 where
  pub behaviour : Behaviour
  pub runs : Runs e behaviour
  pub kinded : IsKinded e behaviour
