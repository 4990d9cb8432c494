-- What holds of the parts of an execution.
use Rattle.std.specs.Prelude.{◌≡◌, ℕ, List, length}
use Rattle.hp_base.specs.declared.value.Value.{Value}
use Rattle.hp_base.specs.Kinds.{kinds_of}
use Rattle.hp_lines.specs.Lines.{line_bound}
use Rattle.hp_lines.specs.Values.{HaveFewConstructors}
use Rattle.hp_exec.specs.Executors.{Executor}
use Rattle.hp_driver.specs.Executing.{HasBehaviour}

-- There is room for the inputs and the outputs of a step, the length of the longest line is known, and lines can be read and said.
pub record IsFit (e : Executor) (taken given : List Value) (longest : ℕ) : Type 0 where
  pub inputs : length taken ≡ length e.signature.inputs
  pub outputs : length given ≡ length e.signature.outputs
  pub few : HaveFewConstructors (kinds_of e.signature.inputs)
  pub room : longest ≡ line_bound (kinds_of e.signature.outputs)
  pub behaves : HasBehaviour e
