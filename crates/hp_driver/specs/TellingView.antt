-- What holds of the parts of an executor that tells.
use Rattle.std.specs.Prelude.{◌≡◌, ◌+◌, ℕ, List, length}
use Rattle.hp_base.specs.declared.value.Value.{Value}
use Rattle.hp_base.specs.Kinds.{SignatureData, kinds_of}
use Rattle.hp_lines.specs.Lines.{line_bound}
use Rattle.hp_lines.specs.Values.{HaveFewConstructors}
use Rattle.hp_exec.specs.Executors.{Executor}
use Rattle.hp_driver.specs.Executing.{HasBehaviour}
use Rattle.hp_driver.specs.Telling.{count_before, shown_kinds}
use Rattle.hp_driver.specs.declared.telling.Ending.{Ending}

-- There is room for the inputs and for what is shown of a step, the kinds of that and the length of the longest line are known, and lines can be read and said.
pub record IsTelling (e : Executor) (ending : Ending) (taken given told : List Value) (named : SignatureData) (longest : ℕ) : Type 0 where
  pub inputs : length taken ≡ length e.signature.inputs
  pub outputs : length given ≡ length e.signature.outputs
  pub shown : length told ≡ count_before ending (length e.signature.outputs) + 2
  pub few : HaveFewConstructors (kinds_of e.signature.inputs)
  pub words : kinds_of named.outputs ≡ shown_kinds ending (kinds_of e.signature.outputs)
  pub room : longest ≡ line_bound (kinds_of named.outputs)
  pub behaves : HasBehaviour e
