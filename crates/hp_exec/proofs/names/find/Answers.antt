use Rattle.std.proofs.Common.{◌∙◌}
use Rattle.hp_exec.proofs.SetLaws.{position-place}
use Rattle.hp_exec.proofs.names.find.Goals as goal

pub returns : goal.returns
returns c = c.get_index_of.ensures.index ∙ position-place c.args.names.now.keys c.bytes.result.now c.args.name.now c.bytes.ensures.bytes
