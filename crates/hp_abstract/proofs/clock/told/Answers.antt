use Rattle.std.proofs.Common.{ap, ◌∙◌}
use Rattle.hp_abstract.specs.Telling.{as_drawn}
use Rattle.hp_abstract.proofs.TellingLaws.{told-drawn}
use Rattle.hp_abstract.proofs.clock.told.Goals as goal

pub returns : goal.returns
returns c = ap as_drawn c.told_by.ensures ∙ told-drawn c.args.names.now c.args.right.now
