use Rattle.hp_normal.proofs.LeftLaws.{needed_law}
use Rattle.hp_normal.proofs.laws.what_is_left_is_needed.Goals as goal

pub returns : goal.returns
returns c = needed_law c.args.node.now
