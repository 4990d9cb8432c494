use Rattle.std.proofs.Common.{◌∙◌, arith}
use Rattle.hp_normal.specs.Reading.{uses}
use Rattle.hp_normal.proofs.CountLaws.{counts-tell}
use Rattle.hp_normal.proofs.retarget.MoveFacts.is_read_once.Goals as goal

pub returns : goal.returns
returns c = c.is_counted.ensures ∙ counts-tell c.args.node.now 1 (uses c.args.node.now) c.deref.result.now c.args.variable (omega arith) (c.deref.ensures.value ∙ c.requires.facts.uses)
