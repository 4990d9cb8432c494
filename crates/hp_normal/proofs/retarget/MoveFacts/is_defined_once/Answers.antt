use Rattle.std.proofs.Common.{◌∙◌, arith}
use Rattle.hp_normal.specs.Reading.{targets}
use Rattle.hp_normal.proofs.CountLaws.{counts-tell}
use Rattle.hp_normal.proofs.retarget.MoveFacts.is_defined_once.Goals as goal

pub returns : goal.returns
returns c = c.is_counted.ensures ∙ counts-tell c.args.node.now 1 (targets c.args.node.now) c.deref.result.now c.args.variable (omega arith) (c.deref.ensures.value ∙ c.requires.facts.targets)
