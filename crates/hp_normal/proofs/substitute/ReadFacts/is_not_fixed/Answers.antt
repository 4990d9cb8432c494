use Rattle.std.proofs.Common.{◌∙◌, arith}
use Rattle.hp_normal.specs.Reading.{fixed}
use Rattle.hp_normal.proofs.CountLaws.{counts-tell}
use Rattle.hp_normal.proofs.substitute.ReadFacts.is_not_fixed.Goals as goal

pub returns : goal.returns
returns c = c.is_counted.ensures ∙ counts-tell c.args.node.now 0 (fixed c.args.node.now) c.deref.result.now c.args.variable (omega arith) (c.deref.ensures.value ∙ c.requires.facts.fixed)
