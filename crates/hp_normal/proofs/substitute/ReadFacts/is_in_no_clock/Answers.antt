use Rattle.std.proofs.Common.{◌∙◌, arith}
use Rattle.hp_normal.specs.Reading.{sampled}
use Rattle.hp_normal.proofs.CountLaws.{counts-tell}
use Rattle.hp_normal.proofs.substitute.ReadFacts.is_in_no_clock.Goals as goal

pub returns : goal.returns
returns c = c.is_counted.ensures ∙ counts-tell c.args.node.now 0 (sampled c.args.node.now) c.deref.result.now c.args.variable (omega arith) (c.deref.ensures.value ∙ c.requires.facts.sampled)
