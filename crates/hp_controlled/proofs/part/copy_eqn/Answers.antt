use Rattle.hp_controlled.proofs.PartLaws.{same-under}
use Rattle.hp_controlled.proofs.part.copy_eqn.Goals as goal

pub returns : goal.returns
returns c = same-under c.new-numbers.result.items c.args.eqn.now c.in_ok-copy.copy c.new-numbers.ensures.items c.in_ok-copy.ensures
