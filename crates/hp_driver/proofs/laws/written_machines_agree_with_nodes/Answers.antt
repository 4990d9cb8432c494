use Rattle.hp_driver.proofs.WrittenLaws.{written_agrees}
use Rattle.hp_driver.proofs.laws.written_machines_agree_with_nodes.Goals as goal

pub returns : goal.returns
returns c = written_agrees
