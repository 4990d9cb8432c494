use Rattle.hp_driver.proofs.GameLaws.{mirrored}
use Rattle.hp_driver.proofs.laws.machines_of_contracts_mirror_nodes.Goals as goal

pub returns : goal.returns
returns c = mirrored c.machines_mirror_contracts.ensures
