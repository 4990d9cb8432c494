use Rattle.hp_driver.proofs.GoodContracts.{plain_is_good}
use Rattle.hp_driver.proofs.laws.plain_programs_are_good.Goals as goal

pub returns : goal.returns
returns c = plain_is_good
