-- What the code's proofs use.
use Rattle.hp_machines.proofs.MakingLaws.{made-all}

pub ruleset made = (made-all)
