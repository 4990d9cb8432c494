use Rattle.hp_meaning.proofs.clocking.first_clash_is_named.Goals as goal
use Rattle.hp_meaning.proofs.ClockingLemmas.Judging.{judges as law}

pub returns : goal.returns
returns c = law
