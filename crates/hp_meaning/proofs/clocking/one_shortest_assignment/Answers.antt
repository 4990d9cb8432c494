use Rattle.hp_meaning.proofs.clocking.one_shortest_assignment.Goals as goal
use Rattle.hp_meaning.proofs.ClockingLemmas.Judging.{one as law}

pub returns : goal.returns
returns c = law
