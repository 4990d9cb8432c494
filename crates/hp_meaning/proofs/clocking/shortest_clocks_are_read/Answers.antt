use Rattle.hp_meaning.proofs.clocking.shortest_clocks_are_read.Goals as goal
use Rattle.hp_meaning.proofs.ClockingLemmas.Passed.{passes}

pub returns : goal.returns
returns c = passes
