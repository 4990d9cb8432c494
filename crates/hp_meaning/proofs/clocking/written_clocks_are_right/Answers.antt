use Rattle.hp_meaning.proofs.clocking.written_clocks_are_right.Goals as goal
use Rattle.hp_meaning.proofs.ClockingLemmas.Judging.{writes}
use Rattle.hp_meaning.proofs.ClockingLemmas.Stable.{node_written}

pub returns-clause-right : goal.returns-clause-right
returns-clause-right c = writes

pub returns-clause-written : goal.returns-clause-written
returns-clause-written c = λ n at. node_written at n
