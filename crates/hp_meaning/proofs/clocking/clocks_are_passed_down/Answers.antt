use Rattle.hp_meaning.proofs.clocking.clocks_are_passed_down.Goals as goal
use Rattle.hp_meaning.proofs.ClockingLemmas.Each.{each, each_shorter}

pub returns-clause-each : goal.returns-clause-each
returns-clause-each c = each

pub returns-clause-shorter : goal.returns-clause-shorter
returns-clause-shorter c = each_shorter
