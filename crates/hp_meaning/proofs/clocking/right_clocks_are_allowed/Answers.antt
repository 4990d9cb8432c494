use Rattle.hp_meaning.proofs.clocking.right_clocks_are_allowed.Goals as goal
use Rattle.hp_meaning.proofs.ClockingLemmas.Judging.{rights, keeps, instance as both_ways}

pub returns-clause-allowed : goal.returns-clause-allowed
returns-clause-allowed c = rights

pub returns-clause-kept : goal.returns-clause-kept
returns-clause-kept c = keeps

pub returns-clause-instance : goal.returns-clause-instance
returns-clause-instance c = both_ways
