use Rattle.law_choices.proofs.ClosedLemmas.Exclusive.{exclusive_law, parted_law}
use Rattle.law_choices.proofs.closed.equations_are_exclusive.Goals as goal

pub returns-clause-parted : goal.returns-clause-parted
returns-clause-parted c = parted_law

pub returns-clause-exclusive : goal.returns-clause-exclusive
returns-clause-exclusive c = exclusive_law parted_law
