use Rattle.law_values.proofs.AcceptedLemmas.Laws.{names_first, clocked_classes}
use Rattle.law_values.proofs.accepted.clocks_keep_classes.Goals as goal

pub returns-clause-first : goal.returns-clause-first
returns-clause-first c = names_first

pub returns-clause-classes : goal.returns-clause-classes
returns-clause-classes c = clocked_classes
