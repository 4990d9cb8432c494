use Rattle.law_past.proofs.Programs.{kept_law}
use Rattle.law_past.proofs.Unfolded.{unfolded_law, written_law}
use Rattle.law_past.proofs.unfolded_formulas_have_their_values.Goals as goal

pub returns-clause-kept : goal.returns-clause-kept
returns-clause-kept c = kept_law

pub returns-clause-unfolded : goal.returns-clause-unfolded
returns-clause-unfolded c = unfolded_law

pub returns-clause-written : goal.returns-clause-written
returns-clause-written c = written_law
