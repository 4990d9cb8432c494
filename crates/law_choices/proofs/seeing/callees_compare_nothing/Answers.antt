use Rattle.law_choices.proofs.SeeingLemmas.OwnContract.{calls_nothing_law, in_body_law, inputs_alone_law}
use Rattle.law_choices.proofs.seeing.callees_compare_nothing.Goals as goal

pub returns-clause-calls_nothing : goal.returns-clause-calls_nothing
returns-clause-calls_nothing c = calls_nothing_law

pub returns-clause-in_body : goal.returns-clause-in_body
returns-clause-in_body c = in_body_law

pub returns-clause-inputs_alone : goal.returns-clause-inputs_alone
returns-clause-inputs_alone c = inputs_alone_law
