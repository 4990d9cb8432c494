use Rattle.law_choices.proofs.SeeingLemmas.Values.{given_law}
use Rattle.law_choices.proofs.seeing.instants_may_be_given_more.Goals as goal

pub returns : goal.returns
returns c = given_law
