use Rattle.law_choices.proofs.OneForOneLemmas.Giving.{always_law}
use Rattle.law_choices.proofs.one_for_one.the_same_can_be_given.Goals as goal

pub returns : goal.returns
returns c = always_law
