use Rattle.law_choices.proofs.AddingLemmas.Whole.{whole_law}
use Rattle.law_choices.proofs.adding.nodes_that_choose_are_made.Goals as goal

pub returns : goal.returns
returns c = let e = c.extended_nodes_close.ensures in let a = c.equations_may_be_added.ensures in whole_law a.ordered e.extended e.in_two_steps e.controlled
