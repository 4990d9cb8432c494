use Rattle.law_choices.proofs.AddingLemmas.Choosing.{choosing_law, watching_law}
use Rattle.law_choices.proofs.adding.watched_nodes_choose.Goals as goal

pub returns-clause-watched : goal.returns-clause-watched
returns-clause-watched c = watching_law

pub returns-clause-chooses : goal.returns-clause-chooses
returns-clause-chooses c = choosing_law c.nodes_that_choose_are_made.ensures
