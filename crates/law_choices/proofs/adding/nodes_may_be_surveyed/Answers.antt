use Rattle.law_choices.proofs.AddingLemmas.Surveyed.{surveyed_law}
use Rattle.law_choices.proofs.adding.nodes_may_be_surveyed.Goals as goal

pub returns : goal.returns
returns c = surveyed_law
