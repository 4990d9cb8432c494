use Rattle.law_choices.proofs.DependingLemmas.FlatLaw.{node_law}
use Rattle.law_choices.proofs.depending.flattening_adds_no_dependence.Goals as goal

pub returns : goal.returns
returns c = node_law c.same_reads.ensures c.causal_is_ranked.ensures.node c.clocks_make_no_cycle.ensures
