use Rattle.law_choices.proofs.IndependentLemmas.AutomataLaw.{node_law}
use Rattle.law_choices.proofs.independent.automata_add_no_dependence.Goals as goal

pub returns : goal.returns
returns c = node_law c.same_reads.ensures c.causal_is_ranked.ensures.node c.clocks_make_no_cycle.ensures c.ranks_are_kept.ensures.node c.ranked_is_causal.ensures
