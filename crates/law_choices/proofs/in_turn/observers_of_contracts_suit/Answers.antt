use Rattle.law_choices.proofs.InTurnLemmas.Observed.{observed_law}
use Rattle.law_choices.proofs.in_turn.observers_of_contracts_suit.Goals as goal

pub returns : goal.returns
returns c = observed_law c.made_nodes_may_be_added_to.ensures.compiled c.callees_may_differ_elsewhere.ensures c.calls_are_kept.ensures
