use Rattle.law_wellmade.proofs.SuitedLemmas.SuitedLaws.{suited, program}
use Rattle.law_wellmade.proofs.suited.nodes_suit.Goals as goal

pub returns-clause-node : goal.returns-clause-node
returns-clause-node c = suited c.names_fit.ensures c.targets_differ.ensures c.calls_are_kept.ensures c.flat_nodes_stand_for_flat_names.ensures c.regular_equations_have_form.ensures

pub returns-clause-program : goal.returns-clause-program
returns-clause-program c = program (suited c.names_fit.ensures c.targets_differ.ensures c.calls_are_kept.ensures c.flat_nodes_stand_for_flat_names.ensures c.regular_equations_have_form.ensures)
