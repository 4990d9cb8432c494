use Rattle.law_choices.proofs.AddingLemmas.Made.{bytes_law, compiled_made_law, ready_made_law}
use Rattle.law_choices.proofs.adding.made_nodes_may_be_added_to.Goals as goal

pub returns-clause-compiled : goal.returns-clause-compiled
returns-clause-compiled c = compiled_made_law c.targets_differ.ensures

pub returns-clause-made : goal.returns-clause-made
returns-clause-made c = ready_made_law c.targets_differ.ensures

pub returns-clause-bytes : goal.returns-clause-bytes
returns-clause-bytes c = bytes_law
