use Rattle.law_choices.proofs.ChoosingLemmas.Meanings.{meaning_law, uncontrolled_law}
use Rattle.law_choices.proofs.ChoosingLemmas.Programs.{ready_law, text_law}
use Rattle.law_choices.proofs.choosing.programs_have_one_meaning_under_each_choice.Goals as goal

pub returns-clause-nodes : goal.returns-clause-nodes
returns-clause-nodes c = meaning_law c.nodes_have_one_reaction.ensures.one c.nodes_have_one_reaction.ensures.outputs

pub returns-clause-ready : goal.returns-clause-ready
returns-clause-ready c = ready_law c.targets_differ.ensures c.calls_are_kept.ensures c.nodes_have_one_reaction.ensures.one c.nodes_have_one_reaction.ensures.outputs

pub returns-clause-text : goal.returns-clause-text
returns-clause-text c = text_law c.targets_differ.ensures c.calls_are_kept.ensures c.nodes_have_one_reaction.ensures.one c.nodes_have_one_reaction.ensures.outputs

pub returns-clause-uncontrolled : goal.returns-clause-uncontrolled
returns-clause-uncontrolled c = uncontrolled_law
