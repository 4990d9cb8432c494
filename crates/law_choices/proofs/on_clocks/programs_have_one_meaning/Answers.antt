use Rattle.law_choices.proofs.OnClocksLemmas.Meanings.{meaning_law}
use Rattle.law_choices.proofs.OnClocksLemmas.OneMeaning.{ready_law, text_meaning_law}
use Rattle.law_choices.proofs.on_clocks.programs_have_one_meaning.Goals as goal

pub returns-clause-nodes : goal.returns-clause-nodes
returns-clause-nodes c = meaning_law c.nodes_have_one_reaction.ensures.one c.nodes_have_one_reaction.ensures.outputs

pub returns-clause-ready : goal.returns-clause-ready
returns-clause-ready c = ready_law c.targets_differ.ensures c.calls_are_kept.ensures c.nodes_have_one_reaction.ensures.one c.nodes_have_one_reaction.ensures.outputs

pub returns-clause-text : goal.returns-clause-text
returns-clause-text c = text_meaning_law c.targets_differ.ensures c.calls_are_kept.ensures c.nodes_have_one_reaction.ensures.one c.nodes_have_one_reaction.ensures.outputs
