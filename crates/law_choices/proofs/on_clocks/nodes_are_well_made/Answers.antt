use Rattle.law_choices.proofs.OnClocksLemmas.OneMeaning.{callees_law}
use Rattle.law_choices.proofs.OnClocksLemmas.Texts.{text_law}
use Rattle.law_choices.proofs.OnClocksLemmas.WellMade.{made_law, reactions_law}
use Rattle.law_choices.proofs.on_clocks.nodes_are_well_made.Goals as goal

pub returns-clause-made : goal.returns-clause-made
returns-clause-made c = made_law c.targets_differ.ensures

pub returns-clause-reactions : goal.returns-clause-reactions
returns-clause-reactions c = reactions_law c.targets_differ.ensures c.nodes_have_one_reaction.ensures.one

pub returns-clause-text : goal.returns-clause-text
returns-clause-text c = text_law c.targets_differ.ensures

pub returns-clause-callees : goal.returns-clause-callees
returns-clause-callees c = callees_law
