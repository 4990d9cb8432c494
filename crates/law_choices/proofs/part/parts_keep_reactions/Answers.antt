use Rattle.law_choices.proofs.PartLemmas.Parts.{part_law, answered_law}
use Rattle.law_choices.proofs.part.parts_keep_reactions.Goals as goal

pub returns-clause-keeps : goal.returns-clause-keeps
returns-clause-keeps c = part_law

pub returns-clause-answers : goal.returns-clause-answers
returns-clause-answers c = answered_law
