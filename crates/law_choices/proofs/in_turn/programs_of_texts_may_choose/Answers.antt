use Rattle.law_choices.proofs.InTurnLemmas.Texts.{sign_law, text_law}
use Rattle.law_choices.proofs.in_turn.programs_of_texts_may_choose.Goals as goal

pub returns-clause-text : goal.returns-clause-text
returns-clause-text c = text_law c.names_are_spelled.ensures.text

pub returns-clause-sign : goal.returns-clause-sign
returns-clause-sign c = sign_law c.names_are_spelled.ensures.text
