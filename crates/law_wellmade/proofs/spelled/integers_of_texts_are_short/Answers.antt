use Rattle.law_wellmade.proofs.SpelledLemmas.Joined.{text_integers, replaced_integers, replaced_text_integers, replaced_contracts}
use Rattle.law_wellmade.proofs.spelled.integers_of_texts_are_short.Goals as goal

pub returns-clause-text : goal.returns-clause-text
returns-clause-text c = text_integers

pub returns-clause-replaced : goal.returns-clause-replaced
returns-clause-replaced c = replaced_integers

pub returns-clause-replaced_text : goal.returns-clause-replaced_text
returns-clause-replaced_text c = replaced_text_integers

pub returns-clause-contracts : goal.returns-clause-contracts
returns-clause-contracts c = replaced_contracts
