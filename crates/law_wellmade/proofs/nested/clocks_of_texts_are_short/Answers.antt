use Rattle.law_wellmade.proofs.NestedLemmas.Texts.{text_law}
use Rattle.law_wellmade.proofs.nested.clocks_of_texts_are_short.Goals as goal

pub returns : goal.returns
returns c = text_law
