use Rattle.law_automata.proofs.LowerableLemmas.Texts.{removable_text}
use Rattle.law_automata.proofs.lowerable.automata_of_texts_may_be_removed.Goals as goal

pub returns : goal.returns
returns c = removable_text
