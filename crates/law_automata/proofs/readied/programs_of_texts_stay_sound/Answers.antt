use Rattle.law_automata.proofs.ReadiedLemmas.Texts.{text_law}
use Rattle.law_automata.proofs.readied.programs_of_texts_stay_sound.Goals as goal

pub returns : goal.returns
returns c = text_law
