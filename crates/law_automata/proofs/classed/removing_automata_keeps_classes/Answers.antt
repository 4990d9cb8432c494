use Rattle.law_automata.proofs.ClassedLemmas.Programs.{classes_law}
use Rattle.law_automata.proofs.classed.removing_automata_keeps_classes.Goals as goal

pub returns : goal.returns
returns c = classes_law
