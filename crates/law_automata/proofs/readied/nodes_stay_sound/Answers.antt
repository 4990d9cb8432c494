use Rattle.law_automata.proofs.ReadiedLemmas.HasConstants.{ready_constants_law}
use Rattle.law_automata.proofs.ReadiedLemmas.SoundNodes.{sound_law}
use Rattle.law_automata.proofs.ReadiedLemmas.SoundPrograms.{ready_sound_law}
use Rattle.law_automata.proofs.readied.nodes_stay_sound.Goals as goal

pub returns-clause-node : goal.returns-clause-node
returns-clause-node c = sound_law

pub returns-clause-constants : goal.returns-clause-constants
returns-clause-constants c = ready_constants_law

pub returns-clause-program : goal.returns-clause-program
returns-clause-program c = ready_sound_law
