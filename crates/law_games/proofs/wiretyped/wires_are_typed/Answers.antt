use Rattle.law_games.proofs.wiretyped.wires_are_typed.Goals as goal
use Rattle.law_games.proofs.WiretypedLemmas.SameMemory.{memory_same}
use Rattle.law_games.proofs.WiretypedLemmas.Programs.{at_start, in_shape, sound, typed, wiring}

pub returns-clause-circuits : goal.returns-clause-circuits
returns-clause-circuits c = typed

pub returns-clause-sound : goal.returns-clause-sound
returns-clause-sound c = sound

pub returns-clause-shape : goal.returns-clause-shape
returns-clause-shape c = in_shape

pub returns-clause-start : goal.returns-clause-start
returns-clause-start c = at_start

pub returns-clause-wiring : goal.returns-clause-wiring
returns-clause-wiring c = wiring

pub returns-clause-memory : goal.returns-clause-memory
returns-clause-memory c = memory_same
