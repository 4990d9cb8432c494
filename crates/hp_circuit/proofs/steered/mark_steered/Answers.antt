use Rattle.hp_circuit.specs.Reading.{IsSteered}
use Rattle.hp_circuit.proofs.steered.mark_steered.Goals as goal

pub returns-clause-whole : goal.returns-clause-whole
returns-clause-whole c = λ w h. c.mark_readers.ensures.kept w (c.mark_controls.ensures.whole w h)

pub returns-clause-sound : goal.returns-clause-sound
returns-clause-sound c = λ all there w h. c.mark_readers.ensures.sound c.args.slots.now all there (λ x m. IsSteered.controls x (c.mark_controls.ensures.sound x m)) w h

pub returns-clause-closed : goal.returns-clause-closed
returns-clause-closed c = c.mark_readers.ensures.closed
