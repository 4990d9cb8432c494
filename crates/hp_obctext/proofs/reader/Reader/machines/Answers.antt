use Rattle.hp_obctext.proofs.StepRounds.{machine_strict}
use Rattle.hp_obctext.proofs.reader.Reader.machines.Goals as goal

pub loop-machines-smaller : goal.loop-machines-smaller
loop-machines-smaller c = machine_strict c.loop-machines.self c.in_ok-machine.field-0 c.machine.new.self c.in_ok-machine.ensures
