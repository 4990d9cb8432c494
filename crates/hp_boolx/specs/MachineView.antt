-- What a Boolean machine is seen as, and what it keeps.
use Rattle.hp_boolx.specs.declared.machine.BoolMachine.TheInside.{Inside}
use Rattle.hp_boolx.specs.Machine.{Machine, IsMachine}

abbrev pub machine_seen : Inside → Machine
machine_seen m = record {
  name = m.name;
  registers = m.counts.registers;
  early = m.counts.early;
  control = m.counts.control;
  late = m.counts.late;
  widths = m.widths.items;
  prefer = m.prefer.items;
  gates = m.gates.items;
  init = m.init.items;
  next = m.next.items;
  valid = m.valid;
  hyp = m.hyp;
  duty = m.duty;
}

abbrev pub InsideIsMachine : Inside → Type 0
InsideIsMachine m = IsMachine (machine_seen m)
