-- What a machine is seen as.
use Rattle.hp_obc.specs.declared.machine.Machine.TheInside.{Inside}
use Rattle.hp_obc.specs.Machines.{Machine}

-- a machine, by its fields
abbrev pub machine_seen : Inside → Machine
machine_seen m = record {
  name = m.name;
  inputs = m.inputs.items;
  outputs = m.outputs.items;
  vars = m.vars.items;
  mems = m.mems.items;
  insts = m.insts.items;
  step = m.step;
}
