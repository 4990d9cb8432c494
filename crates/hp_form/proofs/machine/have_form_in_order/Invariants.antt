use Rattle.std.proofs.Common.{◌≡◌, [], take, drop}
use Rattle.std.specs.Prelude.{◌↔◌}
use Rattle.hp_obc.specs.Form.{MachinesForm}
use Rattle.hp_form.specs.Scoping.{machine_entries}
use Rattle.hp_form.proofs.machine.have_form_in_order.Given as goal

abbrev pub invariant-loop-i : goal.invariant-loop-i
invariant-loop-i l = record {
  form : MachinesForm l.types.declared.now (take l.i l.machines) (drop l.i l.machines) ↔ MachinesForm l.types.declared.now [] l.machines;
  known : l.known ≡ machine_entries (take l.i l.machines);
}
