use Rattle.std.proofs.Common.{drop}
use Rattle.std.specs.Prelude.{◌↔◌}
use Rattle.hp_obc.specs.Form.{kind_in, written}
use Rattle.hp_form.specs.Scoping.{Agree}
use Rattle.hp_form.proofs.command.outs_agree.Given as goal

abbrev pub invariant-loop-i : goal.invariant-loop-i
invariant-loop-i l =
    Agree (kind_in l.names.types.now.declared.now (written l.names.machine.now)) l.names.types.now.declared.now (drop l.i l.outs) (drop l.i l.outputs)
    ↔ Agree (kind_in l.names.types.now.declared.now (written l.names.machine.now)) l.names.types.now.declared.now l.outs l.outputs
