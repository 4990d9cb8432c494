use Rattle.std.proofs.Common.{drop}
use Rattle.std.specs.Prelude.{◌↔◌}
use Rattle.hp_obc.specs.Form.{argument_kind, scope}
use Rattle.hp_form.specs.Scoping.{Agree}
use Rattle.hp_form.proofs.command.args_agree.Given as goal

abbrev pub invariant-loop-i : goal.invariant-loop-i
invariant-loop-i l =
    Agree (argument_kind l.names.types.now.declared.now (scope l.names.machine.now)) l.names.types.now.declared.now (drop l.i l.args) (drop l.i l.inputs)
    ↔ Agree (argument_kind l.names.types.now.declared.now (scope l.names.machine.now)) l.names.types.now.declared.now l.args l.inputs
