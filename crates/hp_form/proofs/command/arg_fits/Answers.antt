use Rattle.std.proofs.Common.{subst}
use Rattle.std.specs.Bool.{Decides}
use Rattle.hp_obc.specs.Form.{BothAre, argument_kind, scope}
use Rattle.hp_form.specs.Kinds.{maybe_at}
use Rattle.hp_form.proofs.command.arg_fits.Goals as goal

pub returns : goal.returns
returns c =
    let types = c.args.names.now.types.now.declared.now in
    subst (λ z. Decides c.both_are.result (BothAre (argument_kind types (scope c.args.names.now.machine.now) c.args.arg.now) z)) c.kind.ensures
    (subst (λ z. Decides c.both_are.result (BothAre z (maybe_at types c.kind.result))) c.arg.ensures (c.both_are.ensures types))
