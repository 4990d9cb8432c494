use Rattle.std.proofs.Common.{subst}
use Rattle.std.specs.Bool.{Decides}
use Rattle.hp_obc.specs.Form.{BothAre, kind_in, written}
use Rattle.hp_form.specs.Kinds.{maybe_at}
use Rattle.hp_form.proofs.command.out_fits.Goals as goal

pub returns : goal.returns
returns c =
    let types = c.args.names.now.types.now.declared.now in
    subst (λ z. Decides c.both_are.result (BothAre (kind_in types (written c.args.names.now.machine.now) c.args.out.now) z)) c.kind.ensures
    (subst (λ z. Decides c.both_are.result (BothAre z (maybe_at types c.kind.result))) c.target.ensures (c.both_are.ensures types))
