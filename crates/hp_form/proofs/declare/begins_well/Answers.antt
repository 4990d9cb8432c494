use Rattle.std.proofs.Common.{subst}
use Rattle.std.specs.Bool.{Decides}
use Rattle.hp_obc.specs.Form.{BothAre}
use Rattle.hp_obc.specs.Values.{kind_of}
use Rattle.hp_form.specs.Kinds.{maybe_at}
use Rattle.hp_form.proofs.declare.begins_well.Goals as goal

pub returns : goal.returns
returns c =
    let types = c.args.types.now.declared.now in
    subst (λ z. Decides c.both_are.result (BothAre (kind_of types c.args.mem.now.ty) z)) c.constant.ensures
    (subst (λ z. Decides c.both_are.result (BothAre z (maybe_at types c.constant.result))) c.kind.ensures (c.both_are.ensures types))
