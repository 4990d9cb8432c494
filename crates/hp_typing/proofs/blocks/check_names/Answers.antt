use Rattle.std.proofs.Common.{◌<◌, length, Some, ap, ◌∙◌, arith}
use Rattle.hp_tree.specs.Blocks.{Decl}
use Rattle.hp_typing.proofs.BlockLaws.{names-step}
use Rattle.hp_typing.proofs.blocks.check_names.Goals as goal

pub loop-i-preserved : goal.loop-i-preserved
loop-i-preserved c =
    let names = c.args.names.now in
    let outputs = c.args.outputs.now in
    let i = c.loop-i.i in
    let n : i < length names = omega arith in
    let m : i < length outputs = omega arith in
    names-step c.args.scope.now c.args.at names outputs i c.index-names-i.result c.index-outputs-i.result n m c.index-names-i.is c.index-outputs-i.is c.loop-i.found _ _ _ _
    (c.variable_kind-wanted.ensures) (ap Some (c.of.ensures ∙ ap (λ (d : Decl). d.ty) c.output.view_is)) c.want.ensures.found c.loop-i.invariant
