use Rattle.hp_typing.proofs.BlockLaws.{path-step}
use Rattle.hp_typing.proofs.declarations.check_path.Goals as goal

pub loop-cons-preserved : goal.loop-cons-preserved
loop-cons-preserved c =
    path-step c.args.scope.now c.args.at c.args.path.now c.loop-cons.cons-index c.loop-cons-item.result c.loop-cons-test.true c.loop-cons-item.is c.loop-cons.found _ _ _ _
    c.variable_kind-wanted.ensures c.cons_kind.ensures c.want.ensures.found c.loop-cons.invariant
