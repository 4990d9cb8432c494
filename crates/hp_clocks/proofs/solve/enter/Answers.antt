use Rattle.std.proofs.Common.{map, ap, ◌∙◌, arith}
use Rattle.hp_clocks.specs.Layers.{sight, says_own}
use Rattle.hp_tree.specs.Blocks.{eqns_of}
use Rattle.hp_tree.specs.BlockView.{eqn_seen}
use Rattle.hp_clocks.proofs.EndLaws.{own_size_is}
use Rattle.hp_clocks.proofs.SightLaws.{sight_entered}
use Rattle.hp_clocks.proofs.solve.enter.Goals as goal

pub own_layer-requires : goal.own_layer-requires
own_layer-requires c =
    let own = own_size_is c.args.block.now c.block.inside.locals.items (eqns_of (map eqn_seen c.block.inside.eqns.items)) c.block.view_is in
    omega (arith, c.take_variables-first.ensures.fits, c.len.ensures, own, c.block.inside.locals.ok.0)

pub returns-clause-seen : goal.returns-clause-seen
returns-clause-seen c =
    let old = c.args.solution.now in
    let ls = c.args.layers.now.items in
    ap sight c.in_ok-push.ensures.items
    ∙ sight_entered ls c.in_ok-layer.layer old.next c.args.block.now (c.in_ok-layer.ensures.says ∙ ap (λ k. says_own k c.args.block.now) c.take_variables-first.ensures.first)
