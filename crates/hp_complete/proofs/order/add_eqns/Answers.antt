use Rattle.std.proofs.Common.{◌+◌, drop, sym, ap, ◌∙◌}
use Rattle.hp_complete.specs.Edges.{edges_of}
use Rattle.hp_complete.specs.Names.{with_more}
use Rattle.hp_complete.proofs.EdgeSteps.{edges-eqn, edges-begin}
use Rattle.hp_complete.proofs.order.add_eqns.Goals as goal

pub loop-i-init : goal.loop-i-init
loop-i-init c = edges-begin c.args.edges.now.items c.args.variables c.args.eqns.now

pub loop-i-preserved : goal.loop-i-preserved
loop-i-preserved c =
    let es = c.args.eqns.now in
    let i = c.loop-i.i in
    ap (λ made. with_more made (edges_of (c.args.variables + (i + 1)) (drop (i + 1) es))) c.in_ok-add_eqn.ensures
    ∙ sym (edges-eqn c.loop-i.edges.items c.args.variables c.index-eqns-i.result i es c.loop-i-test.true c.index-eqns-i.is c.in_ok-vertex.vertex c.in_ok-vertex.ensures)
    ∙ c.loop-i.invariant
