use Rattle.std.proofs.Common.{◌<◌, ◌≡◌, ◌∙◌, ◌==◌, ap, sym, subst, arith}
use Rattle.hp_diagram.specs.declared.reference.Ref.{Ref}
use Rattle.hp_diagram.specs.Diagrams.{function, valuation}
use Rattle.hp_diagram.proofs.Paths.{child-index, function-child, path_end-leaf}
use Rattle.hp_diagram.proofs.table.Table.value.Goals as goal

pub child-at-requires : goal.child-at-requires
child-at-requires c =
    let n = c.in_Some-node.ensures.reduced.nodes c.loop-node.at.index c.in_Some-node.node (sym c.in_Some-node.ensures.node) in
    omega (arith, n.var, c.requires.values)

below : (c : goal.After-child-at) → c.child-at.result.index < c.loop-node.at.index
below c = subst (λ (r : Ref). r.index < c.loop-node.at.index) (sym c.child-at.ensures) (child-index c.args.self.now c.in_Some-node.ensures.reduced c.loop-node.at c.in_Some-node.node (sym c.in_Some-node.ensures.node) (valuation c.args.vars.now))

pub loop-node-smaller : goal.loop-node-smaller
loop-node-smaller c = below c

pub loop-node-preserved : goal.loop-node-preserved
loop-node-preserved c =
    let v = valuation c.args.vars.now in (
      omega (arith, below c, c.loop-node.invariant.0),
      subst (λ (r : Ref). function c.args.self.now r v ≡ function c.args.self.now c.args.r v) (sym c.child-at.ensures)
          (function-child c.args.self.now c.in_Some-node.ensures.reduced c.loop-node.at c.in_Some-node.node (sym c.in_Some-node.ensures.node) v ∙ c.loop-node.invariant.1),
    )

pub returns : goal.returns
returns c =
    c.eq.ensures
    ∙ ap (λ (o : Ref). c.loop-node.at.index == o.index) c.one.ensures
    ∙ sym (path_end-leaf c.loop-node.at.index c.args.self.now.nodes (valuation c.args.vars.now) c.loop-node.at.index (sym c.in_default-node.ensures.node))
    ∙ c.loop-node.invariant.1
