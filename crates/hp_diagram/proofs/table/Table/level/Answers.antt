use Rattle.std.proofs.Common.{inl, inr, sym, arith}
use Rattle.hp_diagram.proofs.Canonical.{leaf_cases}
use Rattle.hp_diagram.proofs.table.Table.level.Goals as goal

pub returns-in_Some-node-clause-node : goal.returns-in_Some-node-clause-node
returns-in_Some-node-clause-node c = λ _.
    (c.in_Some-node.ensures.reduced.nodes c.args.r.index c.in_Some-node.node (sym c.in_Some-node.ensures.node)).var

pub returns-in_None-node-clause-node : goal.returns-in_None-node-clause-node
returns-in_None-node-clause-node c = λ far.
    elim (leaf_cases c.args.self.now c.args.r.index c.requires (sym c.in_None-node.ensures.node)) [
      | inl e ↦ absurd (omega (arith, far, e))
      | inr e ↦ absurd (omega (arith, far, e))
    ]
