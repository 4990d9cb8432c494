use Rattle.std.proofs.Common.{◌≡◌, drop}
use Rattle.hp_complete.specs.Edges.{edges_from}
use Rattle.hp_complete.specs.Names.{with_more}
use Rattle.hp_complete.proofs.order.add_targets.Given as goal

abbrev pub invariant-loop-variable : goal.invariant-loop-variable
invariant-loop-variable l = with_more l.edges.items (edges_from l.vertex (drop l.variable-index l.targets)) ≡ with_more l.initial.edges.items (edges_from l.vertex l.targets)
