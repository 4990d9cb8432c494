use Rattle.std.proofs.Common.{◌≡◌, drop}
use Rattle.hp_complete.specs.Edges.{edges_to}
use Rattle.hp_complete.specs.Names.{with_more}
use Rattle.hp_complete.proofs.order.add_restart.Given as goal

abbrev pub invariant-loop-variable : goal.invariant-loop-variable
invariant-loop-variable l = with_more l.edges.items (edges_to l.vertex (drop l.variable-index l.restart)) ≡ with_more l.initial.edges.items (edges_to l.vertex l.restart)
