use Rattle.std.proofs.Common.{◌≡◌, ◌+◌, drop}
use Rattle.hp_complete.specs.Edges.{edges_of}
use Rattle.hp_complete.specs.Names.{with_more}
use Rattle.hp_complete.proofs.order.add_eqns.Given as goal

abbrev pub invariant-loop-i : goal.invariant-loop-i
invariant-loop-i l = with_more l.edges.items (edges_of (l.variables + l.i) (drop l.i l.eqns)) ≡ with_more l.initial.edges.items (edges_of l.variables l.eqns)
