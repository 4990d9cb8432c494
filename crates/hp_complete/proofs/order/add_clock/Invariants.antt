use Rattle.std.proofs.Common.{◌≡◌, drop}
use Rattle.law_equations.specs.Meaning.Scheduling.{clock_variables}
use Rattle.hp_complete.specs.Edges.{edges_to}
use Rattle.hp_complete.specs.Names.{with_more}
use Rattle.hp_complete.proofs.order.add_clock.Given as goal

abbrev pub invariant-loop-variable : goal.invariant-loop-variable
invariant-loop-variable l =
    with_more l.edges.items (edges_to l.vertex (clock_variables (drop l.variable-index l.clock))) ≡ with_more l.initial.edges.items (edges_to l.vertex (clock_variables l.clock))
