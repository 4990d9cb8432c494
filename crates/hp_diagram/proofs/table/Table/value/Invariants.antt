use Rattle.std.proofs.Common.{◌≡◌}
use Rattle.hp_diagram.specs.Diagrams.{Has, function, valuation}
use Rattle.hp_diagram.proofs.table.Table.value.Given as goal

abbrev pub invariant-loop-node : goal.invariant-loop-node
invariant-loop-node l =
    Has l.self l.at × (function l.self l.at (valuation l.vars) ≡ function l.self l.fn.r (valuation l.vars))

abbrev pub decreases-loop-node : goal.decreases-loop-node
decreases-loop-node l = l.at.index
