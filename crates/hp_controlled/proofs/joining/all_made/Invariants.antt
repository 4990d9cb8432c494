use Rattle.std.proofs.Common.{List, ◌++◌}
use Rattle.hp_machines.specs.Making.{AreMade}
use Rattle.hp_obc.specs.Machines.{Machine}
use Rattle.hp_controlled.proofs.joining.all_made.Given as goal

abbrev pub invariant-loop-node : goal.invariant-loop-node
invariant-loop-node l = (after : List Machine) → AreMade l.types l.node-iterator.rest.items after → AreMade l.types l.fn.nodes.items (l.machines.items ++ after)
