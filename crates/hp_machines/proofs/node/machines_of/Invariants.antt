use Rattle.std.proofs.Common.{List, ◌++◌}
use Rattle.std.specs.List.{AllByRecursion}
use Rattle.hp_obc.specs.Machines.{Machine}
use Rattle.hp_form.specs.Regular.Regular.{EqnsRegular}
use Rattle.hp_machines.specs.Making.{AreMade}
use Rattle.hp_machines.proofs.node.machines_of.Given as goal

abbrev pub invariant-loop-node : goal.invariant-loop-node
invariant-loop-node l =
    ((after : List Machine) → AreMade l.types l.node-iterator.rest.items after → AreMade l.types l.fn.nodes.items (l.machines.items ++ after))
    × (AllByRecursion (EqnsRegular l.types) l.fn.nodes.items → AllByRecursion (EqnsRegular l.types) l.node-iterator.rest.items)
