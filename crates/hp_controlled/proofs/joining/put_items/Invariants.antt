use Rattle.std.proofs.Common.{List, ◌++◌, drop}
use Rattle.std.specs.Vec.Iter.{into_iter_items}
use Rattle.hp_obc.specs.Machines.{Machine}
use Rattle.hp_controlled.specs.Joining.{AreOfNodes}
use Rattle.hp_controlled.proofs.joining.put_items.Given as goal

abbrev pub invariant-loop-item : goal.invariant-loop-item
invariant-loop-item l = (more : List Machine) → AreOfNodes (drop l.item-index l.items) (into_iter_items l.waiting) more → AreOfNodes l.items l.fn.own.items (l.all.items ++ more)
