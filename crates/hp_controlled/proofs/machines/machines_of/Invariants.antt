use Rattle.std.proofs.Common.{List, ◌++◌, drop}
use Rattle.std.specs.Vec.Iter.{into_iter_items}
use Rattle.hp_obc.specs.Machines.{Machine}
use Rattle.hp_watch.specs.Watching.{observers_seen}
use Rattle.hp_controlled.specs.Compiled.{HaveMachines}
use Rattle.hp_controlled.specs.Lacking.{OneLacksMachines}
use Rattle.hp_controlled.proofs.machines.machines_of.Given as goal

abbrev pub invariant-loop-item : goal.invariant-loop-item
invariant-loop-item l =
    let program = l.context.program.now in
    let types = l.context.types.now in
    let observers = observers_seen l.context.observers.now in
    ((more : List Machine) → HaveMachines program types observers (drop l.item-index l.items) (into_iter_items l.waiting) more → HaveMachines program types observers l.items l.fn.flats.items (l.machines.items ++ more))
    × (OneLacksMachines program types observers (drop l.item-index l.items) (into_iter_items l.waiting) → OneLacksMachines program types observers l.items l.fn.flats.items)
