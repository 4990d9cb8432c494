use Rattle.std.proofs.Common.{◌≡◌, ◌++◌, drop, map}
use Rattle.std.specs.Vec.Iter.{into_iter_items}
use Rattle.hp_watch.specs.Watching.{observer_seen}
use Rattle.hp_controlled.specs.Compiled.{contracts_of, observed_all}
use Rattle.hp_controlled.specs.Lacking.{FitContracts}
use Rattle.hp_controlled.proofs.machines.observers_of.Given as goal

abbrev pub invariant-loop-item : goal.invariant-loop-item
invariant-loop-item l = (map observer_seen l.all.items ++ observed_all (contracts_of (drop l.item-index l.items)) (into_iter_items l.waiting) ≡ observed_all (contracts_of l.items) l.fn.flats.items)
    × (FitContracts (contracts_of l.items) l.fn.flats.items → FitContracts (contracts_of (drop l.item-index l.items)) (into_iter_items l.waiting))
