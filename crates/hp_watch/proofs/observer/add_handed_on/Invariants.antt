use Rattle.std.proofs.Common.{◌≡◌, ◌++◌, drop, map}
use Rattle.hp_tree.specs.BlockView.{eqn_seen}
use Rattle.hp_watch.specs.Observing.{all_handed_on}
use Rattle.hp_watch.proofs.observer.add_handed_on.Given as goal

abbrev pub invariant-loop-i : goal.invariant-loop-i
invariant-loop-i l = map eqn_seen l.eqns.items ++ all_handed_on l.i (drop l.i l.outputs) ≡ map eqn_seen l.initial.eqns.items ++ all_handed_on 0 l.outputs
