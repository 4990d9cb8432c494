use Rattle.std.proofs.Common.{◌≡◌, map}
use Rattle.hp_schedule.specs.ByClock.{numbered}
use Rattle.hp_schedule.proofs.order.place.Given as goal

abbrev pub invariant-loop-one : goal.invariant-loop-one
invariant-loop-one l = l.placed.items ≡ numbered 0 (map (λ w. w.eqn) l.yielded)
