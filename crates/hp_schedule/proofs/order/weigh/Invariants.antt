use Rattle.std.proofs.Common.{◌≡◌, length, map}
use Rattle.hp_schedule.specs.Turning.{weighed_by}
use Rattle.hp_schedule.proofs.order.weigh.Given as goal

abbrev pub invariant-loop-eqn : goal.invariant-loop-eqn
invariant-loop-eqn l = l.weighed.items ≡ map (weighed_by (length l.outers) l.outers l.middles l.inners) l.yielded
