use Rattle.std.proofs.Common.{◌≡◌, drop}
use Rattle.hp_cause.specs.Describing.{points_seen}
use Rattle.hp_cause.specs.Naming.{picked}
use Rattle.hp_cause.specs.Told.{with_more}
use Rattle.hp_cause.proofs.cycle.add_points.Given as goal

abbrev pub invariant-loop-i : goal.invariant-loop-i
invariant-loop-i l = with_more l.into.items (picked (points_seen l.points) (drop l.i l.numbers)) ≡ with_more l.initial.into.items (picked (points_seen l.points) l.numbers)
