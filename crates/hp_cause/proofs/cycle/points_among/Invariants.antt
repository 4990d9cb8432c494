use Rattle.std.proofs.Common.{◌≡◌, drop}
use Rattle.hp_cause.specs.Naming.{numbers_of}
use Rattle.hp_cause.specs.Told.{with_more}
use Rattle.hp_cause.proofs.cycle.points_among.Given as goal

abbrev pub invariant-loop-i : goal.invariant-loop-i
invariant-loop-i l = with_more l.numbers.items (numbers_of l.vertices (drop l.i l.cycle)) ≡ numbers_of l.vertices l.cycle
