use Rattle.std.proofs.Common.{◌≡◌, drop}
use Rattle.hp_cause.specs.Describing.{points_seen}
use Rattle.hp_cause.specs.Facts.{points_in}
use Rattle.hp_cause.specs.Told.{facts_seen, with_more}
use Rattle.hp_cause.proofs.cycle.points_of.Given as goal

abbrev pub invariant-loop-i : goal.invariant-loop-i
invariant-loop-i l = with_more (points_seen l.points.items) (points_in (facts_seen (drop l.i l.facts))) ≡ points_in (facts_seen l.facts)
