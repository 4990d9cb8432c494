use Rattle.std.proofs.Common.{◌≡◌, ◌≤◌, length, drop, reverse}
use Rattle.hp_cause.specs.Gathering.{names_of_clock}
use Rattle.hp_cause.specs.Told.{names_seen, with_more}
use Rattle.hp_cause.proofs.clock.add_path.Given as goal

abbrev pub invariant-loop-i : goal.invariant-loop-i
invariant-loop-i l =
    record {
      within : l.i ≤ length l.path;
      names : names_seen l.into.items ≡ with_more (names_seen l.initial.into.items) (names_of_clock (reverse (drop l.i l.path)));
    }

abbrev pub decreases-loop-i : goal.decreases-loop-i
decreases-loop-i l = l.i
