use Rattle.std.proofs.Common.{◌≡◌, drop}
use Rattle.hp_watch.specs.Watching.{watched_seen, with_places}
use Rattle.hp_watch.proofs.watching.add_places.Given as goal

abbrev pub invariant-loop-i : goal.invariant-loop-i
invariant-loop-i l = with_places l.types (drop l.i l.free) (drop l.i l.is_early) (watched_seen l.watched) ≡ with_places l.types l.free l.is_early (watched_seen l.initial.watched)
