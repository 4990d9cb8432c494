use Rattle.std.proofs.Common.{◌≡◌, drop}
use Rattle.hp_cause.specs.Around.{first_places}
use Rattle.hp_cause.specs.Told.{names_seen, with_more}
use Rattle.hp_cause.proofs.around.first_places.Given as goal

abbrev pub invariant-loop-i : goal.invariant-loop-i
invariant-loop-i l = with_more l.places.items (first_places (names_seen l.set.keys) (names_seen (drop l.i l.names))) ≡ first_places (names_seen l.set.keys) (names_seen l.names)
