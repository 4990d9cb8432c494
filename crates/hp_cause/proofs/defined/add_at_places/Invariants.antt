use Rattle.std.proofs.Common.{◌≡◌, Some, drop}
use Rattle.hp_cause.specs.Around.{of_places}
use Rattle.hp_tables.specs.Defining.Layers.{sight}
use Rattle.hp_cause.specs.Told.{facts_seen, names_seen, with_more}
use Rattle.hp_cause.proofs.defined.add_at_places.Given as goal

abbrev pub invariant-loop-i : goal.invariant-loop-i
invariant-loop-i l =
    with_more (facts_seen l.facts.items) (of_places (sight l.layers) l.control (Some l.read_by_each) l.span (names_seen l.around) (drop l.i l.places))
    ≡ with_more (facts_seen l.initial.facts.items) (of_places (sight l.layers) l.control (Some l.read_by_each) l.span (names_seen l.around) l.places)
