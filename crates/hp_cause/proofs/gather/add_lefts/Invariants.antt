use Rattle.std.proofs.Common.{◌≡◌, drop}
use Rattle.hp_cause.specs.Gathering.{of_lefts}
use Rattle.hp_tables.specs.Defining.Layers.{sight}
use Rattle.hp_cause.specs.Told.{facts_seen, names_seen, with_more}
use Rattle.hp_cause.proofs.gather.add_lefts.Given as goal

abbrev pub invariant-loop-name : goal.invariant-loop-name
invariant-loop-name l =
    with_more (facts_seen l.facts.items) (of_lefts (sight l.layers) l.control (names_seen l.clock) (drop l.name-index l.names)) ≡ with_more (facts_seen l.initial.facts.items) (of_lefts (sight l.layers) l.control (names_seen l.clock) l.names)
