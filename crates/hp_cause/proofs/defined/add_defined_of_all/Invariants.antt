use Rattle.std.proofs.Common.{◌≡◌, Some, drop}
use Rattle.hp_cause.specs.Gathering.{of_defined}
use Rattle.hp_tables.specs.Defining.Layers.{is_said, sight}
use Rattle.hp_cause.specs.Told.{facts_seen, names_seen, with_more}
use Rattle.hp_cause.proofs.defined.add_defined_of_all.Given as goal

abbrev pub invariant-loop-i : goal.invariant-loop-i
invariant-loop-i l =
    with_more (facts_seen l.facts.items) (of_defined (sight l.layers) l.control (Some l.read_by_each) l.span (is_said l.hidden) (names_seen (drop l.i l.around)))
    ≡ with_more (facts_seen l.initial.facts.items) (of_defined (sight l.layers) l.control (Some l.read_by_each) l.span (is_said l.hidden) (names_seen l.around))
