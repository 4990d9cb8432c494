use Rattle.std.proofs.Common.{◌≡◌, drop}
use Rattle.hp_cause.specs.Gathering.{on_clock}
use Rattle.hp_tables.specs.Defining.Layers.{sight}
use Rattle.hp_cause.specs.Told.{facts_seen, names_seen, with_more}
use Rattle.hp_cause.proofs.expression.add_clock.Given as goal

abbrev pub invariant-loop-i : goal.invariant-loop-i
invariant-loop-i l =
    with_more (facts_seen l.facts.items) (on_clock (sight l.layers) (names_seen (drop l.i l.clock)) l.vertex) ≡ with_more (facts_seen l.initial.facts.items) (on_clock (sight l.layers) (names_seen l.clock) l.vertex)
