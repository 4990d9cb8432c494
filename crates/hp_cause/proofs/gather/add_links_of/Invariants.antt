use Rattle.std.proofs.Common.{◌≡◌, drop}
use Rattle.hp_cause.specs.Gathering.{of_links}
use Rattle.hp_tables.specs.Defining.Layers.{own_of, sight}
use Rattle.hp_cause.specs.Told.{facts_seen, names_seen, with_more}
use Rattle.hp_cause.proofs.gather.add_links_of.Given as goal

abbrev pub invariant-loop-i : goal.invariant-loop-i
invariant-loop-i l =
    with_more (facts_seen l.facts.items) (of_links (sight l.outer) (own_of l.own) (names_seen (drop l.i l.names))) ≡ with_more (facts_seen l.initial.facts.items) (of_links (sight l.outer) (own_of l.own) (names_seen l.names))
