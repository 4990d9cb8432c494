use Rattle.std.proofs.Common.{◌≡◌, drop}
use Rattle.hp_automata.specs.Names.{is_name, missing}
use Rattle.hp_automata.specs.Lists.{names_seen, with_more}
use Rattle.hp_automata.proofs.names.add_missing.Given as goal

abbrev pub invariant-loop-i : goal.invariant-loop-i
invariant-loop-i l =
    with_more (names_seen l.into.items) (missing (is_name (names_seen l.own.names.items)) (names_seen (drop l.i l.names)))
    ≡ with_more (names_seen l.initial.into.items) (missing (is_name (names_seen l.own.names.items)) (names_seen l.names))
