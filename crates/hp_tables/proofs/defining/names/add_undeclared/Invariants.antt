use Rattle.std.proofs.Common.{◌≡◌, drop}
use Rattle.hp_tables.specs.Defining.Names.{undeclared}
use Rattle.hp_tables.specs.Defining.Seen.{names_seen, with_more}
use Rattle.hp_tables.proofs.defining.names.add_undeclared.Given as goal

abbrev pub invariant-loop-i : goal.invariant-loop-i
invariant-loop-i l =
    with_more (names_seen l.into.items) (undeclared l.decls (names_seen (drop l.i l.names))) ≡ with_more (names_seen l.initial.into.items) (undeclared l.decls (names_seen l.names))
