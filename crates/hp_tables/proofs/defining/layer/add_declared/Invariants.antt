use Rattle.std.proofs.Common.{◌≡◌, drop}
use Rattle.hp_tree.specs.Meaning.{names_of}
use Rattle.hp_tables.specs.Defining.Seen.{names_seen, with_more}
use Rattle.hp_tables.proofs.defining.layer.add_declared.Given as goal

abbrev pub invariant-loop-decl : goal.invariant-loop-decl
invariant-loop-decl l = with_more (names_seen l.into.items) (names_of (drop l.decl-index l.decls)) ≡ with_more (names_seen l.initial.into.items) (names_of l.decls)
