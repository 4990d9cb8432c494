use Rattle.std.proofs.Common.{◌≡◌, drop}
use Rattle.hp_past.specs.Names.{noted, names_in_decls}
use Rattle.hp_past.proofs.names.note_decls.Given as goal

abbrev pub invariant-loop-decl : goal.invariant-loop-decl
invariant-loop-decl l = noted l.names (names_in_decls (drop l.decl-index l.decls)) ≡ noted l.initial.names (names_in_decls l.decls)
