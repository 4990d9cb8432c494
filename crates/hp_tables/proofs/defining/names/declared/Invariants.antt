use Rattle.std.proofs.Common.{◌≡◌, drop}
use Rattle.hp_tree.specs.Meaning.{declares}
use Rattle.hp_tables.specs.Defining.Seen.{holds}
use Rattle.hp_tables.proofs.DefiningLemmas.NameLaws.{known_or}
use Rattle.hp_tables.proofs.defining.names.declared.Given as goal

abbrev pub invariant-loop-decl : goal.invariant-loop-decl
invariant-loop-decl l = known_or (drop l.decl-index l.decls) (holds l.names) ≡ declares l.decls
