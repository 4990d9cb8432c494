use Rattle.std.proofs.Common.{◌≡◌, take}
use Rattle.hp_tables.specs.Renaming.Renaming.{renamed_decls}
use Rattle.hp_tables.proofs.renaming.rename.rename_decls.Given as goal

abbrev pub invariant-loop-decl : goal.invariant-loop-decl
invariant-loop-decl g l = l.others.items ≡ renamed_decls (g.R.Renaming.reads l.naming) (g.R.Renaming.declares l.naming) (take l.decl-index l.decls)
