use Rattle.std.proofs.Common.{◌≡◌, take}
use Rattle.hp_tables.specs.Renaming.Renaming.{renamed_path}
use Rattle.hp_tables.proofs.renaming.rename.rename_path.Given as goal

abbrev pub invariant-loop-cons : goal.invariant-loop-cons
invariant-loop-cons g l = l.others.items ≡ renamed_path (g.R.Renaming.reads l.naming) (g.R.Renaming.declares l.naming) (take l.cons-index l.path)
