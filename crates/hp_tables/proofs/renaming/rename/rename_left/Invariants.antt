use Rattle.std.proofs.Common.{◌≡◌, take}
use Rattle.hp_tables.specs.Renaming.Renaming.{renamed_left}
use Rattle.hp_tables.proofs.renaming.rename.rename_left.Given as goal

abbrev pub invariant-loop-name : goal.invariant-loop-name
invariant-loop-name g l = l.others.items ≡ renamed_left (g.R.Renaming.reads l.naming) (take l.name-index l.names)
