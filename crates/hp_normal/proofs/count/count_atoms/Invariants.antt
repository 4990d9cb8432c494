use Rattle.std.proofs.Common.{◌≡◌, drop}
use Rattle.std.specs.List.{flat_map}
use Rattle.hp_normal.specs.Reading.{atom_variables}
use Rattle.hp_normal.specs.Tables.{counted}
use Rattle.hp_normal.proofs.count.count_atoms.Given as goal

abbrev pub invariant-loop-atom : goal.invariant-loop-atom
invariant-loop-atom l = counted (flat_map atom_variables (drop l.atom-index l.atoms)) l.counts ≡ counted (flat_map atom_variables l.atoms) l.initial.counts
