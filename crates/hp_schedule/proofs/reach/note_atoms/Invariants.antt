use Rattle.std.proofs.Common.{◌≡◌, drop}
use Rattle.std.specs.List.{flat_map}
use Rattle.law_equations.specs.Meaning.Fitting.{atom_variables}
use Rattle.hp_schedule.specs.Reaching.{noted_all}
use Rattle.hp_schedule.proofs.reach.note_atoms.Given as goal

abbrev pub invariant-loop-atom : goal.invariant-loop-atom
invariant-loop-atom l = noted_all l.weight (flat_map atom_variables (drop l.atom-index l.atoms)) l.table ≡ noted_all l.weight (flat_map atom_variables l.atoms) l.initial.table
