use Rattle.std.proofs.Common.{◌≡◌, true, drop}
use Rattle.hp_toobc.specs.Making.{atoms_variables}
use Rattle.hp_toobc.specs.Flags.{marked}
use Rattle.hp_toobc.proofs.declare.mark_atoms.Given as goal

abbrev pub invariant-loop-i : goal.invariant-loop-i
invariant-loop-i l = marked true (atoms_variables (drop l.i l.args)) l.flags ≡ marked true (atoms_variables l.args) l.initial.flags
