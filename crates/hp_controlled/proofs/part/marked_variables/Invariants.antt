use Rattle.std.proofs.Common.{◌≡◌, ◌++◌, drop}
use Rattle.hp_controlled.specs.Parts.{marked}
use Rattle.hp_controlled.proofs.part.marked_variables.Given as goal

abbrev pub invariant-loop-i : goal.invariant-loop-i
invariant-loop-i l = l.kept.items ++ marked (drop l.i l.marks) (drop l.i l.variables) ≡ marked l.marks l.variables
