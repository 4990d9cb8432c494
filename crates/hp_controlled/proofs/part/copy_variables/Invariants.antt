use Rattle.std.proofs.Common.{◌≡◌, take}
use Rattle.hp_controlled.proofs.part.copy_variables.Given as goal

abbrev pub invariant-loop-i : goal.invariant-loop-i
invariant-loop-i l = l.copies.items ≡ take l.i l.variables
