use Rattle.std.proofs.Common.{take}
use Rattle.hp_boolx.specs.Machine.{AreFit}
use Rattle.hp_boolx.proofs.checked.all_fit.Given as goal

abbrev pub invariant-loop-i : goal.invariant-loop-i
invariant-loop-i l = AreFit l.vars 0 (take l.i l.gates)
