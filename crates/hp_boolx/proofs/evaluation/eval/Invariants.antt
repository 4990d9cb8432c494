use Rattle.std.proofs.Common.{◌≡◌, [], length, take}
use Rattle.hp_boolx.specs.Machine.{values}
use Rattle.hp_boolx.proofs.evaluation.eval.Given as goal

abbrev pub invariant-loop-i : goal.invariant-loop-i
invariant-loop-i l = (length l.into ≡ length l.m.gates) × (take l.i l.into ≡ values l.vars [] (take l.i l.m.gates))
