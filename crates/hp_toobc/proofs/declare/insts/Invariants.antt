use Rattle.std.proofs.Common.{◌≡◌, ◌++◌, drop}
use Rattle.hp_toobc.specs.Making.{insts}
use Rattle.hp_toobc.proofs.declare.insts.Given as goal

abbrev pub invariant-loop-i : goal.invariant-loop-i
invariant-loop-i l = l.made.items ++ insts l.i (drop l.i l.eqns) ≡ insts 0 l.eqns
