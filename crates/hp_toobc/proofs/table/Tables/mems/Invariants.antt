use Rattle.std.proofs.Common.{◌≡◌, ◌++◌, drop}
use Rattle.hp_toobc.specs.Making.{mems}
use Rattle.hp_toobc.proofs.table.Tables.mems.Given as goal

abbrev pub invariant-loop-i : goal.invariant-loop-i
invariant-loop-i l = l.mems.items ++ mems l.self.types.now l.self.variables.now l.i (drop l.i l.eqns) ≡ mems l.self.types.now l.self.variables.now 0 l.eqns
