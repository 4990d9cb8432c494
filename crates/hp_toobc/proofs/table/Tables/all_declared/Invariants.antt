use Rattle.std.proofs.Common.{◌≡◌, take, map}
use Rattle.hp_toobc.specs.Making.{declared}
use Rattle.hp_toobc.proofs.table.Tables.all_declared.Given as goal

abbrev pub invariant-loop-variable : goal.invariant-loop-variable
invariant-loop-variable l = l.vars.items ≡ map (declared l.self.types.now) (take l.variable-index l.variables)
