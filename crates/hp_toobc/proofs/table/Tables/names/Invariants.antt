use Rattle.std.proofs.Common.{◌≡◌, take, map}
use Rattle.hp_toobc.specs.Tables.{name_of}
use Rattle.hp_toobc.proofs.table.Tables.names.Given as goal

abbrev pub invariant-loop-variable : goal.invariant-loop-variable
invariant-loop-variable l = l.names.items ≡ map (name_of l.self.variables.now) (take l.variable-index l.variables)
