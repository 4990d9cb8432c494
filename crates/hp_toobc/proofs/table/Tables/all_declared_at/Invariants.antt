use Rattle.std.proofs.Common.{◌≡◌, take, map}
use Rattle.hp_toobc.specs.Tables.{variable_at}
use Rattle.hp_toobc.specs.Making.{declared}
use Rattle.hp_toobc.proofs.table.Tables.all_declared_at.Given as goal

abbrev pub invariant-loop-number : goal.invariant-loop-number
invariant-loop-number l = l.vars.items ≡ map (λ x. declared l.self.types.now (variable_at l.self.variables.now x)) (take l.number-index l.numbers)
