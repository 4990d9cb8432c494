use Rattle.std.proofs.Common.{◌≡◌, map, take}
use Rattle.hp_controlled.specs.Parts.{number_at}
use Rattle.hp_controlled.proofs.part.Numbers.of_all.Given as goal

abbrev pub invariant-loop-variable : goal.invariant-loop-variable
invariant-loop-variable l = l.others.items ≡ map (number_at l.self.numbers.items) (take l.variable-index l.variables)
