use Rattle.std.proofs.Common.{◌≡◌, map}
use Rattle.std.specs.List.{range_with_len}
use Rattle.hp_controller.specs.Controllers.{bit_variable}
use Rattle.hp_controller.proofs.node.bit_variables.Given as goal

abbrev pub invariant-loop-number : goal.invariant-loop-number
invariant-loop-number l = l.variables.items ≡ map bit_variable (range_with_len 0 l.number)
