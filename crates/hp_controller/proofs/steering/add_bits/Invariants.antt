use Rattle.std.proofs.Common.{◌≡◌, ◌++◌, map}
use Rattle.std.specs.List.{range_with_len}
use Rattle.hp_flat.specs.declared.node.FlatTy.TheVariants.{Bool}
use Rattle.hp_controller.specs.Controllers.{added_variable}
use Rattle.hp_controller.proofs.steering.add_bits.Given as goal

abbrev pub invariant-loop-i : goal.invariant-loop-i
invariant-loop-i l = l.variables.items ≡ l.initial.variables.items ++ map (λ x. added_variable x Bool) (range_with_len l.first l.i)
