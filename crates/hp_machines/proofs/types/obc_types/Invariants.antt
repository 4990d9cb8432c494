use Rattle.std.proofs.Common.{◌≡◌, take}
use Rattle.law_equations.specs.Made.Types.{obc_types_of}
use Rattle.hp_machines.proofs.types.obc_types.Given as goal

abbrev pub invariant-loop-item : goal.invariant-loop-item
invariant-loop-item l = l.types.items ≡ obc_types_of (take l.item-index l.items)
