use Rattle.std.proofs.Common.{◌≡◌, take, map}
use Rattle.hp_automata.specs.Lowering.{lowered_item}
use Rattle.hp_automata.proofs.programs.lower_items.Given as goal

abbrev pub invariant-loop-item : goal.invariant-loop-item
invariant-loop-item l = l.others.items ≡ map (lowered_item l.enums) (take l.item-index l.items)
