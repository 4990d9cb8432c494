use Rattle.std.proofs.Common.{take}
use Rattle.hp_complete.specs.Made.{AreMadeOf}
use Rattle.hp_complete.specs.Tables.{known_in}
use Rattle.hp_complete.proofs.flatten_items.Given as goal

abbrev pub invariant-loop-item : goal.invariant-loop-item
invariant-loop-item l = AreMadeOf (known_in l.declared) (take l.item-index l.items) l.nodes.items
