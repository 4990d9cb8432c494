use Rattle.std.proofs.Common.{◌≡◌, ◌++◌, drop}
use Rattle.hp_expand.specs.Numbering.{replaced_items, replaced}
use Rattle.hp_expand.specs.NodeTables.{node_in}
use Rattle.hp_expand.proofs.items.expand_items.Given as goal

abbrev pub invariant-loop-item : goal.invariant-loop-item
invariant-loop-item l = l.nodes.items.items ++ replaced_items (node_in l.nodes) (drop l.item-index l.items) ≡ replaced l.items
