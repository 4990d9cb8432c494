use Rattle.std.proofs.Common.{◌≡◌, drop}
use Rattle.hp_tables.specs.Declarations.Items.{with_nodes}
use Rattle.hp_tables.specs.Declarations.Seen.{node_in}
use Rattle.hp_tables.specs.Declarations.Tables.{nothing}
use Rattle.hp_tables.proofs.declarations.nodes.nodes_of.Given as goal

abbrev pub invariant-loop-item : goal.invariant-loop-item
invariant-loop-item l = with_nodes (node_in l.found) (drop l.item-index l.items) ≡ with_nodes nothing l.items
