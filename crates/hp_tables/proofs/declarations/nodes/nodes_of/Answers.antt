use Rattle.std.proofs.Common.{ℕ, List, Option, Bor, ap}
use Rattle.hp_tree.specs.Programs.{Node}
use Rattle.hp_tables.specs.Declarations.Items.{with_nodes}
use Rattle.hp_tables.specs.Declarations.Seen.{node_seen}
use Rattle.hp_tables.proofs.declarations.nodes.nodes_of.Goals as goal

pub loop-item-init : goal.loop-item-init
loop-item-init c = ap (λ (f : List ℕ → Option (Bor Node)). with_nodes (λ x. node_seen (f x)) c.args.items.now) c.new-found.ensures
