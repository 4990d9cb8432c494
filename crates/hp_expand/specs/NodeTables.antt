-- Nodes that are known, as a function of names.
use Rattle.std.specs.Prelude.{ℕ, List}
use Rattle.hp_tree.specs.Programs.{Node}
use Rattle.hp_expand.specs.declared.nodes.Nodes.{Nodes}
use Rattle.hp_expand.specs.Places.{node_at, place_of}

-- the node of a name
abbrev pub node_in : Nodes → List ℕ → Node
node_in nodes x = node_at nodes.items.items x (place_of nodes.names x)
