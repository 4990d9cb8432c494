-- The node of a name, as it is looked for.
use Rattle.std.specs.Prelude.{ℕ, List, Option, None, Some, if◌then◌else◌}
use Rattle.std.specs.Str.{bytes_eq}
use Rattle.hp_tree.specs.Programs.{Node}
use Rattle.hp_tree.specs.declared.program.Item.{Item}
use Rattle.hp_tree.specs.declared.program.Item.TheVariants.{TypeItem, NodeItem}

-- an item that is a node of the name
abbrev pub node_in : Item → List ℕ → Option Node
node_in (TypeItem t) f = None
node_in (NodeItem n) f = if bytes_eq n.name f then Some n else None
