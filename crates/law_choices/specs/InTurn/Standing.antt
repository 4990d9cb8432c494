-- One of the nodes that are made stands for each node of a program.
-- Source: own.
use Rattle.std.specs.Prelude.{◌≡◌, ℕ, List, reverse, Some, Contains}
use Rattle.hp_tree.specs.declared.program.Item.{Item}
use Rattle.hp_tree.specs.Meaning.{types_of, node_among}
use Rattle.hp_tree.specs.Programs.{Node}
use Rattle.hp_flat.specs.Nodes.{FlatNode}
use Rattle.hp_watch.specs.Watching.{Observing}
use Rattle.law_wellmade.specs.Timely.Kinds.{kinds_of_decls}
use Rattle.law_choices.specs.InTurn.Laws.{IsChoosing, said_of}
use Rattle.law_choices.specs.InTurn.Nodes.{Made, all_nodes}

-- It has the name of the node, and takes values of the kinds of its inputs.
pub record StandsFor (after : List Item) (ms : List Made) (f : List ℕ) (n : Node) : Type 0 where
  pub node : FlatNode
  pub there : Contains (all_nodes ms) node
  pub named : node.name ≡ f
  pub takes : (said_of after ms).takes f ≡ kinds_of_decls (types_of after) n.inputs

-- So it is of each node.
abbrev pub StandsLaw : Type 0
StandsLaw = (program after : List Item) (observers : Observing) (ms : List Made) → IsChoosing program after observers ms → (f : List ℕ) (n : Node) → node_among (reverse after) f ≡ Some n → StandsFor after ms f n
