-- Nodes at places of a list of items.
use Rattle.std.specs.Prelude.{ℕ, nat_lt, Bool, true, List, slice_get, Option, None, Some}
use Rattle.std.specs.Str.{bytes_eq}
use Rattle.std.specs.Borrow.{Bor}
use Rattle.indexmap.specs.IndexMap.{IndexMap, get_by}
use Rattle.hp_tree.specs.declared.program.Item.{Item}
use Rattle.hp_tree.specs.declared.program.Item.TheVariants.{TypeItem, NodeItem}
use Rattle.hp_tree.specs.Programs.{Node}
use Rattle.hp_expand.specs.Numbering.{no_node}

-- the node of an item, which says what the name of no node is
abbrev pub node_of : List ℕ → Option Item → Node
node_of x None = no_node x
node_of x (Some (TypeItem t)) = no_node x
node_of x (Some (NodeItem n)) = n

-- the node at a place among the items
abbrev pub node_at : List Item → List ℕ → Option ℕ → Node
node_at items x None = no_node x
node_at items x (Some i) = node_of x (slice_get items i)

-- whether a place, if any, is one of so many
abbrev pub is_below : ℕ → Option ℕ → Bool
is_below n None = true
is_below n (Some i) = nat_lt i n

abbrev pub place_of : {S : Type 0} → IndexMap (Bor (List ℕ)) ℕ S → List ℕ → Option ℕ
place_of names x = get_by (λ k. bytes_eq x k.now) names
