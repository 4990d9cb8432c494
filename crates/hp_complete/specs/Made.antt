-- What the clocked equations of a program are made of.
use Rattle.std.specs.Prelude.{◌≡◌, ◌+◌, ⊤, List, [], ◌∷◌, length, map, Contains}
use Rattle.hp_tree.specs.declared.program.Item.{Item}
use Rattle.hp_tree.specs.declared.program.Item.TheVariants.{TypeItem, NodeItem}
use Rattle.hp_tree.specs.Programs.{Node}
use Rattle.hp_tree.specs.Meaning.{controls_of}
use Rattle.hp_flat.specs.Nodes.{FlatNode}
use Rattle.law_equations.specs.Meaning.Scheduling.{IsRanked}
use Rattle.hp_complete.specs.Ordering.{IsCircular, unplaced}
use Rattle.law_equations.specs.Made.Making.{Known, numbers_from, sketch_node}

-- A node has the variables and the equations that are made of it, in the order in which they are made. Their places are others: each equation stands behind those that it reads.
pub record IsMadeOf (k : Known) (n : Node) (f : FlatNode) : Type 0 where
  pub name : f.name ≡ n.name
  pub variables : f.variables ≡ (sketch_node k n).variables
  pub inputs : f.inputs ≡ length n.inputs + length (controls_of n.contract)
  pub outputs : f.outputs ≡ numbers_from (length n.inputs + length (controls_of n.contract)) n.outputs
  pub eqns : map unplaced f.eqns ≡ map unplaced (sketch_node k n).eqns
  pub ranked : IsRanked f.eqns

-- There is one for each node of some items, in order.
abbrev pub AreMadeOf : Known → List Item → List FlatNode → Type 0
AreMadeOf k [] [] = ⊤
AreMadeOf k [] (f ∷ fs) = ⊥
AreMadeOf k (TypeItem t ∷ items) fs = AreMadeOf k items fs
AreMadeOf k (NodeItem n ∷ items) [] = ⊥
AreMadeOf k (NodeItem n ∷ items) (f ∷ fs) = IsMadeOf k n f × AreMadeOf k items fs

-- The equations of some node among the items read each other in a circle.
pub record HasCircle (k : Known) (items : List Item) : Type 0 where
  pub node : Node
  pub there : Contains items (NodeItem node)
  pub circle : IsCircular (sketch_node k node).eqns
