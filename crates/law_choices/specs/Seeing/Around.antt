-- What is known around the body of a node: the types of names, and the outputs of nodes.
-- Source: own.
use Rattle.std.specs.Prelude.{ℕ, List, reverse}
use Rattle.hp_tree.specs.declared.program.Item.{Item}
use Rattle.hp_tree.specs.ExpressionTypes.{Scope, typed_in, untyped}
use Rattle.hp_tree.specs.Blocks.{Decl}
use Rattle.hp_tree.specs.Programs.{Node}
use Rattle.hp_tree.specs.Meaning.{controls_of, node_among}
use Rattle.hp_meaning.specs.Contract.FreePlaces.{declared_outputs}

-- the types of the names around the body of a node
abbrev pub types_around : Node → Scope
types_around n = typed_in (controls_of n.contract) (typed_in n.inputs (typed_in n.outputs untyped))

-- the outputs of the node of a name
abbrev pub outputs_in : List Item → List ℕ → List Decl
outputs_in program f = declared_outputs (node_among (reverse program) f)
