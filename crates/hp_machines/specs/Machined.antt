-- The machines of a program.
use Rattle.std.specs.Prelude.{◌≡◌, ℕ, List, [], ◌∷◌, ◌++◌, map}
use Rattle.hp_obc.specs.Form.{TypesForm}
use Rattle.hp_obc.specs.Machines.{Machine, Obc}
use Rattle.hp_obc.specs.declared.machine.Var.{Var}
use Rattle.hp_automata.specs.Lowering.{lowered_program}
use Rattle.hp_complete.specs.Declaring.{known_of}
use Rattle.hp_complete.specs.Made.{AreMadeOf}
use Rattle.hp_complete.specs.Signatures.{AreFlat, places_of}
use Rattle.hp_flat.specs.Nodes.{FlatNode}
use Rattle.hp_machines.specs.Making.{AreMade}
use Rattle.law_equations.specs.Made.Types.{obc_types_of}
use Rattle.hp_tree.specs.Blocks.{Decl}
use Rattle.hp_tree.specs.Meaning.{controls_of}
use Rattle.hp_tree.specs.Programs.{Node}
use Rattle.hp_tree.specs.declared.program.Item.{Item}
use Rattle.hp_tree.specs.declared.program.Item.TheVariants.{TypeItem, NodeItem}

-- what a node or a machine is called, and what it takes and gives, each in declared order
pub record Heading : Type 0 where
  pub name : List ℕ
  pub inputs : List Var
  pub outputs : List Var

abbrev pub heading_of_machine : Machine → Heading
heading_of_machine m = record { name = m.name; inputs = m.inputs; outputs = m.outputs }

abbrev pub vars_of : List Decl → List Var
vars_of ds = map (λ (d : Decl). record { name = d.name; ty = d.ty }) ds

-- the controllable variables of a node are inputs behind its own
abbrev pub heading_of_node : Node → Heading
heading_of_node n = record { name = n.name; inputs = vars_of (n.inputs ++ controls_of n.contract); outputs = vars_of n.outputs }

-- the headings of the nodes of a program, in order
abbrev pub headings_of : List Item → List Heading
headings_of [] = []
headings_of (TypeItem t ∷ items) = headings_of items
headings_of (NodeItem n ∷ items) = heading_of_node n ∷ headings_of items

-- There is a machine for each node, in order, of its name and with its inputs and outputs; and the types are those of the program. The machines are those of
-- the variables and clocked equations that are made of the nodes, from which automata were removed before.
pub record AreMachinesOf (program : List Item) (o : Obc) : Type 0 where
  pub types : o.types ≡ obc_types_of program
  pub form : TypesForm o.types
  pub machines : map heading_of_machine o.machines ≡ headings_of program
  pub nodes : List FlatNode
  pub flat : AreFlat (places_of (lowered_program program)) (lowered_program program) nodes
  pub equations : AreMadeOf (known_of (lowered_program program)) (lowered_program program) nodes
  pub made : AreMade o.types nodes o.machines
