-- The machines of a program whose nodes choose the values of their controllable variables.
-- Source: own.
use Rattle.std.specs.Prelude.{◌≡◌, ℕ, List, [], ◌∷◌, ◌++◌, slice_get, Option, None, Some}
use Rattle.hp_obc.specs.Machines.{Machine, ObcType}
use Rattle.hp_tables.specs.Declarations.Tables.{numbered}
use Rattle.hp_tree.specs.Programs.{Contract, Node, TypeDecl}
use Rattle.hp_tree.specs.declared.program.Item.{Item}
use Rattle.hp_tree.specs.declared.program.Item.TheVariants.{NodeItem, TypeItem}
use Rattle.hp_automata.specs.Lowering.{lowered_program}
use Rattle.hp_complete.specs.Declaring.{known_of}
use Rattle.hp_complete.specs.Made.{AreMadeOf}
use Rattle.hp_complete.specs.Signatures.{AreFlat, places_of}
use Rattle.hp_flat.specs.Nodes.{FlatNode}
use Rattle.hp_machines.specs.Making.{AreMade}
use Rattle.hp_watch.specs.Observing as observing
use Rattle.hp_watch.specs.Watching.{Observed, Observing, observed}
use Rattle.hp_controlled.specs.Choosing.{AreNodesOf}

-- The clocked equations of a program, from which automata are removed before.
pub record AreEquationsOf (program : List Item) (nodes : List FlatNode) : Type 0 where
  pub flat : AreFlat (places_of (lowered_program program)) (lowered_program program) nodes
  pub made : AreMadeOf (known_of (lowered_program program)) (lowered_program program) nodes

-- ---- observers

abbrev pub name_if : List ℕ → Option Contract → List (List ℕ)
name_if f None = []
name_if f (Some c) = f ∷ []

-- the names of the nodes that have contracts, in order
abbrev pub names_with_contracts : List Item → List (List ℕ)
names_with_contracts [] = []
names_with_contracts (TypeItem t ∷ items) = names_with_contracts items
names_with_contracts (NodeItem n ∷ items) = name_if n.name n.contract ++ names_with_contracts items

-- the contracts
abbrev pub contract_if : Option Contract → List Contract
contract_if None = []
contract_if (Some c) = c ∷ []

abbrev pub contracts_of : List Item → List Contract
contracts_of [] = []
contracts_of (TypeItem t ∷ items) = contracts_of items
contracts_of (NodeItem n ∷ items) = contract_if n.contract ++ contracts_of items

-- the observers of contracts, of which these are the clocked equations
abbrev pub observed_all : List Contract → List FlatNode → List Observed
observed_all [] ns = []
observed_all (c ∷ cs) [] = []
observed_all (c ∷ cs) (n ∷ ns) = observed c n ∷ observed_all cs ns

abbrev pub numbered_of : List Observed → Option ℕ → Option Observed
numbered_of os None = None
numbered_of os (Some k) = slice_get os k

-- each by the name of its node; of two of one name the first counts
abbrev pub by_names : List (List ℕ) → List Observed → Observing
by_names names os f = numbered_of os (numbered 0 names f)

-- The observers of a program are those of its contracts, with the clocked equations that are made of them.
pub record AreObserved (program : List Item) (observers : Observing) : Type 0 where
  pub nodes : List FlatNode
  pub equations : AreEquationsOf (observing.observers program) nodes
  pub are : observers ≡ by_names (names_with_contracts program) (observed_all (contracts_of program) nodes)

-- ---- machines

-- the nodes of a program, of whose own nodes these are the clocked equations, in order
pub data AreNodes (program : List Item) (types : List ObcType) (observers : Observing) : List Item → List FlatNode → List FlatNode → Type 0 where
  of_none : {ns : List FlatNode} → AreNodes program types observers [] ns []
  of_a_type : {items : List Item} {ns all : List FlatNode} (t : TypeDecl) → AreNodes program types observers items ns all → AreNodes program types observers (TypeItem t ∷ items) ns all
  of_a_node : {items : List Item} {ns all : List FlatNode} (node : Node) (n : FlatNode) (these : List FlatNode) → AreNodesOf program types observers node n these → AreNodes program types observers items ns all
      → AreNodes program types observers (NodeItem node ∷ items) (n ∷ ns) (these ++ all)

-- machines are made of the nodes of some items
pub record HaveMachines (program : List Item) (types : List ObcType) (observers : Observing) (items : List Item) (plants : List FlatNode) (machines : List Machine) : Type 0 where
  pub nodes : List FlatNode
  pub are : AreNodes program types observers items plants nodes
  pub made : AreMade types nodes machines

-- The machines of a program: of each node that has a contract those of its controller, of itself, which chooses, and of what is assumed and enforced, and of each other node its own one, in order.
pub record AreCompiled (program : List Item) (types : List ObcType) (machines : List Machine) : Type 0 where
  pub plants : List FlatNode
  pub equations : AreEquationsOf program plants
  pub observers : Observing
  pub observed : AreObserved program observers
  pub have : HaveMachines program types observers program plants machines
