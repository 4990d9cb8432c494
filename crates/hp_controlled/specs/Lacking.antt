-- Why a program has no machines that choose, though there is memory. Of no program whose contracts are kept any of it has been seen.
use Rattle.std.specs.Prelude.{◌≡◌, ◌<◌, ⊤, ℕ, List, [], ◌∷◌, length, All, IsTrue, is_some}
use Rattle.std.specs.List.{AllByRecursion}
use Rattle.hp_boolx.specs.Machine.{Machine as Boolean, game}
use Rattle.hp_boolx.specs.Search.{Set}
use Rattle.hp_boolx.specs.Solved.{IsLose}
use Rattle.hp_obc.specs.Form.{HasObcForm}
use Rattle.hp_obc.specs.Machines.{Machine, ObcType}
use Rattle.hp_tree.specs.Programs.{Contract, Node, TypeDecl}
use Rattle.hp_tree.specs.declared.program.Item.{Item}
use Rattle.hp_tree.specs.declared.program.Item.TheVariants.{NodeItem, TypeItem}
use Rattle.hp_automata.specs.Lowering.{lowered_program}
use Rattle.hp_complete.specs.Declaring.{known_of}
use Rattle.hp_complete.specs.Made.{HasCircle}
use Rattle.hp_complete.specs.Ordering.{IsCircular}
use Rattle.hp_flat.specs.Nodes.{FlatNode}
use Rattle.hp_form.specs.Regular.Regular.{EqnsRegular}
use Rattle.law_equations.specs.Made.Types.{obc_types_of}
use Rattle.hp_complete.specs.Ranges.{EqnWithin}
use Rattle.hp_abstract.specs.declared.abstracted.Abstraction.{Abstraction}
use Rattle.hp_abstract.specs.declared.error.AbsErr.{AbsErr}
use Rattle.hp_abstract.specs.declared.error.AbsErr.TheVariants as abstract
use Rattle.hp_abstract.specs.Abstractions.{IsAbstractionOf}
use Rattle.hp_abstract.specs.Machines.{IsRefused}
use Rattle.hp_watch.specs.Observing as observing
use Rattle.hp_watch.specs.Walk.{events_from, in_contract}
use Rattle.hp_watch.specs.Watching.{Observing}
use Rattle.hp_controlled.specs.declared.error.ControlledErr.{ControlledErr}
use Rattle.hp_controlled.specs.declared.error.ControlledErr.TheVariants.{NotBuilt}
use Rattle.hp_controlled.specs.Choosing.{AreNodesOf, Suits, telling}
use Rattle.hp_controlled.specs.Compiled.{AreCompiled, AreEquationsOf, AreObserved, contracts_of}

-- so it is where an error says so
abbrev pub SaysNotBuilt : Type 0 → ControlledErr → Type 0
SaysNotBuilt A e = e ≡ NotBuilt → A

-- ---- one node

-- A name has more bytes than one of a source text.
abbrev pub IsLong : List ℕ → Type 0
IsLong f = 255 < length f

-- A violation is forced in the game of the machine.
abbrev pub IsForced : Boolean → Type 0
IsForced m = (ranks : List Set) × IsLose (game m) ranks

-- Equations of a node read each other in a circle, where the numbers in them are those of its variables.
abbrev pub HasCircularEqns : FlatNode → Type 0
HasCircularEqns n = All (EqnWithin (length n.variables)) n.eqns → IsCircular n.eqns

-- There is no node that chooses.
pub data ChoosesNot (types : List ObcType) (observers : Observing) (node : Node) (n : FlatNode) (a : Abstraction) : Type 0 where
  long_name : IsLong node.name → ChoosesNot types observers node n a
  unsuited : (Suits types observers node n a → ⊥) → ChoosesNot types observers node n a
  circular : (s : Suits types observers node n a) → HasCircularEqns (telling node.name s.watched a s.controls).node → ChoosesNot types observers node n a

-- The contract has no Boolean machine, or one in which a violation is forced or that has a long name, or there is no node that chooses.
pub data LacksNodes (program : List Item) (types : List ObcType) (observers : Observing) (node : Node) (n : FlatNode) : Type 0 where
  refused : (e : AbsErr) → IsRefused program node e → (e ≡ abstract.OutOfMemory → ⊥) → LacksNodes program types observers node n
  forced : (a : Abstraction) → IsAbstractionOf program node a → IsForced a.machine → LacksNodes program types observers node n
  long_machine : (a : Abstraction) → IsAbstractionOf program node a → IsLong a.machine.name → LacksNodes program types observers node n
  chooses_not : (a : Abstraction) → IsAbstractionOf program node a → ChoosesNot types observers node n a → LacksNodes program types observers node n

-- There are no such nodes of a node with a contract, or equations of them are not regular.
pub data LacksMachines (program : List Item) (types : List ObcType) (observers : Observing) (node : Node) (n : FlatNode) : Type 0 where
  lacks_nodes : IsTrue (is_some node.contract) → LacksNodes program types observers node n → LacksMachines program types observers node n
  irregular : (these : List FlatNode) → AreNodesOf program types observers node n these → (AllByRecursion (EqnsRegular types) these → ⊥) → LacksMachines program types observers node n

-- ---- a program

-- one of some nodes, of which these are the clocked equations, lacks its machines, or there are fewer equations than nodes
pub data OneLacksMachines (program : List Item) (types : List ObcType) (observers : Observing) : List Item → List FlatNode → Type 0 where
  none_left : {items : List Item} (node : Node) → OneLacksMachines program types observers (NodeItem node ∷ items) []
  here : {items : List Item} {ns : List FlatNode} (node : Node) (n : FlatNode) → LacksMachines program types observers node n → OneLacksMachines program types observers (NodeItem node ∷ items) (n ∷ ns)
  behind_a_node : {items : List Item} {ns : List FlatNode} (node : Node) (n : FlatNode) → OneLacksMachines program types observers items ns → OneLacksMachines program types observers (NodeItem node ∷ items) (n ∷ ns)
  behind_a_type : {items : List Item} {ns : List FlatNode} (t : TypeDecl) → OneLacksMachines program types observers items ns → OneLacksMachines program types observers (TypeItem t ∷ items) ns

-- each contract has as many comparisons as its clocked equations
abbrev pub FitContracts : List Contract → List FlatNode → Type 0
FitContracts [] ns = ⊤
FitContracts (c ∷ cs) [] = ⊥
FitContracts (c ∷ cs) (n ∷ ns) = (in_contract c ≡ length (events_from 0 n.eqns)) × FitContracts cs ns

-- Clocked equations of a program without its automata read each other in a circle.
abbrev pub HasCircularEquations : List Item → Type 0
HasCircularEquations program = HasCircle (known_of (lowered_program program)) (lowered_program program)

-- There are no observers of the contracts, or the equations of contracts are not theirs.
pub data LacksObservers (program : List Item) : Type 0 where
  circular_contracts : HasCircularEquations (observing.observers program) → LacksObservers program
  unfitting : (ns : List FlatNode) → AreEquationsOf (observing.observers program) ns → (FitContracts (contracts_of program) ns → ⊥) → LacksObservers program

-- There are no clocked equations or no observers, or some node lacks its machines.
pub data LacksCompiled (program : List Item) (types : List ObcType) : Type 0 where
  circular_nodes : HasCircularEquations program → LacksCompiled program types
  no_observers : LacksObservers program → LacksCompiled program types
  one_lacks : (plants : List FlatNode) (observers : Observing) → AreEquationsOf program plants → AreObserved program observers → OneLacksMachines program types observers program plants → LacksCompiled program types

-- So it is, or the machines have no form.
pub data HasNoChosenMachines (program : List Item) : Type 0 where
  not_compiled : LacksCompiled program (obc_types_of program) → HasNoChosenMachines program
  formless : (machines : List Machine) → AreCompiled program (obc_types_of program) machines → (HasObcForm (obc_types_of program) machines → ⊥) → HasNoChosenMachines program
