-- The node that chooses the values of its controllable variables, and the nodes of a contract that are made of it.
-- Source: own; in a step the early values come first, then the controller is asked, and then all else is computed (Delaval, Marchand and Rutten, LCTES 2010).
use Rattle.std.specs.Prelude.{◌≡◌, ⊤, ℕ, ◌+◌, ◌≤◌, ◌^◌, nat_lt, if◌then◌else◌, List, [], ◌∷◌, ◌++◌, length, map, drop, codes, slice_get, Option, None, Some, IsTrue, is_some}
use Rattle.hp_obc.specs.Machines.{ObcType}
use Rattle.hp_tree.specs.Meaning.{controls_of}
use Rattle.hp_tree.specs.Programs.{Node}
use Rattle.hp_tree.specs.declared.program.Item.{Item}
use Rattle.hp_flat.specs.declared.node.FlatTy.{FlatTy}
use Rattle.hp_flat.specs.declared.node.FlatTy.TheVariants as flat
use Rattle.hp_flat.specs.declared.node.Variable.{Variable}
use Rattle.hp_flat.specs.Nodes.{FlatNode}
use Rattle.law_equations.specs.Made.Laws.{unplaced}
use Rattle.law_equations.specs.Meaning.Scheduling.{IsRanked}
use Rattle.hp_boolx.specs.Machine.{Machine, IsMachine}
use Rattle.hp_abstract.specs.declared.abstracted.Abstraction.{Abstraction}
use Rattle.hp_abstract.specs.Abstractions.{IsAbstractionOf}
use Rattle.hp_watch.specs.Adding.{next_variable, with_copy}
use Rattle.hp_watch.specs.Watching.{Observing, Watched, IsWatched}
use Rattle.hp_controller.specs.declared.decoding.Control.{Control}
use Rattle.hp_controller.specs.declared.decoding.ControlKind.{ControlKind}
use Rattle.hp_controller.specs.declared.decoding.ControlKind.TheVariants.{Truth, Constructor}
use Rattle.hp_controller.specs.Controlled.{controlled}
use Rattle.hp_controller.specs.Controlling.{IsController}
use Rattle.hp_controller.specs.Decoding.{HasBits}
use Rattle.hp_controlled.specs.declared.node.Chosen as held
use Rattle.hp_controlled.specs.Parts.{IsPart}

-- ---- controllable variables

-- a constructor of the type with a number, which has fewer than 256
abbrev pub constructor_kind : ℕ → Option ObcType → Option ControlKind
constructor_kind t None = None
constructor_kind t (Some ty) = if nat_lt (length ty.cons) 256 then Some (Constructor (record { number = t; constructors = length ty.cons })) else None

-- what a controllable variable is: a truth value, or a constructor
abbrev pub control_kind : List ObcType → FlatTy → Option ControlKind
control_kind types flat.Bool = Some Truth
control_kind types flat.Int = None
control_kind types (flat.Enum t) = constructor_kind t (slice_get types t)

-- a truth value has one bit
pub record IsControl (types : List ObcType) (v : Variable) (bits : ℕ) (c : Control) : Type 0 where
  pub kind : control_kind types v.ty ≡ Some c.kind
  pub width : c.width ≡ bits
  pub has : HasBits c.kind bits

-- the first of some variables are controllable, each with so many bits
abbrev pub AreControls : List ObcType → List Variable → List ℕ → List Control → Type 0
AreControls types vs [] [] = ⊤
AreControls types vs [] (c ∷ cs) = ⊥
AreControls types [] (w ∷ ws) cs = ⊥
AreControls types (v ∷ vs) (w ∷ ws) [] = ⊥
AreControls types (v ∷ vs) (w ∷ ws) (c ∷ cs) = IsControl types v w c × AreControls types vs ws cs

-- ---- the node that chooses

-- It is watched, and its early and late bits are as many as those that are given to the machine.
pub record Sees (types : List ObcType) (observers : Observing) (node : Node) (n : FlatNode) (a : Abstraction) (w : Watched) : Type 0 where
  pub is_watched : IsWatched types observers node (map (λ g. g.is_early) a.given.items) n w
  pub early : length w.early ≡ a.machine.early
  pub late : length w.late ≡ a.machine.late

-- The clocked equations suit the contract of the node: behind the node's own inputs stand its controllable variables, of each of which the machine has bits, and the bits of the free places are those that are given to the machine.
pub record Suits (types : List ObcType) (observers : Observing) (node : Node) (n : FlatNode) (a : Abstraction) : Type 0 where
  pub inputs : n.inputs ≡ length node.inputs + length (controls_of node.contract)
  pub widths : length a.machine.widths ≡ length (controls_of node.contract)
  pub controls : List Control
  pub are : AreControls types (drop (length node.inputs) n.variables) a.machine.widths controls
  pub watched : Watched
  pub sees : Sees types observers node n a watched

abbrev pub controller_name : List ℕ → List ℕ
controller_name f = f ++ codes "$ctl"

abbrev pub contract_name : List ℕ → List ℕ
contract_name f = f ++ codes "$contract"

-- the node that is watched, which keeps the registers of its machine and asks its controller
abbrev pub asking : List ℕ → Watched → Abstraction → List Control → FlatNode
asking f w a controls = controlled w.node a.machine (controller_name f) w.early w.late controls

-- the variable of the first gate of the machine in it: registers and control bits stand before
abbrev pub first_gate : Watched → Machine → ℕ
first_gate w m = length w.node.variables + m.registers + m.control

-- A node, and the variables of what is assumed and of what is enforced.
pub record Telling : Type 0 where
  pub node : FlatNode
  pub assume : ℕ
  pub enforce : ℕ

-- as the code holds it
abbrev pub telling_seen : held.Chosen → Telling
telling_seen c = record { node = c.node; assume = c.assume; enforce = c.enforce }

-- a node with a copy of each of two variables; the two may be one, and an output stands once
abbrev pub with_copies : ℕ → ℕ → FlatNode → Telling
with_copies assume enforce n =
    let one = with_copy assume n in
    record { node = with_copy enforce one; assume = next_variable n; enforce = next_variable one }

-- the gates of what is assumed and enforced are copied
abbrev pub telling : List ℕ → Watched → Abstraction → List Control → Telling
telling f w a controls =
    let gates = first_gate w a.machine in
    with_copies (gates + a.assume) (gates + a.enforce) (asking f w a controls)

-- The equations of a node have their places: each stands behind those that it reads. All else stays.
pub record IsOrdered (n other : FlatNode) : Type 0 where
  pub name : other.name ≡ n.name
  pub variables : other.variables ≡ n.variables
  pub inputs : other.inputs ≡ n.inputs
  pub outputs : other.outputs ≡ n.outputs
  pub eqns : map unplaced other.eqns ≡ map unplaced n.eqns
  pub ranked : IsRanked other.eqns

-- so it is of a node, with the same two variables
pub record IsInOrder (t other : Telling) : Type 0 where
  pub node : IsOrdered t.node other.node
  pub assume : other.assume ≡ t.assume
  pub enforce : other.enforce ≡ t.enforce

-- The node that chooses, made of clocked equations that suit it.
pub record IsChoosing (types : List ObcType) (observers : Observing) (node : Node) (n : FlatNode) (a : Abstraction) (c : Telling) : Type 0 where
  pub suits : Suits types observers node n a
  pub is : IsInOrder (telling node.name suits.watched a suits.controls) c

-- ---- the nodes of a contract

-- A node that has nothing to choose is that of its own clocked equations. Another one is the part of the node that chooses that its outputs read.
pub data IsOwn (node : Node) (n : FlatNode) (c : Telling) (own : FlatNode) : Type 0 where
  that_stays : controls_of node.contract ≡ [] → own ≡ n → IsOwn node n c own
  that_chooses : (controls_of node.contract ≡ [] → ⊥) → IsPart c.node node.name c.node.outputs own → IsOwn node n c own

-- its clocked equations are kept, if they are those of its own machine
abbrev pub IsKept : Node → FlatNode → Option FlatNode → Type 0
IsKept node n None = controls_of node.contract ≡ [] → ⊥
IsKept node n (Some own) = (controls_of node.contract ≡ []) × (own ≡ n)

-- the outputs of the node and what is assumed and enforced
abbrev pub told_outputs : Telling → List ℕ
told_outputs c = c.node.outputs ++ c.assume ∷ c.enforce ∷ []

-- the node that also tells what is assumed and enforced
abbrev pub IsTold : Node → Telling → FlatNode → Type 0
IsTold node c told = IsPart c.node (contract_name node.name) (told_outputs c) told

-- Both are made of the node that chooses, which has no more variables than a machine's words tell apart.
pub record AreChosenNodes (types : List ObcType) (observers : Observing) (node : Node) (n : FlatNode) (a : Abstraction) (own told : FlatNode) : Type 0 where
  pub choosing : Telling
  pub is_choosing : IsChoosing types observers node n a choosing
  pub few : length choosing.node.variables ≤ 2 ^ 64
  pub itself : IsOwn node n choosing own
  pub tells : IsTold node choosing told

-- Of a node with a contract: its controller, the node itself, and the one that also tells what is assumed and enforced.
pub record AreOfContract (program : List Item) (types : List ObcType) (observers : Observing) (node : Node) (n controller own told : FlatNode) : Type 0 where
  pub abstraction : Abstraction
  pub is_abstraction : IsAbstractionOf program node abstraction
  pub is_machine : IsMachine abstraction.machine
  pub controls : IsController abstraction.machine controller
  pub chosen : AreChosenNodes types observers node n abstraction own told

-- the nodes of a node, of which these are the clocked equations
pub data AreNodesOf (program : List Item) (types : List ObcType) (observers : Observing) (node : Node) (n : FlatNode) : List FlatNode → Type 0 where
  without_contract : node.contract ≡ None → AreNodesOf program types observers node n (n ∷ [])
  with_contract : (controller own told : FlatNode) → IsTrue (is_some node.contract) → AreOfContract program types observers node n controller own told → AreNodesOf program types observers node n (controller ∷ own ∷ told ∷ [])
