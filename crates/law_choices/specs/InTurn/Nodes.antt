-- The nodes that are made of those of a program: one with a contract has a controller, and chooses the values of its controllable variables itself.
-- Source: own; the controller as a node of its own after Delaval, Marchand and Rutten (LCTES 2010).
use Rattle.std.specs.Prelude.{◌≡◌, ⊤, codes, Bool, ℕ, suc, ◌+◌, if◌then◌else◌, List, [], ◌∷◌, ◌++◌, length, map, Option, None, Some}
use Rattle.std.specs.List.{AllByRecursion, flat_map}
use Rattle.std.specs.Str.{bytes_eq}
use Rattle.hp_boolx.specs.Machine.{Machine, IsMachine}
use Rattle.hp_obc.specs.Machines.{ObcType}
use Rattle.hp_tree.specs.declared.program.Item.{Item}
use Rattle.hp_tree.specs.declared.program.Item.TheVariants.{TypeItem, NodeItem}
use Rattle.hp_tree.specs.Programs.{Contract, Node}
use Rattle.hp_tree.specs.Meaning.{controls_of}
use Rattle.hp_flat.specs.declared.node.FlatTy.{FlatTy}
use Rattle.hp_flat.specs.declared.node.FlatTy.TheVariants as flat
use Rattle.hp_flat.specs.Nodes.{FlatNode}
use Rattle.law_equations.specs.Meaning.Kinding.{Callees, constructors, kinds_at}
use Rattle.law_equations.specs.Meaning.Reactions.{inputs_of}
use Rattle.hp_controller.specs.declared.decoding.Control.{Control}
use Rattle.hp_controller.specs.declared.decoding.ControlKind.{ControlKind}
use Rattle.hp_controller.specs.declared.decoding.ControlKind.TheVariants.{Truth, Constructor}
use Rattle.hp_controller.specs.Controlled.{controlled}
use Rattle.hp_controller.specs.Controlling.{IsController}
use Rattle.hp_controller.specs.Decoding.{HasBits, total_width}
use Rattle.hp_watch.specs.Adding.{type_at}
use Rattle.hp_watch.specs.Watching.{Observing, Watched, IsWatched}
use Rattle.law_choices.specs.Answered.Loops.{Loop}
use Rattle.law_choices.specs.Adding.Whole.{IsWhole}

-- ---- one node

-- A node that chooses, and the variables of what its contract assumes and enforces.
pub record Chosen : Type 0 where
  pub node : FlatNode
  pub assume : ℕ
  pub enforce : ℕ

-- the node of a contract, where its controllable variables are inputs; its controller; what stands for it; and the node that chooses
pub record Contracted : Type 0 where
  pub plant : FlatNode
  pub controller : FlatNode
  pub own : FlatNode
  pub chosen : Chosen

-- what is made of a node
pub data Made : Type 0 where
  plain : FlatNode → Made
  contracted : Contracted → Made

-- no name of a source text holds the sign
abbrev pub controller_name : List ℕ → List ℕ
controller_name f = f ++ codes "$ctl"

abbrev pub contract_name : List ℕ → List ℕ
contract_name f = f ++ codes "$contract"

-- the node that chooses, which also tells what is assumed and enforced
abbrev pub telling : Chosen → FlatNode
telling c = record { name = contract_name c.node.name; variables = c.node.variables; inputs = c.node.inputs; outputs = c.node.outputs ++ c.assume ∷ c.enforce ∷ []; eqns = c.node.eqns }

-- ---- how it is made

-- what a control variable of a type is
abbrev pub IsOfType : List ObcType → FlatTy → ControlKind → Type 0
IsOfType types flat.Bool Truth = ⊤
IsOfType types (flat.Enum t) (Constructor e) = (e.number ≡ t) × (e.constructors ≡ length (constructors types t))
IsOfType types ty kind = ⊥

-- so are those in a row, from a variable on
abbrev pub AreOfTypes : List ObcType → FlatNode → ℕ → List Control → Type 0
AreOfTypes types n target [] = ⊤
AreOfTypes types n target (c ∷ cs) = IsOfType types (type_at n target) c.kind × AreOfTypes types n (target + 1) cs

-- a node without controllable variables stands for itself, and else the one that chooses
abbrev pub IsOwn : List Control → Contracted → Type 0
IsOwn [] c = c.own ≡ c.plant
IsOwn (k ∷ ks) c = c.own ≡ c.chosen.node

-- The node is watched, and asks the controller of its machine, whose control variables are its own ones. The variables of what is assumed and enforced are the last ones.
pub record IsContracted (types : List ObcType) (observers : Observing) (node : Node) (c : Contracted) : Type 0 where
  pub machine : Machine
  pub is_machine : IsMachine machine
  pub named : machine.name ≡ node.name
  pub controller : IsController machine c.controller
  pub controls : List Control
  pub count : length controls ≡ length (controls_of node.contract)
  pub kinds : AreOfTypes types c.plant (length node.inputs) controls
  pub bits : AllByRecursion (λ (k : Control). HasBits k.kind k.width) controls
  pub widths : total_width controls ≡ machine.control
  pub is_early : List Bool
  pub watched : Watched
  pub is_watched : IsWatched types observers node is_early c.plant watched
  pub early : length watched.early ≡ machine.early
  pub whole : IsWhole watched.node machine (controller_name node.name) watched.early watched.late controls c.chosen.node
  pub assume : c.chosen.assume ≡ length (controlled watched.node machine (controller_name node.name) watched.early watched.late controls).variables
  pub enforce : c.chosen.enforce ≡ suc c.chosen.assume
  pub own : IsOwn controls c

-- ---- programs

-- what is made of a node is plain, if it has no contract
abbrev pub IsMade : List ObcType → Observing → Node → Option Contract → Made → Type 0
IsMade types observers node None (plain f) = ⊤
IsMade types observers node (Some k) (contracted c) = IsContracted types observers node c
IsMade types observers node contract made = ⊥

-- so it is of each node of some items, in order
abbrev pub AreAllMade : List ObcType → Observing → List Item → List Made → Type 0
AreAllMade types observers [] [] = ⊤
AreAllMade types observers [] (m ∷ ms) = ⊥
AreAllMade types observers (TypeItem t ∷ items) ms = AreAllMade types observers items ms
AreAllMade types observers (NodeItem n ∷ items) [] = ⊥
AreAllMade types observers (NodeItem n ∷ items) (m ∷ ms) = IsMade types observers n n.contract m × AreAllMade types observers items ms

-- the node in which controllable variables are inputs, and the one that stands for it
abbrev pub loop_of : Made → Loop
loop_of (plain f) = record { plant = f; closed = f }
loop_of (contracted c) = record { plant = c.plant; closed = c.own }

abbrev pub loops : List Made → List Loop
loops ms = map loop_of ms

-- all nodes that are made of a node, each behind those that it calls
abbrev pub nodes_of : Made → List FlatNode
nodes_of (plain f) = f ∷ []
nodes_of (contracted c) = c.controller ∷ c.own ∷ telling c.chosen ∷ []

abbrev pub all_nodes : List Made → List FlatNode
all_nodes ms = flat_map nodes_of ms

-- those that stand for no node of the program
abbrev pub besides : Made → List FlatNode
besides (plain f) = []
besides (contracted c) = c.controller ∷ telling c.chosen ∷ []

-- ---- what is said of all nodes

-- some nodes take and give what they have, and others what is said of them
abbrev pub also_said : List ObcType → List FlatNode → Callees → Callees
also_said types [] callees = callees
also_said types (n ∷ ns) callees = record {
  takes = λ f. if bytes_eq n.name f then kinds_at types n (inputs_of n) else (also_said types ns callees).takes f;
  gives = λ f. if bytes_eq n.name f then kinds_at types n n.outputs else (also_said types ns callees).gives f;
}

abbrev pub all_said : List ObcType → List Made → Callees → Callees
all_said types ms callees = also_said types (flat_map besides ms) callees
