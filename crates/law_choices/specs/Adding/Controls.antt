-- A node that keeps the registers of its machine, asks its controller and makes the values of its control variables has equations on the base clock behind its own.
-- Source: own.
use Rattle.std.specs.Prelude.{◌≡◌, ⊤, ℕ, ◌+◌, ◌-◌, ◌<◌, nat_lt, if◌then◌else◌, List, [], ◌∷◌, ◌++◌, length, map}
use Rattle.std.specs.List.{AllByRecursion, range_with_len}
use Rattle.hp_base.specs.Kinds.{KindData, Bools, Constructors}
use Rattle.hp_boolx.specs.Machine.{Machine, IsMachine}
use Rattle.hp_obc.specs.Machines.{ObcType}
use Rattle.hp_flat.specs.declared.node.Variable.{Variable}
use Rattle.hp_flat.specs.Equations.{Clock}
use Rattle.hp_flat.specs.Nodes.{FlatNode}
use Rattle.law_equations.specs.Meaning.Kinding.{Callees, constructors, variable_kind}
use Rattle.hp_controller.specs.declared.decoding.Control.{Control}
use Rattle.hp_controller.specs.declared.decoding.ControlKind.{ControlKind}
use Rattle.hp_controller.specs.declared.decoding.ControlKind.TheVariants.{Truth, Constructor}
use Rattle.hp_controller.specs.Controlled.{placing_of, bit_variables, controlled, IsControllable}
use Rattle.hp_controller.specs.Steps.{step_eqns}
use Rattle.law_choices.specs.Closed.Clocking.{IsFrontOf}
use Rattle.law_choices.specs.Adding.Keeping.{IsBased, Stays}

-- the clocks of a node's variables, and the base clock for all others
abbrev pub always : FlatNode → (ℕ → Clock) → ℕ → Clock
always n before x = if nat_lt x (length n.variables) then before x else []

-- a variable of a kind that is there always
pub record IsThereAlways (types : List ObcType) (n : FlatNode) (clock : ℕ → Clock) (k : KindData) (x : ℕ) : Type 0 where
  pub variable : x < length n.variables
  pub there : IsFrontOf (clock x) []
  pub kind : variable_kind types n.variables x ≡ k

-- so many truth values
abbrev pub bools : ℕ → List KindData
bools k = map (λ x. Bools) (range_with_len 0 k)

-- The node of a name takes the registers and the early bits of a machine, and gives its control bits.
pub record IsAskedFor (callees : Callees) (m : Machine) (name : List ℕ) : Type 0 where
  pub takes : callees.takes name ≡ bools (m.registers + m.early)
  pub gives : callees.gives name ≡ bools m.control

-- a control variable is a truth value, or a constructor of a type that has so many
abbrev pub HasControlKind : List ObcType → KindData → ControlKind → Type 0
HasControlKind types k Truth = k ≡ Bools
HasControlKind types k (Constructor e) = (k ≡ Constructors e.number (constructors types e.number)) × (e.constructors ≡ length (constructors types e.number)) × (0 < e.constructors)

-- so are those in a row, from a variable on
abbrev pub HaveControlKinds : List ObcType → List Variable → ℕ → List Control → Type 0
HaveControlKinds types variables target [] = ⊤
HaveControlKinds types variables target (c ∷ cs) = HasControlKind types (variable_kind types variables target) c.kind × HaveControlKinds types variables (target + 1) cs

-- the node with the registers of a machine, the question to its controller, and its gates
abbrev pub with_steps : FlatNode → Machine → List ℕ → List ℕ → List ℕ → FlatNode
with_steps n m name early late = record {
  name = n.name;
  variables = n.variables ++ bit_variables (length n.variables) m;
  inputs = n.inputs;
  outputs = n.outputs;
  eqns = n.eqns ++ step_eqns m (placing_of (length n.variables) m early late) name;
}

-- Where the early and the late variables are truth values that are there always, it stays well built.
abbrev pub StepsKeepLaw : Type 0
StepsKeepLaw =
    (types : List ObcType) (callees : Callees) (n : FlatNode) (before : ℕ → Clock) (m : Machine) (name early late : List ℕ) → IsBased types callees before n → IsMachine m → length early ≡ m.early → IsAskedFor callees m name
    → AllByRecursion (IsThereAlways types n before Bools) early → AllByRecursion (IsThereAlways types n before Bools) late → IsBased types callees (always n before) (with_steps n m name early late)

-- So does the node that chooses the values of its last inputs itself, where these are of the kinds of the control variables.
abbrev pub ControlledStaysLaw : Type 0
ControlledStaysLaw =
    (types : List ObcType) (callees : Callees) (n : FlatNode) (before : ℕ → Clock) (m : Machine) (name early late : List ℕ) (controls : List Control) → IsBased types callees before n → IsControllable n m early controls → IsAskedFor callees m name
    → AllByRecursion (IsThereAlways types n before Bools) early → AllByRecursion (IsThereAlways types n before Bools) late → HaveControlKinds types n.variables (n.inputs - length controls) controls
    → Stays types callees before n (controlled n m name early late controls)
