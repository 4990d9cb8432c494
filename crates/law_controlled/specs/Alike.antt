-- That a program whose nodes choose has one list of machines, but for the commands of controllers: these give the same choice, and keep nothing.
-- Source: own; a controller is a function of states and early values (Delaval, Marchand and Rutten, LCTES 2010), and what else is made of a program the program determines.
use Rattle.std.specs.Prelude.{◌≡◌, ⊤, ℕ, List, [], ◌∷◌, map, Some}
use Rattle.hp_boolx.specs.Machine.{Machine as BoolMachine}
use Rattle.hp_exec.specs.Hooked.{AgreeInKind}
use Rattle.hp_flat.specs.Nodes.{FlatNode}
use Rattle.hp_machines.specs.Making.{IsMachineOf}
use Rattle.hp_obc.specs.Form.{machine_named}
use Rattle.hp_obc.specs.Kinded.{kinds_in, machine_keeps}
use Rattle.hp_obc.specs.Machines.{Machine, Obc, ObcType}
use Rattle.hp_obc.specs.Steps.{machine_behaviour}
use Rattle.law_equations.specs.Made.Laws.{unplaced}
use Rattle.hp_controller.specs.Controlling.{IsController}
use Rattle.law_controlled.specs.Machines.{HasShape}

-- ---- clocked equations

-- a node without the places of its equations
abbrev pub bare : FlatNode → FlatNode
bare n = record { name = n.name; variables = n.variables; inputs = n.inputs; outputs = n.outputs; eqns = map unplaced n.eqns }

-- Two nodes are controllers of one machine.
pub record AreControllers (n other : FlatNode) : Type 0 where
  pub machine : BoolMachine
  pub first : IsController machine n
  pub second : IsController machine other

-- Two nodes are the same but for places, or controllers of one machine.
pub data IsAlike (n other : FlatNode) : Type 0 where
  the_same : bare n ≡ bare other → IsAlike n other
  both_control : AreControllers n other → IsAlike n other

-- so they are one by one
abbrev pub AreAlike : List FlatNode → List FlatNode → Type 0
AreAlike [] [] = ⊤
AreAlike [] (k ∷ ks) = ⊥
AreAlike (n ∷ ns) [] = ⊥
AreAlike (n ∷ ns) (k ∷ ks) = IsAlike n k × AreAlike ns ks

-- ---- machines

-- Two machines are made of controllers of one machine.
pub record BothControl (types : List ObcType) (m other : Machine) : Type 0 where
  pub node : FlatNode
  pub made : IsMachineOf types node m
  pub shape : HasShape node
  pub other_node : FlatNode
  pub other_made : IsMachineOf types other_node other
  pub other_shape : HasShape other_node
  pub are : AreControllers node other_node

-- Two machines are one, or of controllers of one machine.
pub data IsNearly (types : List ObcType) (m other : Machine) : Type 0 where
  one : m ≡ other → IsNearly types m other
  control : BothControl types m other → IsNearly types m other

abbrev pub AreNearly : List ObcType → List Machine → List Machine → Type 0
AreNearly types [] [] = ⊤
AreNearly types [] (k ∷ ks) = ⊥
AreNearly types (m ∷ ms) [] = ⊥
AreNearly types (m ∷ ms) (k ∷ ks) = IsNearly types m k × AreNearly types ms ks

-- ---- what they do

-- The machine of a name among others keeps values of the same kinds, and does the same in each step from a memory of the kinds on inputs of theirs.
pub record IsOneOf (o other : Obc) (f : List ℕ) (m : Machine) : Type 0 where
  pub keeps : machine_keeps o f ≡ machine_keeps other f
  pub does : AgreeInKind (kinds_in o.types m.inputs) (machine_keeps o f) (machine_behaviour other f) (machine_behaviour o f)

-- So it is of each machine of a list.
abbrev pub AreOneList : Obc → Obc → Type 0
AreOneList o other = (f : List ℕ) (m : Machine) → machine_named o.machines f ≡ Some m → IsOneOf o other f m
