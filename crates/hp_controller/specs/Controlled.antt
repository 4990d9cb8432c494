-- A node that chooses the values of its last inputs itself.
-- Source: own; in a step the early values come first, then the controller is asked, and then all else is computed (Delaval, Marchand and Rutten, LCTES 2010).
use Rattle.std.specs.Prelude.{◌≡◌, ⊤, ℕ, ◌+◌, ◌-◌, ◌≤◌, List, [], ◌∷◌, ◌++◌, length, map}
use Rattle.std.specs.List.{AllByRecursion, range_with_len}
use Rattle.hp_base.specs.declared.value.Value.{Value}
use Rattle.hp_boolx.specs.Machine.{Machine, IsMachine}
use Rattle.hp_flat.specs.declared.node.FlatTy.TheVariants.{Bool}
use Rattle.hp_flat.specs.declared.node.Variable.{Variable}
use Rattle.hp_flat.specs.Nodes.{FlatNode}
use Rattle.law_equations.specs.Meaning.Instants.{Instant}
use Rattle.law_equations.specs.Meaning.Reactions.{Answers, Reaction}
use Rattle.law_equations.specs.Meaning.Scheduling.{EqnWithin}
use Rattle.hp_controller.specs.declared.decoding.Control.{Control}
use Rattle.hp_controller.specs.Controllers.{added_variable}
use Rattle.hp_controller.specs.Decoding.{Decoded, controls_eqns, values_by, total_width, HasBits}
use Rattle.hp_controller.specs.Extending.{cut, rows_with}
use Rattle.hp_controller.specs.Steps.{Placing, step_eqns, AreBits, AnswersAsController, AlwaysSteered}

-- where a node of so many variables has those of its machine: behind them, registers, control bits and gates
abbrev pub placing_of : ℕ → Machine → List ℕ → List ℕ → Placing
placing_of from m early late = record { registers = from; early = early; control = from + m.registers; late = late; gates = from + m.registers + m.control }

-- how many of these there are
abbrev pub bits_added : Machine → ℕ
bits_added m = m.registers + m.control + length m.gates

-- the bits behind the variables of a node
abbrev pub bit_variables : ℕ → Machine → List Variable
bit_variables from m = map (λ x. added_variable x Bool) (range_with_len from (bits_added m))

-- what makes the control variables, the last inputs of a node
abbrev pub decoded_controls : FlatNode → Machine → List Control → Decoded
decoded_controls n m controls = controls_eqns (n.inputs - length controls) (length n.variables + m.registers) (length n.variables + bits_added m) controls

-- The node without its last inputs, which are the control variables: it keeps the registers of the machine, asks the controller of this name, and makes their values of its bits.
abbrev pub controlled : FlatNode → Machine → List ℕ → List ℕ → List ℕ → List Control → FlatNode
controlled n m name early late controls = record {
  name = n.name;
  variables = (n.variables ++ bit_variables (length n.variables) m) ++ (decoded_controls n m controls).variables;
  inputs = n.inputs - length controls;
  outputs = n.outputs;
  eqns = (n.eqns ++ step_eqns m (placing_of (length n.variables) m early late) name) ++ (decoded_controls n m controls).eqns;
}

-- The last inputs of a node are the control variables of a machine, whose early variables are as many as these.
pub record IsControllable (n : FlatNode) (m : Machine) (early : List ℕ) (controls : List Control) : Type 0 where
  pub machine : IsMachine m
  pub inputs : length controls ≤ n.inputs
  pub variables : n.inputs ≤ length n.variables
  pub within : AllByRecursion (EqnWithin (length n.variables)) n.eqns
  pub as_many : length early ≡ m.early
  pub bits : AllByRecursion (λ (c : Control). HasBits c.kind c.width) controls
  pub widths : total_width controls ≡ m.control

-- at each instant the control variables have the values of the choice
abbrev pub AreChosen : (m : Machine) (p : Placing) → ℕ → List Control → (instants : List Instant) → AlwaysSteered m p instants → Type 0
AreChosen m p target controls [] s = ⊤
AreChosen m p target controls (now ∷ past) s = (map now (range_with_len target (length controls)) ≡ values_by controls (s.0).choice) × AreChosen m p target controls past s.1

-- A reaction of it, in the variables of the node, is a reaction of the node over its inputs and the values of the choice.
pub record IsControlledRun (answers : Answers) (n : FlatNode) (m : Machine) (early late : List ℕ) (controls : List Control) (rows : List (List Value)) (instants : List Instant) : Type 0 where
  pub reaction : Reaction answers n (rows_with (n.inputs - length controls) (length controls) rows instants) (map (cut (length n.variables)) instants)
  pub steered : AlwaysSteered m (placing_of (length n.variables) m early late) instants
  pub chosen : AreChosen m (placing_of (length n.variables) m early late) (n.inputs - length controls) controls instants steered

abbrev pub ControlledLaw : Type 0
ControlledLaw =
    (answers : Answers) (n : FlatNode) (m : Machine) (name : List ℕ) (early late : List ℕ) (controls : List Control) → IsControllable n m early controls → AnswersAsController answers m name
    → (rows : List (List Value)) (instants : List Instant) → Reaction answers (controlled n m name early late controls) rows instants → AllByRecursion (λ (i : Instant). AreBits i early × AreBits i late) instants
    → IsControlledRun answers n m early late controls rows instants
