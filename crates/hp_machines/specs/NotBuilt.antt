-- Why a program would have no machines though there is memory. Of no accepted program without contracts is any of it so.
use Rattle.std.specs.Prelude.{◌≡◌, List}
use Rattle.std.specs.List.{AllByRecursion}
use Rattle.hp_obc.specs.Form.{HasObcForm}
use Rattle.hp_obc.specs.Machines.{Machine}
use Rattle.hp_tree.specs.declared.program.Item.{Item}
use Rattle.hp_automata.specs.Lowering.{lowered_program}
use Rattle.hp_flat.specs.Nodes.{FlatNode}
use Rattle.law_equations.specs.Made.Types.{obc_types_of}
use Rattle.hp_complete.specs.Declaring.{known_of}
use Rattle.hp_complete.specs.Made.{AreMadeOf, HasCircle}
use Rattle.hp_complete.specs.Signatures.{AreFlat, places_of}
use Rattle.hp_form.specs.Regular.Regular.{EqnsRegular}
use Rattle.hp_machines.specs.Making.{AreMade}
use Rattle.hp_machines.specs.declared.error.MachineErr.{MachineErr}
use Rattle.hp_machines.specs.declared.error.MachineErr.TheVariants.{NotBuilt, OutOfMemory}
use Rattle.hp_complete.specs.declared.error.FlattenErr.{FlattenErr}
use Rattle.hp_complete.specs.declared.error.FlattenErr.TheVariants as flatten
use Rattle.hp_complete.specs.declared.error.FlattenErr.TheVariants.{Cycle}
use Rattle.hp_form.specs.declared.error.FormErr.{FormErr}
use Rattle.hp_form.specs.declared.error.FormErr.TheVariants as form
use Rattle.hp_form.specs.declared.error.FormErr.TheVariants.{NoForm}

-- the equations that are made of the nodes, from which automata were removed before
pub record AreEquations (program : List Item) (nodes : List FlatNode) : Type 0 where
  pub flat : AreFlat (places_of (lowered_program program)) (lowered_program program) nodes
  pub made : AreMadeOf (known_of (lowered_program program)) (lowered_program program) nodes

-- The equations of some node read each other in a circle, or some equation is not regular, or the machines of regular equations have no form.
pub data HasNoMachines (program : List Item) : Type 0 where
  circular : HasCircle (known_of (lowered_program program)) (lowered_program program) → HasNoMachines program
  irregular : (nodes : List FlatNode) → AreEquations program nodes → (AllByRecursion (EqnsRegular (obc_types_of program)) nodes → ⊥) → HasNoMachines program
  formless : (nodes : List FlatNode) (machines : List Machine) → AreEquations program nodes → AreMade (obc_types_of program) nodes machines → (HasObcForm (obc_types_of program) machines → ⊥) → HasNoMachines program

-- an error of a pass is told on
abbrev pub IsOfFlatten : FlattenErr → MachineErr → Type 0
IsOfFlatten Cycle e = e ≡ NotBuilt
IsOfFlatten flatten.OutOfMemory e = e ≡ OutOfMemory

abbrev pub IsOfForm : FormErr → MachineErr → Type 0
IsOfForm NoForm e = e ≡ NotBuilt
IsOfForm form.OutOfMemory e = e ≡ OutOfMemory

-- so it is where an error says so
abbrev pub SaysNotBuilt : Type 0 → MachineErr → Type 0
SaysNotBuilt A e = e ≡ NotBuilt → A
