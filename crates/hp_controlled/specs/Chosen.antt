-- The machines of a program whose nodes choose the values of their controllable variables.
use Rattle.std.specs.Prelude.{◌≡◌, ℕ, List, [], ◌∷◌, ◌++◌, Some}
use Rattle.hp_base.specs.declared.ty.Ty.TheVariants.{Bool}
use Rattle.hp_machines.specs.Machined.{Heading, heading_of_machine, vars_of}
use Rattle.hp_obc.specs.Form.{MachinesForm, TypesForm, machine_named}
use Rattle.hp_obc.specs.Machines.{Machine, Obc}
use Rattle.hp_obc.specs.declared.machine.Var.{Var}
use Rattle.law_equations.specs.Made.Types.{obc_types_of}
use Rattle.hp_tree.specs.Programs.{Node}
use Rattle.hp_tree.specs.declared.program.Item.{Item}
use Rattle.hp_controlled.specs.Compiled.{AreCompiled}

-- The types are those of the program, and types and machines have form. The machines are those of the program's nodes, which choose, and of their contracts.
pub record AreControlledMachines (program : List Item) (o : Obc) : Type 0 where
  pub types : o.types ≡ obc_types_of program
  pub form : TypesForm o.types
  pub machines_form : MachinesForm o.types [] o.machines
  pub machines : AreCompiled program o.types o.machines

-- what a node takes and gives that chooses the values of its controllable variables itself
abbrev pub own_heading : Node → Heading
own_heading n = record { name = n.name; inputs = vars_of n.inputs; outputs = vars_of n.outputs }

-- The machine of this name among some is called as the node, takes its inputs and gives its outputs.
pub record IsChosen (name : List ℕ) (o : Obc) (n : Node) : Type 0 where
  pub machine : Machine
  pub named : machine_named o.machines name ≡ Some machine
  pub headed : heading_of_machine machine ≡ own_heading n

abbrev pub truth : List ℕ → Var
truth name = record { name = name; ty = Bool }

-- The machine of this name among some takes the inputs of the node, and gives its outputs and two truth values more: what the contract assumes, and what it enforces.
pub record IsToldBy (name : List ℕ) (o : Obc) (n : Node) : Type 0 where
  pub machine : Machine
  pub named : machine_named o.machines name ≡ Some machine
  pub inputs : machine.inputs ≡ vars_of n.inputs
  pub assume : List ℕ
  pub enforce : List ℕ
  pub outputs : machine.outputs ≡ vars_of n.outputs ++ truth assume ∷ truth enforce ∷ []
