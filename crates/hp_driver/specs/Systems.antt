-- What is run on a trace.
use Rattle.std.specs.Prelude.{◌≡◌, ℕ, List, [], None, Some}
use Rattle.hp_base.specs.Kinds.{KindData}
use Rattle.hp_base.specs.declared.value.Value.{Value}
use Rattle.hp_obc.specs.Form.{machine_named}
use Rattle.hp_obc.specs.Kinded.{kinds_in}
use Rattle.hp_obc.specs.Machines.{Machine, Obc}
use Rattle.hp_obc.specs.Steps.{Memory, machine_behaviour, outputs_from, run}
use Rattle.hp_obc.specs.declared.machine.Var.{Var}
use Rattle.hp_tree.specs.Reaction.{IsRun}
use Rattle.hp_tree.specs.declared.program.Item.{Item}
use Rattle.law_decided.specs.Promised.{KeepsContracts}
use Rattle.hp_lines.specs.Lines.{line_of}
use Rattle.hp_driver.specs.NodeKinds.{input_kinds, output_kinds}
use Rattle.hp_driver.specs.Telling.{told_line}
use Rattle.hp_driver.specs.declared.telling.Ending.{Ending}

-- a node of a program, or a machine of a file of machines, by its name; a machine whose lines also tell the values of a contract; or a machine from a memory on
pub data System : Type 0 where
  of_node : List Item → List ℕ → System
  of_machine : Obc → List ℕ → System
  that_tells : Ending → Obc → List ℕ → System
  from_memory : Obc → List ℕ → Memory → System

-- the kinds of some variables of the machine of a name
abbrev pub machine_kinds : (Machine → List Var) → Obc → List ℕ → List KindData
machine_kinds vars o node = elim (machine_named o.machines node) [ None ↦ [] | Some m ↦ kinds_in o.types (vars m) ]

-- the kinds of its inputs and of its outputs, in declared order
abbrev pub inputs_of : System → List KindData
inputs_of (of_node program node) = input_kinds program node
inputs_of (of_machine o node) = machine_kinds (λ (m : Machine). m.inputs) o node
inputs_of (that_tells ending o node) = machine_kinds (λ (m : Machine). m.inputs) o node
inputs_of (from_memory o node kept) = machine_kinds (λ (m : Machine). m.inputs) o node

abbrev pub outputs_of : System → List KindData
outputs_of (of_node program node) = output_kinds program node
outputs_of (of_machine o node) = machine_kinds (λ (m : Machine). m.outputs) o node
outputs_of (that_tells ending o node) = machine_kinds (λ (m : Machine). m.outputs) o node
outputs_of (from_memory o node kept) = machine_kinds (λ (m : Machine). m.outputs) o node

-- the line of some outputs
abbrev pub line_in : System → List Value → List ℕ
line_in (of_node program node) outputs = line_of (output_kinds program node) outputs
line_in (of_machine o node) outputs = line_of (machine_kinds (λ (m : Machine). m.outputs) o node) outputs
line_in (that_tells ending o node) outputs = told_line ending (machine_kinds (λ (m : Machine). m.outputs) o node) outputs
line_in (from_memory o node kept) outputs = line_of (machine_kinds (λ (m : Machine). m.outputs) o node) outputs

-- Over these inputs it gives these outputs, some for each instant: those of the node's one run, in each reaction of which each instance keeps its contract, at every depth; or of the steps from a reset, or from the memory, on.
abbrev pub Gives : System → List (List Value) → List (List Value) → Type 0
Gives (of_node program node) inputs outputs = IsRun program node inputs outputs × KeepsContracts program node inputs
Gives (of_machine o node) inputs outputs = outputs ≡ run (machine_behaviour o node) inputs
Gives (that_tells ending o node) inputs outputs = outputs ≡ run (machine_behaviour o node) inputs
Gives (from_memory o node kept) inputs outputs = outputs ≡ outputs_from (machine_behaviour o node) kept inputs
