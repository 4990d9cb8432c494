-- That the text which `compile` writes does what its program does.
use Rattle.std.specs.Prelude.{◌≡◌, ℕ, false, List, Option, Some}
use Rattle.hp_io.specs.Files.{Files}
use Rattle.hp_obc.specs.Form.{machine_named}
use Rattle.hp_obc.specs.Machines.{Machine, Obc}
use Rattle.hp_obctext.specs.Answers.{IsTextOf}
use Rattle.hp_tree.specs.Meaning.{node_among}
use Rattle.hp_tree.specs.Programs.{Node}
use Rattle.hp_driver.specs.Agreeing.{AgreesWith}
use Rattle.hp_driver.specs.Controls.{has_controls}
use Rattle.hp_driver.specs.Leaves.{IsPrinted}
use Rattle.hp_driver.specs.Outcome.{AreCompiled}
use Rattle.hp_driver.specs.Systems.{of_node, of_machine}

-- The text that is written of a program, where it stands for machines, stands for those of the program. So without controllable variables the machine of each node agrees there with the node: `exec` says of it what `run` says of the program.
-- Machines of contracts that stand between them change nothing of it.
pub record IsWritten (files : Option Files) (file : List ℕ) (o read : Obc) (compiled : AreCompiled files file o) : Type 0 where
  pub same : read ≡ o
  pub agree : has_controls compiled.program ≡ false → (node : List ℕ) (n : Node) → node_among compiled.held.clocked node ≡ Some n
      → (m : Machine) × (machine_named read.machines node ≡ Some m) × AgreesWith (of_machine read node) (of_node compiled.held.clocked node)

abbrev pub WrittenLaw : Type 0
WrittenLaw = (files : Option Files) (file : List ℕ) (o read : Obc) (text : List ℕ) (compiled : AreCompiled files file o) → IsPrinted o text → IsTextOf text read → IsWritten files file o read compiled
