-- What a checkpoint stands for.
use Rattle.std.specs.Prelude.{◌≡◌, ℕ, List, [], ◌∷◌, Some}
use Rattle.hp_base.specs.declared.value.Value.{Value}
use Rattle.hp_exec.specs.Layouts.{AreAlike, flattened, flat_kinds}
use Rattle.hp_obc.specs.Kinded.{HasKinds, machine_keeps}
use Rattle.hp_obc.specs.Machines.{Obc}
use Rattle.hp_obc.specs.Steps.{Memory, Behaviour, machine_behaviour}
use Rattle.hp_obctext.specs.MemoryKinds.{memory_text, misfit}
use Rattle.hp_obctext.specs.MemoryRefusals.{IsNoCheckpoint}
use Rattle.hp_obctext.specs.MemoryTexts.{Says}
use Rattle.hp_obctext.specs.declared.memory.error.MemErr.{MemErr}
use Rattle.hp_obctext.specs.declared.memory.error.MemErr.TheVariants.{Syntax}
use Rattle.hp_driver.specs.Systems.{of_machine, inputs_of}
use Rattle.hp_driver.specs.Values.{inputs_until}

-- the memory behind the steps over some inputs, from a memory on
abbrev pub memory_behind : Behaviour → Memory → List (List Value) → Memory
memory_behind b kept [] = kept
memory_behind b kept (inputs ∷ later) = memory_behind b (b.step kept inputs).kept later

-- the memory of a machine behind some lines
abbrev pub memory_past : Obc → List ℕ → Memory → List (List ℕ) → Memory
memory_past o node kept lines = memory_behind (machine_behaviour o node) kept (inputs_until (inputs_of (of_machine o node)) 1 lines)

-- A text is the checkpoint of a memory of the machine of this name, which has the shape and the kinds of what that keeps.
pub record IsCheckpointOf (o : Obc) (node : List ℕ) (memory : Memory) (text : List ℕ) : Type 0 where
  pub shaped : AreAlike memory (machine_behaviour o node).reset
  pub kinded : HasKinds (machine_keeps o node) memory
  pub spelled : text ≡ memory_text o.types node (flattened memory)

-- It is that of some memory of the machine.
abbrev pub IsTaken : Obc → List ℕ → List ℕ → Type 0
IsTaken o node text = (memory : Memory) × IsCheckpointOf o node memory text

-- The text of a checkpoint is refused: it is none, from a place on; or it does not fit the machine of this name.
abbrev pub RefusesCheckpoint : Obc → List ℕ → List ℕ → MemErr → Type 0
RefusesCheckpoint o node text (Syntax span) = IsNoCheckpoint text span
RefusesCheckpoint o node text cause = (name : List ℕ) × (ws : List (List ℕ)) × Says text name ws × (misfit node (flat_kinds (machine_keeps o node)) name ws ≡ Some cause)
