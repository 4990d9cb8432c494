-- That a run which is stopped and resumed says what one run says.
use Rattle.std.specs.Prelude.{◌≡◌, ◌≤◌, ◌+◌, ℕ, true, List, [], ◌++◌, length, None, Some, Option}
use Rattle.std.specs.FinMap as map
use Rattle.hp_base.specs.Kinds.{KindData}
use Rattle.hp_io.specs.Files.{Files}
use Rattle.hp_io.specs.declared.console.Event.{Event}
use Rattle.hp_obc.specs.Machines.{Obc}
use Rattle.hp_obc.specs.Steps.{Memory, machine_behaviour}
use Rattle.hp_obctext.specs.declared.memory.error.MemErr.{MemErr}
use Rattle.hp_driver.specs.Answers.{IsAnswer}
pub use Rattle.hp_driver.specs.Checkpoints.{memory_past}
use Rattle.hp_driver.specs.Checkpoints.{IsCheckpointOf, IsTaken, RefusesCheckpoint}
use Rattle.hp_driver.specs.Lines.{lines_of}
use Rattle.hp_driver.specs.Log.{heard, said}
use Rattle.hp_driver.specs.Outcome.{IsMachine}
use Rattle.hp_driver.specs.Segments.{AreRun, IsRunnable, SegmentRun}
use Rattle.hp_driver.specs.Systems.{System, of_machine, from_memory, inputs_of}
use Rattle.hp_driver.specs.Values.{first_bad}

-- No line of two traces has a fault, and together they are few enough for one.
pub record AreGoodLines (kinds : List KindData) (first second : List (List ℕ)) : Type 0 where
  pub few : length first + length second ≤ 1000000000
  pub first_good : first_bad kinds 1 first ≡ None
  pub second_good : first_bad kinds 1 second ≡ None

-- A machine answers lines from a memory on, and more lines from the memory behind these on. So it answers all of them from the first memory on, one after the other, and leaves the same memory.
pub record AnswersBoth (o : Obc) (node : List ℕ) (memory : Memory) (first second : List (List ℕ)) (bytes more : List ℕ) : Type 0 where
  pub good : first_bad (inputs_of (of_machine o node)) 1 (first ++ second) ≡ None
  pub said : IsAnswer (from_memory o node memory) (first ++ second) (bytes ++ more)
  pub kept : memory_past o node memory (first ++ second) ≡ memory_past o node (memory_past o node memory first) second

-- What is run from the memory after a reset on is that which `run` runs, and so are both parts together.
abbrev pub JoinedLaw : Type 0
JoinedLaw =
    (o : Obc) (node : List ℕ) (memory : Memory) (first second : List (List ℕ)) (bytes more : List ℕ) → AreGoodLines (inputs_of (of_machine o node)) first second →
    IsAnswer (from_memory o node memory) first bytes → IsAnswer (from_memory o node (memory_past o node memory first)) second more → AnswersBoth o node memory first second bytes more

abbrev pub JoinedRunLaw : Type 0
JoinedRunLaw =
    (files : Option Files) (file node : List ℕ) (o : Obc) (s : System) (first second : List (List ℕ)) (bytes more : List ℕ) → AreRun files file node o s → IsMachine node o →
    AreGoodLines (inputs_of (of_machine o node)) first second → IsAnswer s first bytes → IsAnswer (from_memory o node (memory_past o node (machine_behaviour o node).reset first)) second more →
    IsAnswer s (first ++ second) (bytes ++ more)

-- A machine that is run refuses no checkpoint of a memory of its own, so none that a run of it left,
abbrev pub TakenLaw : Type 0
TakenLaw = (files : Option Files) (file node : List ℕ) (o : Obc) (text : List ℕ) (cause : MemErr) → IsRunnable files file node o → IsTaken o node text → RefusesCheckpoint o node text cause → ⊥

-- and no text is the checkpoint of two of its memories.
abbrev pub OneMemoryLaw : Type 0
OneMemoryLaw =
    (files : Option Files) (file node : List ℕ) (o : Obc) (text : List ℕ) (memory other : Memory) → IsRunnable files file node o → IsCheckpointOf o node memory text → IsCheckpointOf o node other text → memory ≡ other

-- What one list of machines of a source text left, another one takes: a checkpoint of a memory of the one is one of the same memory of the other.
abbrev pub TakenAgainLaw : Type 0
TakenAgainLaw =
    (before found : Files) (file node : List ℕ) (o p : Obc) (memory : Memory) (text : List ℕ) → map.get found file ≡ map.get before file → IsRunnable (Some before) file node o → IsRunnable (Some found) file node p
    → IsCheckpointOf o node memory text → IsCheckpointOf p node memory text

-- ---- two calls

-- A run of a node was stopped and resumed: `save` and `resume` both ended with status 0. Both found the same source text, and `resume` found, under the name that it was asked for, what `save` had left there.
pub record IsResumed (file node mem out : List ℕ) (first second : List Event) : Type 0 where
  pub before : Files
  pub left : Option Files
  pub saved : SegmentRun (Some before) left file node None mem first [] 0
  pub found : Files
  pub after : Option Files
  pub resumed : SegmentRun (Some found) after file node (Some mem) out second [] 0
  pub source : map.get found file ≡ map.get before file
  pub checkpoint : (held : Files) → left ≡ Some held → map.get found mem ≡ map.get held mem

-- What was said in two parts to some lines is what `run` says to all of them, one after the other: it is the answer of what `run` runs for the node.
pub record IsOneRun (before : Files) (file node : List ℕ) (lines : List (List ℕ)) (bytes : List ℕ) : Type 0 where
  pub o : Obc
  pub system : System
  pub are : AreRun (Some before) file node o system
  pub said : IsAnswer system lines bytes

-- So it is where all lines together are few enough for one trace. The machines of both calls are those of one program: where it chooses, the two may differ in the commands of controllers, but not in memories, and not in what they do.
abbrev pub ResumedLaw : Type 0
ResumedLaw =
    (file node mem out : List ℕ) (first second : List Event) (r : IsResumed file node mem out first second) → length (lines_of true (heard first)) + length (lines_of true (heard second)) ≤ 1000000000
    → IsOneRun r.before file node (lines_of true (heard first) ++ lines_of true (heard second)) (said first ++ said second)

-- ---- any number of calls

-- Calls for a node over one source text, one after the other, all with status 0: `save`, and then each `resume` found, under the name that it was asked for, what the call before it had left there. So the last one left these files and, under this name, a checkpoint; these lines were heard, and this was said.
pub data IsContinued (before : Files) (file node : List ℕ) : Option Files → List ℕ → List (List ℕ) → List ℕ → Type 0 where
  saved : {left : Option Files} {mem : List ℕ} {log : List Event} → SegmentRun (Some before) left file node None mem log [] 0 → IsContinued before file node left mem (lines_of true (heard log)) (said log)
  resumed : {left after : Option Files} {mem out : List ℕ} {lines : List (List ℕ)} {bytes : List ℕ} {log : List Event} (found : Files) → IsContinued before file node left mem lines bytes → map.get found file ≡ map.get before file
      → ((held : Files) → left ≡ Some held → map.get found mem ≡ map.get held mem) → SegmentRun (Some found) after file node (Some mem) out log [] 0
      → IsContinued before file node after out (lines ++ lines_of true (heard log)) (bytes ++ said log)

-- However often a run is stopped, it says what one run says.
abbrev pub ContinuedLaw : Type 0
ContinuedLaw =
    (before : Files) (file node : List ℕ) (left : Option Files) (mem : List ℕ) (lines : List (List ℕ)) (bytes : List ℕ) → IsContinued before file node left mem lines bytes → length lines ≤ 1000000000
    → IsOneRun before file node lines bytes

-- What a call left that ended with status 0, each machine takes that may be run for the node, in all files with that source text: so `resume` does not refuse it.
abbrev pub LeftLaw : Type 0
LeftLaw =
    (file node out : List ℕ) (from : Option (List ℕ)) (log : List Event) (before left found : Files) (o : Obc) → SegmentRun (Some before) (Some left) file node from out log [] 0 → map.get found file ≡ map.get before file
    → IsRunnable (Some found) file node o → (text : List ℕ) × (map.get left out ≡ Some text) × IsTaken o node text
