-- What `save` and `resume` do before the trace and behind it, as the code has it.
use Rattle.std.specs.Prelude.{◌≡◌, ◌≢◌, ◌⊎◌, ℕ, true, List, [], ◌∷◌, ◌++◌, Option, None, Some, Result, Ok, Err}
use Rattle.hp_base.specs.Limits.{most}
use Rattle.hp_base.specs.declared.limit.What.TheVariants.{Text}
use Rattle.hp_exec.specs.Answers.{Executes}
use Rattle.hp_exec.specs.Executors.{Executor, Runs, IsKindedBy, kept}
use Rattle.hp_exec.specs.Signatures.{signature_of}
use Rattle.hp_io.specs.Faults.{Faults, Rose}
use Rattle.hp_io.specs.Files.{Files}
use Rattle.hp_io.specs.Reads.{Reading}
use Rattle.hp_io.specs.Told.{Grows}
use Rattle.hp_io.specs.declared.console.Event.{Event}
use Rattle.hp_obc.specs.Kinded.{machine_keeps}
use Rattle.hp_obc.specs.Machines.{Obc}
use Rattle.hp_obc.specs.Steps.{machine_behaviour}
use Rattle.hp_obctext.specs.declared.memory.error.MemErr.{MemErr}
use Rattle.hp_compile.specs.Judged.{IsJudged}
use Rattle.hp_tree.specs.declared.program.Item.{Item}
use Rattle.hp_driver.specs.Checkpoints.{IsCheckpointOf, RefusesCheckpoint}
use Rattle.hp_driver.specs.Command.{IsSegmentOf}
use Rattle.hp_driver.specs.Course.{Takes}
use Rattle.hp_driver.specs.Diagnostics.{checkpoint_line, too_long_line}
use Rattle.hp_driver.specs.Executing.{executing}
use Rattle.hp_driver.specs.Given.{Gives, GivesMoreThan}
use Rattle.hp_driver.specs.Lines.{lines_of}
use Rattle.hp_driver.specs.Log.{heard, said}
use Rattle.hp_driver.specs.Outcome.{IsHeld, IsOnly, IsMachine}
use Rattle.hp_driver.specs.Ran.{Ran}
use Rattle.hp_driver.specs.Segments.{AreRun, SegmentRun}
use Rattle.hp_driver.specs.Status.{code_of}
use Rattle.hp_driver.specs.Systems.{System}
use Rattle.hp_driver.specs.WrittenText.{WritesText}
use Rattle.hp_driver.specs.declared.status.Status.{Status}

-- ---- what ends the call or goes on

-- where it ends the call, P of the line that is told and of the status; where it goes on no line is told
abbrev pub Ends : {X : Type 0} → (List ℕ → ℕ → Type 0) → Result X Status → List ℕ → Type 0
Ends P (Ok x) line = line ≡ []
Ends P (Err status) line = P line (code_of status)

-- the status, and 0 where it goes on
abbrev pub ending : {X : Type 0} → Result X Status → ℕ
ending (Ok x) = 0
ending (Err status) = code_of status

-- ---- the machine

-- whatever files hold the program, of which this is the ordered one
abbrev pub RunDecided : List ℕ → List Item → List Item → Obc → Type 0
RunDecided node program ordered o = (files : Option Files) (file : List ℕ) (held : IsHeld files file program) → held.clocked ≡ ordered → (s : System) × AreRun files file node o s

-- whatever text the program is of
abbrev pub RunProgram : List ℕ → List Item → Obc → Type 0
RunProgram node program o =
    (text : List ℕ) → IsJudged text program → IsOnly text program → (files : Option Files) (file : List ℕ) → Gives files file text → (s : System) × AreRun files file node o s

-- whatever files hold the text
abbrev pub RunText : List ℕ → List ℕ → Obc → Type 0
RunText node text o = (files : Option Files) (file : List ℕ) → Gives files file text → (s : System) × AreRun files file node o s

-- An executor does what the machine of a name does, from a memory of the kinds of what that keeps.
pub record StandsFor (o : Obc) (node : List ℕ) (e : Executor) : Type 0 where
  pub is : IsMachine node o
  pub signature : e.signature ≡ signature_of o.types is.machine
  pub runs : Runs e (machine_behaviour o node)
  pub kinds : IsKindedBy (machine_keeps o node) e (machine_behaviour o node)

-- ---- the memory that it begins with

-- the memory of a checkpoint is not taken
pub data NotRestored (files : Option Files) (o : Obc) (node mem : List ℕ) : List ℕ → ℕ → Type 0 where
  no_memory : NotRestored files o node mem [] 6
  unread : NotRestored files o node mem [] 4
  too_long : GivesMoreThan files mem (most Text) → NotRestored files o node mem (too_long_line Text) 1
  refused : (text : List ℕ) (cause : MemErr) → Gives files mem text → RefusesCheckpoint o node text cause → NotRestored files o node mem (checkpoint_line cause) 9
  line_failed : {status : ℕ} (line : List ℕ) (b : ℕ) (rest : List ℕ) → NotRestored files o node mem (line ++ b ∷ rest) status → NotRestored files o node mem line 5

-- whatever file holds the text
abbrev pub NotRestoredFrom : Obc → List ℕ → List ℕ → List ℕ → ℕ → Type 0
NotRestoredFrom o node text line status = (files : Option Files) (mem : List ℕ) → Gives files mem text → NotRestored files o node mem line status

-- the memory of an executor is that after a reset, or the one of the checkpoint in a file
abbrev pub IsBegun : Option Files → Obc → List ℕ → Option (List ℕ) → Executor → Type 0
IsBegun files o node None e = Executes o node e
IsBegun files o node (Some mem) e = (text : List ℕ) × Gives files mem text × IsCheckpointOf o node (kept e) text

abbrev pub NotBegun : Option Files → Obc → List ℕ → Option (List ℕ) → List ℕ → ℕ → Type 0
NotBegun files o node from line status = (mem : List ℕ) × (from ≡ Some mem) × NotRestored files o node mem line status

-- what is read: the checkpoint with its limit, or nothing
abbrev pub ReadsFrom : Option (List ℕ) → Option (List Reading) → Option (List Reading) → Type 0
ReadsFrom None before after = after ≡ before
ReadsFrom (Some mem) before after = (after ≡ before) ⊎ Grows before after ((mem, most Text) ∷ [])

-- a read of the checkpoint failed, and no call on the folder followed it
abbrev pub RoseInRead : Option (List ℕ) → (List ℕ → Faults) → (List ℕ → Faults) → Type 0
RoseInRead None before after = ⊥
RoseInRead (Some mem) before after = Rose (before mem) (after mem)

-- ---- the trace, and what is written behind it

module _ (o : Obc) (node : List ℕ) (e : Executor) (out : List ℕ) (before after : Option Files) where
  pub data KeepsRun : List Event → List ℕ → ℕ → Type 0 where
    stopped : {log : List Event} {line : List ℕ} {status : ℕ} → Ran executing e log line status → status ≢ 0 → after ≡ before → KeepsRun log line status
    written : {log : List Event} {text : List ℕ} {status : ℕ} (behind : Executor) → Ran executing e log [] 0 → Takes executing e 1 (lines_of true (heard log)) (said log) behind →
        IsCheckpointOf o node (kept behind) text → WritesText text out before after status → KeepsRun log [] status

-- whatever file holds the program, of which the machine of this name is run
abbrev pub SegmentOfMachines : Obc → List ℕ → Option (List ℕ) → List ℕ → Option Files → Option Files → List Event → List ℕ → ℕ → Type 0
SegmentOfMachines o node from out before after log line status =
    (file : List ℕ) (s : System) → AreRun before file node o s → SegmentRun before after file node from out log line status

-- whatever words asked for the run, and whatever file holds the source text
abbrev pub SegmentOfText : List ℕ → List ℕ → Option (List ℕ) → List ℕ → Option Files → Option Files → List Event → List ℕ → ℕ → Type 0
SegmentOfText text node from out before after log line status =
    (words : List (List ℕ)) (file : List ℕ) → IsSegmentOf words file node from out → Gives before file text → SegmentRun before after file node from out log line status
