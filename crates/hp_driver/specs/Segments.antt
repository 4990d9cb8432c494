-- What `save` and `resume` do, and why: a row for each cause.
use Rattle.std.specs.Prelude.{◌≡◌, ◌≢◌, ℕ, true, false, List, [], ◌∷◌, ◌++◌, Option, None, Some}
use Rattle.hp_base.specs.Limits.{most}
use Rattle.hp_base.specs.declared.limit.What.TheVariants.{Text}
use Rattle.hp_controlled.specs.Chosen.{IsChosen}
use Rattle.hp_io.specs.Files.{Files}
use Rattle.hp_io.specs.declared.console.Event.{Event}
use Rattle.hp_obc.specs.Form.{HasObcForm}
use Rattle.hp_obc.specs.Machines.{Obc}
use Rattle.hp_obc.specs.Steps.{Memory, machine_behaviour}
use Rattle.hp_obctext.specs.declared.memory.error.MemErr.{MemErr}
use Rattle.hp_tree.specs.Meaning.{node_among}
use Rattle.hp_tree.specs.Programs.{Node}
use Rattle.hp_driver.specs.Answers.{IsAnswer}
pub use Rattle.hp_driver.specs.Asking.{run_words}
use Rattle.hp_driver.specs.BadLines.{bad_line_line}
use Rattle.hp_driver.specs.Checkpoints.{IsCheckpointOf, RefusesCheckpoint, memory_behind}
use Rattle.hp_driver.specs.Command.{IsNoSegment, IsSegmentOf}
use Rattle.hp_driver.specs.Diagnostics.{checkpoint_line, too_long_line}
use Rattle.hp_driver.specs.Given.{Gives, GivesMoreThan}
use Rattle.hp_driver.specs.Lines.{whole_lines, lines_of}
use Rattle.hp_driver.specs.Log.{heard, said, has_ended}
use Rattle.hp_driver.specs.Outcome.{AreCompiled, InLockstep, IsMachine, Outcome}
use Rattle.hp_driver.specs.Systems.{System, of_machine, from_memory, inputs_of}
use Rattle.hp_driver.specs.Values.{first_bad, inputs_until}
use Rattle.hp_driver.specs.WrittenText.{WritesText}
use Rattle.hp_driver.specs.declared.trace_limits.BadLine.{BadLine}

-- The machine that `run` runs for the node is among these.
pub data AreRun (files : Option Files) (file node : List ℕ) (o : Obc) : System → Type 0 where
  own : (n : Node) → (compiled : AreCompiled files file o) → node_among compiled.held.clocked node ≡ Some n → IsChosen node o n → AreRun files file node o (of_machine o node)

-- It is there, within the limits of what is executed, and takes the inputs of what is run; and the machines have form.
pub record IsRunnable (files : Option Files) (file node : List ℕ) (o : Obc) : Type 0 where
  pub system : System
  pub are : AreRun files file node o system
  pub machine : IsMachine node o
  pub inputs : inputs_of (of_machine o node) ≡ inputs_of system
  pub form : HasObcForm o.types o.machines

-- What is run begins with a memory of the machine: that after a reset, or the one for which the checkpoint in a file stands.
pub data Begins (files : Option Files) (file node : List ℕ) (o : Obc) : Option (List ℕ) → Memory → System → Type 0 where
  from_reset : (there : IsRunnable files file node o) → Begins files file node o None (machine_behaviour o node).reset there.system
  from_checkpoint : {mem text : List ℕ} {memory : Memory} → IsRunnable files file node o → Gives files mem text → IsCheckpointOf o node memory text →
      Begins files file node o (Some mem) memory (from_memory o node memory)

-- The events of a trace of what is run, the line of its diagnostics, and its status.
module _ (s : System) where
  pub data Traced : List Event → List ℕ → ℕ → Type 0 where
    -- the input was read to its end, and each line answered
    done : {log : List Event} → InLockstep s log → has_ended log ≡ true → IsAnswer s (lines_of true (heard log)) (said log) → first_bad (inputs_of s) 1 (lines_of true (heard log)) ≡ None → Traced log [] 0
    -- this is the first line that has a fault; the lines before it were answered
    bad_line : {log : List Event} (line : BadLine) → InLockstep s log → IsAnswer s (lines_of (has_ended log) (heard log)) (said log) →
        first_bad (inputs_of s) 1 (lines_of (has_ended log) (heard log)) ≡ Some line → Traced log (bad_line_line line) 3
    -- a take failed; the whole lines that were heard were answered, and none that was heard has a fault
    take_failed : {log : List Event} → InLockstep s log → IsAnswer s (whole_lines (heard log)) (said log) → first_bad (inputs_of s) 1 (lines_of false (heard log)) ≡ None → Traced log [] 4
    -- a put failed; of the answers to the lines that were heard the first bytes were said
    put_failed : {log : List Event} (rest : List ℕ) → InLockstep s log → IsAnswer s (lines_of (has_ended log) (heard log)) (said log ++ rest) → Traced log [] 5

-- The call goes no further than to the end of the trace.
module _ (files : Option Files) (file node : List ℕ) (from : Option (List ℕ)) where
  pub data Stops : List Event → List ℕ → ℕ → Type 0 where
    -- the machine is not run, for the cause for which `run` does not run it; or there is no memory, before any input is asked for
    not_run : {line : List ℕ} {status : ℕ} → Outcome (run_words file node) files [] line status → Stops [] line status
    -- the checkpoint was not read
    unread_checkpoint : {mem : List ℕ} {o : Obc} → from ≡ Some mem → IsRunnable files file node o → Stops [] [] 4
    -- the text of the checkpoint is longer than it may be
    long_checkpoint : {mem : List ℕ} {o : Obc} → from ≡ Some mem → IsRunnable files file node o → GivesMoreThan files mem (most Text) → Stops [] (too_long_line Text) 1
    -- the checkpoint is refused, by the first test that it fails
    checkpoint_refused : {mem : List ℕ} {o : Obc} (text : List ℕ) (cause : MemErr) → from ≡ Some mem → IsRunnable files file node o → Gives files mem text → RefusesCheckpoint o node text cause →
        Stops [] (checkpoint_line cause) 9
    -- the trace ended
    traced : {o : Obc} {memory : Memory} {s : System} {log : List Event} {line : List ℕ} {status : ℕ} → Begins files file node o from memory s → Traced s log line status → Stops log line status
    -- the diagnostics took only the first bytes of a line
    line_failed : {log : List Event} {status : ℕ} (line : List ℕ) (b : ℕ) (rest : List ℕ) → Stops log (line ++ b ∷ rest) status → Stops log line 5

-- The memory behind the lines that were heard, from one of the machine of a name on.
abbrev pub memory_after : Obc → List ℕ → Memory → List Event → Memory
memory_after o node kept log = memory_behind (machine_behaviour o node) kept (inputs_until (inputs_of (of_machine o node)) 1 (lines_of true (heard log)))

-- What happens, and what becomes of the files.
module _ (before after : Option Files) (file node : List ℕ) (from : Option (List ℕ)) (out : List ℕ) where
  pub data SegmentRun : List Event → List ℕ → ℕ → Type 0 where
    -- it stops there, and no file is changed
    stopped : {log : List Event} {line : List ℕ} {status : ℕ} → Stops before file node from log line status → status ≢ 0 → after ≡ before → SegmentRun log line status
    -- all lines were answered, and the checkpoint of the memory behind them was written, or could not be written
    written : {o : Obc} {memory : Memory} {s : System} {log : List Event} {text : List ℕ} {status : ℕ} → Begins before file node o from memory s → Traced s log [] 0 →
        IsCheckpointOf o node (memory_after o node memory log) text → WritesText text out before after status → SegmentRun log [] status

-- The words are those of `save` or `resume`, and what happens is so.
pub record SegmentOutcome (words : List (List ℕ)) (before after : Option Files) (log : List Event) (line : List ℕ) (status : ℕ) : Type 0 where
  pub file : List ℕ
  pub node : List ℕ
  pub from : Option (List ℕ)
  pub out : List ℕ
  pub asked : IsSegmentOf words file node from out
  pub ran : SegmentRun before after file node from out log line status

-- What a call does, and why: a row for each cause, of the commands that leave no checkpoint and of those that do.
pub data CallOutcome (words : List (List ℕ)) (before after : Option Files) : List Event → List ℕ → ℕ → Type 0 where
  -- there was no memory for the words
  no_memory : CallOutcome words before after [] [] 6
  command : {log : List Event} {line : List ℕ} {status : ℕ} → IsNoSegment words → Outcome words before log line status → CallOutcome words before after log line status
  segment : {log : List Event} {line : List ℕ} {status : ℕ} → SegmentOutcome words before after log line status → CallOutcome words before after log line status
