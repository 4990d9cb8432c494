-- What a call does over files and an input in memory, a row for each ending. The rows speak of texts, runs and games,
-- and not of passes of the compiler; their terms stand in `ClaimTerms`.
-- Source: own; a statement of exit status, output and files in one is that of CakeML's programs.
use Rattle.std.specs.Prelude.{◌≡◌, ◌≢◌, ◌≤◌, ◌<◌, ◌⊎◌, ◌*◌, ℕ, Bool, true, List, [], length, Option, None, Some}
use Rattle.std.specs.FinMap as map
use Rattle.hp_base.specs.Limits.{most}
use Rattle.hp_base.specs.declared.limit.Limit.{Limit}
use Rattle.hp_base.specs.declared.limit.What.{What}
use Rattle.hp_base.specs.declared.limit.What.TheVariants.{Size, Text}
use Rattle.hp_base.specs.declared.span.Span.{Span}
use Rattle.hp_io.specs.Files.{Files, Holds, HoldsMoreThan}
use Rattle.hp_tree.specs.declared.program.Item.{Item}
use Rattle.hp_tree.specs.Meaning.{node_among}
use Rattle.hp_tree.specs.Programs.{Node}
use Rattle.hp_compile.specs.Arranged.{IsArrangeable}
use Rattle.hp_compile.specs.Judged.{IsJudged, IsProgramOf}
use Rattle.hp_compile.specs.Refusals.{Causes}
use Rattle.hp_compile.specs.declared.refusal.Refusal.{Refusal}
use Rattle.hp_exec.specs.Answers.{IsPassed}
use Rattle.hp_obc.specs.Form.{machine_named}
use Rattle.hp_obc.specs.Machines.{Machine, Obc}
use Rattle.hp_obctext.specs.Answers.{IsTextOf, BreaksForm}
use Rattle.hp_obctext.specs.Refusals.{IsRefused}
use Rattle.hp_cert.specs.declared.certtext.error.CertErr.{CertErr}
use Rattle.hp_cert.specs.declared.certtext.error.CertErr.TheVariants.{OutOfMemory}
use Rattle.hp_cert.specs.declared.checking.Proved.{Proved}
use Rattle.hp_cert.specs.declared.checking.Proved.TheVariants.{Lose}
use Rattle.hp_verdicts.specs.declared.error.ContractErr.{ContractErr}
use Rattle.law_decided.specs.Laws.{HoldsOf, IsForcedFirst, IsVerdictOf}
use Rattle.hp_driver.specs.Command.{IsRunOf, IsTellOf, IsCheckOf, IsCompileOf, IsPastOf, IsExecOf, IsProveOf, IsVerifyOf, IsSegmentOf, IsSweepOf, IsOverSource, IsOverContract, ReadsSource, IsNoCommand, usage_line, no_node_line, accepted_text, verdict_text}
use Rattle.hp_driver.specs.Diagnostics.{checkpoint_line, refusal_line, too_long_line, no_text_line, no_form_line, executor_line, forced_line, contract_line, no_contract_line, certificate_line, certificate_status}
use Rattle.hp_driver.specs.Lines.{lines_of}
use Rattle.hp_driver.specs.PastOutcome.{unfolded_text}
use Rattle.hp_driver.specs.Sweeping.{HasTasks, sweep_text, tasks_text}
use Rattle.hp_driver.specs.Systems.{System, of_machine}
use Rattle.hp_obc.specs.Steps.{Memory}
use Rattle.hp_driver.specs.Asking.{AsksToRun, IsRunFor, run_words}
use Rattle.hp_driver.specs.Checkpoints.{IsCheckpointOf, RefusesCheckpoint, memory_past}
use Rattle.hp_obctext.specs.declared.memory.error.MemErr.{MemErr}
use Rattle.hp_driver.specs.ClaimTerms.{Program, AllKept, IsFirst, Certifies, IsNoProof, IsUndecidable, IsTrace, Implement, IsOwnOf, IsTellerOf, Runs, Starts, IsReadAs, LacksFile, RefusesTasks}

-- The call answers with what is said, the line of diagnostics, the files that it leaves, and its status.
module _ (words : List (List ℕ)) (files : Files) (input : List ℕ) where
  pub data Does : List ℕ → List ℕ → Files → ℕ → Type 0 where
    -- the words are none of the forms
    usage : IsNoCommand words → Does [] usage_line files 2
    -- a file that is to be read is not there
    absent : LacksFile words files → Does [] [] files 4
    -- it is longer than its text may be
    too_long : {file : List ℕ} {what : What} → IsReadAs words file what → HoldsMoreThan files file (most what) →
        Does [] (too_long_line what) files 1
    -- 1. A text is refused only where it has no program that breaks no rule, for the first rule that it breaks.
    refused : {file text : List ℕ} (cause : Refusal) → ReadsSource words file → Holds files file text →
        ((program : List Item) → IsJudged text program → IsArrangeable program → ⊥) → Causes text cause →
        Does [] (refusal_line cause) files 1
    -- It is accepted only where it has one, of which each contract is kept.
    accepted : {file : List ℕ} (print : Bool) (p : Program files file) → IsCheckOf words file print → AllKept p →
        Does (accepted_text print p.program) [] files 0
    -- 2. A run answers the lines before the first one with a fault as the node's machine does. Without controllable
    -- variables these are the outputs of the node's one run, in which each instance keeps its contract (`Implement`).
    ran : {file node said line : List ℕ} {status : ℕ} {o : Obc} {s : System} (p : Program files file) →
        IsRunOf words file node → Implement p o → IsOwnOf p.clocked o node s →
        IsTrace s (lines_of true input) said line status → Does said line files status
    no_node_to_run : {file node : List ℕ} (p : Program files file) → AllKept p →
        IsRunOf words file node ⊎ IsTellOf words file node → node_among p.clocked node ≡ None →
        Does [] (no_node_line node) files 1
    -- Where it is asked what contracts assume and enforce, this is told too.
    told : {file node said line : List ℕ} {status : ℕ} {o : Obc} {s : System} (p : Program files file) →
        IsTellOf words file node → Implement p o → IsTellerOf p.clocked o node s →
        IsTrace s (lines_of true input) said line status → Does said line files status
    chosen_too_large : {file node name : List ℕ} {o : Obc} (limit : Limit) (p : Program files file) →
        AsksToRun words file node p.program → Implement p o → IsRunFor node name → IsPassed o name limit →
        Does [] (executor_line limit) files 1
    -- 3. The first contract that is refused is lost: in its game the inputs force a violation within so many instants,
    -- and within no fewer. Behind the line stands its certificate, or that this is too long. Or it is undecidable.
    lost : {file behind : List ℕ} (n : Node) (instants : ℕ) (p : Program files file) → IsOverSource words file →
        IsFirst p.clocked n → IsForcedFirst p.clocked n instants →
        Certifies behind (Lose instants) ⊎ (behind ≡ too_long_line Text) →
        Does [] (forced_line n.name instants behind) files 1
    undecided : {file : List ℕ} (n : Node) (cause : ContractErr) (p : Program files file) → IsOverSource words file →
        IsFirst p.clocked n → IsUndecidable p.clocked n cause → Does [] (contract_line cause) files 1
    -- 4. What `compile` writes stands for such machines, and `exec` runs the machines of any such text.
    compiled : {file out : List ℕ} {o : Obc} (text : List ℕ) (p : Program files file) → IsCompileOf words file out →
        Implement p o → (length text ≤ most Text → IsTextOf text o) → Does [] [] (map.insert files out text) 0
    executed : {file node text said line : List ℕ} {o : Obc} {status : ℕ} (m : Machine) → IsExecOf words file node →
        Holds files file text → IsTextOf text o → machine_named o.machines node ≡ Some m →
        IsTrace (of_machine o node) (lines_of true input) said line status → Does said line files status
    no_text : {file node text : List ℕ} (at : Span) → IsExecOf words file node → Holds files file text →
        IsRefused text at → Does [] (no_text_line at) files 8
    no_form : {file node text : List ℕ} (at : Span) → IsExecOf words file node → Holds files file text →
        BreaksForm text at → Does [] (no_form_line at) files 8
    no_machine : {file node text : List ℕ} {o : Obc} → IsExecOf words file node → Holds files file text →
        IsTextOf text o → machine_named o.machines node ≡ None → Does [] (no_node_line node) files 1
    too_large : {file node text : List ℕ} {o : Obc} (limit : Limit) → IsExecOf words file node → Holds files file text →
        IsTextOf text o → IsPassed o node limit → Does [] (executor_line limit) files 1
    -- 5. What `prove` writes is a certificate of the verdict on the contract's game; what `verify` says holds in it.
    proved : {file name cert text : List ℕ} (n : Node) (v : Proved) (p : Program files file) →
        IsProveOf words file name cert → node_among p.clocked name ≡ Some n → IsVerdictOf p.clocked n v →
        Certifies text v → Does [] [] (map.insert files cert text) 0
    verified : {file name cert : List ℕ} (text : List ℕ) (n : Node) (v : Proved) (p : Program files file) →
        IsVerifyOf words file name cert → node_among p.clocked name ≡ Some n → Holds files cert text →
        HoldsOf p.clocked n v → Does (verdict_text v) [] files 0
    -- the certificate is refused; or that of the contract is longer than its text may be
    not_verified : {file name cert : List ℕ} (text : List ℕ) (cause : CertErr) → Program files file →
        IsVerifyOf words file name cert → Holds files cert text → cause ≢ OutOfMemory → IsNoProof text cause →
        Does [] (certificate_line cause) files (certificate_status cause)
    not_proved : {file name cert text : List ℕ} (v : Proved) → Program files file → IsProveOf words file name cert →
        Certifies text v → most Text < length text → Does [] (too_long_line Text) files 1
    no_node : {file name : List ℕ} (p : Program files file) → IsOverContract words file name →
        node_among p.clocked name ≡ None → Does [] (no_node_line name) files 1
    no_contract : {file name : List ℕ} (n : Node) (p : Program files file) → IsOverContract words file name →
        node_among p.clocked name ≡ Some n → n.contract ≡ None → Does [] (no_contract_line name n.span) files 1
    no_verdict : {file name : List ℕ} (n : Node) (cause : ContractErr) (p : Program files file) →
        IsOverContract words file name → node_among p.clocked name ≡ Some n → IsUndecidable p.clocked n cause →
        Does [] (contract_line cause) files 1
    -- the program of a text is written without the past-time formulas of its contracts; or is none, or is too long so
    unfolded : {file out text : List ℕ} {program : List Item} → IsPastOf words file out → Holds files file text →
        IsProgramOf text program → Does [] [] (map.insert files out (unfolded_text program)) 0
    no_program : {file out text : List ℕ} (cause : Refusal) → IsPastOf words file out → Holds files file text →
        ((program : List Item) → IsProgramOf text program → ⊥) → Causes text cause →
        Does [] (refusal_line cause) files 1
    long_unfolded : {file out text : List ℕ} {program : List Item} → IsPastOf words file out → Holds files file text →
        IsProgramOf text program → most Size < length (unfolded_text program) → Does [] (too_long_line Size) files 1
    -- A sweep says how often each task was active, and how often each started, in a run of the machine of its tasks.
    -- Their text has a program as though a file held it, and the machines implement it.
    swept : {tasks instants : ℕ} {file : List ℕ} {o : Obc} (p : Program (map.insert files file (tasks_text tasks)) file) →
        IsSweepOf words tasks instants → Implement p o → HasTasks (2 * tasks) o →
        Does (sweep_text o tasks instants) [] files 0
    -- or it says nothing. No sweep has shown it; `run_tool` says why (`hp_driver/specs/Outcome`)
    not_swept : {tasks instants : ℕ} {line : List ℕ} → IsSweepOf words tasks instants → RefusesTasks tasks line →
        Does [] line files 1

-- `save` and `resume` leave a checkpoint; each other call does what is said above, or there was no memory.
module _ (words : List (List ℕ)) (files : Files) (input : List ℕ) where
  pub data Ends : List ℕ → List ℕ → Files → ℕ → Type 0 where
    does : {said line : List ℕ} {left : Files} {status : ℕ} → Does words files input said line left status →
        Ends said line left status
    lacking : {said line : List ℕ} {left : Files} → Ends said line left 6
    -- they do not begin, for a cause for which `run` does not
    not_run : {file node out line : List ℕ} {from : Option (List ℕ)} {status : ℕ} →
        IsSegmentOf words file node from out → Does (run_words file node) files [] [] line files status → status ≢ 0 →
        Ends [] line files status
    -- the checkpoint is longer than it may be, or it is refused by the first test that it fails
    long_checkpoint : {file node mem out : List ℕ} → IsSegmentOf words file node (Some mem) out →
        HoldsMoreThan files mem (most Text) → Ends [] (too_long_line Text) files 1
    checkpoint_refused : {file node mem out text : List ℕ} {o : Obc} {s : System} (cause : MemErr)
        (p : Program files file) → IsSegmentOf words file node (Some mem) out → Runs p o node s → Holds files mem text →
        RefusesCheckpoint o node text cause → Ends [] (checkpoint_line cause) files 9
    -- a line has a fault, so no checkpoint is left; or all are answered, and that of the memory behind them is
    stopped : {file node out said line : List ℕ} {from : Option (List ℕ)} {memory : Memory} {o : Obc} {s : System}
        (p : Program files file) → IsSegmentOf words file node from out → Starts p o node from memory s →
        IsTrace s (lines_of true input) said line 3 → Ends said line files 3
    saved : {file node out said text : List ℕ} {from : Option (List ℕ)} {memory : Memory} {o : Obc} {s : System}
        (p : Program files file) → IsSegmentOf words file node from out → Starts p o node from memory s →
        IsTrace s (lines_of true input) said [] 0 →
        IsCheckpointOf o node (memory_past o node memory (lines_of true input)) text →
        Ends said [] (map.insert files out text) 0
