-- What a call does, and why: a row for each cause.
use Rattle.std.specs.Prelude.{◌≡◌, ◌≢◌, ◌≤◌, ◌⊎◌, Bool, is_some, IsTrue, ℕ, true, false, List, [], ◌∷◌, ◌++◌, codes, Option, None, Some}
use Rattle.hp_base.specs.Limits.{most}
use Rattle.hp_base.specs.declared.limit.Limit.{Limit}
use Rattle.hp_base.specs.declared.limit.What.TheVariants.{Size, Text}
use Rattle.hp_base.specs.declared.span.Span.{Span}
use Rattle.hp_io.specs.Files.{Files}
use Rattle.hp_io.specs.declared.console.Event.{Event}
use Rattle.hp_io.specs.declared.console.Event.TheVariants.{Asked}
use Rattle.hp_tree.specs.declared.program.Item.{Item}
use Rattle.hp_driver.specs.Lines.{whole_lines, lines_of}
use Rattle.hp_driver.specs.Log.{heard, said, has_ended}
use Rattle.hp_driver.specs.Values.{first_bad}
use Rattle.hp_driver.specs.Answers.{IsAnswer}
use Rattle.hp_driver.specs.Systems.{System, of_machine, that_tells, inputs_of}
use Rattle.hp_driver.specs.declared.telling.Ending.TheVariants as ending
use Rattle.hp_controlled.specs.Chosen.{IsChosen, IsToldBy}
use Rattle.hp_io.specs.Events.{put_events}
use Rattle.hp_compile.specs.Arranged.{IsArranged}
use Rattle.hp_compile.specs.Judged.{IsJudged}
use Rattle.hp_compile.specs.Refusals.{Causes}
use Rattle.hp_compile.specs.declared.refusal.Refusal.{Refusal}
use Rattle.hp_exec.specs.Answers.{IsPassed}
use Rattle.hp_exec.specs.Bounds.{most_chained, most_instances, longest_chain, instance_count}
use Rattle.hp_obc.specs.Form.{machine_named}
use Rattle.hp_obc.specs.Machines.{Obc, Machine}
use Rattle.hp_obctext.specs.Answers.{IsTextOf, BreaksForm}
use Rattle.hp_obctext.specs.Refusals.{IsRefused}
use Rattle.hp_cert.specs.declared.checking.Proved.{Proved}
use Rattle.hp_cert.specs.declared.certtext.error.CertErr.{CertErr}
use Rattle.hp_cert.specs.declared.certtext.error.CertErr.TheVariants as certificate
use Rattle.hp_tree.specs.Meaning.{node_among}
use Rattle.hp_tree.specs.Programs.{Node}
use Rattle.law_decided.specs.Outcomes.{AreKeptInGames, RefusesInGames, RefusesInGame, IsProofInGame, ShowsInGame}
use Rattle.hp_verdicts.specs.Decided.{IsLong, has_contract, is_wide_contract}
use Rattle.hp_verdicts.specs.Verified.{HasMachine, RefusesCert}
use Rattle.hp_verdicts.specs.declared.error.ContractErr.{ContractErr}
use Rattle.hp_verdicts.specs.declared.error.ContractErr.TheVariants.{OutOfMemory}
use Rattle.hp_driver.specs.Compiled.{AreMachinesFor}
use Rattle.hp_driver.specs.Diagnostics.{refusal_line, too_long_line, no_text_line, no_form_line, executor_line, contract_line, no_contract_line, certificate_line, certificate_status}
use Rattle.hp_driver.specs.BadLines.{bad_line_line}
use Rattle.hp_driver.specs.Command.{IsRunOf, IsTellOf, IsCheckOf, IsCompileOf, IsPastOf, IsExecOf, IsProveOf, IsVerifyOf, IsSweepOf, IsOverSource, IsOverContract, ReadsSource, ReadsFirst, IsNoCommand, usage_line, no_node_line, accepted_text, verdict_text}
pub use Rattle.hp_driver.specs.Asking.{AsksToRun, IsRunFor}
pub use Rattle.hp_driver.specs.Given.{Gives, GivesMoreThan}
pub use Rattle.hp_driver.specs.Texts.{IsOnly, HasNoProgram}
use Rattle.hp_driver.specs.PastOutcome.{PastOutcome}
use Rattle.hp_driver.specs.Swept.{IsSwept, IsNotSwept}
use Rattle.hp_driver.specs.declared.trace_limits.BadLine.{BadLine}

-- the program that the file holds, which breaks no rule
pub record IsHeld (files : Option Files) (file : List ℕ) (program : List Item) : Type 0 where
  pub text : List ℕ
  pub held : Gives files file text
  pub judged : IsJudged text program
  pub only : IsOnly text program
  pub clocked : List Item
  pub ranks : List (List ℕ)
  pub arranged : IsArranged program clocked ranks

-- the node of this name, of the program that the file holds, which has a contract
pub record HasContract (files : Option Files) (file name : List ℕ) : Type 0 where
  pub program : List Item
  pub held : IsHeld files file program
  pub node : Node
  pub named : node_among held.clocked name ≡ Some node
  pub some : IsTrue (is_some node.contract)

-- the machines whose text the file holds
pub record AreMachines (files : Option Files) (file : List ℕ) (o : Obc) : Type 0 where
  pub text : List ℕ
  pub held : Gives files file text
  pub read : IsTextOf text o

-- Machines of the program that the file holds, of which each contract is kept. What the machine of a node says, the program allows; and if it calls none in whose contract integers are compared, its controllable variables have the greatest permitted values, so it keeps its contract while the nodes that it calls keep theirs. Without controllable variables it does what its node does, in each reaction of which each instance keeps its contract. Which machines do so, of the many that might, is told by `machines`: each call over a text takes the checkpoints of the others.
pub record AreCompiled (files : Option Files) (file : List ℕ) (o : Obc) : Type 0 where
  pub program : List Item
  pub held : IsHeld files file program
  pub kept : AreKeptInGames held.clocked
  pub are : AreMachinesFor program held.clocked o

-- the machine of this name among some, which is within the limits of what is executed
pub record IsMachine (node : List ℕ) (o : Obc) : Type 0 where
  pub machine : Machine
  pub named : machine_named o.machines node ≡ Some machine
  pub chain : longest_chain o.machines node ≤ most_chained
  pub count : instance_count o.machines node ≤ most_instances

-- The words ask to run this machine, and the file holds it, or the program that it is of: a machine of a text of machines; that of a node of a program whose contracts are kept, with its inputs and outputs, of which `AreCompiled` says what it does; or one that also tells the values of the node's contract.
pub data IsAskedFor (words : List (List ℕ)) (files : Option Files) : System → Type 0 where
  a_node : {file node : List ℕ} {o : Obc} (n : Node) → IsRunOf words file node → (compiled : AreCompiled files file o) → node_among compiled.held.clocked node ≡ Some n → IsMachine node o →
      IsChosen node o n → IsAskedFor words files (of_machine o node)
  a_machine : {file node : List ℕ} {o : Obc} → IsExecOf words file node → AreMachines files file o → IsMachine node o → IsAskedFor words files (of_machine o node)
  a_contract : {file node : List ℕ} {o : Obc} (n : Node) → IsTellOf words file node → (compiled : AreCompiled files file o) → node_among compiled.held.clocked node ≡ Some n →
      IsTrue (is_some n.contract) → IsMachine (node ++ codes "$contract") o → IsToldBy (node ++ codes "$contract") o n → IsAskedFor words files (that_tells ending.Told o (node ++ codes "$contract"))
  no_contract : {file node : List ℕ} {o : Obc} (n : Node) → IsTellOf words file node → (compiled : AreCompiled files file o) → node_among compiled.held.clocked node ≡ Some n →
      n.contract ≡ None → IsMachine node o → IsChosen node o n → IsAskedFor words files (that_tells ending.Kept o node)

-- Whenever input was asked for, it had not ended, what was said were the answers to the whole lines heard before, and no line heard before has a fault.
abbrev pub InLockstep : System → List Event → Type 0
InLockstep s log = (before after : List Event) → log ≡ before ++ Asked ∷ after →
    (has_ended before ≡ false) × IsAnswer s (whole_lines (heard before)) (said before) × (first_bad (inputs_of s) 1 (lines_of false (heard before)) ≡ None)

-- The events of a call on the console, the line of its diagnostics, and its status.
module _ (words : List (List ℕ)) (files : Option Files) where
  pub data Outcome : List Event → List ℕ → ℕ → Type 0 where
    -- the words are none of the forms
    usage : IsNoCommand words → Outcome [] usage_line 2
    -- the file was not read
    unread : {file : List ℕ} → ReadsFirst words file → Outcome [] [] 4
    -- there was no memory, before any input was asked for
    no_memory : Outcome [] [] 6
    -- the source text is too long
    too_long : {file : List ℕ} → ReadsSource words file → GivesMoreThan files file (most Size) → Outcome [] (too_long_line Size) 1
    -- the source text is refused, for it has no program that breaks no rule
    refused : {file : List ℕ} (text : List ℕ) (cause : Refusal) → ReadsSource words file → Gives files file text → Causes text cause → HasNoProgram text → Outcome [] (refusal_line cause) 1
    -- its program breaks no rule, but a contract is refused, the first that is.
    -- In the games of the contracts before it no violation is ever forced, and what the cause says is so of its node
    contract_refused : {file : List ℕ} {program : List Item} (cause : ContractErr) → IsOverSource words file → (held : IsHeld files file program) → has_contract program ≡ true →
        cause ≢ OutOfMemory → RefusesInGames held.clocked cause → Outcome [] (contract_line cause) 1
    -- the program has no node of this name to be run
    no_node_to_run : {file name : List ℕ} {program : List Item} → IsRunOf words file name ⊎ IsTellOf words file name → (held : IsHeld files file program) → AreKeptInGames held.clocked →
        node_among held.clocked name ≡ None → Outcome [] (no_node_line name) 1
    -- the machine that is run for the node of this name passes a limit; of programs without controllable variables that of a contract alone may do so
    chosen_too_large : {file node name : List ℕ} {o : Obc} (limit : Limit) → (compiled : AreCompiled files file o) → AsksToRun words file node compiled.program → IsRunFor node name →
        IsPassed o name limit → Outcome [] (executor_line limit) 1
    -- the program is accepted: each contract is kept, so no violation is ever forced in its game
    accepted : {file : List ℕ} {program : List Item} (print : Bool) → IsCheckOf words file print → (held : IsHeld files file program) → AreKeptInGames held.clocked →
        Outcome (put_events (accepted_text print program)) [] 0
    -- a put failed; of what is said of an accepted program the first bytes were said
    accepted_in_part : {file : List ℕ} {program : List Item} (print : Bool) (out rest : List ℕ) → IsCheckOf words file print →
        (held : IsHeld files file program) → AreKeptInGames held.clocked → out ++ rest ≡ accepted_text print program → Outcome (put_events out) [] 5
    -- the program has no node of this name
    no_node : {file name : List ℕ} {program : List Item} → IsOverContract words file name → (held : IsHeld files file program) → node_among held.clocked name ≡ None →
        Outcome [] (no_node_line name) 1
    -- the node has no contract
    no_contract : {file name : List ℕ} {program : List Item} (node : Node) → IsOverContract words file name → (held : IsHeld files file program) →
        node_among held.clocked name ≡ Some node → node.contract ≡ None → Outcome [] (no_contract_line name node.span) 1
    -- its contract has no machine, and what the cause says is so of the node; a certificate to be verified is not read, whether it is there or not
    no_verdict : {file name : List ℕ} (cause : ContractErr) → IsOverContract words file name → (c : HasContract files file name) → cause ≢ OutOfMemory →
        RefusesInGame c.held.clocked c.node cause → Outcome [] (contract_line cause) 1
    -- the text of the certificate of its machine is longer than it may be, and is not written
    long_proof : {file name cert : List ℕ} → IsProveOf words file name cert → (c : HasContract files file name) → (has : HasMachine c.held.clocked c.node) →
        IsLong has.machine (is_wide_contract c.node.contract) → Outcome [] (too_long_line Text) 1
    -- the certificate of its machine was written, whose verdict is the one on the game of the contract
    proved : {file name cert text : List ℕ} → IsProveOf words file name cert → (c : HasContract files file name) → IsProofInGame c.held.clocked c.node text → Outcome [] [] 0
    -- it could not be written
    proof_not_written : {file name cert text : List ℕ} → IsProveOf words file name cert → (c : HasContract files file name) → IsProofInGame c.held.clocked c.node text → Outcome [] [] 5
    -- its contract has a machine, and the certificate was not read
    unread_certificate : {file name cert : List ℕ} → IsVerifyOf words file name cert → (c : HasContract files file name) → HasMachine c.held.clocked c.node → Outcome [] [] 4
    -- its contract has a machine, and the text of the certificate is longer than it may be
    long_certificate : {file name cert : List ℕ} → IsVerifyOf words file name cert → (c : HasContract files file name) → HasMachine c.held.clocked c.node →
        GivesMoreThan files cert (most Text) → Outcome [] (too_long_line Text) 1
    -- this is what the certificate proves of the machine of its contract, and it holds in the game of the contract
    verified : {file name cert : List ℕ} (text : List ℕ) (p : Proved) → IsVerifyOf words file name cert → (c : HasContract files file name) → Gives files cert text →
        ShowsInGame c.held.clocked c.node text p → Outcome (put_events (verdict_text p)) [] 0
    -- a put failed; of what it proves the first bytes were said
    verified_in_part : {file name cert : List ℕ} (text : List ℕ) (p : Proved) (out rest : List ℕ) → IsVerifyOf words file name cert → (c : HasContract files file name) → Gives files cert text →
        ShowsInGame c.held.clocked c.node text p → out ++ rest ≡ verdict_text p → Outcome (put_events out) [] 5
    -- its contract has a machine, and the certificate is refused, by the first test that it fails
    certificate_refused : {file name cert : List ℕ} (text : List ℕ) (cause : CertErr) → IsVerifyOf words file name cert → (c : HasContract files file name) → Gives files cert text →
        cause ≢ certificate.OutOfMemory → RefusesCert c.held.clocked c.node text cause → Outcome [] (certificate_line cause) (certificate_status cause)
    -- the text of machines is too long
    long_text : {file node : List ℕ} → IsExecOf words file node → GivesMoreThan files file (most Text) → Outcome [] (too_long_line Text) 1
    -- a word of the text is refused: with it, or at the end, it is no text of machines
    no_text : {file node : List ℕ} (text : List ℕ) (at : Span) → IsExecOf words file node → Gives files file text → IsRefused text at → Outcome [] (no_text_line at) 8
    -- a word of the text is the first that breaks a rule of form
    no_form : {file node : List ℕ} (text : List ℕ) (at : Span) → IsExecOf words file node → Gives files file text → BreaksForm text at → Outcome [] (no_form_line at) 8
    -- there is no machine of this name in the text
    no_machine : {file node : List ℕ} {o : Obc} → IsExecOf words file node → AreMachines files file o → machine_named o.machines node ≡ None → Outcome [] (no_node_line node) 1
    -- the machine of this name, of a text of machines, passes a limit: that on the machines on a chain of instances comes first, and then that on all instances
    too_large : {file node : List ℕ} {o : Obc} (limit : Limit) → IsExecOf words file node → AreMachines files file o → IsPassed o node limit → Outcome [] (executor_line limit) 1
    -- the machines of the program were written
    compiled : {file out : List ℕ} {o : Obc} → IsCompileOf words file out → AreCompiled files file o → Outcome [] [] 0
    -- they could not be written
    not_written : {file out : List ℕ} {o : Obc} → IsCompileOf words file out → AreCompiled files file o → Outcome [] [] 5
    -- the program of a source text was written without the formulas of its contracts, or was not
    past : {file out line : List ℕ} {status : ℕ} → IsPastOf words file out → PastOutcome files file line status → Outcome [] line status
    -- the summary of a sweep, or the first bytes of it, where a put failed
    swept : {tasks instants : ℕ} (text : List ℕ) → IsSweepOf words tasks instants → IsSwept tasks instants text → Outcome (put_events text) [] 0
    swept_in_part : {tasks instants : ℕ} (text out rest : List ℕ) → IsSweepOf words tasks instants → IsSwept tasks instants text → out ++ rest ≡ text → Outcome (put_events out) [] 5
    -- its program is not compiled, or its machine cannot be run; the line tells which. No sweep has shown this; that none does is not said here
    not_swept : {tasks instants : ℕ} {line : List ℕ} → IsSweepOf words tasks instants → IsNotSwept tasks line → Outcome [] line 1
    -- the input was read to its end, and each line answered
    done : {s : System} {log : List Event} → IsAskedFor words files s → InLockstep s log → has_ended log ≡ true → IsAnswer s (lines_of true (heard log)) (said log) →
        first_bad (inputs_of s) 1 (lines_of true (heard log)) ≡ None → Outcome log [] 0
    -- this is the first line that has a fault; the lines before it were answered
    bad_line : {s : System} {log : List Event} (line : BadLine) → IsAskedFor words files s → InLockstep s log → IsAnswer s (lines_of (has_ended log) (heard log)) (said log) →
        first_bad (inputs_of s) 1 (lines_of (has_ended log) (heard log)) ≡ Some line → Outcome log (bad_line_line line) 3
    -- a take failed; the whole lines that were heard were answered, and none that was heard has a fault
    take_failed : {s : System} {log : List Event} → IsAskedFor words files s → InLockstep s log → IsAnswer s (whole_lines (heard log)) (said log) →
        first_bad (inputs_of s) 1 (lines_of false (heard log)) ≡ None → Outcome log [] 4
    -- a put failed; of the answers to the lines that were heard the first bytes were said
    put_failed : {s : System} {log : List Event} (rest : List ℕ) → IsAskedFor words files s → InLockstep s log → IsAnswer s (lines_of (has_ended log) (heard log)) (said log ++ rest) →
        Outcome log [] 5
    -- the diagnostics took only the first bytes of a line
    line_failed : {log : List Event} {status : ℕ} (line : List ℕ) (b : ℕ) (rest : List ℕ) → Outcome log (line ++ b ∷ rest) status → Outcome log line 5
