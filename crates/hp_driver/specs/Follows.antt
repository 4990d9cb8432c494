-- What a call does behind its words: by the text that was read, and by the words alone.
use Rattle.std.specs.Prelude.{◌≡◌, [], ◌++◌, ℕ, List, Option, Some}
use Rattle.hp_io.specs.Files.{Files}
use Rattle.hp_io.specs.declared.console.Event.{Event}
use Rattle.hp_obc.specs.Machines.{Obc}
use Rattle.hp_obctext.specs.Answers.{Refuses as RefusesText}
use Rattle.hp_obctext.specs.declared.error.ObcErr.{ObcErr}
use Rattle.hp_exec.specs.Answers.{Refuses as RefusesMachine}
use Rattle.hp_exec.specs.declared.error.ExecErr.{ExecErr}
use Rattle.hp_compile.specs.Arranged.{IsArranged}
use Rattle.hp_compile.specs.Judged.{IsJudged}
use Rattle.law_decided.specs.Outcomes.{AreKeptInGames}
pub use Rattle.hp_driver.specs.Texts.{IsArrangedText}
use Rattle.hp_driver.specs.Compiled.{IsNotCompiled}
use Rattle.hp_driver.specs.declared.compile_error.CompileErr.{CompileErr}
use Rattle.hp_driver.specs.Command.{IsRunOf, IsTellOf, IsCompileOf, IsExecOf, IsVerifyOf, IsSweepOf}
use Rattle.hp_driver.specs.Diagnostics.{executor_line}
use Rattle.hp_driver.specs.Systems.{System}
use Rattle.hp_base.specs.declared.limit.Limit.{Limit}
use Rattle.hp_exec.specs.Answers.{IsPassed}
use Rattle.hp_tree.specs.Meaning.{node_among}
use Rattle.hp_abstract.specs.Machines.{IsMachineOf}
use Rattle.hp_boolx.specs.Machine.{Machine}
use Rattle.hp_driver.specs.Commanded.{SpellsTask}
use Rattle.hp_driver.specs.Outcome.{Gives, IsHeld, IsOnly, HasContract, AreCompiled, AreMachines, IsAskedFor, IsMachine, Outcome}
use Rattle.hp_driver.specs.declared.words.Task.{Task}
use Rattle.hp_tree.specs.Programs.{Node}
use Rattle.hp_tree.specs.declared.program.Item.{Item}

-- whatever words and folder gave the source text
abbrev pub OutcomeOf : Task → List ℕ → List Event → List ℕ → ℕ → Type 0
OutcomeOf task text log line status =
    (words : List (List ℕ)) (files : Option Files) (file : List ℕ) → SpellsTask words file task → Gives files file text → Outcome words files log line status

-- whatever words and folder gave the program, of which this is the ordered one
abbrev pub DecidedOutcome : Task → List Item → List Item → List Event → List ℕ → ℕ → Type 0
DecidedOutcome task program ordered log line status =
    (words : List (List ℕ)) (files : Option Files) (file : List ℕ) (held : IsHeld files file program) → held.clocked ≡ ordered → SpellsTask words file task → Outcome words files log line status

-- whatever words asked to compile a text, which is not compiled for this reason
abbrev pub RefusedCompile : List ℕ → CompileErr → List ℕ → ℕ → Type 0
RefusedCompile out error line status =
    (words : List (List ℕ)) (files : Option Files) (file text : List ℕ) → IsCompileOf words file out → Gives files file text → IsNotCompiled text error → Outcome words files [] line status

-- whatever text the program is of
abbrev pub ProgramOutcome : Task → List Item → List Event → List ℕ → ℕ → Type 0
ProgramOutcome task program log line status = (text : List ℕ) → IsJudged text program → IsOnly text program → OutcomeOf task text log line status

-- The text has a program, and this is it once it is arranged.
pub record IsOrdered (text : List ℕ) (ordered : List Item) : Type 0 where
  pub program : List Item
  pub judged : IsJudged text program
  pub only : IsOnly text program
  pub ranks : List (List ℕ)
  pub arranged : IsArranged program ordered ranks

-- It is the node of this name in the ordered program of a text.
abbrev pub IsNodeOfText : List Item → Node → Type 0
IsNodeOfText ordered node = (program : List Item) × (name : List ℕ) × IsArrangedText program ordered × (node_among ordered name ≡ Some node)

-- whatever words of a kind gave the text, among these files
abbrev pub TextOutcome : Option Files → (List (List ℕ) → List ℕ → Type 0) → List ℕ → List Event → List ℕ → ℕ → Type 0
TextOutcome files Asked text log line status = (words : List (List ℕ)) (file : List ℕ) → Asked words file → Gives files file text → Outcome words files log line status

-- whatever words of a kind gave the program, of which this is the ordered one
abbrev pub NodeOutcome : Option Files → (List (List ℕ) → List ℕ → Type 0) → List Item → List Event → List ℕ → ℕ → Type 0
NodeOutcome files Asked ordered log line status =
    (words : List (List ℕ)) (file : List ℕ) (program : List Item) (held : IsHeld files file program) → held.clocked ≡ ordered → Asked words file → Outcome words files log line status

-- whatever words of a kind gave the node with a contract, of this ordered program
abbrev pub ContractOutcome : Option Files → (List (List ℕ) → List ℕ → List ℕ → Type 0) → List Item → Node → List Event → List ℕ → ℕ → Type 0
ContractOutcome files Asked ordered node log line status =
    (words : List (List ℕ)) (file name : List ℕ) (c : HasContract files file name) → c.held.clocked ≡ ordered → c.node ≡ node → Asked words file name → Outcome words files log line status

-- whatever words of `verify` gave the node of whose contract this is the machine, among these files
abbrev pub MachineOutcome : Option Files → List ℕ → Machine → List Event → List ℕ → ℕ → Type 0
MachineOutcome files cert m log line status =
    (words : List (List ℕ)) (file name : List ℕ) (c : HasContract files file name) → IsMachineOf c.held.clocked c.node m → IsVerifyOf words file name cert → Outcome words files log line status

-- and whatever words and folder gave the text of the certificate
abbrev pub CertOutcome : Machine → List ℕ → List Event → List ℕ → ℕ → Type 0
CertOutcome m text log line status = (files : Option Files) (cert : List ℕ) → Gives files cert text → MachineOutcome files cert m log line status

-- whatever words and folder gave the text of machines, of which one of this name is to be run
abbrev pub ExecOf : List ℕ → List ℕ → List Event → List ℕ → ℕ → Type 0
ExecOf text node log line status =
    (words : List (List ℕ)) (files : Option Files) (file : List ℕ) → IsExecOf words file node → Gives files file text → Outcome words files log line status

-- whatever words and folder gave the machines, of which one of this name is to be run
abbrev pub MachinesOutcome : Obc → List ℕ → List Event → List ℕ → ℕ → Type 0
MachinesOutcome o node log line status = (words : List (List ℕ)) (files : Option Files) (file : List ℕ) → IsExecOf words file node → AreMachines files file o → Outcome words files log line status

-- a text of machines is refused for this reason, and so is a machine of this name
abbrev pub RefusedText : ObcErr → List ℕ → ℕ → Type 0
RefusedText error line status = (text node : List ℕ) → RefusesText text error → ExecOf text node [] line status

abbrev pub RefusedMachine : List ℕ → ExecErr → List ℕ → ℕ → Type 0
RefusedMachine node error line status = (o : Obc) → RefusesMachine o node error → MachinesOutcome o node [] line status

-- whatever words and folder asked for this system, whose machine has this name among these
abbrev pub ChosenOutcome : System → Obc → List ℕ → List Event → List ℕ → ℕ → Type 0
ChosenOutcome s o name log line status =
    (words : List (List ℕ)) (files : Option Files) → (IsMachine name o → IsAskedFor words files s) → ((limit : Limit) → IsPassed o name limit → Outcome words files [] (executor_line limit) 1) →
    Outcome words files log line status

-- the machine of this name is refused for this reason
abbrev pub RefusedChosen : List ℕ → ExecErr → List ℕ → ℕ → Type 0
RefusedChosen name error line status = (s : System) (o : Obc) → RefusesMachine o name error → ChosenOutcome s o name [] line status

-- whatever words and program the ordered program is of, where a node of it is run
abbrev pub OrderedRun : List ℕ → List Item → List Event → List ℕ → ℕ → Type 0
OrderedRun node ordered log line status =
    (words : List (List ℕ)) (files : Option Files) (file : List ℕ) (program : List Item) (held : IsHeld files file program) → held.clocked ≡ ordered →
    AreKeptInGames held.clocked → IsRunOf words file node → Outcome words files log line status

-- whatever words and program the ordered program is of, where it is asked what the contract of a node assumes and enforces
abbrev pub OrderedTell : List ℕ → List Item → List Event → List ℕ → ℕ → Type 0
OrderedTell node ordered log line status =
    (words : List (List ℕ)) (files : Option Files) (file : List ℕ) (program : List Item) (held : IsHeld files file program) → held.clocked ≡ ordered →
    AreKeptInGames held.clocked → IsTellOf words file node → Outcome words files log line status

-- whatever words asked for a node of this name, whose machine is among these, to be run, or to be told of
abbrev pub NodeRun : Obc → Node → List ℕ → List Event → List ℕ → ℕ → Type 0
NodeRun o n node log line status =
    (words : List (List ℕ)) (files : Option Files) (file : List ℕ) (compiled : AreCompiled files file o) → node_among compiled.held.clocked node ≡ Some n →
    IsRunOf words file node → Outcome words files log line status

abbrev pub NodeTold : Obc → Node → List ℕ → List Event → List ℕ → ℕ → Type 0
NodeTold o n node log line status =
    (words : List (List ℕ)) (files : Option Files) (file : List ℕ) (compiled : AreCompiled files file o) → node_among compiled.held.clocked node ≡ Some n → IsTellOf words file node → Outcome words files log line status

-- whatever words ask for a sweep
abbrev pub SweepOutcome : ℕ → ℕ → List Event → List ℕ → ℕ → Type 0
SweepOutcome tasks instants log line status = (words : List (List ℕ)) (files : Option Files) → IsSweepOf words tasks instants → Outcome words files log line status

-- all of a text is said, or a put failed, or there was no memory for the text
pub data Accepts (text : List ℕ) : List ℕ → ℕ → Type 0 where
  said : Accepts text text 0
  said_in_part : (out rest : List ℕ) → out ++ rest ≡ text → Accepts text out 5
  no_memory : Accepts text [] 6
