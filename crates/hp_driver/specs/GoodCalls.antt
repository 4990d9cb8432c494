-- Calls of which nothing is wrong: those that are to run a machine or a node to the end of the input, those that are to check a program or to write its machines, those that are to write a certificate or to verify one, and those that are to leave a checkpoint.
use Rattle.std.specs.Prelude.{◌≡◌, ◌≤◌, length, ℕ, Bool, true, false, IsTrue, List, reverse, Option, None, Some, IsSome, is_some}
use Rattle.hp_abstract.specs.Machines.{IsMachineOf}
use Rattle.hp_base.specs.Limits.{most}
use Rattle.hp_base.specs.declared.limit.What.TheVariants.{Size, Text}
use Rattle.hp_boolx.specs.Machine.{Machine}
use Rattle.hp_cert.specs.declared.checking.Proved.{Proved}
use Rattle.hp_compile.specs.Arranged.{IsArrangeable, IsArranged}
use Rattle.hp_compile.specs.Judged.{IsProgramOf, IsJudged}
use Rattle.law_decided.specs.Acceptable.{IsDecidable, AreAcceptable}
use Rattle.hp_io.specs.Faults.{Faults, IsCalm}
use Rattle.hp_io.specs.Files.{Files}
use Rattle.hp_obc.specs.Machines.{Obc}
use Rattle.hp_obctext.specs.declared.memory.error.MemErr.{MemErr}
use Rattle.hp_tree.specs.Meaning.{node_among}
use Rattle.hp_tree.specs.Programs.{Node}
use Rattle.hp_tree.specs.declared.program.Item.{Item}
use Rattle.hp_verdicts.specs.Decided.{IsLong, IsProof, has_contract, is_wide_contract}
use Rattle.hp_verdicts.specs.Verified.{Shows}
use Rattle.hp_driver.specs.Checkpoints.{IsTaken, RefusesCheckpoint}
use Rattle.hp_driver.specs.Controls.{has_controls}
use Rattle.hp_driver.specs.Command.{IsRunOf, IsCheckOf, IsCompileOf, IsPastOf, IsExecOf, IsProveOf, IsVerifyOf, IsSegmentOf, IsOver, Writes}
use Rattle.hp_driver.specs.Lines.{lines_of}
use Rattle.hp_driver.specs.NodeKinds.{input_kinds}
use Rattle.hp_driver.specs.PastOutcome.{unfolded_text}
use Rattle.hp_driver.specs.Outcome.{Gives, IsHeld, AreMachines, IsMachine}
use Rattle.hp_driver.specs.Segments.{IsRunnable, run_words}
use Rattle.hp_driver.specs.Systems.{of_machine, inputs_of}
use Rattle.hp_driver.specs.Values.{first_bad}

-- The objects tell that no call on them fails that the words ask for: no read of a file that is to be read, no write of the file that is to be written, no take and no put.
pub record AreCalm (words : List (List ℕ)) (reads writes : List ℕ → Faults) (takes puts tells : Faults) : Type 0 where
  pub each_read : (file : List ℕ) → IsOver words file → IsCalm (reads file)
  pub each_write : (out : List ℕ) → Writes words out → IsCalm (writes out)
  pub each_take : IsCalm takes
  pub each_put : IsCalm puts
  pub each_tell : IsCalm tells

-- The words ask to run a machine of a text of machines. The folder tells that its file holds it, within the limits, and the console tells an input of which no
-- line has a fault.
pub record IsGood (words : List (List ℕ)) (files : Option Files) (left : Option (List ℕ)) : Type 0 where
  pub file : List ℕ
  pub node : List ℕ
  pub o : Obc
  pub asked : IsExecOf words file node
  pub held : Files
  pub folder : files ≡ Some held
  pub machines : AreMachines files file o
  pub machine : IsMachine node o
  pub input : List ℕ
  pub console : left ≡ Some input
  pub lines : first_bad (inputs_of (of_machine o node)) 1 (lines_of true input) ≡ None

-- The folder tells that a file holds a source text, which has a program that breaks no rule.
pub record IsGoodFile (files : Option Files) (file : List ℕ) (program : List Item) : Type 0 where
  pub held : Files
  pub folder : files ≡ Some held
  pub text : List ℕ
  pub gives : Gives files file text
  pub judged : IsJudged text program
  pub arrangeable : IsArrangeable program

-- Once the program is arranged, no contract is refused: each can be decided, and no violation is ever forced in its game.
abbrev pub AreGoodContracts : List Item → Type 0
AreGoodContracts program = (clocked : List Item) (ranks : List (List ℕ)) → IsArranged program clocked ranks → AreAcceptable clocked

-- The words ask to check such a file, of whose program no contract is refused,
pub record IsGoodCheck (words : List (List ℕ)) (files : Option Files) : Type 0 where
  pub file : List ℕ
  pub print : Bool
  pub asked : IsCheckOf words file print
  pub program : List Item
  pub source : IsGoodFile files file program
  pub contracts : AreGoodContracts program

-- or to write the machines of such a program,
pub record IsGoodCompile (words : List (List ℕ)) (files : Option Files) : Type 0 where
  pub file : List ℕ
  pub out : List ℕ
  pub asked : IsCompileOf words file out
  pub program : List Item
  pub source : IsGoodFile files file program
  pub contracts : AreGoodContracts program

-- or to run a node that the program has, which has no controllable variables, and the console tells an input of which no line has a fault.
pub record IsGoodRun (words : List (List ℕ)) (files : Option Files) (left : Option (List ℕ)) : Type 0 where
  pub file : List ℕ
  pub node : List ℕ
  pub asked : IsRunOf words file node
  pub program : List Item
  pub source : IsGoodFile files file program
  pub contracts : AreGoodContracts program
  pub uncontrolled : has_controls program ≡ false
  pub there : IsSome (node_among (reverse program) node)
  pub input : List ℕ
  pub console : left ≡ Some input
  pub lines : first_bad (input_kinds program node) 1 (lines_of true input) ≡ None

-- The words ask to run a node from its memory after a reset, or from the one of the checkpoint in a file, and to leave a checkpoint behind the run. To run that node is such a call.
pub record IsGoodSegment (words : List (List ℕ)) (files : Option Files) (left : Option (List ℕ)) (from : Option (List ℕ)) : Type 0 where
  pub file : List ℕ
  pub node : List ℕ
  pub out : List ℕ
  pub asked : IsSegmentOf words file node from out
  pub run : IsGoodRun (run_words file node) files left

abbrev pub IsGoodSave : List (List ℕ) → Option Files → Option (List ℕ) → Type 0
IsGoodSave words files left = IsGoodSegment words files left None

-- They ask so to resume a run from a file that holds a text, no longer than that of a checkpoint may be.
pub record IsResume (words : List (List ℕ)) (files : Option Files) (left : Option (List ℕ)) : Type 0 where
  pub mem : List ℕ
  pub segment : IsGoodSegment words files left (Some mem)
  pub text : List ℕ
  pub gives : Gives files mem text
  pub short : length text ≤ most Text

-- Each machine that `run` may run for the node takes the text.
pub record IsGoodResume (words : List (List ℕ)) (files : Option Files) (left : Option (List ℕ)) : Type 0 where
  pub resume : IsResume words files left
  pub taken : (o : Obc) → IsRunnable files resume.segment.file resume.segment.node o → IsTaken o resume.segment.node resume.text

-- Some such machine refuses the text.
pub record IsRefused (files : Option Files) (file node text : List ℕ) : Type 0 where
  pub o : Obc
  pub there : IsRunnable files file node o
  pub cause : MemErr
  pub refuses : RefusesCheckpoint o node text cause

-- The words ask to write the program of a text without the formulas of its contracts, whatever its names and types are. The text is a program, and what would be written is no longer than a text may be.
pub record IsGoodPast (words : List (List ℕ)) (files : Option Files) : Type 0 where
  pub file : List ℕ
  pub out : List ℕ
  pub asked : IsPastOf words file out
  pub held : Files
  pub folder : files ≡ Some held
  pub text : List ℕ
  pub gives : Gives files file text
  pub program : List Item
  pub program_of : IsProgramOf text program
  pub short : (other : List Item) → IsProgramOf text other → length (unfolded_text other) ≤ most Size

-- The node of this name has a contract, which can be decided.
pub record HasDecidable (program : List Item) (name : List ℕ) : Type 0 where
  pub node : Node
  pub named : node_among program name ≡ Some node
  pub some : IsTrue (is_some node.contract)
  pub decidable : IsDecidable program node

-- The text of the certificate of its machine is no longer than it may be,
pub record IsProvable (program : List Item) (name : List ℕ) : Type 0 where
  pub there : HasDecidable program name
  pub short : (m : Machine) → IsMachineOf program there.node m → IsLong m (is_wide_contract there.node.contract) → ⊥

-- or this is the text of a certificate that proves something of it.
pub record IsVerifiable (program : List Item) (name text : List ℕ) : Type 0 where
  pub there : HasDecidable program name
  pub verdict : Proved
  pub shown : Shows program there.node text verdict

-- The words ask for the certificate of such a contract of a program, once it is arranged, whether its contracts are kept or not,
pub record IsGoodProve (words : List (List ℕ)) (files : Option Files) : Type 0 where
  pub file : List ℕ
  pub node : List ℕ
  pub cert : List ℕ
  pub asked : IsProveOf words file node cert
  pub program : List Item
  pub source : IsGoodFile files file program
  pub provable : (clocked : List Item) (ranks : List (List ℕ)) → IsArranged program clocked ranks → IsProvable clocked node

-- or to verify such a text, which the folder tells that a file holds.
pub record IsGoodVerify (words : List (List ℕ)) (files : Option Files) : Type 0 where
  pub file : List ℕ
  pub node : List ℕ
  pub cert : List ℕ
  pub asked : IsVerifyOf words file node cert
  pub program : List Item
  pub source : IsGoodFile files file program
  pub text : List ℕ
  pub gives : Gives files cert text
  pub verifiable : (clocked : List Item) (ranks : List (List ℕ)) → IsArranged program clocked ranks → IsVerifiable clocked node text

-- Of a program without contracts nothing more is asked: it has none that is refused, and no controllable variables.
abbrev pub PlainLaw : Type 0
PlainLaw = (program : List Item) → has_contract program ≡ false → AreGoodContracts program × (has_controls program ≡ false)

-- The text of the certificate of a contract is one of the texts that are to be verified. So what `prove` writes `verify` accepts, once a file holds it.
abbrev pub ProvedLaw : Type 0
ProvedLaw =
    (files : Option Files) (file : List ℕ) (program : List Item) (held : IsHeld files file program) (name text : List ℕ) (there : HasDecidable held.clocked name) → IsProof held.clocked there.node text
    → (clocked : List Item) (ranks : List (List ℕ)) → IsArranged program clocked ranks → IsVerifiable clocked name text
