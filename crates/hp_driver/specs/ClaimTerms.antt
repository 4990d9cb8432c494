-- The terms of the claim: a program that a file holds, its machines, its traces, and its contracts.
-- Source: own.
use Rattle.std.specs.Prelude.{◌≡◌, ◌≤◌, ℕ, true, false, List, [], ◌∷◌, ◌++◌, length, reverse, codes, Option, None, Some, is_some, IsTrue}
use Rattle.std.specs.FinMap as map
use Rattle.hp_base.specs.Limits.{most}
use Rattle.hp_base.specs.declared.limit.Limit.{Limit}
use Rattle.hp_base.specs.declared.limit.What.{What}
use Rattle.hp_base.specs.declared.limit.What.TheVariants.{Size, Text}
use Rattle.hp_io.specs.Files.{Files, Holds}
use Rattle.hp_tree.specs.declared.program.Item.{Item}
use Rattle.hp_tree.specs.declared.program.Item.TheVariants.{NodeItem}
use Rattle.hp_tree.specs.Meaning.{node_among}
use Rattle.hp_tree.specs.Programs.{Node}
use Rattle.hp_meaning.specs.Contract.Guarantee.{AllSafe}
use Rattle.hp_compile.specs.Arranged.{IsArranged, IsArrangeable}
use Rattle.hp_compile.specs.Judged.{IsJudged}
use Rattle.hp_compile.specs.Refusals.{Causes}
use Rattle.hp_compile.specs.declared.refusal.Refusal.{Refusal}
use Rattle.hp_obc.specs.Form.{machine_named}
use Rattle.hp_obc.specs.Machines.{Machine, Obc}
use Rattle.hp_obctext.specs.Answers.{IsTextOf}
use Rattle.hp_cert.specs.Certtext.Certificates.{Certificate}
use Rattle.hp_cert.specs.Certtext.Refusals.{IsRefused}
use Rattle.hp_cert.specs.Certtext.Texts.{IsCertText, cert_text}
use Rattle.hp_cert.specs.Certtext.Written.{IsTooLong}
use Rattle.hp_cert.specs.declared.certtext.error.CertErr.{CertErr}
use Rattle.hp_cert.specs.declared.certtext.error.CertErr.TheVariants as certificate
use Rattle.hp_cert.specs.declared.checking.Proved.{Proved}
use Rattle.hp_verdicts.specs.Decided.{verdict_of}
use Rattle.hp_verdicts.specs.declared.error.ContractErr.{ContractErr}
use Rattle.hp_verdicts.specs.declared.error.ContractErr.TheVariants as contract
use Rattle.law_drawing.specs.Mirrors.Assumptions.{AssumesControl}
use Rattle.law_drawing.specs.Mirrors.Limits.{IsOver as PassesLimit}
use Rattle.hp_driver.specs.Agreeing.{AgreeWithNodes}
use Rattle.hp_driver.specs.Answers.{IsAnswer}
use Rattle.hp_driver.specs.BadLines.{bad_line_line}
use Rattle.hp_driver.specs.Command.{IsPastOf, IsExecOf, IsVerifyOf, IsOver, ReadsSource}
use Rattle.hp_driver.specs.Controls.{has_controls}
use Rattle.hp_driver.specs.Diagnostics.{contract_line, executor_line, refusal_line}
use Rattle.hp_driver.specs.Sweeping.{tasks_text}
use Rattle.hp_driver.specs.Systems.{System, of_machine, that_tells, from_memory, inputs_of}
use Rattle.hp_driver.specs.Values.{first_bad}
use Rattle.hp_driver.specs.declared.trace_limits.BadLine.{BadLine}
use Rattle.hp_obc.specs.Steps.{Memory, machine_behaviour}
use Rattle.hp_controlled.specs.Chosen.{IsChosen, IsToldBy}
use Rattle.law_controlled.specs.Greatest.{AllSayGreatest}
use Rattle.hp_driver.specs.Checkpoints.{IsCheckpointOf}
use Rattle.hp_driver.specs.declared.telling.Ending.TheVariants.{Told, Kept}

-- The file holds the text of a program that breaks no rule. `clocked` has inlined calls replaced, and clocks written.
pub record Program (files : Files) (file : List ℕ) : Type 0 where
  pub text : List ℕ
  pub held : Holds files file text
  pub program : List Item
  pub judged : IsJudged text program
  pub only : (other : List Item) → IsJudged text other → other ≡ program
  pub clocked : List Item
  pub ranks : List (List ℕ)
  pub arranged : IsArranged program clocked ranks

-- in the game of each of its contracts no violation is ever forced
abbrev pub AllKept : {files : Files} {file : List ℕ} → Program files file → Type 0
AllKept p = AllSafe p.clocked (reverse p.clocked)

-- Of the contracts of a program this is the first that is refused: those of the nodes before it are kept.
abbrev pub IsFirst : List Item → Node → Type 0
IsFirst program n =
    (before : List Item) × (behind : List Item) × (program ≡ before ++ NodeItem n ∷ behind) × AllSafe program before

-- a text is that of a certificate with this verdict
abbrev pub Certifies : List ℕ → Proved → Type 0
Certifies text verdict = (c : Certificate) × (text ≡ cert_text c) × (verdict_of c.claim ≡ verdict)

-- Why a text proves nothing: it is longer than one may be, or from this place on it is no certificate; or it is one,
-- which fails a test.
abbrev pub IsNoProof : List ℕ → CertErr → Type 0
IsNoProof text (certificate.Limit limit) = IsTooLong text limit
IsNoProof text (certificate.Syntax at) = IsRefused text at
IsNoProof text cause = (c : Certificate) × IsCertText text c

-- its contract cannot be decided: the assumption reads a controllable variable of its instant, or the bits pass a limit
abbrev pub IsUndecidable : List Item → Node → ContractErr → Type 0
IsUndecidable program n (contract.Assume name at) = (name ≡ n.name) × AssumesControl n
IsUndecidable program n (contract.Limit name limit) = (name ≡ n.name) × PassesLimit program n limit
IsUndecidable program n cause = ⊥

-- What is said to some lines are the answers up to the first with a fault. Where there is one, the diagnostics name it.
pub data IsTrace (s : System) (lines : List (List ℕ)) : List ℕ → List ℕ → ℕ → Type 0 where
  whole : {said : List ℕ} → IsAnswer s lines said → first_bad (inputs_of s) 1 lines ≡ None → IsTrace s lines said [] 0
  broken : {said : List ℕ} (bad : BadLine) → IsAnswer s lines said → first_bad (inputs_of s) 1 lines ≡ Some bad →
      IsTrace s lines said (bad_line_line bad) 3

-- Machines implement a program whose contracts are kept. What they say over inputs of its kinds the program allows; a node
-- that calls none in whose contract integers are compared has the greatest permitted values; so it keeps its contract while
-- the nodes that it calls keep theirs. And if the program has no
-- controllable variables, the machine of each node refuses the lines that the node refuses, and answers the same to others.
pub record Implement {files : Files} {file : List ℕ} (p : Program files file) (o : Obc) : Type 0 where
  pub kept : AllKept p
  pub says : AllSayGreatest p.clocked o
  pub agree : has_controls p.program ≡ false → AgreeWithNodes p.clocked o

-- What is run for a node: its own machine, which takes its inputs and gives its outputs;
pub data IsOwnOf (program : List Item) (o : Obc) (node : List ℕ) : System → Type 0 where
  own : (n : Node) → node_among program node ≡ Some n → IsChosen node o n → IsOwnOf program o node (of_machine o node)

-- or, with `--contract`, the one that also tells what its contract assumes and enforces, if it has one.
pub data IsTellerOf (program : List Item) (o : Obc) (node : List ℕ) : System → Type 0 where
  with_contract : (n : Node) → node_among program node ≡ Some n → IsTrue (is_some n.contract) →
      IsToldBy (node ++ codes "$contract") o n →
      IsTellerOf program o node (that_tells Told o (node ++ codes "$contract"))
  without : (n : Node) → node_among program node ≡ Some n → n.contract ≡ None → IsChosen node o n →
      IsTellerOf program o node (that_tells Kept o node)

-- what `run` runs for a node, and machines one of which does it
pub data Runs {files : Files} {file : List ℕ} (p : Program files file) (o : Obc) (node : List ℕ) : System → Type 0 where
  the_machine : {s : System} → Implement p o → IsOwnOf p.clocked o node s → Runs p o node s

-- A run starts with a memory of the machine: that after a reset, or the one for which the checkpoint in a file stands.
pub data Starts {files : Files} {file : List ℕ} (p : Program files file) (o : Obc) (node : List ℕ) :
    Option (List ℕ) → Memory → System → Type 0 where
  anew : {s : System} → Runs p o node s → Starts p o node None (machine_behaviour o node).reset s
  again : {mem text : List ℕ} {memory : Memory} {s : System} → Runs p o node s → Holds files mem text →
      IsCheckpointOf o node memory text → Starts p o node (Some mem) memory (from_memory o node memory)

-- the file is read as a source text or as another text, which may have so many bytes
pub data IsReadAs (words : List (List ℕ)) (file : List ℕ) : What → Type 0 where
  a_source : ReadsSource words file → IsReadAs words file Size
  a_tree : {out : List ℕ} → IsPastOf words file out → IsReadAs words file Size
  machines : {node : List ℕ} → IsExecOf words file node → IsReadAs words file Text
  a_certificate : {source node : List ℕ} → IsVerifyOf words source node file → IsReadAs words file Text

-- a file that is to be read is not there
abbrev pub LacksFile : List (List ℕ) → Files → Type 0
LacksFile words files = (file : List ℕ) × IsOver words file × (map.get files file ≡ None)

-- The line tells why a sweep says nothing: the program of its tasks is refused, or its contract is, or its machine passes
-- a limit.
pub data RefusesTasks (tasks : ℕ) : List ℕ → Type 0 where
  refused : (cause : Refusal) → ((program : List Item) → IsJudged (tasks_text tasks) program → IsArrangeable program → ⊥) →
      Causes (tasks_text tasks) cause → RefusesTasks tasks (refusal_line cause)
  contract_refused : (cause : ContractErr) → RefusesTasks tasks (contract_line cause)
  too_large : (limit : Limit) → RefusesTasks tasks (executor_line limit)
