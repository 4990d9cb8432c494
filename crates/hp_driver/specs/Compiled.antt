-- What a text is compiled to, and why it is not.
-- Source: own.
use Rattle.std.specs.Prelude.{◌≡◌, ◌≢◌, ⊤, ℕ, false, List}
use Rattle.hp_tree.specs.declared.program.Item.{Item}
use Rattle.hp_compile.specs.Arranged.{IsArranged}
use Rattle.hp_compile.specs.Judged.{IsJudged}
use Rattle.hp_compile.specs.Refusals.{Causes}
use Rattle.hp_compile.specs.declared.refusal.Refusal.{Refusal}
use Rattle.hp_controlled.specs.Chosen.{AreControlledMachines}
use Rattle.hp_controlled.specs.Joining.{AreWithContracts}
use Rattle.hp_obc.specs.Machines.{Obc}
use Rattle.hp_verdicts.specs.declared.error.ContractErr.{ContractErr}
use Rattle.hp_verdicts.specs.declared.error.ContractErr.TheVariants as contract
use Rattle.law_controlled.specs.Greatest.{AllSayGreatest}
use Rattle.law_decided.specs.Outcomes.{AreKeptInGames, RefusesInGames}
use Rattle.hp_driver.specs.Agreeing.{AgreeWithNodes, AreWithin, RunNodes}
use Rattle.hp_driver.specs.Controls.{has_controls}
use Rattle.hp_driver.specs.Texts.{HasNoProgram, IsOnly}
use Rattle.hp_driver.specs.declared.compile_error.CompileErr.{CompileErr}
use Rattle.hp_driver.specs.declared.compile_error.CompileErr.TheVariants.{Refused, Contract, OutOfMemory}

-- the one program of a text, which breaks no rule: as it stands there, and once it is arranged
pub record IsFound (text : List ℕ) (program ordered : List Item) : Type 0 where
  pub judged : IsJudged text program
  pub only : IsOnly text program
  pub ranks : List (List ℕ)
  pub arranged : IsArranged program ordered ranks

-- Machines of an arranged program without controllable variables: those of its nodes, and between them those of its contracts. The machine of a node gives the outputs of the node's one run, in which each instance keeps its contract, and passes no limit of what is executed.
pub record ArePlain (ordered : List Item) (o : Obc) : Type 0 where
  pub own : Obc
  pub with_contracts : AreWithContracts ordered own o
  pub runs : RunNodes ordered o
  pub agree : AgreeWithNodes ordered o
  pub within : AreWithin ordered o

-- Machines of an arranged program whose contracts are kept: of its nodes, which choose the values of their controllable variables, and of its contracts. What they say the program allows, with the greatest permitted values as far as `AllSayGreatest` has it; and without controllable variables they do what the nodes do.
pub record AreMachinesFor (program ordered : List Item) (o : Obc) : Type 0 where
  pub machines : AreControlledMachines ordered o
  pub says : AllSayGreatest ordered o
  pub plain : has_controls program ≡ false → ArePlain ordered o

-- What a text is compiled to: machines of its one program, which breaks no rule and of which each contract is kept.
pub record IsCompiled (text : List ℕ) (o : Obc) : Type 0 where
  pub program : List Item
  pub ordered : List Item
  pub found : IsFound text program ordered
  pub kept : AreKeptInGames ordered
  pub machines : AreMachinesFor program ordered o

-- So they are, where they are compiled as `AreControlledMachines` says.
abbrev pub MachinesLaw : Type 0
MachinesLaw = (text : List ℕ) (program ordered : List Item) → IsFound text program ordered → AreKeptInGames ordered → (o : Obc) → AreControlledMachines ordered o → AreMachinesFor program ordered o

-- Why it is not: it has no such program, for the first rule that it breaks; or a contract is refused, the first that is.
pub data IsNotCompiled (text : List ℕ) : CompileErr → Type 0 where
  refused : {cause : Refusal} → Causes text cause → HasNoProgram text → IsNotCompiled text (Refused cause)
  contract_refused : {cause : ContractErr} {program ordered : List Item} → IsFound text program ordered → cause ≢ contract.OutOfMemory → RefusesInGames ordered cause → IsNotCompiled text (Contract cause)
  out_of_memory : IsNotCompiled text OutOfMemory

-- A contract is not refused because its circuit is not built.
abbrev pub HasCircuit : CompileErr → Type 0
HasCircuit (Contract cause) = cause ≢ contract.NotBuilt
HasCircuit e = ⊤
