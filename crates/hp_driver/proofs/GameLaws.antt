-- What is found of the contracts of a program that a file holds says so of their games.
use Rattle.std.proofs.Common.{◌≢◌, ℕ, List, subst}
use Rattle.std.specs.Prelude.{Option}
use Rattle.hp_io.specs.Files.{Files}
use Rattle.hp_tree.specs.declared.program.Item.{Item}
use Rattle.hp_driver.proofs.AcceptedLaws.{accepted_by}
use Rattle.law_decided.specs.Mirrored.{MachinesLaw}
use Rattle.law_decided.specs.Outcomes.{AreSaid, OutcomesLaw}
use Rattle.hp_tree.specs.Programs.{Node}
use Rattle.hp_verdicts.specs.Decided.{Refuses, RefusesMachine, RefusesProof}
use Rattle.hp_verdicts.specs.declared.error.ContractErr.{ContractErr}
use Rattle.hp_verdicts.specs.declared.error.ContractErr.TheVariants as contract
use Rattle.hp_driver.specs.Follows.{IsArrangedText, IsNodeOfText}
use Rattle.hp_driver.specs.Mirrored.{MirrorLaw}
use Rattle.hp_driver.specs.Outcome.{IsHeld}

pub are_said : OutcomesLaw → (files : Option Files) (file : List ℕ) (program : List Item) (held : IsHeld files file program) → AreSaid held.clocked
are_said law files file program held = law held.text held.judged.program_of.tokens program held.clocked held.ranks (accepted_by held.text program held.clocked held.ranks held.judged held.arranged)

-- the machine of a contract mirrors the node
pub mirrored : MachinesLaw → MirrorLaw
mirrored law files file name c has =
    let held = c.held in
    law held.text held.judged.program_of.tokens c.program held.clocked held.ranks (accepted_by held.text c.program held.clocked held.ranks held.judged held.arranged) name c.node c.named has.machine has.is_machine

said_of : OutcomesLaw → (program ordered : List Item) → IsArrangedText program ordered → AreSaid ordered
said_of law program ordered t = law t.0 t.2.program_of.tokens program ordered t.1 (accepted_by t.0 program ordered t.1 t.2 t.3)

-- nothing is in the way of the machines of contracts
pub contracts_are_built : OutcomesLaw → (program ordered : List Item) → IsArrangedText program ordered → (cause : ContractErr) → Refuses ordered cause → cause ≢ contract.NotBuilt
contracts_are_built law program ordered t cause r = λ e. ((said_of law program ordered t).refused contract.NotBuilt (subst (Refuses ordered) e r)).says

pub contract_is_built : OutcomesLaw → (ordered : List Item) (node : Node) → IsNodeOfText ordered node → (cause : ContractErr) → RefusesMachine ordered node cause → cause ≢ contract.NotBuilt
contract_is_built law ordered node t cause r = λ e. ((said_of law t.0 ordered t.2).node_refused t.1 node t.3 contract.NotBuilt (subst (RefusesMachine ordered node) e r)).says

pub proof_is_built : OutcomesLaw → (ordered : List Item) (node : Node) → IsNodeOfText ordered node → (cause : ContractErr) → RefusesProof ordered node cause → cause ≢ contract.NotBuilt
proof_is_built law ordered node t cause r = λ e. ((said_of law t.0 ordered t.2).node_refused t.1 node t.3 contract.NotBuilt (subst (RefusesProof ordered node) e r)).says
