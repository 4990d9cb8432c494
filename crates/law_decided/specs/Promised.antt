-- What the contracts of a program promise, its machines keep.
-- Source: own. It joins three laws: what is found of contracts says so of their games; where no violation is ever forced, runs keep contracts; and machines give the outputs of runs.
use Rattle.std.specs.Prelude.{◌≡◌, ℕ, List, reverse, Some}
use Rattle.std.specs.List.{AllByRecursion}
use Rattle.hp_base.specs.Kinds.{AreOfKinds}
use Rattle.hp_base.specs.declared.value.Value.{Value}
use Rattle.hp_lexer.specs.declared.token.Token.{Token}
use Rattle.hp_tree.specs.declared.program.Item.{Item}
use Rattle.hp_tree.specs.Instant.{Instant, Past}
use Rattle.hp_tree.specs.Reaction.{NodeReaction, IsRun}
use Rattle.hp_meaning.specs.Contract.Guarantee.{Through, Guaranteed}
use Rattle.hp_obc.specs.Form.{machine_named}
use Rattle.hp_obc.specs.Kinded.{kinds_in}
use Rattle.hp_obc.specs.Machines.{Machine, Obc}
use Rattle.hp_obc.specs.Steps.{machine_behaviour, run}
use Rattle.hp_machines.specs.Machined.{AreMachinesOf}
use Rattle.law_history.specs.Streams.Texts.{IsAccepted}
use Rattle.law_decided.specs.Outcomes.{AreKeptInGames}

-- In each reaction of a node over these inputs, the oldest first, each instance keeps its contract, at every depth: at each instant at which its assumption holds, and held throughout its own past, what it enforces holds.
abbrev pub KeepsContracts : List Item → List ℕ → List (List Value) → Type 0
KeepsContracts program f inputs = (frees : List Instant) (past : Past) → NodeReaction program f (reverse inputs) frees past → Through (Guaranteed (reverse program) f) past

-- Where all contracts of an accepted program without controllable variables are found to be kept, so it is of the run of each of its nodes,
abbrev pub RunLaw : Type 0
RunLaw =
    (text : List ℕ) (tokens : List Token) (program after : List Item) (ranks : List (List ℕ)) → IsAccepted text tokens program after ranks → AreKeptInGames after
    → (f : List ℕ) (inputs outputs : List (List Value)) → IsRun after f inputs outputs → KeepsContracts after f inputs

-- and of the inputs that its machine is given, which are any of its kinds: what the machine gives are the outputs of such a run.
abbrev pub MachineLaw : Type 0
MachineLaw =
    (text : List ℕ) (tokens : List Token) (program after : List Item) (ranks : List (List ℕ)) (o : Obc) → IsAccepted text tokens program after ranks → AreKeptInGames after → AreMachinesOf after o
    → (f : List ℕ) (m : Machine) → machine_named o.machines f ≡ Some m
    → (inputs : List (List Value)) → AllByRecursion (AreOfKinds (kinds_in o.types m.inputs)) inputs → IsRun after f inputs (run (machine_behaviour o f) inputs) × KeepsContracts after f inputs
