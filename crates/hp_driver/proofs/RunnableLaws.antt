-- From the machine that is found for a node, or the refusal, to what `run` runs or refuses.
use Rattle.std.proofs.Common.{◌≡◌, ℕ, List, Some, refl, sym, ap, subst, ◌∙◌}
use Rattle.std.specs.Prelude.{IfOk, Ok, Err, Result}
use Rattle.hp_compile.specs.Arranged.{IsArranged}
use Rattle.hp_compile.specs.Judged.{IsJudged}
use Rattle.hp_controlled.specs.Chosen.{AreControlledMachines, IsChosen}
use Rattle.hp_obc.specs.Machines.{Obc}
use Rattle.hp_tree.specs.Meaning.{node_among}
use Rattle.hp_tree.specs.Programs.{Node}
use Rattle.hp_tree.specs.declared.program.Item.{Item}
use Rattle.hp_verdicts.specs.Decided.{AreKept}
use Rattle.law_decided.specs.Outcomes.{OutcomesLaw}
use Rattle.hp_driver.specs.Compiled.{MachinesLaw}
use Rattle.hp_driver.specs.Outcome.{IsOnly}
use Rattle.hp_driver.specs.Restoring.{Ends, RunDecided, RunProgram, RunText}
use Rattle.hp_driver.specs.Segments.{AreRun}
use Rattle.hp_driver.specs.Status.{code_of}
use Rattle.hp_driver.specs.Systems.{of_machine}
use Rattle.hp_driver.specs.declared.runnable.Runnable.{Runnable}
use Rattle.hp_driver.specs.declared.status.Status.{Status}
use Rattle.hp_driver.proofs.ChoosingLaws.{compiled_of}
use Rattle.hp_driver.proofs.ContractLaws.{in_games}

-- what is known of the line and the status where it ends
pub ends_map : {X : Type 0} (P Q : List ℕ → ℕ → Type 0) → ((line : List ℕ) (status : ℕ) → P line status → Q line status) → (r : Result X Status) (line : List ℕ) → Ends P r line → Ends Q r line
ends_map P Q f (Ok x) line h = h
ends_map P Q f (Err s) line h = f line (code_of s) h

-- what is known of the machines where it goes on
pub are_map : (P Q : Obc → Type 0) → ((o : Obc) → P o → Q o) → (r : Result Runnable Status) → IfOk r (λ x. P x.machines) → IfOk r (λ x. Q x.machines)
are_map P Q f (Ok x) h = f x.machines h
are_map P Q f (Err s) h = tt

-- the machine of the node of this name is among those where it goes on
pub has_chosen : (ordered : List Item) (name : List ℕ) (n : Node) → node_among ordered name ≡ Some n → (o : Obc) (r : Result Runnable Status) → IfOk r (λ x. x.machines ≡ o) → IfOk r (λ x. IsChosen name o n) →
    IfOk r (λ x. (m : Node) × (node_among ordered name ≡ Some m) × IsChosen name x.machines m)
has_chosen ordered name n named o (Ok x) same is = (n, named, subst (λ (z : Obc). IsChosen name z n) (sym same) is)
has_chosen ordered name n named o (Err s) same is = tt

module _ (law : OutcomesLaw) (machines_law : MachinesLaw) (program ordered : List Item) (kept : AreKept ordered ordered) (node : List ℕ) where
  ordered_are : (o : Obc) → AreControlledMachines ordered o → (n : Node) × (node_among ordered node ≡ Some n) × IsChosen node o n → RunDecided node program ordered o
  ordered_are o machines found files file held same = (
    of_machine o node,
    AreRun.own found.0 (compiled_of node ordered machines_law o machines files file program held same (in_games law program ordered kept files file held same)) (ap (λ z. node_among z node) same ∙ found.1) found.2,
  )

  pub all_ordered : (r : Result Runnable Status) → IfOk r (λ x. AreControlledMachines ordered x.machines) → IfOk r (λ x. (n : Node) × (node_among ordered node ≡ Some n) × IsChosen node x.machines n)
      → IfOk r (λ x. RunDecided node program ordered x.machines)
  all_ordered (Ok x) machines found = ordered_are x.machines machines found
  all_ordered (Err s) machines found = tt

pub all_arranged : (program clocked : List Item) (ranks : List (List ℕ)) (node : List ℕ) → IsArranged program clocked ranks → (r : Result Runnable Status) → IfOk r (λ x. RunDecided node program clocked x.machines) →
    IfOk r (λ x. RunProgram node program x.machines)
all_arranged program clocked ranks node arranged r h =
    are_map (RunDecided node program clocked) (RunProgram node program)
    (λ o f text judged only files file gives. f files file (record { text = text; held = gives; judged = judged; only = only; clocked = clocked; ranks = ranks; arranged = arranged }) refl) r h

pub all_judged : (text : List ℕ) (program : List Item) (node : List ℕ) → IsJudged text program → IsOnly text program → (r : Result Runnable Status) → IfOk r (λ x. RunProgram node program x.machines) →
    IfOk r (λ x. RunText node text x.machines)
all_judged text program node judged only r h = are_map (RunProgram node program) (RunText node text) (λ o f. f text judged only) r h
