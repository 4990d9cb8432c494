-- From how a machine that chooses was run, or refused, to what the call did.
use Rattle.std.proofs.Common.{◌≡◌, ◌≢◌, ℕ, inl, inr, Bool, false, true, List, [], ◌∷◌, ◌++◌, None, Some, refl, sym, ap, subst, ◌∙◌}
use Rattle.std.specs.Prelude.{codes, is_some, IsSome, IsTrue, Option}
use Rattle.hp_base.specs.declared.limit.Limit.{Limit}
use Rattle.hp_io.specs.Events.{put_events}
use Rattle.hp_io.specs.Files.{Files}
use Rattle.hp_io.specs.declared.console.Event.{Event}
use Rattle.hp_controlled.specs.Chosen.{AreControlledMachines, IsChosen, IsToldBy}
use Rattle.hp_exec.specs.Answers.{Executes, IsPassed, Refuses as RefusesMachine}
use Rattle.hp_exec.specs.Executors.{Executor}
use Rattle.hp_exec.specs.declared.error.ExecErr.{ExecErr}
use Rattle.hp_exec.specs.declared.error.ExecErr.TheVariants.{Limit as Passed, NoNode}
use Rattle.hp_obc.specs.Form.{machine_named}
use Rattle.hp_obc.specs.Machines.{Obc}
use Rattle.hp_tree.specs.Meaning.{node_among}
use Rattle.hp_tree.specs.Programs.{Node}
use Rattle.hp_tree.specs.declared.program.Item.{Item}
use Rattle.law_controlled.specs.Headed.{HeadedLaw}
use Rattle.law_decided.specs.Outcomes.{AreKeptInGames}
use Rattle.hp_driver.specs.Command.{IsRunOf, no_node_line}
use Rattle.hp_driver.specs.Compiled.{IsFound, MachinesLaw}
use Rattle.hp_driver.specs.Controls.{has_controls}
use Rattle.hp_driver.specs.Diagnostics.{executor_line}
use Rattle.hp_driver.specs.Executing.{executing}
use Rattle.hp_driver.specs.Follows.{Accepts, OrderedRun, OrderedTell, ChosenOutcome, NodeRun, NodeTold, RefusedChosen, SweepOutcome}
use Rattle.hp_driver.specs.Outcome.{Outcome, IsHeld, AreCompiled, AsksToRun, IsAskedFor}
use Rattle.hp_driver.specs.Ran.{Ran}
use Rattle.hp_driver.specs.Swept.{IsSwept}
use Rattle.hp_driver.specs.Systems.{System, of_machine, that_tells}
use Rattle.hp_driver.specs.Teller.{teller, telling}
use Rattle.hp_driver.specs.declared.telling.Ending.{Ending}
use Rattle.hp_driver.specs.declared.telling.Ending.TheVariants.{Told, Kept}
use Rattle.hp_driver.proofs.ExecutionLaws.{teller_says, teller_refuses}
use Rattle.hp_driver.proofs.MachineLaws.{machine_of, machine_mirrors}
use Rattle.hp_driver.proofs.OutcomeLaws.{Mirrors, outcome}

-- ---- the machine is run

teller_mirrors : (ending : Ending) (name : List ℕ) (o : Obc) (e : Executor) → Executes o name e → Mirrors telling (teller e ending) (that_tells ending o name)
teller_mirrors ending name o e h = record { says = teller_says o name e h ending; refuses = teller_refuses o name e h ending }

pub chosen_ran : (o : Obc) (name : List ℕ) (e : Executor) (log : List Event) (line : List ℕ) (status : ℕ) → Executes o name e → Ran executing e log line status → ChosenOutcome (of_machine o name) o name log line status
chosen_ran o name e log line status h r words files asked passed =
    outcome executing e (of_machine o name) (machine_mirrors name o e h) words files (asked (machine_of name o e h)) log line status r

pub told_ran : (ending : Ending) (o : Obc) (name : List ℕ) (e : Executor) (log : List Event) (line : List ℕ) (status : ℕ) → Executes o name e → Ran telling (teller e ending) log line status →
    ChosenOutcome (that_tells ending o name) o name log line status
told_ran ending o name e log line status h r words files asked passed =
    outcome telling (teller e ending) (that_tells ending o name) (teller_mirrors ending name o e h) words files (asked (machine_of name o e h)) log line status r

pub chosen_memory : (s : System) (o : Obc) (name : List ℕ) → ChosenOutcome s o name [] [] 6
chosen_memory s o name words files asked passed = Outcome.no_memory

-- ---- it is refused

abbrev pub RefusedByAll : ExecErr → List ℕ → ℕ → Type 0
RefusedByAll error line status = (name : List ℕ) → RefusedChosen name error line status

pub refused_failed : (error : ExecErr) (line : List ℕ) (b : ℕ) (rest : List ℕ) (status : ℕ) → RefusedByAll error (line ++ b ∷ rest) status → RefusedByAll error line 5
refused_failed error line b rest status f name s o h words files asked passed = Outcome.line_failed line b rest (f name s o h words files asked passed)

pub refused_memory : (error : ExecErr) → RefusedByAll error [] 6
refused_memory error name s o h words files asked passed = Outcome.no_memory

pub too_large : (limit : Limit) → RefusedByAll (Passed limit) (executor_line limit) 1
too_large limit name s o h words files asked passed = passed limit h

-- a machine that is there is not refused for its name
pub is_there : (o : Obc) (name : List ℕ) (error : ExecErr) → IsSome (machine_named o.machines name) → RefusesMachine o name error → error ≢ NoNode
is_there o name error some refused e = let none : machine_named o.machines name ≡ None = subst (RefusesMachine o name) e refused in let both : false ≡ true = sym (ap (λ m. is_some m) none) ∙ some in cc

pub chosen_there : (o : Obc) (name : List ℕ) (n : Node) → IsChosen name o n → IsSome (machine_named o.machines name)
chosen_there o name n is = let named = is.named in ap (λ m. is_some m) named

pub told_there : (o : Obc) (name : List ℕ) (n : Node) → IsToldBy name o n → IsSome (machine_named o.machines name)
told_there o name n is = let named = is.named in ap (λ m. is_some m) named

-- the machines of a node and of its contract, among those of its program
pub its_machine : HeadedLaw → (ordered : List Item) (o : Obc) → AreControlledMachines ordered o → (name : List ℕ) (n : Node) → node_among ordered name ≡ Some n
    → IsChosen name o n × (IsTrue (is_some n.contract) → IsToldBy (name ++ codes "$contract") o n)
its_machine law ordered o machines name n named = law ordered o machines name n named

-- ---- a node is run

module _ (o : Obc) (n : Node) (name : List ℕ) where
  -- no machine of a program without controllable variables passes a limit
  passes : (words : List (List ℕ)) (files : Option Files) (file : List ℕ) (compiled : AreCompiled files file o) → node_among compiled.held.clocked name ≡ Some n → IsRunOf words file name → (limit : Limit) → IsPassed o name limit
      → Outcome words files [] (executor_line limit) 1
  passes words files file compiled named w limit passed = by (has_controls compiled.program) refl
    where
      by : (b : Bool) → has_controls compiled.program ≡ b → Outcome words files [] (executor_line limit) 1
      by true some = Outcome.chosen_too_large limit compiled (AsksToRun.to_run w some) (inl refl) passed
      by false none = let plain = compiled.are.plain none in absurd (plain.within name n named limit passed)

  pub node_ran : (log : List Event) (line : List ℕ) (status : ℕ) → IsChosen name o n → ChosenOutcome (of_machine o name) o name log line status → NodeRun o n name log line status
  node_ran log line status is f words files file compiled named w = f words files (λ m. IsAskedFor.a_node n w compiled named m is) (passes words files file compiled named w)

  pub plain_told : (log : List Event) (line : List ℕ) (status : ℕ) → n.contract ≡ None → IsChosen name o n → ChosenOutcome (that_tells Kept o name) o name log line status → NodeTold o n name log line status
  plain_told log line status none is f words files file compiled named w =
      f words files (λ m. IsAskedFor.no_contract n w compiled named none m is) (λ limit p. Outcome.chosen_too_large limit compiled (AsksToRun.to_tell w) (inl refl) p)

  pub contract_told : (log : List Event) (line : List ℕ) (status : ℕ) → IsTrue (is_some n.contract) → IsToldBy (name ++ codes "$contract") o n →
      ChosenOutcome (that_tells Told o (name ++ codes "$contract")) o (name ++ codes "$contract") log line status → NodeTold o n name log line status
  contract_told log line status some is f words files file compiled named w =
      f words files (λ m. IsAskedFor.a_contract n w compiled named some m is) (λ limit p. Outcome.chosen_too_large limit compiled (AsksToRun.to_tell w) (inr refl) p)

-- ---- of an ordered program

module _ (node : List ℕ) (ordered : List Item) where
  pub run_failed : (log : List Event) (line : List ℕ) (b : ℕ) (rest : List ℕ) (status : ℕ) → OrderedRun node ordered log (line ++ b ∷ rest) status → OrderedRun node ordered log line 5
  run_failed log line b rest status f words files file program held e kept w = Outcome.line_failed line b rest (f words files file program held e kept w)

  pub run_memory : OrderedRun node ordered [] [] 6
  run_memory words files file program held e kept w = Outcome.no_memory

  pub run_no_node : node_among ordered node ≡ None → OrderedRun node ordered [] (no_node_line node) 1
  run_no_node none words files file program held e kept w = Outcome.no_node_to_run (inl w) held kept (ap (λ z. node_among z node) e ∙ none)

  pub tell_failed : (log : List Event) (line : List ℕ) (b : ℕ) (rest : List ℕ) (status : ℕ) → OrderedTell node ordered log (line ++ b ∷ rest) status → OrderedTell node ordered log line 5
  tell_failed log line b rest status f words files file program held e kept w = Outcome.line_failed line b rest (f words files file program held e kept w)

  pub tell_memory : OrderedTell node ordered [] [] 6
  tell_memory words files file program held e kept w = Outcome.no_memory

  pub tell_no_node : node_among ordered node ≡ None → OrderedTell node ordered [] (no_node_line node) 1
  tell_no_node none words files file program held e kept w = Outcome.no_node_to_run (inr w) held kept (ap (λ z. node_among z node) e ∙ none)

  module _ (law : MachinesLaw) (o : Obc) (machines : AreControlledMachines ordered o) where
    abbrev pub compiled_of : (files : Option Files) (file : List ℕ) (program : List Item) (held : IsHeld files file program) → held.clocked ≡ ordered → AreKeptInGames held.clocked → AreCompiled files file o
    compiled_of files file program held e kept =
        let all = subst (λ (z : List Item). AreControlledMachines z o) (sym e) machines in
        let found : IsFound held.text program held.clocked = record { judged = held.judged; only = held.only; ranks = held.ranks; arranged = held.arranged } in
        record { program = program; held = held; kept = kept; are = law held.text program held.clocked found kept o all }

    module _ (n : Node) (named : node_among ordered node ≡ Some n) (log : List Event) (line : List ℕ) (status : ℕ) where
      pub ordered_ran : NodeRun o n node log line status → OrderedRun node ordered log line status
      ordered_ran f words files file program held e kept w = f words files file (compiled_of files file program held e kept) (ap (λ z. node_among z node) e ∙ named) w

      pub ordered_told : NodeTold o n node log line status → OrderedTell node ordered log line status
      ordered_told f words files file program held e kept w = f words files file (compiled_of files file program held e kept) (ap (λ z. node_among z node) e ∙ named) w

-- ---- a sweep

pub swept : (tasks instants : ℕ) (text out : List ℕ) (status : ℕ) → IsSwept tasks instants text → Accepts text out status → SweepOutcome tasks instants (put_events out) [] status
swept tasks instants text out status is Accepts.said words files w = Outcome.swept text w is
swept tasks instants text out status is (Accepts.said_in_part said rest e) words files w = Outcome.swept_in_part text out rest w is e
swept tasks instants text out status is Accepts.no_memory words files w = Outcome.no_memory
