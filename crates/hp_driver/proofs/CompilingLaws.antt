-- From what each step answers to what a text is compiled to, or why it is not.
use Rattle.std.proofs.Common.{◌≡◌, ◌≢◌, ℕ, false, List}
use Rattle.hp_compile.proofs.FormLaws.{formed}
use Rattle.hp_compile.specs.Refusals.{IsRefused}
use Rattle.hp_compile.specs.declared.refusal.Refusal.{Refusal}
use Rattle.hp_compile.specs.declared.refusal.Refusal.TheVariants as refusal
use Rattle.hp_controlled.specs.Among.{FormLaw}
use Rattle.hp_controlled.specs.Chosen.{AreControlledMachines}
use Rattle.hp_controlled.specs.Joining.{SameLaw}
use Rattle.hp_driver.proofs.AcceptedLaws.{accepted_by, accepted_plain, no_controls}
use Rattle.hp_driver.proofs.NamedLaws.{machine_of_node}
use Rattle.hp_driver.proofs.NumbersAmong.{passes_none}
use Rattle.hp_driver.proofs.OwnLaws.{calls_own, run_nodes}
use Rattle.hp_driver.proofs.WrittenLaws.{agrees}
use Rattle.hp_driver.specs.Agreeing.{RunNodes}
use Rattle.hp_driver.specs.Compiled.{ArePlain, HasCircuit, IsCompiled, IsFound, IsNotCompiled, MachinesLaw}
use Rattle.hp_driver.specs.Controls.{has_controls}
use Rattle.hp_driver.specs.Texts.{HasNoProgram, IsArrangedText}
use Rattle.hp_driver.specs.CompileErrors.{of_refusal, of_contract}
use Rattle.hp_obc.specs.Machines.{Obc}
use Rattle.hp_tree.specs.declared.program.Item.{Item}
use Rattle.hp_verdicts.specs.Decided.{AreKept, Refuses}
use Rattle.hp_verdicts.specs.declared.error.ContractErr.{ContractErr}
use Rattle.hp_verdicts.specs.declared.error.ContractErr.TheVariants as contract
use Rattle.law_controlled.specs.Headed.{PlainLaw}
use Rattle.law_controlled.specs.Said.{GreatestSaidLaw}
use Rattle.law_decided.specs.Promised.{RunLaw}
use Rattle.law_decided.specs.Outcomes.{AreKeptInGames, AreSaid, OutcomesLaw}
use Rattle.law_history.proofs.StreamsLemmas.Texts.{none_controlled}
use Rattle.law_history.specs.Streams.Texts.{BuiltLaw, TextLaw, WithinLaw}

-- ---- refusals

pub refused_by : (text : List ℕ) (r : Refusal) → IsRefused text r → (r ≢ refusal.OutOfMemory → HasNoProgram text) → IsNotCompiled text (of_refusal r)
refused_by text refusal.OutOfMemory causes none = IsNotCompiled.out_of_memory
refused_by text (refusal.Limit place limit) causes none = IsNotCompiled.refused causes (none (λ e. cc))
refused_by text (refusal.Lex span) causes none = IsNotCompiled.refused causes (none (λ e. cc))
refused_by text (refusal.Parse span) causes none = IsNotCompiled.refused causes (none (λ e. cc))
refused_by text (refusal.Name e) causes none = IsNotCompiled.refused causes (none (λ k. cc))
refused_by text (refusal.Types e) causes none = IsNotCompiled.refused causes (none (λ k. cc))
refused_by text (refusal.Expand e) causes none = IsNotCompiled.refused causes (none (λ k. cc))
refused_by text (refusal.Clocks e) causes none = IsNotCompiled.refused causes (none (λ k. cc))
refused_by text (refusal.Init e) causes none = IsNotCompiled.refused causes (none (λ k. cc))
refused_by text (refusal.Cause e) causes none = IsNotCompiled.refused causes (none (λ k. cc))

-- ---- contracts and machines

module _ (text : List ℕ) (program ordered : List Item) (found : IsFound text program ordered) where
  said : OutcomesLaw → AreSaid ordered
  said law = law text found.judged.program_of.tokens program ordered found.ranks (accepted_by text program ordered found.ranks found.judged found.arranged)

  pub contract_refused_by : OutcomesLaw → (cause : ContractErr) → Refuses ordered cause → IsNotCompiled text (of_contract cause)
  contract_refused_by law (contract.Assume name at) refuses = IsNotCompiled.contract_refused found (λ e. absurd cc) ((said law).refused (contract.Assume name at) refuses)
  contract_refused_by law (contract.Limit name limit) refuses = IsNotCompiled.contract_refused found (λ e. absurd cc) ((said law).refused (contract.Limit name limit) refuses)
  contract_refused_by law (contract.Forced name instants cert) refuses = IsNotCompiled.contract_refused found (λ e. absurd cc) ((said law).refused (contract.Forced name instants cert) refuses)
  contract_refused_by law contract.TooLong refuses = IsNotCompiled.contract_refused found (λ e. absurd cc) ((said law).refused contract.TooLong refuses)
  contract_refused_by law contract.NotBuilt refuses = IsNotCompiled.contract_refused found (λ e. absurd cc) ((said law).refused contract.NotBuilt refuses)
  contract_refused_by law contract.OutOfMemory refuses = IsNotCompiled.out_of_memory

  pub compiled_by : OutcomesLaw → AreKept ordered ordered → MachinesLaw → (o : Obc) → AreControlledMachines ordered o → IsCompiled text o
  compiled_by law kept machines_law o are =
      let in_games = (said law).kept kept in
      record { program = program; ordered = ordered; found = found; kept = in_games; machines = machines_law text program ordered found in_games o are }

-- ---- what the machines do

module _ (plain_law : PlainLaw) (text_law : TextLaw) (built : BuiltLaw) (form_law : FormLaw) (same_law : SameLaw) (within_law : WithinLaw) (run_law : RunLaw) where
  -- without controllable variables
  plain_machines : (text : List ℕ) (program ordered : List Item) → IsFound text program ordered → AreKeptInGames ordered → (o : Obc) → AreControlledMachines ordered o → has_controls program ≡ false → ArePlain ordered o
  plain_machines text program ordered found kept o are none =
      let tokens = found.judged.program_of.tokens in
      let ranks = found.ranks in
      let accepted = accepted_plain text program ordered ranks found.judged found.arranged none in
      let joined = plain_law ordered o are (none_controlled program ordered found.arranged.clocks (no_controls program none)) in
      let own = joined.0 in
      let machines = joined.1.own_machines in
      let runs : RunNodes ordered o = run_nodes text tokens program ordered ranks accepted own machines text_law built form_law same_law o joined.1 in
      record {
        own = own;
        with_contracts = joined.1;
        runs = runs;
        agree = λ f n named. let r = runs f n named in (r.0, r.1, agrees ordered o f r.0 r.1 r.2 (run_law text tokens program ordered ranks accepted kept f));
        within = λ f n named limit passed.
            let m = machine_of_node ordered own.machines f n machines.machines named in
            passes_none ordered own o joined.1 (calls_own text tokens program ordered ranks accepted own machines built form_law) f m.0 m.1 (within_law text tokens program ordered ranks own accepted machines f) limit passed;
      }

pub machines_for : GreatestSaidLaw → PlainLaw → TextLaw → BuiltLaw → FormLaw → SameLaw → WithinLaw → RunLaw → MachinesLaw
machines_for said_law plain_law text_law built form_law same_law within_law run_law text program ordered found kept o are =
    let j = found.judged in
    let a = found.arranged in
    record {
      machines = are;
      says = said_law text j.program_of.tokens program ordered found.ranks o j.program_of.spelled j.program_of.read j.named j.typed j.defined (formed text program j a.well_formed) a.initialised a.clocks a.ordered kept.safe are;
      plain = plain_machines plain_law text_law built form_law same_law within_law run_law text program ordered found kept o are;
    }

-- a contract is not refused because its circuit is not built
pub has_circuit : OutcomesLaw → (program ordered : List Item) → IsArrangedText program ordered → (cause : ContractErr) → Refuses ordered cause → HasCircuit (of_contract cause)
has_circuit law program ordered t (contract.Assume name at) refuses = λ e. absurd cc
has_circuit law program ordered t (contract.Limit name limit) refuses = λ e. absurd cc
has_circuit law program ordered t (contract.Forced name instants cert) refuses = λ e. absurd cc
has_circuit law program ordered t contract.TooLong refuses = λ e. absurd cc
has_circuit law program ordered t contract.NotBuilt refuses =
    λ e. ((law t.0 t.2.program_of.tokens program ordered t.1 (accepted_by t.0 program ordered t.1 t.2 t.3)).refused contract.NotBuilt refuses).says
has_circuit law program ordered t contract.OutOfMemory refuses = tt
