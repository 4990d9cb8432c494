-- Beside each reaction of a node with a contract there is one of the contract's observer, in the program of the observers.
use Rattle.std.proofs.Common.{◌≡◌, ℕ, List, map, reverse, sym, ap, subst, ◌∙◌}
use Rattle.std.specs.Prelude.{◌||◌, Some}
use Rattle.hp_base.specs.declared.value.Value.{Value}
use Rattle.hp_tree.specs.declared.program.Item.{Item}
use Rattle.hp_tree.specs.Programs.{TypeDecl, Contract, Node}
use Rattle.hp_tree.specs.Operators.{real}
use Rattle.hp_tree.specs.Instant.{Instant, Given, nothing}
use Rattle.hp_tree.specs.Meaning.{declares, node_among, types_of}
use Rattle.hp_meaning.specs.Causal.Clocked.{ClocksRight, ContractRight, on_base}
use Rattle.hp_meaning.specs.Causal.OneReaction.{ReactionOf}
use Rattle.hp_meaning.specs.Contract.Forgetting.{ContractsCallNothing}
use Rattle.hp_expand.specs.Numbering.{replaced}
use Rattle.law_automata.proofs.LowerableLemmas.Texts.{clocked_of, each_reverse}
use Rattle.law_automata.proofs.ReadiedLemmas.Whole.{ready_scoped}
use Rattle.law_drawing.proofs.SteeredLemmas.NothingCalled.{contracts-none}
use Rattle.law_drawing.proofs.SteeredLemmas.Uncalled.{ContractCallsNothing}
use Rattle.law_games.specs.ReadyGames.Laws.{IsInOrder}
use Rattle.law_judged.specs.Named.Scoped.{ContractScoped, EachNode, NodeScoped, interface}
use Rattle.law_judged.specs.Replaced.Fitting.{ContractNames}
use Rattle.hp_watch.specs.Observing.{observer_of, observers}
use Rattle.law_choices.specs.Embedded.Observed.{observed_rows}
use Rattle.law_choices.specs.Embedded.Reacting.{ObserverReactsLaw}
use Rattle.law_choices.specs.Observed.Contracts.{IsObservable, IsOther}
use Rattle.law_choices.specs.Runs.Chosen.{chosen_meaning, chosen_nodes}
use Rattle.law_choices.proofs.InTurnLemmas.Observed.{types_observed}
use Rattle.law_choices.proofs.ObservedLemmas.Clocks.{outputs_based}
use Rattle.law_choices.proofs.ObservedLemmas.Removable.{AllBase}
use Rattle.law_choices.proofs.OnClocksLemmas.Programs.{ready_clocks}
use Rattle.law_choices.proofs.EmbeddedLemmas.Beside.{IsWatched, all_observed, instants_of, observer_goes}
use Rattle.law_choices.proofs.EmbeddedLemmas.Programs.{among_observers, does_there, goes_reacting, reaction_goes}
use Rattle.law_choices.proofs.ObservedLemmas.Accepted.{reverse_observed}
use Rattle.law_history.proofs.StreamsLemmas.NamesApart.{each_found, name_found}

-- what is known of a node of a program in order, whose contract can be observed
pub watched : (program after : List Item) (ranks : List (List ℕ)) → IsInOrder program after ranks → ContractsCallNothing after → EachNode IsObservable after
    → (f : List ℕ) (n : Node) (c : Contract) → node_among (reverse after) f ≡ Some n → n.contract ≡ Some c → IsWatched n c
watched program after ranks o nothing_called observable f n c e h =
    let r = o.ready in
    let scoped : NodeScoped n = each_found NodeScoped (reverse after) f n (each_reverse NodeScoped after (ready_scoped program after r)) e in
    let clocks : ClocksRight n = each_found ClocksRight (reverse after) f n (each_reverse ClocksRight after (ready_clocks program after r)) e in
    let can : IsObservable n = each_found IsObservable (reverse after) f n (each_reverse IsObservable after observable) e in
    let base = each_found (λ (m : Node). AllBase m.outputs) (reverse after) f n (each_reverse (λ (m : Node). AllBase m.outputs) after (outputs_based (replaced program) after (clocked_of (replaced program) after r.clocks))) e in
    let right : ContractRight (λ x. on_base (declares n.inputs x || declares n.outputs x)) (Some c) = subst (ContractRight (λ x. on_base (declares n.inputs x || declares n.outputs x))) h clocks.contract in
    let quiet : ContractCallsNothing (Some c) = subst ContractCallsNothing h (contracts-none after nothing_called f n e) in
    record {
      contract = h;
      base = base;
      known = can.interface;
      few = can.few;
      scoped = subst (ContractScoped (interface n)) h scoped.contract;
      inner = subst (ContractNames IsOther) h can.contract;
      right = right.0;
      assume_right = right.1;
      enforce_right = right.2;
      quiet = quiet.0;
      assume_quiet = quiet.1;
      enforce_quiet = quiet.2;
    }

pub observer_reacts_law : ObserverReactsLaw
observer_reacts_law program after ranks o nothing_called observable choices others f n c rows past e h long reaction =
    let w = watched program after ranks o nothing_called observable f n c e h in
    let types = types_of after in
    let m = observer_of n c in
    let there = does_there choices types (reverse after) f n e in
    let found : node_among (reverse (observers after)) n.name ≡ Some m =
    ap (λ items. node_among items n.name) (reverse_observed after) ∙ among_observers (reverse after) n.name n c (subst (λ z. node_among (reverse after) z ≡ Some n) (sym (name_found (reverse after) f n e)) e) h in
    let beside = does_there others types (reverse (observers after)) n.name m found in
    let goes = reaction_goes types there.before beside.before n c w choices (chosen_meaning choices real after f) there.does rows (map (λ (vs : List Value). nothing) rows) past reaction in
    let said : List Value → Given → Instant → Instant = (chosen_nodes others types real (reverse (observers after))).instant n.name in
    let reacts = goes_reacting types beside.before m others said beside.does (observed_rows n.outputs rows past) (instants_of n c rows past) (observer_goes types there.before beside.before n c w rows past long goes) in
    let all = observed_rows n.outputs rows past in
    record {
      instants = instants_of n c rows past;
      reaction =
          subst (λ (ts : List TypeDecl). ReactionOf ((chosen_nodes others ts real (reverse (observers after))).instant n.name) all (map (λ (vs : List Value). nothing) all) (instants_of n c rows past)) (sym (types_observed after)) reacts;
      same = all_observed types there.before beside.before n c w rows past goes;
    }
