-- The clocked equations of the observers of a ready program in order mean what these do.
use Rattle.std.proofs.Common.{◌≡◌, ℕ, false, List, [], ◌∷◌, ◌++◌, map, reverse, refl, sym, subst, ◌∙◌}
use Rattle.std.specs.Prelude.{Option, None, Some}
use Rattle.std.specs.List.{AllByRecursion}
use Rattle.hp_obc.specs.Form.{TypesForm}
use Rattle.hp_tree.specs.declared.program.Item.{Item}
use Rattle.hp_tree.specs.declared.program.Item.TheVariants.{TypeItem, NodeItem}
use Rattle.hp_tree.specs.Blocks.{Decl}
use Rattle.hp_tree.specs.Programs.{Contract}
use Rattle.hp_tree.specs.Meaning.{types_of, declares}
use Rattle.hp_meaning.specs.Causal.Causality.{IsRanked, Ranked}
use Rattle.hp_meaning.specs.Causal.Runs.{NoControls}
use Rattle.hp_meaning.specs.Contract.Forgetting.{ContractsCallNothing}
use Rattle.law_judged.specs.Named.Scoped.{EachNode}
use Rattle.hp_expand.specs.Numbering.{replaced}
use Rattle.law_values.specs.Valued.Values.{AreAccepted}
use Rattle.law_values.proofs.AcceptedLemmas.Laws.{accepted}
use Rattle.hp_automata.specs.Lowering.{enumerations, lowered_node, lowered_item, lowered_program}
use Rattle.law_automata.specs.Lowered.Laws.{RanksLaw}
use Rattle.law_automata.specs.Lowered.Removable.{NodeOk, IsRemovable}
use Rattle.law_automata.specs.Readied.Sound.{SoundBehind}
use Rattle.law_automata.proofs.LoweredLemmas.Programs.{map_reverse}
use Rattle.law_automata.proofs.LowerableLemmas.Texts.{clocked_of, each_reverse}
use Rattle.law_equations.specs.Answered.Answering.{AreApart}
use Rattle.law_equations.specs.Made.Types.{obc_types_of}
use Rattle.law_wellmade.specs.Spelled.Integers.{NodeShort}
use Rattle.law_wellmade.proofs.BegunLemmas.NamesApart.{lowered_apart}
use Rattle.law_games.specs.ReadyGames.Laws.{IsInOrder}
use Rattle.hp_watch.specs.Observing.{observer_of, observer_if, observers}
use Rattle.law_choices.proofs.InTurnLemmas.Observed.{types_observed, types_watched}
use Rattle.law_choices.proofs.InTurnLemmas.Types.{types_same}
use Rattle.law_choices.specs.Flat.Answering.{ControlsDiffer}
use Rattle.law_choices.specs.Observed.Contracts.{IsObservable}
use Rattle.law_choices.specs.Streams.Meaningful.{IsMeaningful}
use Rattle.law_choices.proofs.ObservedLemmas.Accepted.{all_accepted, reverse_observed, low_accepted}
use Rattle.law_choices.proofs.ObservedLemmas.Apart.{each_observer, removable}
use Rattle.law_choices.proofs.ObservedLemmas.Known.{IsKnown}
use Rattle.law_choices.proofs.ObservedLemmas.Programs.{can_be_observed_law, each_low, each_node, ready_known, ready_standing, tested_observers_law, with_automata}
use Rattle.law_choices.proofs.ObservedLemmas.Ranks.{observer_has_ranks, observers_have_ranks}
use Rattle.law_choices.proofs.ObservedLemmas.Removable.{observer_ok}

-- ---- observers have no controllable variables

pub observers_uncontrolled : (items : List Item) → NoControls (observers items)
observers_uncontrolled [] = tt
observers_uncontrolled (TypeItem t ∷ items) = observers_uncontrolled items
observers_uncontrolled (NodeItem n ∷ items) = by n.contract (observers_uncontrolled items)
  where
    by : (o : Option Contract) → NoControls (observers items) → NoControls (observer_if n o ++ observers items)
    by None rest = rest
    by (Some c) rest = (refl, rest)

none_steered : (ds : List Decl) → AllByRecursion (λ (d : Decl). declares [] d.name ≡ false) ds
none_steered [] = tt
none_steered (d ∷ ds) = (refl, none_steered ds)

-- ---- the law

pub observers_meaningful : RanksLaw → (program after : List Item) (ranks : List (List ℕ)) → IsInOrder program after ranks → IsRemovable after → TypesForm (obc_types_of program) → EachNode NodeShort after → ContractsCallNothing after → EachNode IsObservable after → IsRanked after
    → IsMeaningful program (observers after)
observers_meaningful law program after ranks o ok form short nothing observable ranked =
    let r = o.ready in
    let types = types_of after in
    let seen = observers after in
    let low = lowered_program seen in
    let enums = enumerations [] seen in
    let apart = lowered_apart program after r.named (clocked_of (replaced program) after r.clocks) in
    let known = ready_known program after r ok o.constructors short nothing observable apart in
    let can = can_be_observed_law program after r ok form short nothing observable (tested_observers_law program after ranks o ok form short nothing observable) in
    let compiled = can.compilable in
    let each_ok : EachNode NodeOk seen = each_observer (IsKnown types) NodeOk (λ n c e k. observer_ok n c e k.ok k.scoped k.base k.observable) after known in
    let ok_all = removable seen each_ok in
    let each =
    each_node (IsKnown types) (λ n. (c : Contract) → n.contract ≡ Some c → Ranked n → Ranked (observer_of n c)) (λ n k c e. observer_has_ranks n c e k.scoped k.base k.observable k.clocks) after known in
    let ranked_seen : IsRanked seen = observers_have_ranks after each ranked in
    let a = accepted program after r in
    let standing = ready_standing program after r o.constructors in
    let turned : reverse seen ≡ observers (reverse after) = reverse_observed after in
    let apart_seen : AreApart (observers (reverse after)) = subst AreApart turned (with_automata enums seen [] [] (λ f. refl) tt compiled.apart) in
    let mine = all_accepted types a.0 (reverse after) (each_reverse (IsKnown types) after known) a.1 standing.constants apart_seen in
    let here : AreAccepted types mine.0 (reverse seen) = subst (AreAccepted types mine.0) (sym turned) mine.1 in
    let same_low : types_of low ≡ types = types_watched after in
    let map_low : reverse low ≡ map (lowered_item enums) (reverse seen) = map_reverse (lowered_item enums) seen in
    let sound : SoundBehind types (map (lowered_item enums) (reverse seen)) = subst (SoundBehind types) map_low (subst (λ ts. SoundBehind ts (reverse low)) same_low compiled.sound) in
    let theirs = low_accepted types enums mine.0 (reverse seen) here (each_reverse NodeOk seen each_ok) sound in
    record {
      values = record {
        removable = ok_all;
        class = mine.0;
        accepted = subst (λ ts. AreAccepted ts mine.0 (reverse seen)) (sym (types_observed after)) here;
        ranked = ranked_seen;
        low_class = theirs.0;
        low_accepted = subst (λ ts. AreAccepted ts theirs.0 (reverse low)) (sym same_low) (subst (AreAccepted types theirs.0) (sym map_low) theirs.1);
        low_ranked = law seen ok_all ranked_seen;
        firsts = compiled.firsts;
      };
      types = record { same = same_low ∙ types_same program after r; named = r.named; form = form };
      compilable = compiled;
      short = can.short;
      differ = each_low enums ControlsDiffer seen (each_observer (IsKnown types) (λ m. ControlsDiffer (lowered_node enums m)) (λ n c e k. none_steered (observer_of n c).inputs) after known);
    }
