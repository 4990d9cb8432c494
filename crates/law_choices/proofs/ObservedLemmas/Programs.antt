-- The observers of a ready program can be compiled.
use Rattle.std.proofs.Common.{◌≡◌, ℕ, ◌||◌, List, [], ◌∷◌, ◌++◌, map, reverse, refl, sym, subst, ◌∙◌}
use Rattle.std.proofs.lemmas.List.{append_assoc}
use Rattle.std.specs.Prelude.{IsFalse, Some}
use Rattle.std.specs.Str.{bytes_eq}
use Rattle.hp_tree.specs.declared.program.Item.{Item}
use Rattle.hp_tree.specs.declared.program.Item.TheVariants.{TypeItem, NodeItem}
use Rattle.hp_tree.specs.Meaning.{types_of}
use Rattle.hp_obc.specs.Form.{TypesForm}
use Rattle.hp_tree.specs.Programs.{Contract, TypeDecl, Node}
use Rattle.hp_meaning.specs.Causal.Causality.{IsRanked, Ranked}
use Rattle.hp_meaning.specs.Causal.Clocked.{ClocksRight}
use Rattle.hp_meaning.specs.Contract.Forgetting.{ContractsCallNothing}
use Rattle.law_judged.specs.Named.Scoped.{EachNode, NodeScoped}
use Rattle.hp_expand.specs.Numbering.{no_node, replaced}
use Rattle.law_judged.specs.Replaced.Fitting.{NodeNames}
use Rattle.law_judged.proofs.NamedLemmas.Judged.{scoped}
use Rattle.law_judged.proofs.ReplacedLemmas.CallsFit.{calls_fit}
use Rattle.law_judged.proofs.ReplacedLemmas.Enough.{few_variables}
use Rattle.law_judged.proofs.ReplacedLemmas.JudgedReplaced.{all_can}
use Rattle.law_judged.proofs.ReplacedLemmas.Marks.{all_few_calls}
use Rattle.law_judged.proofs.TypedLemmas.ProgramLaws.{typed}
use Rattle.law_values.specs.Accepted.Laws.{IsReady}
use Rattle.law_values.specs.Filled.Firsts.{TypesHaveConstructors}
use Rattle.law_values.proofs.AcceptedLemmas.Laws.{accepted}
use Rattle.law_values.proofs.AcceptedLemmas.SoundNodes.{judged_sound}
use Rattle.law_automata.specs.Lowered.OldNames.{IsOld}
use Rattle.law_automata.specs.Readied.Sound.{SoundBehind, ConstantsBehind}
use Rattle.law_automata.proofs.LowerableLemmas.OldNodes.{program_old, old_clocked}
use Rattle.law_automata.proofs.ReadiedLemmas.HasConstants.{ready_constants_law}
use Rattle.law_values.specs.Filled.Firsts.{NodeHasFirsts}
use Rattle.law_values.proofs.FilledLemmas.Ready.{ready_firsts}
use Rattle.hp_automata.specs.Lowering.{Enumerations, enumerations, lowered_node, lowered_item, lowered_program}
use Rattle.law_automata.specs.Lowered.Laws.{RanksLaw}
use Rattle.law_automata.specs.Lowered.Removable.{NodeOk, IsRemovable}
use Rattle.law_automata.specs.Readied.Laws.{IsWhole}
use Rattle.law_automata.specs.Readied.Single.{NodeSingle}
use Rattle.law_automata.proofs.LoweredLemmas.RightSteps.{all_right_law}
use Rattle.law_automata.proofs.LowerableLemmas.Texts.{clocked_of, each_reverse, onto}
use Rattle.law_automata.proofs.ReadiedLemmas.SoundPrograms.{each_ok}
use Rattle.law_automata.proofs.ReadiedLemmas.Whole.{ready_scoped, single_law}
use Rattle.law_equations.specs.Answered.Answering.{has_node, AreApart}
use Rattle.hp_complete.specs.Declaring.{known_of}
use Rattle.hp_complete.proofs.KnownLaws.{nodes-known}
use Rattle.law_wellmade.specs.Spelled.Integers.{NodeShort}
use Rattle.law_wellmade.specs.Timely.Tested.{AreTested}
use Rattle.law_wellmade.specs.Tested.Apart.{ContractApart}
use Rattle.law_wellmade.proofs.BegunLemmas.LoweredFirsts.{lowered_firsts}
use Rattle.law_wellmade.proofs.BegunLemmas.NamesApart.{lowered_apart}
use Rattle.law_wellmade.proofs.RegularLemmas.RegularLaws.{lowered}
use Rattle.law_wellmade.proofs.TestedLemmas.FittedPrograms.{ready_grounds}
use Rattle.law_wellmade.proofs.TestedLemmas.TestedPrograms.{contracts_apart_law}
use Rattle.law_games.specs.ReadyGames.Laws.{IsInOrder}
use Rattle.law_drawing.proofs.DrawableLemmas.Programs.{drawable}
use Rattle.law_history.proofs.StreamsLemmas.Shapes.{Fresh, all_fresh}
use Rattle.law_drawing.proofs.SteeredLemmas.NothingCalled.{contracts-none}
use Rattle.law_drawing.proofs.SteeredLemmas.Uncalled.{ContractCallsNothing}
use Rattle.law_equations.specs.Made.Types.{obc_types_of}
use Rattle.hp_watch.specs.Observing.{observer_of, observers}
use Rattle.law_choices.specs.Closed.Compilable.{HasTypesOf, IsCompilable}
use Rattle.law_wellmade.proofs.BegunLemmas.Items.{some_constructors}
use Rattle.law_choices.proofs.OnClocksLemmas.Programs.{some_of, to_all, from_all, ready_clocks}
use Rattle.law_choices.specs.InTurn.Observed.{CallsNone}
use Rattle.law_choices.proofs.InTurnLemmas.Observed.{types_watched}
use Rattle.law_choices.proofs.InTurnLemmas.Types.{types_same}
use Rattle.law_choices.specs.Observed.Contracts.{IsObservable}
use Rattle.law_choices.specs.Observed.Laws.{CanBeObservedLaw, TestedObserversLaw}
use Rattle.law_choices.proofs.ObservedLemmas.Apart.{each_observer, removable, observers_apart}
use Rattle.law_choices.proofs.ObservedLemmas.Calls.{observer_none}
use Rattle.law_choices.proofs.ObservedLemmas.Clocks.{outputs_based, observer_right}
use Rattle.law_choices.proofs.ObservedLemmas.Firsts.{observer_firsts, observer_short}
use Rattle.law_choices.proofs.ObservedLemmas.Known.{IsKnown}
use Rattle.law_choices.proofs.ObservedLemmas.Ranks.{observer_has_ranks, observers_have_ranks}
use Rattle.law_choices.proofs.ObservedLemmas.Removable.{AllBase, observer_ok}
use Rattle.law_choices.proofs.ObservedLemmas.Scoped.{observer_scoped, observer_single, observer_whole}
use Rattle.law_choices.proofs.ObservedLemmas.Standing.{ConstantsAre, constants_are, DrawableBehind, all_sound, all_tested, observers_onto, accepted_sound, enums_same}

-- ---- each node

both : (P Q : Node → Type 0) (items : List Item) → EachNode P items → EachNode Q items → EachNode (λ n. P n × Q n) items
both P Q [] p q = tt
both P Q (TypeItem t ∷ items) p q = both P Q items p q
both P Q (NodeItem n ∷ items) p q = ((p.0, q.0), both P Q items p.1 q.1)

pub each_node : (P Q : Node → Type 0) → ((n : Node) → P n → Q n) → (items : List Item) → EachNode P items → EachNode Q items
each_node P Q f [] h = tt
each_node P Q f (TypeItem t ∷ items) h = each_node P Q f items h
each_node P Q f (NodeItem n ∷ items) h = (f n h.0, each_node P Q f items h.1)

pub each_low : (enums : Enumerations) (P : Node → Type 0) (items : List Item) → EachNode (λ n. P (lowered_node enums n)) items → EachNode P (map (lowered_item enums) items)
each_low enums P [] h = tt
each_low enums P (TypeItem t ∷ items) h = each_low enums P items h
each_low enums P (NodeItem n ∷ items) h = (h.0, each_low enums P items h.1)

-- ---- names, with automata as without

module _ (enums : Enumerations) where
  abbrev SameNames : List Item → List Item → Type 0
  SameNames done there = (f : List ℕ) → has_node there f ≡ has_node done f

  pub with_automata : (items done there : List Item) → SameNames done there → AreApart there → AreApart (onto (map (lowered_item enums) items) done) → AreApart (onto items there)
  with_automata [] done there same a h = a
  with_automata (TypeItem t ∷ items) done there same a h = with_automata items (TypeItem t ∷ done) (TypeItem t ∷ there) same a h
  with_automata (NodeItem n ∷ items) done there same a h =
      let own : IsFalse (has_node done n.name) = (behind (map (lowered_item enums) items) (NodeItem (lowered_node enums n) ∷ done) h).0 in
      with_automata items (NodeItem (lowered_node enums n) ∷ done) (NodeItem n ∷ there) (λ f i. bytes_eq n.name f || same f i) (same n.name ∙ own, a) h
    where
      behind : (xs ys : List Item) → AreApart (onto xs ys) → AreApart ys
      behind [] ys k = k
      behind (TypeItem t ∷ xs) ys k = behind xs (TypeItem t ∷ ys) k
      behind (NodeItem m ∷ xs) ys k = (behind xs (NodeItem m ∷ ys) k).1

each_alone : (after : List Item) → ContractsCallNothing after → (names : List (List ℕ)) (items : List Item) → Fresh (known_of after) names items → EachNode (λ n. ContractCallsNothing n.contract) items
each_alone after nothing names [] fresh = tt
each_alone after nothing names (TypeItem t ∷ items) fresh = each_alone after nothing names items fresh
each_alone after nothing names (NodeItem n ∷ items) fresh = (contracts-none after nothing n.name n (sym (nodes-known after n.name) ∙ fresh.1), each_alone after nothing (n.name ∷ names) items fresh.2)

-- ---- the observers are sound, and their tests typed

-- what is known of each node that stands there, the last one first
pub record IsSeen (types : List TypeDecl) (enums : Enumerations) (items : List Item) : Type 0 where
  pub known : EachNode (IsKnown types) items
  pub old : EachNode (NodeNames IsOld) items
  pub sound : SoundBehind types items
  pub constants : ConstantsAre types items
  pub has : ConstantsBehind enums items

-- the same, but for what is known of contracts
pub record IsStanding (types : List TypeDecl) (enums : Enumerations) (items : List Item) : Type 0 where
  pub old : EachNode (NodeNames IsOld) items
  pub sound : SoundBehind types items
  pub constants : ConstantsAre types items
  pub has : ConstantsBehind enums items

pub ready_standing : (program after : List Item) → IsReady program after → TypesHaveConstructors (types_of program) → IsStanding (types_of after) (enumerations [] after) (reverse after)
ready_standing program after r full =
    let types = types_of after in
    let has_types = typed program r.named r.typed r.merges in
    let names = scoped program r.named r.defined in
    let clocked = clocked_of (replaced program) after r.clocks in
    let can = all_can no_node program names r.names (calls_fit program r.named has_types) (all_few_calls no_node program r.calls) (few_variables program r.limits) in
    let sound = judged_sound program names r.armed r.named r.typed has_types r.defined in
    let a = accepted program after r in
    record {
      old = each_reverse (NodeNames IsOld) after (old_clocked (replaced program) after clocked (program_old program can));
      sound = accepted_sound types a.0 (reverse after) a.1;
      constants = subst (λ ts. ConstantsAre ts (reverse after)) (sym (types_same program after r)) (constants_are (types_of program) no_node program after clocked sound);
      has = ready_constants_law program after r (some_constructors program full);
    }

pub ready_seen : (program after : List Item) → IsReady program after → TypesHaveConstructors (types_of program) → EachNode (IsKnown (types_of after)) after → IsSeen (types_of after) (enumerations [] after) (reverse after)
ready_seen program after r full known =
    let s = ready_standing program after r full in
    record { known = each_reverse (IsKnown (types_of after)) after known; old = s.old; sound = s.sound; constants = s.constants; has = s.has }

-- what is shown of observers from the last one on, is so of those of the program
of_observers : (P : List Item → Type 0) (after : List Item) → (AreApart (map (lowered_item (enumerations [] after)) (observers (reverse after))) → P (map (lowered_item (enumerations [] after)) (observers (reverse after)))) → AreApart (reverse (lowered_program (observers after))) → P (reverse (lowered_program (observers after)))
of_observers P after f apart =
    let enums = enumerations [] after in
    let seen = observers after in
    let same_enums : enumerations [] seen ≡ enums = enums_same [] after in
    let turned = observers_onto (types_of after) enums after [] in
    let apart_low : AreApart (reverse (map (lowered_item enums) seen)) = subst (λ z. AreApart (reverse (map (lowered_item z) seen))) same_enums apart in
    subst (λ z. P (reverse (map (lowered_item z) seen))) (sym same_enums) (subst P (sym turned) (f (subst AreApart turned apart_low)))

sound_observers : (program after : List Item) → IsReady program after → TypesHaveConstructors (types_of program) → EachNode (IsKnown (types_of after)) after → AreApart (reverse (lowered_program (observers after))) → SoundBehind (types_of after) (reverse (lowered_program (observers after)))
sound_observers program after r full known apart =
    let s = ready_seen program after r full known in
    of_observers (SoundBehind (types_of after)) after (all_sound (types_of after) (enumerations [] after) (reverse after) s.known s.old s.sound s.constants s.has) apart

-- each node can be drawn where it stands
drawable_behind : (program after : List Item) (ranks : List (List ℕ)) → IsInOrder program after ranks → (later items : List Item) → reverse after ≡ later ++ items → DrawableBehind (types_of after) (enumerations [] after) items
drawable_behind program after ranks o later [] e = tt
drawable_behind program after ranks o later (TypeItem t ∷ items) e = drawable_behind program after ranks o (later ++ TypeItem t ∷ []) items (e ∙ sym (append_assoc later (TypeItem t ∷ []) items))
drawable_behind program after ranks o later (NodeItem n ∷ items) e =
    let can = drawable program after ranks o items n (later, e) in
    (can.node, drawable_behind program after ranks o (later ++ NodeItem n ∷ []) items (e ∙ sym (append_assoc later (NodeItem n ∷ []) items)))

tested_observers : (program after : List Item) (ranks : List (List ℕ)) → IsInOrder program after ranks → EachNode (IsKnown (types_of after)) after → AreApart (reverse (lowered_program (observers after))) → AreTested (types_of after) (reverse (lowered_program (observers after)))
tested_observers program after ranks o known apart =
    let r = o.ready in
    let s = ready_seen program after r o.constructors known in
    let apart_in = each_reverse (λ (n : Node). ContractApart n.contract) after (contracts_apart_law program after r) in
    of_observers (AreTested (types_of after)) after
    (all_tested (types_of after) (enumerations [] after) (reverse after) s.known s.old s.sound s.constants s.has (ready_grounds program after r) (drawable_behind program after ranks o [] (reverse after) refl) apart_in) apart

-- ---- the law

-- what is known of each node of a ready program
pub ready_known : (program after : List Item) → IsReady program after → IsRemovable after → TypesHaveConstructors (types_of program) → EachNode NodeShort after → ContractsCallNothing after → EachNode IsObservable after → AreApart (reverse (lowered_program after)) → EachNode (IsKnown (types_of after)) after
ready_known program after r ok full short nothing observable apart =
    let types = types_of after in
    let enums = enumerations [] after in
    let clocked = clocked_of (replaced program) after r.clocks in
    let alone = each_alone after nothing [] after (all_fresh after (with_automata enums after [] [] (λ f. refl) tt apart)) in
    let Rest : Node → Type 0 = λ n. (NodeOk n × NodeScoped n) × (NodeSingle n × AllBase n.outputs) in
    let More : Node → Type 0 = λ n. (ClocksRight n × NodeHasFirsts types n) × (NodeShort n × (IsObservable n × ContractCallsNothing n.contract)) in
    let rest : EachNode Rest after =
    both (λ n. NodeOk n × NodeScoped n) (λ n. NodeSingle n × AllBase n.outputs) after (both NodeOk NodeScoped after (each_ok after ok) (ready_scoped program after r))
    (both NodeSingle (λ n. AllBase n.outputs) after (single_law program after r) (outputs_based (replaced program) after clocked)) in
    let more : EachNode More after =
    both (λ n. ClocksRight n × NodeHasFirsts types n) (λ n. NodeShort n × (IsObservable n × ContractCallsNothing n.contract)) after
    (both ClocksRight (NodeHasFirsts types) after (ready_clocks program after r) (ready_firsts program after r full))
    (both NodeShort (λ n. IsObservable n × ContractCallsNothing n.contract) after short (both IsObservable (λ n. ContractCallsNothing n.contract) after observable alone)) in
    each_node (λ n. Rest n × More n) (IsKnown types)
    (λ n h. record { ok = h.0.0.0; scoped = h.0.0.1; single = h.0.1.0; base = h.0.1.1; clocks = h.1.0.0; firsts = h.1.0.1; short = h.1.1.0; observable = h.1.1.1.0; alone = h.1.1.1.1 })
    after (both Rest More after rest more)

pub can_be_observed_law : CanBeObservedLaw
can_be_observed_law program after r ok form short nothing observable tested =
    let types = types_of after in
    let seen = observers after in
    let others = enumerations [] seen in
    let clocked = clocked_of (replaced program) after r.clocks in
    let apart = lowered_apart program after r.named clocked in
    let full = some_of (types_of program) form.counts in
    let known = ready_known program after r ok full short nothing observable apart in
    let ok_all = removable seen (each_observer (IsKnown types) NodeOk (λ n c e k. observer_ok n c e k.ok k.scoped k.base k.observable) after known) in
    let same : types_of (lowered_program seen) ≡ types = types_watched after in
    record {
      compilable = record {
        sound = subst (λ ts. SoundBehind ts (reverse (lowered_program seen))) (sym same) (sound_observers program after r full known (observers_apart after apart));
        whole = each_low others IsWhole seen
            (each_observer (IsKnown types) (λ m. IsWhole (lowered_node others m))
            (λ n c e k. observer_whole others n c (observer_scoped n c e k.scoped k.observable) (observer_single n c e k.scoped k.observable k.single) (observer_ok n c e k.ok k.scoped k.base k.observable)) after known);
        tested = tested;
        firsts = subst (λ ts. EachNode (NodeHasFirsts ts) (lowered_program seen)) (sym same)
            (lowered_firsts types others seen (each_observer (IsKnown types) (NodeHasFirsts types) (λ n c e k. observer_firsts types n c e k.firsts) after known));
        clocks = from_all (lowered_program seen)
            (all_right_law seen ok_all (to_all seen (each_observer (IsKnown types) ClocksRight (λ n c e k. observer_right n c e k.scoped k.base k.observable k.clocks) after known)));
        apart = observers_apart after apart;
      };
      short = lowered seen ok_all (each_observer (IsKnown types) NodeShort (λ n c e k. let o = k.observable in observer_short n c e (k.short, o.short)) after known);
      alone = each_low others CallsNone seen
          (each_observer (IsKnown types) (λ m. CallsNone (lowered_node others m)) (λ n c e k. observer_none others n c (subst ContractCallsNothing e k.alone)) after known);
    }

pub tested_observers_law : TestedObserversLaw
tested_observers_law program after ranks o ok form short nothing observable =
    let r = o.ready in
    let apart = lowered_apart program after r.named (clocked_of (replaced program) after r.clocks) in
    let known = ready_known program after r ok o.constructors short nothing observable apart in
    subst (λ ts. AreTested ts (reverse (lowered_program (observers after)))) (sym (types_watched after)) (tested_observers program after ranks o known (observers_apart after apart))

-- ---- observers have ranks

-- The observers of a ready program in order can be compiled, and their places have ranks, where those of the program have.
pub observers_in_order : RanksLaw → (program after : List Item) (ranks : List (List ℕ)) → IsInOrder program after ranks → IsRemovable after → TypesForm (obc_types_of program) → EachNode NodeShort after → ContractsCallNothing after → EachNode IsObservable after → IsRanked after
    → (HasTypesOf program (lowered_program (observers after)) × IsCompilable (lowered_program (observers after))) × IsRanked (lowered_program (observers after))
observers_in_order law program after ranks o ok form short nothing observable ranked =
    let r = o.ready in
    let types = types_of after in
    let seen = observers after in
    let apart = lowered_apart program after r.named (clocked_of (replaced program) after r.clocks) in
    let known = ready_known program after r ok o.constructors short nothing observable apart in
    let can = can_be_observed_law program after r ok form short nothing observable (tested_observers_law program after ranks o ok form short nothing observable) in
    let ok_all = removable seen (each_observer (IsKnown types) NodeOk (λ n c e k. observer_ok n c e k.ok k.scoped k.base k.observable) after known) in
    let each =
    each_node (IsKnown types) (λ n. (c : Contract) → n.contract ≡ Some c → Ranked n → Ranked (observer_of n c)) (λ n k c e. observer_has_ranks n c e k.scoped k.base k.observable k.clocks) after known in
    ((record { same = types_watched after ∙ types_same program after r; named = r.named; form = form }, can.compilable), law seen ok_all (observers_have_ranks after each ranked))
