-- Each node of a ready program has what is asked of it, so no pass adds a dependence.
use Rattle.std.proofs.Common.{ℕ, List, [], ◌∷◌, reverse, subst}
use Rattle.std.proofs.lemmas.List.{reverse-reverse}
use Rattle.hp_tree.specs.declared.program.Item.{Item}
use Rattle.hp_tree.specs.declared.program.Item.TheVariants.{TypeItem, NodeItem}
use Rattle.hp_tree.specs.Programs.{TypeDecl, Node}
use Rattle.hp_tree.specs.Meaning.{types_of}
use Rattle.hp_meaning.specs.Causal.Causality.{IsCausal, Ranked, CausalLaw}
use Rattle.hp_meaning.specs.Causal.Clocked.{ClocksRight}
use Rattle.hp_meaning.specs.Causal.Points.{NamesDeclared}
use Rattle.hp_meaning.specs.Causal.RanksOfPoints.{RanksFall, AllFall, RanksLaw}
use Rattle.law_judged.specs.Named.Scoped.{NodeScoped, EachNode}
use Rattle.law_judged.proofs.NamedLemmas.Judged.{scoped}
use Rattle.hp_expand.specs.Numbering.{no_node, replaced}
use Rattle.law_judged.proofs.TypedLemmas.ProgramLaws.{typed}
use Rattle.law_judged.specs.Replaced.Fitting.{NodeNames}
use Rattle.law_judged.proofs.ReplacedLemmas.CallsFit.{calls_fit}
use Rattle.law_judged.proofs.ReplacedLemmas.Enough.{few_variables}
use Rattle.law_judged.proofs.ReplacedLemmas.Marks.{all_few_calls}
use Rattle.law_judged.proofs.ReplacedLemmas.JudgedReplaced.{all_can, judged_replaced}
use Rattle.law_values.specs.Valued.Values.{Classing, class_behind, AreAccepted}
use Rattle.law_values.specs.Accepted.Laws.{AcceptedLaw}
use Rattle.hp_automata.specs.Lowering.{Enumerations, enumerations}
use Rattle.law_automata.specs.Lowered.OldNames.{IsOld}
use Rattle.law_automata.specs.Lowered.Removable.{NodeOk, IsRemovable}
use Rattle.law_automata.proofs.LowerableLemmas.OldNodes.{program_old, old_clocked}
use Rattle.law_automata.proofs.LowerableLemmas.Texts.{clocked_of, scoped_clocked, each_reverse}
use Rattle.law_choices.specs.Independent.Laws.{NodeLaw, InputsLaw, ControlsLaw}
use Rattle.law_choices.specs.Depending.Laws.{BothLaw}
use Rattle.law_choices.specs.Depending.Found.{EarlyEventsLaw}
use Rattle.law_choices.specs.Depending.Places.{PlaceLaw, EarlyPlaceLaw}
use Rattle.law_choices.specs.Undisturbed.Laws.{ControlsApart, IsUndisturbed, KeepsPlaces, ApartLaw, ReadyLaw, PlacesLaw}
use Rattle.law_choices.proofs.UndisturbedLemmas.Apart.{is_apart, is_old, control_given, all_inputs}
use Rattle.law_choices.proofs.UndisturbedLemmas.Controls.{controls_apart}

-- ---- programs

all_right : (types : List TypeDecl) (class : Classing) (items : List Item) → AreAccepted types class items → EachNode ClocksRight items
all_right types class [] a = tt
all_right types class (TypeItem t ∷ items) a = all_right types class items a
all_right types class (NodeItem n ∷ items) a = (a.0.clocks, all_right types (class_behind class) items a.1)

module _ (node : NodeLaw) (both : BothLaw) (inputs : InputsLaw) (controls : ControlsLaw) (ranked : RanksLaw) (causal : CausalLaw) (enums : Enumerations) where
  node_undisturbed : (n : Node) (ranks : List ℕ) → NodeOk n → NamesDeclared n → RanksFall n ranks → NodeScoped n → ControlsApart n → NodeNames IsOld n → ClocksRight n → IsUndisturbed enums n
  node_undisturbed n ranks ok declared falls scoped apart old right =
      let is_causal : IsCausal n = causal n (ranked n ranks declared falls) in
      record {
        given = λ y x own base given free d. node enums n y x ok declared right is_causal (is_old n scoped apart x given old) (is_apart n scoped apart x given) own base free d;
        flat = λ y x own base given free types outputs k fill f stands v w ev ew d.
            both types outputs k fill enums n f stands y x ok declared right is_causal (is_old n scoped apart x given old) (is_apart n scoped apart x given) own base free v w ev ew d;
        inputs = λ y own base free. inputs enums n y n.inputs ok declared right is_causal (all_inputs n scoped apart old n.inputs (λ x h. h)) own base free;
        controls = λ y own base free between q chain.
            controls enums n y ok declared right is_causal
            (λ x h. (is_old n scoped apart x (control_given n x h) old, is_apart n scoped apart x (control_given n x h))) own base free between q chain;
      }

  each_undisturbed : (items : List Item) (ranks : List (List ℕ)) → IsRemovable items → AllFall items ranks → EachNode NodeScoped items → EachNode ControlsApart items → EachNode (NodeNames IsOld) items → EachNode ClocksRight items
      → EachNode (IsUndisturbed enums) items
  each_undisturbed [] ranks ok fall s c old right = tt
  each_undisturbed (TypeItem t ∷ items) ranks ok fall s c old right = each_undisturbed items ranks ok fall s c old right
  each_undisturbed (NodeItem n ∷ items) [] ok fall s c old right = absurd fall
  each_undisturbed (NodeItem n ∷ items) (r ∷ ranks) ok fall s c old right =
      (node_undisturbed n r ok.0 fall.0 fall.1 s.0 c.0 old.0 right.0, each_undisturbed items ranks ok.1 fall.2 s.1 c.1 old.1 right.1)

pub apart_law : ApartLaw
apart_law program after r = controls_apart program after r.named (clocked_of (replaced program) after r.clocks)

pub ready_law : NodeLaw → BothLaw → InputsLaw → ControlsLaw → RanksLaw → CausalLaw → AcceptedLaw → ReadyLaw
ready_law node both inputs controls ranked causal accepted program after ranks r ok fall =
    let clocked = clocked_of (replaced program) after r.clocks in
    let can = all_can no_node program (scoped program r.named r.defined) r.names (calls_fit program r.named (typed program r.named r.typed r.merges)) (all_few_calls no_node program r.calls) (few_variables program r.limits) in
    let is = accepted program after r in
    let right = each_reverse ClocksRight (reverse after) (all_right (types_of after) is.0 (reverse after) is.1) in
    each_undisturbed node both inputs controls ranked causal (enumerations [] after) after ranks ok fall
    (scoped_clocked (replaced program) after clocked (judged_replaced program r.named r.typed r.defined r.limits r.merges r.names r.calls))
    (apart_law program after r)
    (old_clocked (replaced program) after clocked (program_old program can))
    (subst (EachNode ClocksRight) (reverse-reverse after) right)

-- ---- places

module _ (place : PlaceLaw) (early : EarlyPlaceLaw) (events : EarlyEventsLaw) (ranked : RanksLaw) (enums : Enumerations) where
  node_keeps : (n : Node) (ranks : List ℕ) → NodeOk n → NamesDeclared n → RanksFall n ranks → NodeScoped n → ControlsApart n → NodeNames IsOld n → ClocksRight n → KeepsPlaces enums n
  node_keeps n ranks ok declared falls scoped apart old right =
      let r : Ranked n = ranked n ranks declared falls in
      record {
        given = λ p x outermost given free types outputs k fill f stands v w ev ew d.
            place types outputs k fill enums n f stands p x ok declared right r (is_old n scoped apart x given old) (is_apart n scoped apart x given) outermost free v w ev ew d;
        early = λ program p x outermost known control types outputs k fill f stands v w ev ew d.
            let given = control_given n x control in
            early types outputs k fill enums program n f stands p x ok declared right r (is_old n scoped apart x given old) (is_apart n scoped apart x given) control outermost known v w ev ew d;
        events = λ names program x control types outputs k fill f stands w ew mean.
            let given = control_given n x control in
            events names types outputs k fill enums program n f stands x ok declared right r (is_old n scoped apart x given old) (is_apart n scoped apart x given) control w ew mean;
      }

  each_keeps : (items : List Item) (ranks : List (List ℕ)) → IsRemovable items → AllFall items ranks → EachNode NodeScoped items → EachNode ControlsApart items → EachNode (NodeNames IsOld) items → EachNode ClocksRight items → EachNode (KeepsPlaces enums) items
  each_keeps [] ranks ok fall s c old right = tt
  each_keeps (TypeItem t ∷ items) ranks ok fall s c old right = each_keeps items ranks ok fall s c old right
  each_keeps (NodeItem n ∷ items) [] ok fall s c old right = absurd fall
  each_keeps (NodeItem n ∷ items) (r ∷ ranks) ok fall s c old right = (node_keeps n r ok.0 fall.0 fall.1 s.0 c.0 old.0 right.0, each_keeps items ranks ok.1 fall.2 s.1 c.1 old.1 right.1)

pub places_law : PlaceLaw → EarlyPlaceLaw → EarlyEventsLaw → RanksLaw → AcceptedLaw → PlacesLaw
places_law place early events ranked accepted program after ranks r ok fall =
    let clocked = clocked_of (replaced program) after r.clocks in
    let can = all_can no_node program (scoped program r.named r.defined) r.names (calls_fit program r.named (typed program r.named r.typed r.merges)) (all_few_calls no_node program r.calls) (few_variables program r.limits) in
    let is = accepted program after r in
    let right = each_reverse ClocksRight (reverse after) (all_right (types_of after) is.0 (reverse after) is.1) in
    each_keeps place early events ranked (enumerations [] after) after ranks ok fall
    (scoped_clocked (replaced program) after clocked (judged_replaced program r.named r.typed r.defined r.limits r.merges r.names r.calls))
    (apart_law program after r)
    (old_clocked (replaced program) after clocked (program_old program can))
    (subst (EachNode ClocksRight) (reverse-reverse after) right)
