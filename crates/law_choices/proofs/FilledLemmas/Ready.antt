-- The filled form of ready programs without their automata, with chosen values.
use Rattle.std.proofs.Common.{◌≡◌, ℕ, List, [], ◌∷◌, map, reverse, length, refl, sym, ap, subst, ◌∙◌}
use Rattle.std.specs.Prelude.{Option, None, Some, option_map}
use Rattle.hp_base.specs.declared.value.Value.{Value}
use Rattle.hp_tree.specs.declared.program.Item.{Item}
use Rattle.hp_tree.specs.declared.program.Item.TheVariants.{TypeItem, NodeItem}
use Rattle.hp_tree.specs.Blocks.{Decl}
use Rattle.hp_tree.specs.Programs.{TypeDecl, Contract, Node}
use Rattle.hp_tree.specs.Values.{AreOf}
use Rattle.hp_tree.specs.Instant.{Instant}
use Rattle.hp_tree.specs.Meaning.{types_of, controls_of, node_among}
use Rattle.hp_tree.specs.Reaction.{Each}
use Rattle.hp_meaning.specs.Causal.RanksOfPoints.{AllFall, AllRanksLaw}
use Rattle.law_judged.specs.Named.Scoped.{EachNode}
use Rattle.law_values.specs.Accepted.Laws.{IsReady}
use Rattle.law_values.proofs.AcceptedLemmas.Laws.{accepted}
use Rattle.hp_automata.specs.Lowering as lowering
use Rattle.hp_automata.specs.Lowering.{Types, Enumerations, enumerations, lowered_node, lowered_contract, lowered_item, lowered_program}
use Rattle.law_automata.specs.Lowered.Laws.{RanksLaw}
use Rattle.law_automata.specs.Lowered.Removable.{IsRemovable}
use Rattle.law_automata.proofs.LowerableLemmas.Runs.{lowered_there}
use Rattle.law_values.specs.Filled.Firsts.{TypesHaveConstructors, NodeHasFirsts}
use Rattle.law_values.specs.Filled.Laws.{ReadyFirstsLaw}
use Rattle.law_automata.specs.Readied.Sound.{HasOne, HaveConstructors}
use Rattle.law_automata.specs.Readied.Accepted.{AcceptedLaw}
use Rattle.law_automata.specs.Classed.Laws.{ClassesLaw}
use Rattle.law_wellmade.proofs.BegunLemmas.LoweredFirsts.{lowered_firsts}
use Rattle.law_choices.specs.Choosing.Choices.{Choices}
use Rattle.law_choices.specs.Runs.Laws.{ChoosesValues, OneForOne, LoweredLaw}
use Rattle.law_choices.specs.Filled.Filled.{IsFirst}
use Rattle.law_choices.specs.Filled.Laws.{IsChosen}
use Rattle.law_choices.specs.Filled.Ready.{FilledForOne, ChoicesKeptLaw, ReadyLaw}
use Rattle.law_choices.specs.Filled.Valued.{HasValues}
use Rattle.law_choices.proofs.FilledLemmas.Reactions.{one_filled, agree, same_outputs}

has_one : (cs : List (List ℕ)) → (cs ≡ [] → ⊥) → HasOne cs
has_one [] h = h refl
has_one (c ∷ cs) h = tt

have_constructors : (items : List Item) → TypesHaveConstructors (types_of items) → HaveConstructors items
have_constructors [] h = tt
have_constructors (TypeItem t ∷ items) h = (has_one t.cons h.0, have_constructors items h.1)
have_constructors (NodeItem n ∷ items) h = have_constructors items h

module _ (enums : Enumerations) where
  types_lowered : (items : List Item) → types_of (map (lowered_item enums) items) ≡ types_of items
  types_lowered [] = refl
  types_lowered (TypeItem t ∷ items) = ap (λ ts. t ∷ ts) (types_lowered items)
  types_lowered (NodeItem n ∷ items) = types_lowered items

  controls_lowered : (tys : Types) (o : Option Contract) → controls_of (option_map (lowered_contract enums tys) o) ≡ controls_of o
  controls_lowered tys None = refl
  controls_lowered tys (Some c) = refl

  -- a node has the same controllable variables without its automata
  values_lowered : (types : List TypeDecl) (choices : Choices) (items : List Item) → EachNode (ChoosesValues types choices) items → EachNode (ChoosesValues types choices) (map (lowered_item enums) items)
  values_lowered types choices [] h = tt
  values_lowered types choices (TypeItem t ∷ items) h = values_lowered types choices items h
  values_lowered types choices (NodeItem n ∷ items) h = (
    λ args earlier. subst (λ (ds : List Decl). AreOf types ds (choices n.name args earlier)) (sym (controls_lowered (lowering.types_of n) n.contract)) (h.0 args earlier),
    values_lowered types choices items h.1,
  )

pub choices_kept : ChoicesKeptLaw
choices_kept choices program h =
    let enums = enumerations [] program in
    let low = lowered_program program in
    subst (λ ts. EachNode (ChoosesValues ts choices) low) (sym (types_lowered enums program)) (values_lowered enums (types_of program) choices program h)

-- Where there is one reaction of a program with values, and one without its automata, there is one of the filled form of this, and they agree.
pub filled_for_one : (after : List Item) → HasValues after → (choices : Choices) → EachNode (ChoosesValues (types_of after) choices) after → (f : List ℕ) (n : Node) (inputs : List (List Value)) → node_among (reverse after) f ≡ Some n → Each (AreOf (types_of after) n.inputs) inputs → OneForOne choices after f inputs
    → (frees : List Instant) → Each (IsFirst (lowered_program after) f) frees → length frees ≡ length inputs → FilledForOne choices after f inputs frees
filled_for_one after v choices values f n inputs e fit one frees given many =
    let enums = enumerations [] after in
    let low = lowered_program after in
    let m = lowered_node enums n in
    let types : types_of low ≡ types_of after = types_lowered enums after in
    let ranked = v.low_ranked in
    let chosen : IsChosen choices low v.low_class f m inputs frees =
    record {
      accepted = v.low_accepted;
      ranked = ranked;
      chooses = choices_kept choices after values;
      is_node = lowered_there after f n e;
      inputs_fit = subst (λ ts. Each (AreOf ts n.inputs) inputs) (sym types) fit;
      given_fit = given;
    } in
    let filled = one_filled choices low f inputs frees ranked many in
    let behind = one.behind in
    record {
      one = one;
      filled = filled;
      under = agree choices low v.low_class f m inputs frees behind.past filled.past chosen v.firsts behind.is_one filled.is_one;
      outputs = same_outputs choices low v.low_class f m inputs frees behind.past filled.past chosen v.firsts behind.is_one filled.is_one ∙ one.outputs;
    }

-- A ready program has values.
pub ready_values : ClassesLaw → AcceptedLaw → AllRanksLaw → RanksLaw → ReadyFirstsLaw → (program after : List Item) (ranks : List (List ℕ)) → IsReady program after → IsRemovable after → AllFall after ranks → TypesHaveConstructors (types_of program) → HasValues after
ready_values classes low_accepted all_ranks kept_ranks firsts program after ranks r ok fall full =
    let enums = enumerations [] after in
    let low = lowered_program after in
    let a = accepted program after r in
    let c = classes program after r ok in
    let ranked = all_ranks after ranks fall in
    record {
      removable = ok;
      class = a.0;
      accepted = a.1;
      ranked = ranked;
      low_class = c.0;
      low_accepted = low_accepted program after c.0 r ok (have_constructors program full) c.1;
      low_ranked = kept_ranks after ok ranked;
      firsts = subst (λ ts. EachNode (NodeHasFirsts ts) low) (sym (types_lowered enums after)) (lowered_firsts (types_of after) enums after (firsts program after r full));
    }

pub ready_law : ClassesLaw → AcceptedLaw → AllRanksLaw → RanksLaw → ReadyFirstsLaw → LoweredLaw → ReadyLaw
ready_law classes low_accepted all_ranks kept_ranks firsts lowered program after ranks r ok fall full choices values f n inputs e fit =
    filled_for_one after (ready_values classes low_accepted all_ranks kept_ranks firsts program after ranks r ok fall full) choices values f n inputs e fit (lowered program after ranks r ok fall choices values f n inputs e fit)
