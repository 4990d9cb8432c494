-- What the closed nodes of a ready program answer are the outputs of the program's one reaction under their choices.
use Rattle.std.proofs.Common.{◌≡◌, ℕ, ◌≤◌, List, [], ◌∷◌, ◌++◌, length, map, reverse, Option, None, Some, refl, sym, ap, subst, ◌∙◌}
use Rattle.std.specs.List.{AllByRecursion}
use Rattle.std.proofs.lemmas.List.{map-append}
use Rattle.hp_base.specs.Kinds.{KindData, AreOfKinds}
use Rattle.hp_obc.specs.Form.{TypesForm}
use Rattle.hp_obc.specs.Machines.{ObcType}
use Rattle.hp_tree.specs.declared.program.Item.{Item}
use Rattle.hp_tree.specs.declared.program.Item.TheVariants.{TypeItem, NodeItem}
use Rattle.hp_tree.specs.Blocks.{Decl}
use Rattle.hp_tree.specs.Programs.{Node}
use Rattle.hp_tree.specs.Meaning.{types_of, controls_of, node_among}
use Rattle.law_judged.specs.Named.Scoped.{EachNode}
use Rattle.law_values.specs.Accepted.Laws.{IsReady}
use Rattle.law_values.proofs.AcceptedLemmas.Assembled.{types_replaced, types_clocked}
use Rattle.law_values.specs.Filled.Firsts.{DeclsHaveFirsts, NodeHasFirsts}
use Rattle.law_values.proofs.FilledLemmas.Ready.{ready_firsts}
use Rattle.hp_expand.specs.Numbering.{no_node, replaced}
use Rattle.hp_automata.specs.Lowering as lowering
use Rattle.hp_automata.specs.Lowering.{Enumerations, enumerations, lowered_item, lowered_node, lowered_program}
use Rattle.law_automata.proofs.LowerableLemmas.Runs.{lowered_there}
use Rattle.law_automata.proofs.LowerableLemmas.Texts.{clocked_of, each_reverse}
use Rattle.hp_flat.specs.Nodes.{FlatNode}
use Rattle.law_equations.specs.Fitting.Fitting.{CallsLaw, TargetsLaw}
use Rattle.law_equations.specs.Meaning.Kinding.{kind_of_type}
use Rattle.law_equations.specs.Meaning.Reactions.{Answers, inputs_of}
use Rattle.law_equations.specs.Made.Making.{Known, flat_type, outputs_of}
use Rattle.law_equations.specs.Made.Types.{obc_types, obc_types_of}
use Rattle.hp_complete.specs.Declaring.{known_of}
use Rattle.hp_complete.specs.Made.{AreMadeOf}
use Rattle.hp_complete.proofs.KnownLaws.{nodes-known}
use Rattle.law_wellmade.specs.Timely.Kinds as timely
use Rattle.law_wellmade.specs.Timely.Tested.{ConstructorsDiffer}
use Rattle.law_wellmade.proofs.TestedLemmas.FittedLaws.{differ_law}
use Rattle.law_wellmade.proofs.TimelyLemmas.KindLaws.{are_of}
use Rattle.law_wellmade.specs.Regular.Kinds.{kinds_of_decls}
use Rattle.law_history.proofs.StreamsLemmas.NamesApart.{name_found, each_found}
use Rattle.law_choices.specs.OnClocks.Meaning.{AnswersAlike, HasSome}
use Rattle.law_choices.specs.OnClocks.WellMade.{given_to, callees_of}
use Rattle.law_choices.proofs.OnClocksLemmas.ArmNumbers.{AreFew}
use Rattle.law_choices.proofs.OnClocksLemmas.Meanings.{kinds_some}
use Rattle.law_choices.proofs.OnClocksLemmas.OneMeaning.{AreTurned, ready_nodes}
use Rattle.law_wellmade.proofs.BegunLemmas.Items.{types_low, names_of_types}
use Rattle.law_choices.proofs.OnClocksLemmas.Programs.{few_of, some_of, number_of}
use Rattle.law_choices.proofs.OnClocksLemmas.Texts.{when_accepted}
use Rattle.law_choices.specs.Choosing.Choices.{Choices}
use Rattle.law_choices.specs.Choosing.Programs.{steered_by, controls_in, AreChoices, ReadyLaw}
use Rattle.law_choices.specs.Runs.Laws.{ChoosesValues}
use Rattle.law_choices.specs.Streams.Alike.{AlikeLaw}
use Rattle.law_choices.specs.Streams.Streams.{AnswersReactions, StreamLaw}
use Rattle.law_choices.proofs.StreamsLemmas.Signatures.{controls_lowered}
use Rattle.law_choices.proofs.StreamsLemmas.Streams.{alike_answers, in_turn}
use Rattle.law_choices.proofs.StreamsLemmas.TypeKinds.{kinds_same}
use Rattle.law_choices.specs.Answered.Loops.{plants, LoopsLaw}
use Rattle.law_choices.specs.Answered.Programs.{AlwaysOfKinds, AllowedLaw, ClosedProgramLaw, ClosedTextLaw}

-- ---- what is known of the nodes of a ready program

last_some : (ks js : List KindData) → AllByRecursion HasSome (ks ++ js) → AllByRecursion HasSome js
last_some [] js h = h
last_some (k ∷ ks) js h = last_some ks js h.1

-- the kinds of controllable variables have values, since variables have
module _ (types : List ObcType) (k : Known) where
  abbrev ControlsSome : Node → Type 0
  ControlsSome n = AllByRecursion HasSome (kinds_of_decls types k (controls_of n.contract))

  turned_some : (names : List (List ℕ)) (items : List Item) (fs : List FlatNode) → AreTurned types k names items fs → EachNode ControlsSome items
  turned_some names [] fs t = tt
  turned_some names (TypeItem d ∷ items) fs t = turned_some names items fs t
  turned_some names (NodeItem n ∷ items) [] t = absurd t
  turned_some names (NodeItem n ∷ items) (f ∷ fs) t =
      let one = t.0 in
      let signed = one.signed in
      let well = one.well in
      let parts : kinds_of_decls types k (n.inputs ++ controls_of n.contract) ≡ kinds_of_decls types k n.inputs ++ kinds_of_decls types k (controls_of n.contract) =
      map-append (λ (d : Decl). kind_of_type types (flat_type k.types d.ty)) n.inputs (controls_of n.contract) in (
        last_some (kinds_of_decls types k n.inputs) (kinds_of_decls types k (controls_of n.contract)) (subst (AllByRecursion HasSome) (sym signed.takes ∙ parts) (kinds_some types f (inputs_of f) well.values)),
        turned_some (f.name ∷ names) items fs t.1,
      )

controls_some : (types : List ObcType) (low : List Item) (fs : List FlatNode) → AreTurned types (known_of low) [] low fs → (f : List ℕ) → AllByRecursion HasSome (kinds_of_decls types (known_of low) (steered_by ((known_of low).nodes f)))
controls_some types low fs t f = by ((known_of low).nodes f) refl
  where
    by : (o : Option Node) → (known_of low).nodes f ≡ o → AllByRecursion HasSome (kinds_of_decls types (known_of low) (steered_by o))
    by None e = tt
    by (Some n) e = each_found (ControlsSome types (known_of low)) (reverse low) f n (each_reverse (ControlsSome types (known_of low)) low (turned_some types (known_of low) [] low fs t)) (sym (nodes-known low f) ∙ e)

-- kinds by numbers of types are those by their names
pub decls_kinds : (program after : List Item) → IsReady program after → TypesForm (obc_types_of program) → (ds : List Decl) → DeclsHaveFirsts (types_of after) ds
    → kinds_of_decls (obc_types (types_of after)) (known_of (lowered_program after)) ds ≡ timely.kinds_of_decls (types_of after) ds
decls_kinds program after r form ds h =
    let low = lowered_program after in
    let same : types_of low ≡ types_of after = types_low (enumerations [] after) after in
    let same_all : types_of low ≡ types_of program = same ∙ types_clocked (replaced program) after (clocked_of (replaced program) after r.clocks) ∙ types_replaced no_node program in
    let many : length (types_of low) ≤ 65535 = subst (λ ts. length ts ≤ 65535) (sym same_all) (number_of (types_of program) form.number) in
    let small : AreFew (types_of low) = subst AreFew (sym same_all) (few_of (types_of program) form.counts) in
    ap (λ ts. kinds_of_decls (obc_types ts) (known_of low) ds) (sym same) ∙ kinds_same low (names_of_types low) many small ds (subst (λ ts. DeclsHaveFirsts ts ds) (sym same) h) ∙ ap (λ ts. timely.kinds_of_decls ts ds) same

-- ---- values of the types

module _ (program after : List Item) (r : IsReady program after) (form : TypesForm (obc_types_of program)) (choices : Choices) (typed : AlwaysOfKinds after choices) (differ : ConstructorsDiffer (types_of after)) where
  abbrev enums : Enumerations
  enums = enumerations [] after

  abbrev k : Known
  k = known_of (lowered_program after)

  one_chooses : (n : Node) → DeclsHaveFirsts (types_of after) (controls_of n.contract) → k.nodes n.name ≡ Some (lowered_node enums n) → ChoosesValues (types_of after) choices n
  one_chooses n firsts own args earlier =
      let types = obc_types (types_of after) in
      let kinds : controls_in after n.name ≡ timely.kinds_of_decls (types_of after) (controls_of n.contract) =
      ap (λ o. kinds_of_decls types k (steered_by o)) own ∙ ap (kinds_of_decls types k) (controls_lowered enums (lowering.types_of n) n.contract) ∙ decls_kinds program after r form (controls_of n.contract) firsts in
      are_of (types_of after) (controls_of n.contract) (choices n.name args earlier) differ (subst (λ ks. AreOfKinds ks (choices n.name args earlier)) kinds (typed n.name args earlier))

  all_choose : (names : List (List ℕ)) (items : List Item) (fs : List FlatNode) → AreTurned (obc_types (types_of after)) k names (map (lowered_item enums) items) fs → AreMadeOf k (map (lowered_item enums) items) fs → EachNode (NodeHasFirsts (types_of after)) items
      → EachNode (ChoosesValues (types_of after) choices) items
  all_choose names [] fs t made h = tt
  all_choose names (TypeItem d ∷ items) fs t made h = all_choose names items fs t made h
  all_choose names (NodeItem n ∷ items) [] t made h = absurd t
  all_choose names (NodeItem n ∷ items) (f ∷ fs) t made h =
      let one = t.0 in
      let its = made.0 in
      let firsts = h.0 in
      (one_chooses n firsts.controls (sym (ap k.nodes its.name) ∙ one.own), all_choose (f.name ∷ names) items fs t.1 made.1 h.1)

-- what calls give a node are values of the kinds of its inputs
pub takes_kinds : (program after : List Item) → IsReady program after → TypesForm (obc_types_of program) → (f : List ℕ) (n : Node) → node_among (reverse after) f ≡ Some n → (callees_of after).takes f ≡ timely.kinds_of_decls (types_of after) n.inputs
takes_kinds program after r form f n e =
    let low = lowered_program after in
    let full = some_of (types_of program) form.counts in
    let firsts = each_found (NodeHasFirsts (types_of after)) (reverse after) f n (each_reverse (NodeHasFirsts (types_of after)) after (ready_firsts program after r full)) e in
    ap (λ o. kinds_of_decls (obc_types (types_of after)) (known_of low) (given_to o)) (nodes-known low f ∙ lowered_there after f n e) ∙ decls_kinds program after r form n.inputs firsts.inputs

-- and what it gives are values of the kinds of its outputs
pub gives_kinds : (program after : List Item) → IsReady program after → TypesForm (obc_types_of program) → (f : List ℕ) (n : Node) → node_among (reverse after) f ≡ Some n → (callees_of after).gives f ≡ timely.kinds_of_decls (types_of after) n.outputs
gives_kinds program after r form f n e =
    let low = lowered_program after in
    let full = some_of (types_of program) form.counts in
    let firsts = each_found (NodeHasFirsts (types_of after)) (reverse after) f n (each_reverse (NodeHasFirsts (types_of after)) after (ready_firsts program after r full)) e in
    ap (λ o. kinds_of_decls (obc_types (types_of after)) (known_of low) (outputs_of o)) (nodes-known low f ∙ lowered_there after f n e) ∙ decls_kinds program after r form n.outputs firsts.outputs

-- ---- what is answered

-- what is so of the names of made nodes is so of those of the nodes before their automata were removed
pub named_before : (P : List ℕ → Type 0) (enums : Enumerations) (k : Known) (items : List Item) (fs : List FlatNode) → AreMadeOf k (map (lowered_item enums) items) fs → AllByRecursion (λ (f : FlatNode). P f.name) fs → EachNode (λ (n : Node). P n.name) items
named_before P enums k [] fs made h = tt
named_before P enums k (TypeItem t ∷ items) fs made h = named_before P enums k items fs made h
named_before P enums k (NodeItem n ∷ items) [] made h = absurd made
named_before P enums k (NodeItem n ∷ items) (f ∷ fs) made h = (let its = made.0 in subst P its.name h.0, named_before P enums k items fs made.1 h.1)

module _ (program after : List Item) (r : IsReady program after) (form : TypesForm (obc_types_of program)) (fs : List FlatNode) (made : AreMadeOf (known_of (lowered_program after)) (lowered_program after) fs) (choices : Choices) where
  reactions_alike : (base answers : Answers) → AllByRecursion (λ (f : FlatNode). AnswersAlike base answers (callees_of after).takes f.name) fs → AnswersReactions choices after base → AnswersReactions choices after answers
  reactions_alike base answers alike given f n inputs e kinds_fit =
      let low = lowered_program after in
      let Same : List ℕ → Type 0 = λ g. AnswersAlike base answers (callees_of after).takes g in
      let own : Same f = subst Same (name_found (reverse after) f n e)
      (each_found (λ (m : Node). Same m.name) (reverse after) f n (each_reverse (λ (m : Node). Same m.name) after (named_before Same (enumerations [] after) (known_of low) after fs made alike)) e) in
      let takes = takes_kinds program after r form f n e in
      let it = given f n inputs e kinds_fit in
      record { one = it.one; outputs = it.outputs ∙ sym (alike_answers base answers (callees_of after).takes f own inputs (subst (λ ks. AllByRecursion (AreOfKinds ks) inputs) (sym takes) kinds_fit)) }

-- the laws that are joined here
pub record ProgramLaws : Type 0 where
  pub targets : TargetsLaw
  pub calls : CallsLaw
  pub meaning : ReadyLaw
  pub alike : AlikeLaw
  pub streams : StreamLaw

pub allowed_law : ProgramLaws → AllowedLaw
allowed_law laws program after ranks r ok fall form short fs made choices typed answers gives =
    let low = lowered_program after in
    let types = obc_types (types_of after) in
    let full = some_of (types_of program) form.counts in
    let nodes = ready_nodes laws.targets laws.calls program after r ok form short fs made in
    let differ : ConstructorsDiffer (types_of after) = subst ConstructorsDiffer (types_low (enumerations [] after) after) (differ_law program after r) in
    let values = all_choose program after r form choices typed differ [] after fs nodes.turned made (ready_firsts program after r full) in
    let fit : AreChoices after choices = λ f args earlier h g. typed f args earlier in
    let one = laws.meaning program after r ok form short choices fit fs made in
    let alike = laws.alike types (callees_of after) (controls_in after) choices fs (in_turn types (known_of low) [] low fs nodes.turned) fit one answers gives in
    record { values = values; reactions = reactions_alike program after r form fs made choices one.answers answers alike (laws.streams program after ranks r ok fall form short choices values fit fs made one) }

pub closed_program_law : ProgramLaws → LoopsLaw → ClosedProgramLaw
closed_program_law laws loops program after ranks r ok fall form short ls made all ns turn there one closed =
    let low = lowered_program after in
    let types = obc_types (types_of after) in
    let fs = plants ls in
    let nodes = ready_nodes laws.targets laws.calls program after r ok form short fs made in
    let c = loops types (callees_of after) all (controls_in after) ls ns (in_turn types (known_of low) [] low fs nodes.turned) (controls_some types low fs nodes.turned) turn there one closed in
    record { choices = c.choices; typed = c.typed; gives = c.gives; theirs = c.theirs; allowed = allowed_law laws program after ranks r ok fall form short fs made c.choices c.typed one.answers c.gives }

pub closed_text_law : ProgramLaws → LoopsLaw → ClosedTextLaw
closed_text_law laws loops text tokens program after ranks a p n t d f i c fall ls made all ns turn there one closed =
    let q = when_accepted text tokens program after a p n t d f i c in
    closed_program_law laws loops program after ranks q.ready q.removable fall q.form q.short ls made all ns turn there one closed
