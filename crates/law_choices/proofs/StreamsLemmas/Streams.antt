-- The one meaning of the clocked equations of a ready program under a choice gives the outputs of its one reaction.
use Rattle.std.proofs.Common.{◌≡◌, ℕ, suc, false, if◌then◌else◌, List, [], ◌∷◌, ◌++◌, length, map, reverse, refl, sym, ap, ap₂, subst, ◌∙◌}
use Rattle.std.specs.Prelude.{Some, None}
use Rattle.std.specs.List.{AllByRecursion}
use Rattle.std.specs.Str.{bytes_eq}
use Rattle.std.proofs.lemmas.List.{map-append}
use Rattle.hp_base.specs.Kinds.{KindData, AreOfKinds}
use Rattle.hp_base.specs.declared.value.Value.{Value}
use Rattle.hp_obc.specs.Form.{TypesForm}
use Rattle.hp_obc.specs.Machines.{ObcType}
use Rattle.hp_obc.specs.Steps.{Names}
use Rattle.hp_tree.specs.declared.program.Item.{Item}
use Rattle.hp_tree.specs.declared.program.Item.TheVariants.{TypeItem, NodeItem}
use Rattle.hp_tree.specs.Blocks.{Decl}
use Rattle.hp_tree.specs.Programs.{TypeDecl, Node}
use Rattle.hp_tree.specs.Operators.{Reading, real, filled}
use Rattle.hp_tree.specs.Values.{AreOf}
use Rattle.hp_tree.specs.Instant.{Named, Place, Instant, Past}
use Rattle.hp_tree.specs.Meaning.{types_of, names_of, controls_of, nodes, node_among}
use Rattle.hp_tree.specs.Reaction.{Each, outputs_at}
use Rattle.hp_meaning.specs.Causal.Causality.{IsRanked}
use Rattle.hp_meaning.specs.Causal.OneReaction.{ReactionOf}
use Rattle.hp_meaning.specs.Causal.RanksOfPoints.{AllFall, AllRanksLaw}
use Rattle.law_judged.specs.Named.Scoped.{EachNode}
use Rattle.law_values.specs.Accepted.Laws.{IsReady}
use Rattle.law_values.specs.Valued.Values.{Classing, AreAccepted, GivenFits}
use Rattle.hp_automata.specs.Lowering as lowering
use Rattle.hp_automata.specs.Lowering.{Enumerations, enumerations, lowered_item, lowered_node, lowered_program}
use Rattle.law_automata.specs.Lowered.Laws.{OutputsLaw, RanksLaw}
use Rattle.law_automata.specs.Lowered.Removable.{IsRemovable}
use Rattle.law_automata.proofs.LowerableLemmas.Runs.{lowered_there}
use Rattle.law_automata.proofs.LowerableLemmas.Texts.{each_reverse}
use Rattle.law_values.specs.Filled.Firsts.{DeclsHaveFirsts, NodeHasFirsts}
use Rattle.law_values.specs.Filled.Laws.{ReadyFirstsLaw}
use Rattle.law_automata.specs.Classed.Laws.{ClassesLaw}
use Rattle.law_automata.specs.Readied.Accepted.{AcceptedLaw}
use Rattle.law_automata.specs.Readied.Laws.{IsWhole}
use Rattle.law_automata.specs.Readied.Sound.{SoundBehind}
use Rattle.hp_flat.specs.Nodes.{FlatNode}
use Rattle.law_equations.specs.Meaning.Kinding.{OutputsOfKindsLaw, kind_of_type}
use Rattle.law_equations.specs.Meaning.Reactions.{Answers}
use Rattle.law_equations.specs.Followed.Programs.{all_answers}
use Rattle.law_equations.specs.Fitting.Fitting.{CallsLaw, TargetsLaw}
use Rattle.law_equations.specs.Made.Making.{Known, flat_type, outputs_of}
use Rattle.law_equations.specs.Made.Standing.{Knows}
use Rattle.law_equations.specs.Made.Types.{obc_types, obc_types_of}
use Rattle.hp_complete.specs.Declaring.{known_of}
use Rattle.hp_complete.specs.Made.{IsMadeOf, AreMadeOf}
use Rattle.hp_complete.proofs.KnownLaws.{nodes-known}
use Rattle.law_equations.specs.Answered.Answering.{filled_nodes, given_each, AreApart}
use Rattle.law_equations.specs.Answered.Laws.{IsMade}
use Rattle.law_wellmade.specs.Spelled.Integers.{NodeShort}
use Rattle.law_wellmade.specs.Begun.Laws.{Begins}
use Rattle.law_wellmade.proofs.RegularLemmas.RegularLaws.{lowered}
use Rattle.law_wellmade.specs.Timely.Kinds.{takes_among}
use Rattle.law_wellmade.specs.Timely.Kinds as timely
use Rattle.law_wellmade.specs.Timely.Tested.{ConstructorsDiffer, AreTested}
use Rattle.law_wellmade.proofs.TimelyLemmas.KindLaws.{are_of}
use Rattle.law_wellmade.specs.Regular.Kinds.{kinds_of_decls}
use Rattle.law_history.proofs.StreamsLemmas.Asked.{Splits, split_next, split_first, calls_before}
use Rattle.law_history.proofs.StreamsLemmas.NamesApart.{name_found, each_found, own_found}
use Rattle.law_choices.specs.OnClocks.Meaning.{AnswersAlike}
use Rattle.law_choices.specs.OnClocks.WellMade.{given_to, calls_of, callees_of}
use Rattle.law_choices.proofs.OnClocksLemmas.ArmNumbers.{AreFew}
use Rattle.law_choices.proofs.OnClocksLemmas.OneMeaning.{AreTurned, compiled_nodes}
use Rattle.law_wellmade.proofs.BegunLemmas.Items.{types_low, names_of_types}
use Rattle.law_choices.proofs.OnClocksLemmas.Programs.{few_of, some_of, many_types, constructors_differ, compilable_law}
use Rattle.law_choices.proofs.OnClocksLemmas.Compilable.{compiled_begun}
use Rattle.law_choices.proofs.OnClocksLemmas.Texts.{when_accepted}
use Rattle.law_choices.proofs.OnClocksLemmas.WellMade.{compiled_knows}
use Rattle.law_choices.specs.Choosing.Choices.{Choices, OneReactionLaw}
use Rattle.law_choices.specs.Choosing.Meaning.{AreInTurn, GivesAnswer, GivesAnswers, HasOneMeaningUnder}
use Rattle.law_choices.specs.Choosing.Programs.{steered_by, controls_in, AreChoices, TextLaw as MeaningTextLaw}
use Rattle.law_choices.specs.Runs.Chosen.{chosen_nodes, chosen_meaning}
use Rattle.law_choices.specs.Runs.Laws.{ChoosesValues}
use Rattle.law_choices.specs.Filled.Ready.{FilledForOne}
use Rattle.law_choices.specs.Filled.Valued.{HasValues}
use Rattle.law_choices.proofs.FilledLemmas.Ready.{filled_for_one, ready_values}
use Rattle.law_choices.proofs.RunsLemmas.Runs.{one_for_one}
use Rattle.law_choices.specs.Flat.Answering.{AnsweringUnder, ControlsDiffer}
use Rattle.law_choices.specs.Flat.Laws.{SomeAnswersLaw, EquationsAnswerLaw}
use Rattle.law_choices.proofs.FlatLemmas.Behave.{outputs_answered}
use Rattle.law_choices.specs.Streams.Meaningful.{IsMeaningful}
use Rattle.law_choices.specs.Streams.Streams.{StreamLaw, TextLaw}
use Rattle.law_choices.proofs.StreamsLemmas.Alike.{alike_law}
use Rattle.law_choices.proofs.StreamsLemmas.Signatures.{controls_lowered, controls_differ}
use Rattle.law_choices.proofs.StreamsLemmas.TypeKinds.{kinds_same}

-- ---- what nodes answer on all inputs

outputs_named : (choices : Choices) (types : List TypeDecl) (R Q : Reading) (items : List Item) (f : List ℕ) → (nodes types R items).outputs f ≡ (chosen_nodes choices types Q items).outputs f
outputs_named choices types R Q [] f = refl
outputs_named choices types R Q (TypeItem t ∷ items) f = outputs_named choices types R Q items f
outputs_named choices types R Q (NodeItem n ∷ items) f = ap (λ (os : List (List ℕ)). if bytes_eq n.name f then names_of n.outputs else os) (outputs_named choices types R Q items f)

module _ (choices : Choices) (program : List Item) (fills : List ℕ → Place → Value) (answers : Answers) (ranked : IsRanked program) (answer : AnsweringUnder choices program fills answers) (f : List ℕ) where
  all_answered : (inputs : List (List Value)) (past : Past) → ReactionOf (chosen_meaning choices filled program f) inputs (given_each (fills f) inputs) past → map (outputs_at program f) past ≡ all_answers (answers f) inputs
  all_answered [] [] r = refl
  all_answered [] (now ∷ past) r = absurd r
  all_answered (args ∷ before) [] r = absurd r
  all_answered (args ∷ before) (now ∷ past) r =
      ap₂ (λ (vs : List Value) (all : List (List Value)). vs ∷ all)
      (ap (λ (os : List (List ℕ)). map (λ o. now (Named o ∷ [])) os) (outputs_named choices (types_of program) real filled (reverse program) f)
      ∙ outputs_answered choices program fills answers ranked answer f args before (now ∷ past) r)
      (all_answered before past r.0)

-- answers that are alike on inputs of the kinds
pub alike_answers : (answers others : Answers) (takes : Names (List KindData)) (f : List ℕ) → AnswersAlike answers others takes f → (inputs : List (List Value)) → AllByRecursion (AreOfKinds (takes f)) inputs → all_answers (others f) inputs ≡ all_answers (answers f) inputs
alike_answers answers others takes f alike [] h = refl
alike_answers answers others takes f alike (args ∷ earlier) h = ap₂ (λ (vs : List Value) (all : List (List Value)). vs ∷ all) (alike args earlier h.0 h.1) (alike_answers answers others takes f alike earlier h.1)

-- ---- nodes in turn

both_kinds : (types : List ObcType) (k : Known) (xs ys : List Decl) → kinds_of_decls types k (xs ++ ys) ≡ kinds_of_decls types k xs ++ kinds_of_decls types k ys
both_kinds types k xs ys = map-append (λ (d : Decl). kind_of_type types (flat_type k.types d.ty)) xs ys

module _ (types : List ObcType) (k : Known) where
  pub in_turn : (names : List (List ℕ)) (items : List Item) (fs : List FlatNode) → AreTurned types k names items fs → AreInTurn types (calls_of types k) (λ f. kinds_of_decls types k (steered_by (k.nodes f))) names fs
  in_turn names [] [] t = tt
  in_turn names [] (f ∷ fs) t = absurd t
  in_turn names (TypeItem d ∷ items) fs t = in_turn names items fs t
  in_turn names (NodeItem n ∷ items) [] t = absurd t
  in_turn names (NodeItem n ∷ items) (f ∷ fs) t =
      let one = t.0 in
      let signed = one.signed in (
        one.well,
        record {
          takes = ap (λ o. kinds_of_decls types k (given_to o) ++ kinds_of_decls types k (steered_by o)) one.own ∙ sym (both_kinds types k n.inputs (controls_of n.contract)) ∙ signed.takes;
          gives = ap (λ o. kinds_of_decls types k (outputs_of o)) one.own ∙ signed.gives;
        },
        one.new,
        one.calls,
        in_turn (f.name ∷ names) items fs t.1,
      )

-- ---- a program without automata

chooses_lowered : (types : List TypeDecl) (choices : Choices) (enums : Enumerations) (items : List Item) → EachNode (ChoosesValues types choices) items → EachNode (ChoosesValues types choices) (map (lowered_item enums) items)
chooses_lowered types choices enums [] h = tt
chooses_lowered types choices enums (TypeItem t ∷ items) h = chooses_lowered types choices enums items h
chooses_lowered types choices enums (NodeItem n ∷ items) h =
    ((λ args earlier. subst (λ ds. AreOf types ds (choices n.name args earlier)) (sym (controls_lowered enums (lowering.types_of n) n.contract)) (h.0 args earlier)), chooses_lowered types choices enums items h.1)

-- What is known of a program without automata, in which values are chosen.
pub record Prepared (choices : Choices) (program : List Item) : Type 0 where
  pub class : Classing
  pub accepted : AreAccepted (types_of program) class (reverse program)
  pub ranked : IsRanked program
  pub apart : AreApart (reverse program)
  pub firsts : EachNode (NodeHasFirsts (types_of program)) program
  pub sound : SoundBehind (types_of program) (reverse program)
  pub whole : EachNode IsWhole program
  pub differ : EachNode ControlsDiffer program
  pub distinct : ConstructorsDiffer (types_of program)
  pub tested : AreTested (types_of program) (reverse program)
  pub knows : Knows (types_of program) (filled_nodes program).outputs (known_of program)
  pub chooses : EachNode (ChoosesValues (types_of program) choices) (reverse program)
  pub fills : List ℕ → Place → Value
  pub begins : Begins program fills

-- the clocked equations that are made of one of its nodes
pub one_made : (choices : Choices) (program : List Item) (p : Prepared choices program) (later earlier : List Item) (n : Node) → reverse program ≡ later ++ NodeItem n ∷ earlier → IsWhole n → (f : FlatNode) → IsMadeOf (known_of program) n f
    → IsMade program p.fills later earlier (known_of program) n f
one_made choices program p later earlier n stands whole f made =
    let begins = p.begins in
    record {
      stands = stands;
      calls = begins.called later earlier n stands (calls_before (types_of program) (reverse program) p.sound later earlier n stands);
      ready = record {
        inputs = whole.inputs;
        controls = whole.controls;
        outputs = whole.outputs;
        plain = whole.plain;
        defined = whole.defined;
        nothing_else = whole.nothing_else;
        first_values = begins.ready later earlier n stands;
      };
      inputs = made.inputs;
      outputs = made.outputs;
      equations = made.eqns;
    }

module _ (equations : EquationsAnswerLaw) (choices : Choices) (program : List Item) (p : Prepared choices program) (answers : Answers) (answering : AnsweringUnder choices program p.fills answers) (takes : Names (List KindData))
    (same : (f : List ℕ) (n : Node) → node_among (reverse program) f ≡ Some n → DeclsHaveFirsts (types_of program) n.inputs → takes f ≡ timely.kinds_of_decls (types_of program) n.inputs) where
  abbrev items : List Item
  items = reverse program

  abbrev types_here : List TypeDecl
  types_here = types_of program

  abbrev k_here : Known
  k_here = known_of program

  one_gives : (later earlier : List Item) (n : Node) → items ≡ later ++ NodeItem n ∷ earlier → IsWhole n → ControlsDiffer n → NodeHasFirsts types_here n → (f : FlatNode) → IsMadeOf k_here n f → GivesAnswers choices answers takes f
  one_gives later earlier n stands whole differ firsts f made =
      let begins = p.begins in
      let gives =
      equations choices program p.class p.fills k_here p.accepted p.ranked p.apart begins.fit p.distinct p.tested p.knows p.chooses answers answering later earlier n f (one_made choices program p later earlier n stands whole f made) made.name differ in
      let own : node_among items n.name ≡ Some n = subst (λ xs. node_among xs n.name ≡ Some n) (sym stands) (own_found later earlier n (subst AreApart stands p.apart)) in
      let its : takes_among types_here items n.name ≡ timely.kinds_of_decls types_here n.inputs = ap (λ o. elim o [ None ↦ [] | Some m ↦ timely.kinds_of_decls types_here m.inputs ]) own in
      let path : takes_among types_here items f.name ≡ takes f.name = ap (takes_among types_here items) made.name ∙ its ∙ sym (same n.name n own firsts.inputs) ∙ ap takes (sym made.name) in
      subst (λ ks. (args : List Value) (before : List (List Value)) → AreOfKinds ks args → AllByRecursion (AreOfKinds ks) before → GivesAnswer choices answers f args before) path gives

  all_give : (before rest : List Item) (fs : List FlatNode) → Splits items before rest → EachNode IsWhole rest → EachNode ControlsDiffer rest → EachNode (NodeHasFirsts types_here) rest → AreMadeOf k_here rest fs → AllByRecursion (GivesAnswers choices answers takes) fs
  all_give before [] [] e w d h made = tt
  all_give before [] (f ∷ fs) e w d h made = absurd made
  all_give before (TypeItem t ∷ rest) fs e w d h made = all_give (TypeItem t ∷ before) rest fs (split_next items before rest (TypeItem t) e) w d h made
  all_give before (NodeItem n ∷ rest) [] e w d h made = absurd made
  all_give before (NodeItem n ∷ rest) (f ∷ fs) e w d h made =
      let next = split_next items before rest (NodeItem n) e in
      (one_gives (reverse rest) before n next w.0 d.0 h.0 f made.0, all_give (NodeItem n ∷ before) rest fs next w.1 d.1 h.1 made.1)

-- what is so of the names of made nodes is so of those of the nodes
of_names : (P : List ℕ → Type 0) (k : Known) (rest : List Item) (fs : List FlatNode) → AreMadeOf k rest fs → AllByRecursion (λ (n : FlatNode). P n.name) fs → EachNode (λ (n : Node). P n.name) rest
of_names P k [] fs made h = tt
of_names P k (TypeItem t ∷ rest) fs made h = of_names P k rest fs made h
of_names P k (NodeItem n ∷ rest) [] made h = absurd made
of_names P k (NodeItem n ∷ rest) (f ∷ fs) made h = (subst P made.0.name h.0, of_names P k rest fs made.1 h.1)

-- ---- what is given

given_many : (fill : Instant) (inputs : List (List Value)) → length (given_each fill inputs) ≡ length inputs
given_many fill [] = refl
given_many fill (vs ∷ inputs) = ap suc (given_many fill inputs)

given_all : (P : Instant → Type 0) (fill : Instant) (inputs : List (List Value)) → P fill → Each P (given_each fill inputs)
given_all P fill [] h = tt
given_all P fill (vs ∷ inputs) h = (h, given_all P fill inputs h)

pub all_of : (types : List TypeDecl) (ds : List Decl) (inputs : List (List Value)) → ConstructorsDiffer types → AllByRecursion (AreOfKinds (timely.kinds_of_decls types ds)) inputs → Each (AreOf types ds) inputs
all_of types ds [] d h = tt
all_of types ds (vs ∷ inputs) d h = (are_of types ds vs d h.0, all_of types ds inputs d h.1)

-- ---- programs that mean something

-- the laws that are joined here
pub record MeaningLaws : Type 0 where
  pub targets : TargetsLaw
  pub calls : CallsLaw
  pub one : OneReactionLaw
  pub outputs : OutputsOfKindsLaw
  pub kept : OutputsLaw
  pub some_answers : SomeAnswersLaw
  pub equations : EquationsAnswerLaw

-- What is known of such a program in which values are chosen, and of the one meaning of its clocked equations: what its nodes answer in the filled form is what these mean.
pub record Joined (choices : Choices) (after : List Item) (fs : List FlatNode) (one : HasOneMeaningUnder choices (callees_of after) fs) : Type 0 where
  pub same : types_of (lowered_program after) ≡ types_of after
  pub prepared : Prepared choices (lowered_program after)
  pub answers : Answers
  pub answering : AnsweringUnder choices (lowered_program after) prepared.fills answers
  pub taken : (g : List ℕ) (m : Node) → node_among (reverse (lowered_program after)) g ≡ Some m → DeclsHaveFirsts (types_of (lowered_program after)) m.inputs → (callees_of after).takes g ≡ timely.kinds_of_decls (types_of (lowered_program after)) m.inputs
  pub gives : AllByRecursion (GivesAnswers choices answers (callees_of after).takes) fs
  pub turned : AreInTurn (obc_types (types_of after)) (callees_of after) (controls_in after) [] fs
  pub alike : AllByRecursion (λ (g : FlatNode). AnswersAlike one.answers answers (callees_of after).takes g.name) fs

pub joined : MeaningLaws → (program after : List Item) → IsMeaningful program after → (choices : Choices) → EachNode (ChoosesValues (types_of after) choices) after → AreChoices after choices
    → (fs : List FlatNode) → AreMadeOf (known_of (lowered_program after)) (lowered_program after) fs → (one : HasOneMeaningUnder choices (callees_of after) fs) → Joined choices after fs one
joined laws program after m choices values fit fs made one =
    let enums = enumerations [] after in
    let low = lowered_program after in
    let k = known_of low in
    let types = obc_types (types_of after) in
    let callees = callees_of after in
    let v = m.values in
    let t = m.types in
    let c = m.compilable in
    let form = t.form in
    let same : types_of low ≡ types_of after = types_low enums after in
    let b = compiled_begun program low t c in
    let p : Prepared choices low = record {
      class = v.low_class;
      accepted = v.low_accepted;
      ranked = v.low_ranked;
      apart = c.apart;
      firsts = c.firsts;
      sound = c.sound;
      whole = c.whole;
      differ = m.differ;
      distinct = constructors_differ program low t;
      tested = c.tested;
      knows = compiled_knows program low t c;
      chooses = subst (λ ts. EachNode (ChoosesValues ts choices) (reverse low)) (sym same) (each_reverse (ChoosesValues (types_of after) choices) low (chooses_lowered (types_of after) choices enums after values));
      fills = b.0;
      begins = b.1;
    } in
    let s = laws.some_answers choices low b.0 p.ranked in
    let few : AreFew (types_of low) = subst AreFew (sym t.same) (few_of (types_of program) form.counts) in
    let taken : (g : List ℕ) (n : Node) → node_among (reverse low) g ≡ Some n → DeclsHaveFirsts (types_of low) n.inputs → callees.takes g ≡ timely.kinds_of_decls (types_of low) n.inputs = λ g n e h.
    ap (λ o. kinds_of_decls types k (given_to o)) (nodes-known low g ∙ e) ∙ ap (λ ts. kinds_of_decls (obc_types ts) k n.inputs) (sym same) ∙ kinds_same low (names_of_types low) (many_types program low t) few n.inputs h in
    let turned = compiled_nodes laws.targets laws.calls program after t c m.short fs made in
    let gives = all_give laws.equations choices low p s.0 s.1 callees.takes taken [] low fs (split_first low) p.whole p.differ p.firsts made in
    let in_turns = in_turn types k [] low fs turned.turned in
    record {
      same = same;
      prepared = p;
      answers = s.0;
      answering = s.1;
      taken = taken;
      gives = gives;
      turned = in_turns;
      alike = alike_law laws.one laws.outputs types callees (controls_in after) choices fs in_turns fit one s.0 gives;
    }

module _ (choices : Choices) (after : List Item) (fs : List FlatNode) (one : HasOneMeaningUnder choices (callees_of after) fs) (j : Joined choices after fs one) (f : List ℕ) (n : Node) (e : node_among (reverse after) f ≡ Some n) where
  -- a node takes the kinds of its inputs
  pub takes_its : (callees_of after).takes f ≡ timely.kinds_of_decls (types_of after) n.inputs
  takes_its =
      let low = lowered_program after in
      let m = lowered_node (enumerations [] after) n in
      let p = j.prepared in
      let there = lowered_there after f n e in
      let firsts = (each_found (NodeHasFirsts (types_of low)) (reverse low) f m (each_reverse (NodeHasFirsts (types_of low)) low p.firsts) there).inputs in
      j.taken f m there firsts ∙ ap (λ ts. timely.kinds_of_decls ts n.inputs) j.same

  own_alike : AreMadeOf (known_of (lowered_program after)) (lowered_program after) fs → AnswersAlike one.answers j.answers (callees_of after).takes f
  own_alike made =
      let low = lowered_program after in
      let m = lowered_node (enumerations [] after) n in
      let Same : List ℕ → Type 0 = λ g. AnswersAlike one.answers j.answers (callees_of after).takes g in
      let there = lowered_there after f n e in
      subst Same (name_found (reverse low) f m there) (each_found (λ (m : Node). Same m.name) (reverse low) f m (each_reverse (λ (m : Node). Same m.name) low (of_names Same (known_of low) low fs made j.alike)) there)

  module _ (inputs : List (List Value)) (kinds_fit : AllByRecursion (AreOfKinds (timely.kinds_of_decls (types_of after) n.inputs)) inputs) where
    -- its one reaction, and that of the filled form without automata
    pub filled_one : MeaningLaws → HasValues after → EachNode (ChoosesValues (types_of after) choices) after → FilledForOne choices after f inputs (given_each (j.prepared.fills f) inputs)
    filled_one laws v values =
        let low = lowered_program after in
        let p = j.prepared in
        let begins = p.begins in
        let of_types = all_of (types_of after) n.inputs inputs (subst ConstructorsDiffer j.same p.distinct) kinds_fit in
        filled_for_one after v choices values f n inputs e of_types (one_for_one laws.kept after v.removable v.ranked v.low_ranked v.class v.accepted choices values f n inputs e of_types) (given_each (p.fills f) inputs)
        (given_all (λ i. GivenFits (types_of low) false (λ given. given) (reverse low) f i) (p.fills f) inputs (begins.fit f)) (given_many (p.fills f) inputs)

    -- has the outputs that are answered
    pub outputs_are : AreMadeOf (known_of (lowered_program after)) (lowered_program after) fs → (it : FilledForOne choices after f inputs (given_each (j.prepared.fills f) inputs)) → map (outputs_at after f) it.one.before.past ≡ all_answers (one.answers f) inputs
    outputs_are made it =
        let p = j.prepared in
        sym it.outputs
        ∙ all_answered choices (lowered_program after) p.fills j.answers p.ranked j.answering f inputs it.filled.past it.filled.is_one
        ∙ alike_answers one.answers j.answers (callees_of after).takes f (own_alike made) inputs (subst (λ ks. AllByRecursion (AreOfKinds ks) inputs) (sym takes_its) kinds_fit)

-- ---- ready programs

-- these laws, and those by which a ready program is such a program
pub record ReadyLaws : Type 0 where
  pub classes : ClassesLaw
  pub accepted : AcceptedLaw
  pub all_ranks : AllRanksLaw
  pub ranks : RanksLaw
  pub firsts : ReadyFirstsLaw
  pub meaning : MeaningLaws

pub ready_meaningful : ReadyLaws → (program after : List Item) (ranks : List (List ℕ)) → IsReady program after → IsRemovable after → AllFall after ranks → TypesForm (obc_types_of program) → EachNode NodeShort after → IsMeaningful program after
ready_meaningful laws program after ranks r ok fall form short =
    let c = compilable_law program after r ok form in
    record {
      values = ready_values laws.classes laws.accepted laws.all_ranks laws.ranks laws.firsts program after ranks r ok fall (some_of (types_of program) form.counts);
      types = c.0;
      compilable = c.1;
      short = lowered after ok short;
      differ = controls_differ program after r;
    }

pub stream_law : ReadyLaws → StreamLaw
stream_law laws program after ranks r ok fall form short choices values fit fs made one f n inputs e kinds_fit =
    let m = ready_meaningful laws program after ranks r ok fall form short in
    let j = joined laws.meaning program after m choices values fit fs made one in
    let it = filled_one choices after fs one j f n e inputs kinds_fit laws.meaning m.values values in
    record { one = it.one; outputs = outputs_are choices after fs one j f n e inputs kinds_fit made it }

-- so of the program of a text that the judgements accept
pub text_law : MeaningTextLaw → ReadyLaws → TextLaw
text_law meaning laws text tokens program after ranks a p n t d f i c fall choices values fit fs made =
    let q = when_accepted text tokens program after a p n t d f i c in
    let one = meaning text tokens program after a p n t d f i c choices fit fs made in
    (one, stream_law laws program after ranks q.ready q.removable fall q.form q.short choices values fit fs made one)
