-- The names of the body of a node have their values in the one meaning of its clocked equations.
use Rattle.std.proofs.Common.{◌≡◌, ℕ, Bool, true, false, ◌||◌, List, [], ◌∷◌, ◌++◌, reverse, refl, sym, ap, ap₂, subst, ◌∙◌}
use Rattle.std.specs.Prelude.{Some}
use Rattle.std.specs.List.{AllByRecursion}
use Rattle.std.specs.Str.{bytes_eq}
use Rattle.hp_base.specs.Kinds.{KindData, AreOfKinds}
use Rattle.hp_base.specs.declared.value.Value.{Value}
use Rattle.hp_base.specs.declared.span.Span.{Span}
use Rattle.hp_tree.specs.declared.program.Item.{Item}
use Rattle.hp_tree.specs.declared.program.Item.TheVariants.{TypeItem, NodeItem}
use Rattle.hp_tree.specs.Blocks.{Decl, Block, block}
use Rattle.hp_tree.specs.Programs.{Node}
use Rattle.hp_tree.specs.Operators.{filled}
use Rattle.hp_tree.specs.Values.{AreOf}
use Rattle.hp_tree.specs.Instant.{Named, Body, Instant, Past}
use Rattle.hp_tree.specs.Meaning.{types_of, declares, node_among}
use Rattle.hp_tree.specs.Reaction.{Each}
use Rattle.hp_meaning.specs.Causal.OneReaction.{ReactionOf}
use Rattle.law_judged.specs.Named.Scoped.{EachNode}
use Rattle.law_values.specs.Filled.Under.{PastsUnder}
use Rattle.hp_automata.specs.Lowering as lowering
use Rattle.hp_automata.specs.Lowering.{Types, Enumerations, enumerations, lowered_body_of, lowered_node, lowered_program}
use Rattle.hp_automata.specs.Renaming.{renamed_decls}
use Rattle.law_automata.specs.Lowered.Standing.{Along, NodeStands, either_is, stands_among, Stands}
use Rattle.law_automata.proofs.LowerableLemmas.Runs.{lowered_there}
use Rattle.law_automata.specs.Readied.Laws.{IsWhole}
use Rattle.hp_flat.specs.Nodes.{FlatNode}
use Rattle.law_equations.specs.Meaning.Instants as flows
use Rattle.law_equations.specs.Meaning.Reactions.{Answers}
use Rattle.law_equations.specs.Made.Types.{obc_types}
use Rattle.hp_complete.specs.Declaring.{known_of}
use Rattle.hp_complete.specs.Made.{IsMadeOf, AreMadeOf}
use Rattle.law_equations.specs.Answered.Answering.{given_each, AreApart}
use Rattle.law_wellmade.specs.Timely.Kinds.{kinds_of_decls}
use Rattle.law_choices.proofs.ClosedLemmas.ClosedLaws.{each_both}
use Rattle.law_history.proofs.StreamsLemmas.Asked.{Splits, split_next, split_first}
use Rattle.law_history.proofs.StreamsLemmas.NamesApart.{name_found, own_found}
use Rattle.law_choices.specs.OnClocks.WellMade.{callees_of}
use Rattle.law_choices.proofs.OnClocksLemmas.Texts.{when_accepted}
use Rattle.law_choices.specs.Choosing.Choices.{Choices, ReactionUnder}
use Rattle.law_choices.specs.Choosing.Meaning.{HasOneMeaningUnder}
use Rattle.law_choices.specs.Choosing.Programs.{controls_in, TextLaw as MeaningTextLaw}
use Rattle.law_choices.specs.Runs.Chosen.{chosen_meaning}
use Rattle.law_choices.specs.Runs.Laws.{ChoosesValues}
use Rattle.law_choices.specs.Flat.Answering.{AnsweringUnder, ControlsDiffer}
use Rattle.law_equations.specs.Made.Blocks.{locals_of}
use Rattle.law_choices.specs.Flat.Names.{is_body_name, values_of, ReadsNames, NamesLaw as NodeNamesLaw}
use Rattle.law_choices.specs.Streams.Meaningful.{IsMeaningful}
use Rattle.law_choices.specs.Streams.Names.{AreUnder, IsOnlyReaction, KeepsNamesOf, NamesLaw, TextNamesLaw}
use Rattle.law_choices.proofs.StreamsLemmas.Alike.{only_law}
use Rattle.law_choices.proofs.StreamsLemmas.Streams.{Prepared, one_made, all_of, MeaningLaws, ReadyLaws, Joined, joined, ready_meaningful, takes_its, filled_one, outputs_are}

-- ---- the names of a body, with and without automata

declares_renamed : (to : List ℕ → List ℕ) (ds : List Decl) (x : List ℕ) → declares (renamed_decls to ds) x ≡ declares ds x
declares_renamed to [] x = refl
declares_renamed to (d ∷ ds) x = ap (λ b. bytes_eq d.name x || b) (declares_renamed to ds x)

locals_kept : (enums : Enumerations) (types : Types) (s : Span) (b : Block) (x : List ℕ) → declares (locals_of (lowered_body_of enums types s b)) x ≡ declares (locals_of b) x
locals_kept enums types s (block ds es) x = declares_renamed lowering.same_name ds x

names_kept : (enums : Enumerations) (n : Node) (x : List ℕ) → is_body_name (lowered_node enums n) x ≡ is_body_name n x
names_kept enums n x = ap (λ b. declares n.outputs x || b) (locals_kept enums (lowering.types_of n) n.span n.body x)

-- ---- their values

-- without automata they are the same
names_stand : (items : List Item) (f : List ℕ) (i j : Instant) → stands_among items f i j → (x : List ℕ) → i (Body ∷ Named x ∷ []) ≡ j (Body ∷ Named x ∷ [])
names_stand [] f i j h x = h (Body ∷ Named x ∷ [])
names_stand (TypeItem t ∷ items) f i j h x = names_stand items f i j h x
names_stand (NodeItem n ∷ items) f i j h x = by (bytes_eq n.name f) h (λ k. names_stand items f i j k x)
  where
    by : (d : Bool) → either_is d (NodeStands (stands_among items) n i j) (stands_among items f i j) → (stands_among items f i j → i (Body ∷ Named x ∷ []) ≡ j (Body ∷ Named x ∷ [])) → i (Body ∷ Named x ∷ []) ≡ j (Body ∷ Named x ∷ [])
    by true k rest = k.names x
    by false k rest = rest k

values_stand : (program : List Item) (f x : List ℕ) (past other : Past) → Along (Stands program f) past other → values_of x past ≡ values_of x other
values_stand program f x [] [] a = refl
values_stand program f x [] (j ∷ other) a = absurd a
values_stand program f x (i ∷ past) [] a = absurd a
values_stand program f x (i ∷ past) (j ∷ other) a = ap₂ (λ (v : Value) vs. v ∷ vs) (names_stand (reverse program) f i j a.0 x) (values_stand program f x past other a.1)

-- in the filled form they are the same where they are not Nil
values_under : (x : List ℕ) (past other : Past) → PastsUnder past other → AreUnder (values_of x past) (values_of x other)
values_under x [] [] u = tt
values_under x [] (j ∷ other) u = absurd u
values_under x (i ∷ past) [] u = absurd u
values_under x (i ∷ past) (j ∷ other) u = (u.0 (Body ∷ Named x ∷ []), values_under x past other u.1)

-- ---- the nodes of a program without automata

pub some_same : {A : Type 0} (a b : A) → Some a ≡ Some b → a ≡ b
some_same a b e = cc

module _ (choices : Choices) (program : List Item) (p : Prepared choices program) (answers : Answers) where
  -- the clocked equations of a node read its reactions
  abbrev pub ReadsOf : FlatNode → Node → Type 0
  ReadsOf g n =
      (inputs : List (List Value)) (past : Past) → Each (AreOf (types_of program) n.inputs) inputs → ReactionOf (chosen_meaning choices filled program n.name) inputs (given_each (p.fills n.name) inputs) past
      → ReadsNames choices answers (known_of program) n g inputs past

  abbrev pub Reads : FlatNode → Type 0
  Reads g = (n : Node) × (node_among (reverse program) g.name ≡ Some n) × ReadsOf g n

  module _ (names : NodeNamesLaw) (answering : AnsweringUnder choices program p.fills answers) where
    one_reads : (later earlier : List Item) (n : Node) → reverse program ≡ later ++ NodeItem n ∷ earlier → IsWhole n → ControlsDiffer n → (g : FlatNode) → IsMadeOf (known_of program) n g → Reads g
    one_reads later earlier n stands whole differ g made =
        let begins = p.begins in
        let own : node_among (reverse program) n.name ≡ Some n = subst (λ xs. node_among xs n.name ≡ Some n) (sym stands) (own_found later earlier n (subst AreApart stands p.apart)) in (
          n,
          subst (λ x. node_among (reverse program) x ≡ Some n) (sym made.name) own,
          names choices program p.class p.fills (known_of program) p.accepted p.ranked p.apart begins.fit p.distinct p.tested p.knows p.chooses answers answering later earlier n g (one_made choices program p later earlier n stands whole g made) made.name differ,
        )

    pub all_read : (before rest : List Item) (fs : List FlatNode) → Splits (reverse program) before rest → EachNode IsWhole rest → EachNode ControlsDiffer rest → AreMadeOf (known_of program) rest fs → AllByRecursion Reads fs
    all_read before [] [] e w d made = tt
    all_read before [] (g ∷ fs) e w d made = absurd made
    all_read before (TypeItem t ∷ rest) fs e w d made = all_read (TypeItem t ∷ before) rest fs (split_next (reverse program) before rest (TypeItem t) e) w d made
    all_read before (NodeItem n ∷ rest) [] e w d made = absurd made
    all_read before (NodeItem n ∷ rest) (g ∷ fs) e w d made =
        let next = split_next (reverse program) before rest (NodeItem n) e in
        (one_reads (reverse rest) before n next w.0 d.0 g made.0, all_read (NodeItem n ∷ before) rest fs next w.1 d.1 made.1)

-- ---- joined

module _ (laws : MeaningLaws) (program after : List Item) (m : IsMeaningful program after) (choices : Choices)
    (values : EachNode (ChoosesValues (types_of after) choices) after) (fs : List FlatNode) (made : AreMadeOf (known_of (lowered_program after)) (lowered_program after) fs) (one : HasOneMeaningUnder choices (callees_of after) fs) (j : Joined choices after fs one) where
  -- reactions of clocked equations are those of the one meaning
  abbrev pub OnlyOf : FlatNode → Type 0
  OnlyOf g =
      (inputs : List (List Value)) → AllByRecursion (AreOfKinds ((callees_of after).takes g.name)) inputs → (instants : List flows.Instant) → ReactionUnder choices j.answers g inputs instants → IsOnlyReaction choices one.answers g inputs instants

  pub keeps_names : (g : FlatNode) → Reads choices (lowered_program after) j.prepared j.answers g → OnlyOf g → KeepsNamesOf choices after one.answers g
  keeps_names g read only n inputs e kinds_fit =
      let enums = enumerations [] after in
      let low = lowered_program after in
      let low_node = lowered_node enums n in
      let p = j.prepared in
      let there = lowered_there after g.name n e in
      let it = filled_one choices after fs one j g.name n e inputs kinds_fit laws m.values values in
      let name : low_node.name ≡ g.name = name_found (reverse low) g.name low_node there in
      let same_node : read.0 ≡ low_node = some_same read.0 low_node (sym read.1 ∙ there) in
      let reads = subst (λ (z : Node). ReadsOf choices low p j.answers g z) same_node read.2 in
      let of_types : Each (AreOf (types_of low) n.inputs) inputs = all_of (types_of low) n.inputs inputs p.distinct (subst (λ ts. AllByRecursion (AreOfKinds (kinds_of_decls ts n.inputs)) inputs) (sym j.same) kinds_fit) in
      let reaction = subst (λ (x : List ℕ). ReactionOf (chosen_meaning choices filled low x) inputs (given_each (p.fills x) inputs) it.filled.past) (sym name) it.filled.is_one in
      let its = reads inputs it.filled.past of_types reaction in
      let taken = subst (λ (ks : List KindData). AllByRecursion (AreOfKinds ks) inputs) (sym (takes_its choices after fs one j g.name n e)) kinds_fit in
      record {
        answered = record { one = it.one; outputs = outputs_are choices after fs one j g.name n e inputs kinds_fit made it };
        instants = its.instants;
        is_only = only inputs taken its.instants its.reaction;
        names = λ x h.
            let v = its.names x (names_kept enums n x ∙ h) in
            let behind : values_of x it.one.before.past ≡ values_of x it.one.behind.past = values_stand after g.name x it.one.before.past it.one.behind.past it.one.stands in
            record {
              variable = v.variable;
              is_its = v.is_its;
              under =
                  subst (λ (ws : List Value). AreUnder (values_of x it.one.before.past) ws) (sym v.values)
                  (subst (λ (vs : List Value). AreUnder vs (values_of x it.filled.past)) (sym behind) (values_under x it.one.behind.past it.filled.past it.under));
            };
      }

pub names_law : NodeNamesLaw → ReadyLaws → NamesLaw
names_law names ready program after ranks r ok fall form short choices values fit fs made one =
    let laws = ready.meaning in
    let low = lowered_program after in
    let m = ready_meaningful ready program after ranks r ok fall form short in
    let j = joined laws program after m choices values fit fs made one in
    let p = j.prepared in
    let read = all_read choices low p j.answers names j.answering [] low fs (split_first low) p.whole p.differ made in
    let only = only_law laws.one laws.outputs (obc_types (types_of after)) (callees_of after) (controls_in after) choices fs j.turned fit one j.answers j.gives in
    each_both (Reads choices low p j.answers) (OnlyOf laws program after m choices values fs made one j) (KeepsNamesOf choices after one.answers) (keeps_names laws program after m choices values fs made one j) fs read only

-- so of the program of a text that the judgements accept
pub text_names_law : MeaningTextLaw → NodeNamesLaw → ReadyLaws → TextNamesLaw
text_names_law meaning names laws text tokens program after ranks a p n t d f i c fall choices values fit fs made =
    let q = when_accepted text tokens program after a p n t d f i c in
    let one = meaning text tokens program after a p n t d f i c choices fit fs made in
    (one, names_law names laws program after ranks q.ready q.removable fall q.form q.short choices values fit fs made one)
