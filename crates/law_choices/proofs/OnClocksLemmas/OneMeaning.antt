-- The nodes that are made of a ready program without its automata have one meaning.
use Rattle.std.proofs.Common.{◌≡◌, ℕ, List, [], ◌∷◌, ◌++◌, map, reverse, Option, None, Some, refl, sym, ap, subst, ◌∙◌}
use Rattle.std.specs.Prelude.{⊤, false, option_map}
use Rattle.std.specs.List.{AllByRecursion}
use Rattle.std.proofs.lemmas.List.{append-nil}
use Rattle.hp_obc.specs.Form.{TypesForm, has_name}
use Rattle.hp_obc.specs.Machines.{ObcType}
use Rattle.hp_tree.specs.declared.program.Item.{Item}
use Rattle.hp_tree.specs.declared.program.Item.TheVariants.{TypeItem, NodeItem}
use Rattle.hp_tree.specs.Programs.{TypeDecl, Contract, Node}
use Rattle.hp_tree.specs.Meaning.{types_of, controls_of}
use Rattle.hp_meaning.specs.Causal.Runs.{NoControls}
use Rattle.law_judged.specs.Named.Scoped.{EachNode}
use Rattle.law_values.specs.Accepted.Laws.{IsReady}
use Rattle.hp_automata.specs.Lowering as lowering
use Rattle.hp_automata.specs.Lowering.{Types, Enumerations, enumerations, lowered_contract, lowered_item, lowered_program}
use Rattle.law_automata.specs.Lowered.Removable.{IsRemovable}
use Rattle.law_automata.proofs.LowerableLemmas.Texts.{each_reverse}
use Rattle.hp_flat.specs.Equations.{FlatEqn}
use Rattle.hp_flat.specs.Nodes.{FlatNode}
use Rattle.law_equations.specs.Flattened.Lifted.{in_body}
use Rattle.law_equations.specs.Meaning.Kinding.{IsWellMade, OneReactionLaw, OutputsOfKindsLaw}
use Rattle.law_equations.specs.Followed.Programs.{CallsOnly}
use Rattle.law_equations.specs.Fitting.Fitting.{CallsLaw, TargetsLaw}
use Rattle.law_equations.specs.Made.Laws.{unplaced}
use Rattle.law_equations.specs.Made.Making.{Known, outputs_of, sketch_node}
use Rattle.law_equations.specs.Made.Types.{obc_types, obc_types_of}
use Rattle.law_wellmade.specs.Spelled.Integers.{NodeShort}
use Rattle.law_automata.specs.Readied.Sound.{SoundBehind}
use Rattle.hp_complete.specs.Declaring.{known_of}
use Rattle.hp_complete.specs.Made.{AreMadeOf}
use Rattle.hp_complete.proofs.KnownLaws.{nodes-known}
use Rattle.law_wellmade.specs.Regular.Kinds.{kinds_of_decls}
use Rattle.law_history.proofs.StreamsLemmas.Asked.{names_behind, calls_named, Splits, split_next, split_first}
use Rattle.law_history.proofs.StreamsLemmas.NamesApart.{each_found}
use Rattle.law_history.proofs.StreamsLemmas.Shapes.{Fresh, all_fresh}
use Rattle.law_history.proofs.StreamsLemmas.Texts.{none_controlled}
use Rattle.law_choices.specs.OnClocks.Meaning.{AreInTurn, HasSome}
use Rattle.law_choices.specs.OnClocks.Programs.{ReadyLaw, TextMeaningLaw}
use Rattle.law_choices.specs.OnClocks.WellMade.{given_to, calls_of, callees_of, CalleesLaw}
use Rattle.law_wellmade.proofs.BegunLemmas.Items.{types_low}
use Rattle.law_wellmade.proofs.RegularLemmas.RegularLaws.{lowered}
use Rattle.law_choices.specs.Closed.Compilable.{HasTypesOf, IsCompilable}
use Rattle.law_choices.proofs.OnClocksLemmas.Programs.{Clocked, compiled_clocked, compilable_law}
use Rattle.law_choices.proofs.OnClocksLemmas.CallKinds.{uncontrolled_callees}
use Rattle.law_choices.proofs.OnClocksLemmas.Headed.{KindsSigned}
use Rattle.law_choices.proofs.OnClocksLemmas.WellMade.{compiled_made}
use Rattle.law_choices.proofs.OnClocksLemmas.Texts.{when_accepted}
use Rattle.law_choices.proofs.OnClocksLemmas.Meanings.{kinds_some, meaning_law}

-- ---- what nodes give has values

module _ (types : List ObcType) (k : Known) where
  abbrev GivesSome : Node → Type 0
  GivesSome n = AllByRecursion HasSome (kinds_of_decls types k n.outputs)

  each_gives : (items : List Item) (fs : List FlatNode) → AreMadeOf k items fs → EachNode (Clocked types k) items → AllByRecursion (IsWellMade types (calls_of types k)) fs → EachNode GivesSome items
  each_gives [] fs made h w = tt
  each_gives (TypeItem t ∷ items) fs made h w = each_gives items fs made h w
  each_gives (NodeItem n ∷ items) [] made h w = absurd made
  each_gives (NodeItem n ∷ items) (f ∷ fs) made h w =
      (subst (AllByRecursion HasSome) (sym (h.0 f made.0).1.gives) (kinds_some types f f.outputs w.0.values), each_gives items fs made.1 h.1 w.1)

gives_some : (types : List ObcType) (program : List Item) → EachNode (GivesSome types (known_of program)) program → (g : List ℕ) → AllByRecursion HasSome ((calls_of types (known_of program)).gives g)
gives_some types program h g = by ((known_of program).nodes g) refl
  where
    by : (o : Option Node) → (known_of program).nodes g ≡ o → AllByRecursion HasSome (kinds_of_decls types (known_of program) (outputs_of o))
    by None e = tt
    by (Some n) e = each_found (GivesSome types (known_of program)) (reverse program) g n (each_reverse (GivesSome types (known_of program)) program h) (sym (nodes-known program g) ∙ e)

-- ---- nodes without controllable variables

abbrev Uncontrolled : Node → Type 0
Uncontrolled n = controls_of n.contract ≡ []

inputs_alone : (n : Node) → Uncontrolled n → n.inputs ≡ n.inputs ++ controls_of n.contract
inputs_alone n e = sym (ap (λ ds. n.inputs ++ ds) e ∙ append-nil n.inputs)

module _ (enums : Enumerations) where
  controls_low : (tys : Types) (o : Option Contract) → controls_of (option_map (lowered_contract enums tys) o) ≡ controls_of o
  controls_low tys None = refl
  controls_low tys (Some c) = refl

  none_low : (items : List Item) → NoControls items → EachNode Uncontrolled (map (lowered_item enums) items)
  none_low [] h = tt
  none_low (TypeItem t ∷ items) h = none_low items h
  none_low (NodeItem n ∷ items) h = (controls_low (lowering.types_of n) n.contract ∙ h.0, none_low items h.1)

pub callees_law : CalleesLaw
callees_law after none =
    let low = lowered_program after in
    uncontrolled_callees (obc_types (types_of after)) (known_of low)
    (λ f n e. each_found Uncontrolled (reverse low) f n (each_reverse Uncontrolled low (none_low (enumerations [] after) after none)) (sym (nodes-known low f) ∙ e))

-- ---- nodes in turn

-- What is known of a node and what is made of it, behind nodes of some names.
pub record IsTurned (types : List ObcType) (k : Known) (names : List (List ℕ)) (n : Node) (f : FlatNode) : Type 0 where
  pub well : IsWellMade types (calls_of types k) f
  pub signed : KindsSigned types k n f
  pub own : k.nodes f.name ≡ Some n
  pub new : has_name names f.name ≡ false
  pub calls : CallsOnly names f.eqns

abbrev pub AreTurned : List ObcType → Known → List (List ℕ) → List Item → List FlatNode → Type 0
AreTurned types k names [] [] = ⊤
AreTurned types k names [] (f ∷ fs) = ⊥
AreTurned types k names (TypeItem t ∷ items) fs = AreTurned types k names items fs
AreTurned types k names (NodeItem n ∷ items) [] = ⊥
AreTurned types k names (NodeItem n ∷ items) (f ∷ fs) = IsTurned types k names n f × AreTurned types k (f.name ∷ names) items fs

module _ (calls_law : CallsLaw) (types : List ObcType) (decls : List TypeDecl) (program : List Item) (sound : SoundBehind decls (reverse program)) where
  abbrev k : Known
  k = known_of program

  calls_up : (names : List (List ℕ)) (es : List FlatEqn) → CallsOnly names es → CallsOnly names (map unplaced es)
  calls_up names [] h = tt
  calls_up names (e ∷ es) h = (h.0, calls_up names es h.1)

  calls_down : (names : List (List ℕ)) (es : List FlatEqn) → CallsOnly names (map unplaced es) → CallsOnly names es
  calls_down names [] h = tt
  calls_down names (e ∷ es) h = (h.0, calls_down names es h.1)

  turned : (before rest : List Item) → Splits (reverse program) before rest → (fs : List FlatNode) → AreMadeOf k rest fs → Fresh k (names_behind before) rest → EachNode (Clocked types k) rest → AllByRecursion (IsWellMade types (calls_of types k)) fs
      → AreTurned types k (names_behind before) rest fs
  turned before [] e [] made fresh h w = tt
  turned before [] e (f ∷ fs) made fresh h w = absurd made
  turned before (TypeItem t ∷ rest) e fs made fresh h w = turned (TypeItem t ∷ before) rest (split_next (reverse program) before rest (TypeItem t) e) fs made fresh h w
  turned before (NodeItem n ∷ rest) e [] made fresh h w = absurd made
  turned before (NodeItem n ∷ rest) e (f ∷ fs) made fresh h w =
      let next = split_next (reverse program) before rest (NodeItem n) e in
      let m = made.0 in
      let calls = calls_law k (names_behind before) n in_body (calls_named decls (reverse program) sound (reverse rest) before n next) in (
        record {
          well = w.0;
          signed = (h.0 f m).1;
          own = ap k.nodes m.name ∙ fresh.1;
          new = ap (has_name (names_behind before)) m.name ∙ fresh.0;
          calls = calls_down (names_behind before) f.eqns (subst (λ es. CallsOnly (names_behind before) es) (sym m.eqns) (calls_up (names_behind before) (sketch_node k n).eqns calls));
        },
        subst (λ x. AreTurned types k (x ∷ names_behind before) rest fs) (sym m.name) (turned (NodeItem n ∷ before) rest next fs made.1 fresh.2 h.1 w.1),
      )

-- so they are in turn where none has a controllable variable
in_turn : (types : List ObcType) (k : Known) (names : List (List ℕ)) (items : List Item) (fs : List FlatNode) → AreTurned types k names items fs → EachNode Uncontrolled items → AreInTurn types (calls_of types k) names fs
in_turn types k names [] [] t none = tt
in_turn types k names [] (f ∷ fs) t none = absurd t
in_turn types k names (TypeItem d ∷ items) fs t none = in_turn types k names items fs t none
in_turn types k names (NodeItem n ∷ items) [] t none = absurd t
in_turn types k names (NodeItem n ∷ items) (f ∷ fs) t none =
    let one = t.0 in
    let signed = one.signed in (
      one.well,
      record {
        takes = ap (λ o. kinds_of_decls types k (given_to o)) one.own ∙ ap (kinds_of_decls types k) (inputs_alone n none.0) ∙ signed.takes;
        gives = ap (λ o. kinds_of_decls types k (outputs_of o)) one.own ∙ signed.gives;
      },
      one.new,
      one.calls,
      in_turn types k (f.name ∷ names) items fs t.1 none.1,
    )

-- ---- the nodes of a ready program

-- They stand in turn, and what they give has values.
pub record AreReady (after : List Item) (fs : List FlatNode) : Type 0 where
  pub turned : AreTurned (obc_types (types_of after)) (known_of (lowered_program after)) [] (lowered_program after) fs
  pub some : (g : List ℕ) → AllByRecursion HasSome ((callees_of after).gives g)

pub compiled_nodes : TargetsLaw → CallsLaw → (program after : List Item) → HasTypesOf program (lowered_program after) → IsCompilable (lowered_program after) → EachNode NodeShort (lowered_program after) → (fs : List FlatNode) → AreMadeOf (known_of (lowered_program after)) (lowered_program after) fs
    → AreReady after fs
compiled_nodes targets calls_law program after t c short fs made =
    let low = lowered_program after in
    let types = obc_types (types_of after) in
    let same : types_of low ≡ types_of after = types_low (enumerations [] after) after in
    let clocked = subst (λ ts. EachNode (Clocked (obc_types ts) (known_of low)) low) same (compiled_clocked program low t c) in
    let well = subst (λ ts. AllByRecursion (IsWellMade (obc_types ts) (calls_of (obc_types ts) (known_of low))) fs) same (compiled_made targets program low t c short fs made) in
    record {
      turned = turned calls_law types (types_of low) low c.sound [] low (split_first low) fs made (all_fresh low c.apart) clocked well;
      some = gives_some types low (each_gives types (known_of low) low fs made clocked well);
    }

pub ready_nodes : TargetsLaw → CallsLaw → (program after : List Item) → IsReady program after → IsRemovable after → TypesForm (obc_types_of program) → EachNode NodeShort after → (fs : List FlatNode) → AreMadeOf (known_of (lowered_program after)) (lowered_program after) fs
    → AreReady after fs
ready_nodes targets calls_law program after r ok form short fs made =
    let c = compilable_law program after r ok form in
    compiled_nodes targets calls_law program after c.0 c.1 (lowered after ok short) fs made

module _ (targets : TargetsLaw) (calls_law : CallsLaw) (one : OneReactionLaw) (outputs_law : OutputsOfKindsLaw) where
  pub ready_law : ReadyLaw
  ready_law program after r ok form short none fs made =
      let low = lowered_program after in
      let types = obc_types (types_of after) in
      let nodes = ready_nodes targets calls_law program after r ok form short fs made in
      meaning_law one outputs_law types (callees_of after) fs (in_turn types (known_of low) [] low fs nodes.turned (none_low (enumerations [] after) after none)) nodes.some

  pub text_meaning_law : TextMeaningLaw
  text_meaning_law text tokens program after a p n t d f i c none fs made =
      let q = when_accepted text tokens program after a p n t d f i c in
      ready_law program after q.ready q.removable q.form q.short (none_controlled program after c none) fs made
