-- The observers of the contracts of a program suit its nodes, and call nothing.
use Rattle.std.proofs.Common.{◌≡◌, ℕ, ◌+◌, List, [], ◌∷◌, ◌++◌, map, Option, None, Some, refl, sym, ap, ap₂, subst, ◌∙◌}
use Rattle.std.specs.Prelude.{false}
use Rattle.std.specs.List.{AllByRecursion, flat_map}
use Rattle.std.proofs.lemmas.List.{append-nil, map-append}
use Rattle.hp_base.specs.Kinds.{KindData}
use Rattle.hp_obc.specs.Machines.{ObcType}
use Rattle.hp_tree.specs.Blocks.{Decl}
use Rattle.hp_tree.specs.declared.program.Item.{Item}
use Rattle.hp_tree.specs.declared.program.Item.TheVariants.{TypeItem, NodeItem}
use Rattle.hp_tree.specs.Meaning.{types_of}
use Rattle.hp_tree.specs.Programs.{TypeDecl, Contract, Node}
use Rattle.law_judged.specs.Named.Scoped.{EachNode}
use Rattle.hp_expand.specs.Numbering.{replaced}
use Rattle.hp_automata.specs.Lowering.{Enumerations, enumerations, lowered_item, lowered_node, lowered_program}
use Rattle.hp_automata.specs.NewNames.{is_new}
use Rattle.law_automata.proofs.LowerableLemmas.Texts.{clocked_of}
use Rattle.hp_flat.specs.Equations.{Right, operator, register, called, FlatEqn}
use Rattle.hp_flat.specs.Nodes.{FlatNode}
use Rattle.law_equations.specs.Fitting.Fitting.{CallsLaw}
use Rattle.law_equations.specs.Flattened.Lifted.{in_body}
use Rattle.law_equations.specs.Followed.Programs.{CallsAmong, CallsOnly}
use Rattle.law_equations.specs.Made.Laws.{unplaced}
use Rattle.law_equations.specs.Made.Making.{Known, flat_type, outputs_of, sketch_node}
use Rattle.hp_obc.specs.Form.{TypesForm}
use Rattle.law_values.specs.Accepted.Laws.{IsReady}
use Rattle.law_equations.specs.Made.Types.{obc_types, obc_types_of}
use Rattle.law_equations.specs.Meaning.Kinding.{Callees, kind_of_type, kinds_at}
use Rattle.law_equations.specs.Meaning.Reactions.{inputs_of}
use Rattle.hp_complete.specs.Declaring.{known_of}
use Rattle.hp_complete.specs.Made.{IsMadeOf, AreMadeOf}
use Rattle.hp_complete.specs.Signatures.{numbered, type_names}
use Rattle.law_wellmade.specs.Regular.Kinds.{kinds_of_decls}
use Rattle.law_wellmade.proofs.BegunLemmas.NamesApart.{lowered_apart}
use Rattle.law_history.proofs.StreamsLemmas.Shapes.{Fresh, all_fresh}
use Rattle.hp_watch.specs.Observing.{inputs_for, observer_of, observer_if, observers}
use Rattle.law_choices.specs.Closed.Compilable.{HasTypesOf}
use Rattle.law_choices.specs.OnClocks.WellMade.{given_to, calls_of, callees_of}
use Rattle.law_wellmade.proofs.BegunLemmas.Items.{types_low, names_of_types}
use Rattle.law_choices.proofs.OnClocksLemmas.Programs.{Clocked, compiled_clocked}
use Rattle.law_choices.specs.Adding.Called.{SaysSame, CalledLaw}
use Rattle.law_choices.specs.Adding.Made.{IsReadyMade, CompiledMadeLaw}
use Rattle.law_choices.specs.InTurn.Laws.{said_of}
use Rattle.law_choices.specs.InTurn.Nodes.{besides}
use Rattle.law_choices.specs.InTurn.Observed.{CanBeObserved, with_contract, contracted_nodes, EachObserved, CallsNone, ObservedLaw}
use Rattle.law_choices.specs.InTurn.Observers.{IsObserver}
use Rattle.law_choices.proofs.InTurnLemmas.Programs.{besides_new}
use Rattle.law_choices.proofs.InTurnLemmas.Said.{SaySame, said_old}
use Rattle.law_choices.proofs.InTurnLemmas.Types.{types_same}

-- ---- types

types_if : (n : Node) (o : Option Contract) (items : List Item) → types_of (observer_if n o ++ items) ≡ types_of items
types_if n None items = refl
types_if n (Some c) items = refl

pub types_observed : (items : List Item) → types_of (observers items) ≡ types_of items
types_observed [] = refl
types_observed (TypeItem t ∷ items) = ap (λ ts. t ∷ ts) (types_observed items)
types_observed (NodeItem n ∷ items) = types_if n n.contract (observers items) ∙ types_observed items

pub types_watched : (after : List Item) → types_of (lowered_program (observers after)) ≡ types_of after
types_watched after = types_low (enumerations [] (observers after)) (observers after) ∙ types_observed after

-- ---- kinds

module _ (types : List ObcType) (k : Known) where
  kinds_for : (i : ℕ) (ds : List Decl) → kinds_of_decls types k (inputs_for i ds) ≡ kinds_of_decls types k ds
  kinds_for i [] = refl
  kinds_for i (d ∷ ds) = ap (λ ks. kind_of_type types (flat_type k.types d.ty) ∷ ks) (kinds_for (i + 1) ds)

-- ---- calls

module _ (calls_law : CallsLaw) (k : Known) (n : Node) (f : FlatNode) (made : IsMadeOf k n f) where
  calls_up : (es : List FlatEqn) → CallsOnly [] es → CallsOnly [] (map unplaced es)
  calls_up [] h = tt
  calls_up (e ∷ es) h = (h.0, calls_up es h.1)

  calls_down : (es : List FlatEqn) → CallsOnly [] (map unplaced es) → CallsOnly [] es
  calls_down [] h = tt
  calls_down (e ∷ es) h = (h.0, calls_down es h.1)

  calls_nothing : CallsNone n → CallsOnly [] f.eqns
  calls_nothing h = calls_down f.eqns (subst (CallsOnly []) (sym made.eqns) (calls_up (sketch_node k n).eqns (calls_law k [] n in_body h)))

-- ---- one observer

-- what is said of a node is what its declarations are
abbrev Says : List ObcType → Known → Callees → Node → Type 0
Says types own all n = (all.takes n.name ≡ kinds_of_decls types own n.inputs) × (all.gives n.name ≡ kinds_of_decls types own n.outputs)

module _ (called_law : CalledLaw) (calls_law : CallsLaw) (types : List ObcType) (own seen : Known) (same_types : seen.types ≡ own.types) (enums : Enumerations) (all : Callees) where
  says_same : (callees : Callees) (es : List FlatEqn) → CallsOnly [] es → AllByRecursion (λ (e : FlatEqn). SaysSame callees all e.right) es
  says_same callees [] h = tt
  says_same callees (e ∷ es) h = (by e.right h.0, says_same callees es h.1)
    where
      by : (right : Right) → CallsAmong [] right → SaysSame callees all right
      by (operator op args) c = tt
      by (register first next) c = tt
      by (called g args) c = absurd cc

  abbrev Observes : Node → FlatNode → Type 0
  Observes n f = IsObserver types all n.name f × CallsOnly [] f.eqns

  one_observes : (n : Node) (c : Contract) (f : FlatNode) → Says types own all n → IsMadeOf seen (lowered_node enums (observer_of n c)) f → Clocked types seen (lowered_node enums (observer_of n c)) → CallsNone (lowered_node enums (observer_of n c)) → IsReadyMade types (calls_of types seen) f → Observes n f
  one_observes n c f says made clocked alone ready =
      let nothing = calls_nothing calls_law seen (lowered_node enums (observer_of n c)) f made alone in
      let signed = (clocked f made).1 in
      let kind = λ (d : Decl). kind_of_type types (flat_type own.types d.ty) in
      let ins = n.inputs ++ inputs_for 0 n.outputs in
      let takes : kinds_of_decls types seen (ins ++ []) ≡ kinds_at types f (inputs_of f) = signed.takes in
      let split : kinds_of_decls types own ins ≡ kinds_of_decls types own n.inputs ++ kinds_of_decls types own n.outputs =
      map-append kind n.inputs (inputs_for 0 n.outputs) ∙ ap (λ ks. kinds_of_decls types own n.inputs ++ ks) (kinds_for types own 0 n.outputs) in
      let whole : kinds_of_decls types seen (ins ++ []) ≡ kinds_of_decls types own ins =
      ap (λ ds. kinds_of_decls types seen ds) (append-nil ins) ∙ ap (λ (ts : List ℕ → Option ℕ). map (λ (d : Decl). kind_of_type types (flat_type ts d.ty)) ins) same_types in (
        record {
          ready = record { clock = ready.clock; based = called_law types (calls_of types seen) all ready.clock f (says_same (calls_of types seen) f.eqns nothing) ready.based; own = ready.own };
          takes = sym takes ∙ whole ∙ split ∙ ap₂ (λ (xs ys : List KindData). xs ++ ys) (sym says.0) (sym says.1);
        },
        nothing,
      )

  -- ---- all of them

  abbrev low : List Item → List Item
  low items = map (lowered_item enums) items

  abbrev Goes : List Item → List (Node × Contract) → Type 0
  Goes items xs = (fs : List FlatNode) → AreMadeOf seen (low items) fs → EachNode (Clocked types seen) (low items) → EachNode CallsNone (low items) → AllByRecursion (IsReadyMade types (calls_of types seen)) fs → EachObserved Observes xs fs

  all_observe : (items : List Item) → EachNode (Says types own all) items → Goes (observers items) (contracted_nodes items)
  all_observe [] says [] made clocked alone ready = tt
  all_observe [] says (f ∷ fs) made clocked alone ready = absurd made
  all_observe (TypeItem t ∷ items) says fs made clocked alone ready = all_observe items says fs made clocked alone ready
  all_observe (NodeItem n ∷ items) says fs made clocked alone ready = by n.contract (all_observe items says.1) fs made clocked alone ready
    where
      by : (o : Option Contract) → Goes (observers items) (contracted_nodes items) → Goes (observer_if n o ++ observers items) (with_contract n o ++ contracted_nodes items)
      by None rest fs made clocked alone ready = rest fs made clocked alone ready
      by (Some c) rest [] made clocked alone ready = absurd made
      by (Some c) rest (f ∷ fs) made clocked alone ready = (one_observes n c f says.0 made.0 clocked.0 alone.0 ready.0, rest fs made.1 clocked.1 alone.1 ready.1)

-- ---- the law

-- what is said of the nodes of a program
each_says : (types : List ObcType) (own : Known) (enums : Enumerations) (all : Callees) → ((f : List ℕ) → is_new f ≡ false → SaySame (calls_of types own) all f) → (names : List (List ℕ)) (items : List Item) → Fresh own names (map (lowered_item enums) items)
    → EachNode (λ (n : Node). is_new n.name ≡ false) items → EachNode (Says types own all) items
each_says types own enums all old names [] fresh signs = tt
each_says types own enums all old names (TypeItem t ∷ items) fresh signs = each_says types own enums all old names items fresh signs
each_says types own enums all old names (NodeItem n ∷ items) fresh signs =
    let said = old n.name signs.0 in (
      (said.0 ∙ ap (λ o. kinds_of_decls types own (given_to o)) fresh.1, said.1 ∙ ap (λ o. kinds_of_decls types own (outputs_of o)) fresh.1),
      each_says types own enums all old (n.name ∷ names) items fresh.2 signs.1,
    )

-- So it is where the same is said of names without the sign as of the nodes of the program.
pub observed_by : CompiledMadeLaw → CalledLaw → CallsLaw → (program after : List Item) (all : Callees) (fs : List FlatNode) → IsReady program after → TypesForm (obc_types_of program) → EachNode (λ (n : Node). is_new n.name ≡ false) after → CanBeObserved after
    → ((f : List ℕ) → is_new f ≡ false → SaySame (callees_of after) all f) → AreMadeOf (known_of (lowered_program (observers after))) (lowered_program (observers after)) fs
    → EachObserved (λ n f. IsObserver (obc_types (types_of after)) all n.name f × CallsOnly [] f.eqns) (contracted_nodes after) fs
observed_by made_law called_law calls_law program after all fs r form signs can old made =
    let low = lowered_program after in
    let seen = lowered_program (observers after) in
    let types = obc_types (types_of after) in
    let same : types_of seen ≡ types_of after = types_watched after in
    let t : HasTypesOf program seen = record { same = same ∙ types_same program after r; named = r.named; form = form } in
    let names : type_names seen ≡ type_names low =
    names_of_types seen ∙ ap (λ ts. map (λ (d : TypeDecl). d.name) ts) (same ∙ sym (types_low (enumerations [] after) after)) ∙ sym (names_of_types low) in
    let ready = subst (λ ts. AllByRecursion (IsReadyMade (obc_types ts) (calls_of (obc_types ts) (known_of seen))) fs) same (made_law program seen t can.compilable can.short fs made) in
    let clocked = subst (λ ts. EachNode (Clocked (obc_types ts) (known_of seen)) seen) same (compiled_clocked program seen t can.compilable) in
    let apart = lowered_apart program after r.named (clocked_of (replaced program) after r.clocks) in
    let says = each_says types (known_of low) (enumerations [] after) all old [] after (all_fresh low apart) signs in
    all_observe called_law calls_law types (known_of low) (known_of seen) (ap (λ (ns : List (List ℕ)). numbered 0 ns) names) (enumerations [] (observers after)) all after says fs made clocked can.alone ready

pub observed_law : CompiledMadeLaw → CalledLaw → CallsLaw → ObservedLaw
observed_law made_law called_law calls_law program after observing ms fs r form signs can all_made made =
    observed_by made_law called_law calls_law program after (said_of after ms) fs r form signs can
    (λ f e. said_old (obc_types (types_of after)) (callees_of after) (flat_map besides ms) f (besides_new (obc_types (types_of after)) observing after ms all_made) e) made
