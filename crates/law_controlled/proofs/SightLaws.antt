-- The clocked equations of a node suit its machine, where the machine is told of as many places and bits as are seen.
use Rattle.std.proofs.Common.{◌≡◌, ◌⊎◌, inl, inr, ℕ, suc, ◌+◌, ◌<◌, ◌≤◌, min, Bool, true, false, if◌then◌else◌, nat_lt, List, [], ◌∷◌, ◌++◌, length, map, drop, Option, None, Some, refl, sym, ap, ap₂, subst, ◌∙◌, arith}
use Rattle.std.specs.Prelude.{All, IsTrue, is_some, option_map, slice_get}
use Rattle.std.specs.Str.{bytes_eq}
use Rattle.std.proofs.lemmas.Bool.Decides.{nat_tests}
use Rattle.std.proofs.lemmas.List.{append_assoc, length-append, length-map, map-append, take-append-drop}
use Rattle.std.proofs.lemmas.List.Elements.{All-head, All-tail}
use Rattle.std.proofs.lemmas.Option.{slice_get-map}
use Rattle.std.proofs.lemmas.Slice.Eq.{bytes_eq-Decides}
use Rattle.std.proofs.Math.Seq.{drop-append_seam}
use Rattle.hp_base.specs.declared.ty.Ty.{Ty}
use Rattle.hp_base.specs.declared.ty.Ty.TheVariants as ty
use Rattle.hp_base.specs.declared.value.Value.TheVariants.{Absent}
use Rattle.hp_obc.specs.Form.{HasConstructors}
use Rattle.hp_obc.specs.Machines.{ObcType}
use Rattle.hp_tree.specs.Blocks.{Decl}
use Rattle.hp_tree.specs.Instant.{Head, Tail, Place}
use Rattle.hp_tree.specs.Meaning.{controls_of}
use Rattle.hp_tree.specs.Operators.{constructor_from}
use Rattle.hp_tree.specs.Programs.{Contract, Node, TypeDecl}
use Rattle.hp_tree.specs.declared.program.Item.{Item}
use Rattle.hp_tree.specs.declared.program.Item.TheVariants.{TypeItem, NodeItem}
use Rattle.hp_tree.specs.Values.{constructors_of, IsOf}
use Rattle.hp_tables.specs.Declarations.Tables.{numbered}
use Rattle.hp_flat.specs.declared.node.Variable.{Variable}
use Rattle.hp_flat.specs.Nodes.{FlatNode}
use Rattle.hp_meaning.specs.Causal.Sources.{below}
use Rattle.hp_meaning.specs.Contract.Slots.{control, is_int, shape_of, width_of}
use Rattle.law_values.specs.Filled.Firsts.{DeclsHaveFirsts, HasFirst}
use Rattle.hp_automata.specs.Lowering.{Enumerations, lowered_item}
use Rattle.law_equations.specs.Made.Making.{Known, type_number}
use Rattle.law_equations.specs.Made.Types.{obc_type_of, obc_types}
use Rattle.hp_complete.specs.Made.{AreMadeOf}
use Rattle.hp_complete.specs.Signatures.{IsSigned, variable_of, variables_of}
use Rattle.law_games.specs.Mirror.Mirrored.{controls_among, widths_at}
use Rattle.law_drawing.specs.Reached.Reached.{NoIntegers}
use Rattle.hp_circuit.specs.declared.given.Given.{Given}
use Rattle.hp_abstract.specs.declared.abstracted.Abstraction.{Abstraction}
use Rattle.hp_watch.specs.Observing.{observer_if, observers}
use Rattle.hp_watch.specs.Walk.{events_from, in_block}
use Rattle.hp_watch.specs.Watching.{Observed, Observing, observed, surveyed, walked, watched_by}
use Rattle.hp_controller.specs.declared.decoding.Control.{Control}
use Rattle.hp_controller.specs.declared.decoding.ControlKind.TheVariants.{Truth, Constructor}
use Rattle.law_choices.proofs.PlayingLemmas.Inputs.{row_of_slots, slot_of}
use Rattle.hp_controlled.specs.Choosing.{AreControls, Suits, constructor_kind}
use Rattle.hp_controlled.specs.Compiled.{contract_if, contracts_of, name_if, names_with_contracts, numbered_of, observed_all}
use Rattle.law_controlled.proofs.ObserverLaws.{at_length}

-- ---- declared types

-- A type of a name stands at a number, and has few constructors.
record IsPlaced (decls : List TypeDecl) (x : List ℕ) : Type 0 where
  number : ℕ
  decl : TypeDecl
  below : number < length decls
  there : slice_get decls number ≡ Some decl
  few : length decl.cons < 256
  first : (t : ℕ) → numbered t (map (λ (d : TypeDecl). d.name) decls) x ≡ Some (t + number)

placed : (decls : List TypeDecl) (x : List ℕ) → All HasConstructors (obc_types decls) → (constructors_of decls x ≡ [] → ⊥) → IsPlaced decls x
placed [] x counts some = absurd (some refl)
placed (d ∷ ds) x counts some = by (bytes_eq d.name x) refl some (placed ds x (All-tail HasConstructors (obc_type_of d) (obc_types ds) counts))
  where
    by : (b : Bool) → bytes_eq d.name x ≡ b → ((if b then d.cons else constructors_of ds x) ≡ [] → ⊥) → ((constructors_of ds x ≡ [] → ⊥) → IsPlaced ds x) → IsPlaced (d ∷ ds) x
    by true e h rest =
        let few = (All-head HasConstructors (obc_type_of d) (obc_types ds) counts).1 in
        record {
          number = 0;
          decl = d;
          below = omega arith;
          there = refl;
          few = omega (arith, few);
          first = λ t.
              let same : t ≡ t + 0 = omega arith in
              ap (λ (b : Bool). if b then Some t else numbered (t + 1) (map (λ (d : TypeDecl). d.name) ds) x) e ∙ ap Some same;
        }
    by false e h rest =
        let p = rest h in
        let less = p.below in
        record {
          number = suc p.number;
          decl = p.decl;
          below = omega (arith, less);
          there = p.there;
          few = p.few;
          first = λ t.
              let same : t + 1 + p.number ≡ t + suc p.number = omega arith in
              ap (λ (b : Bool). if b then Some t else numbered (t + 1) (map (λ (d : TypeDecl). d.name) ds) x) e ∙ p.first (t + 1) ∙ ap Some same;
        }

has_some : (decls : List TypeDecl) (x : List ℕ) → HasFirst decls (ty.Enum x) → constructors_of decls x ≡ [] → ⊥
has_some decls x h e = subst (λ cs. IsOf decls (ty.Enum x) (elim cs [ [] ↦ Absent | c ∷ more ↦ constructor_from 0 decls c ])) e h

-- ---- controllable variables

module _ (decls : List TypeDecl) (counts : All HasConstructors (obc_types decls)) (many : length decls ≤ 1000) (places : List ℕ → Option ℕ) (are : (x : List ℕ) → places x ≡ numbered 0 (map (λ (d : TypeDecl). d.name) decls) x) where
  abbrev types : List ObcType
  types = obc_types decls

  -- the number of a declared type is that of its declaration
  kind_of : (x : List ℕ) (p : IsPlaced decls x) → constructor_kind (type_number (places x)) (slice_get types (type_number (places x))) ≡ Some (Constructor (record { number = p.number; constructors = length p.decl.cons }))
  kind_of x p =
      let less = p.below in
      let few = p.few in
      let small : min (0 + p.number) 65535 ≡ p.number = omega (arith, less, many) in
      let same : type_number (places x) ≡ p.number = ap type_number (are x ∙ p.first 0) ∙ small in
      let there : slice_get types p.number ≡ Some (obc_type_of p.decl) = slice_get-map obc_type_of decls p.number ∙ ap (option_map obc_type_of) p.there in
      let fits : nat_lt (length p.decl.cons) 256 ≡ true = grind (arith, nat_tests, few) in
      ap (λ k. constructor_kind k (slice_get types k)) same ∙ ap (constructor_kind p.number) there
      ∙ ap (λ (b : Bool). if b then Some (Constructor (record { number = p.number; constructors = length p.decl.cons })) else None) fits

  -- controls of the types of declarations, each with the bits that slots have
  abbrev HaveControls : List Decl → List Variable → List ℕ → Type 0
  HaveControls ds vs ws = (cs : List Control) × AreControls types vs ws cs × (length ws ≡ length ds)

  have_controls : (ds : List Decl) (rest : List Variable) (w : Place → Place) → NoIntegers ds → DeclsHaveFirsts decls ds → HaveControls ds (variables_of places ds ++ rest) (widths_at decls (controls_among (row_of_slots control ds w)))
  have_controls [] rest w none firsts = ([], tt, refl)
  have_controls (d ∷ ds) rest w none firsts = by d.ty none.0 firsts.0 (have_controls ds rest (below Tail w) none.1 firsts.1)
    where
      by : (t : Ty) → is_int t ≡ false → HasFirst decls t → HaveControls ds (variables_of places ds ++ rest) (widths_at decls (controls_among (row_of_slots control ds (below Tail w))))
          → HaveControls (d ∷ ds) (variable_of places (record d { ty = t }) ∷ (variables_of places ds ++ rest)) (widths_at decls (controls_among (slot_of control (w (Head ∷ [])) t ++ row_of_slots control ds (below Tail w))))
      by ty.Bool e h more = (record { kind = Truth; width = 1 } ∷ more.0, (record { kind = refl; width = refl; has = refl }, more.1), ap suc more.2)
      by ty.Int e h more = absurd cc
      by (ty.Enum x) e h more =
          let p = placed decls x counts (has_some decls x h) in (
            record { kind = Constructor (record { number = p.number; constructors = length p.decl.cons }); width = width_of (shape_of decls (ty.Enum x)) } ∷ more.0,
            (record { kind = kind_of x p; width = refl; has = tt }, more.1),
            ap suc more.2,
          )

  -- behind the inputs of a node stand its controllable variables
  pub node_controls : (n : Node) (f : FlatNode) → IsSigned places n f → NoIntegers (controls_of n.contract) → DeclsHaveFirsts decls (controls_of n.contract) → (w : Place → Place)
      → HaveControls (controls_of n.contract) (drop (length n.inputs) f.variables) (widths_at decls (controls_among (row_of_slots control (controls_of n.contract) w)))
  node_controls n f signed none firsts w =
      let ins = variables_of places n.inputs in
      let cs = variables_of places (controls_of n.contract) in
      let rest = drop f.inputs f.variables in
      let split : f.variables ≡ ins ++ (cs ++ rest) =
      sym (take-append-drop f.inputs f.variables) ∙ ap (λ vs. vs ++ rest) (signed.first ∙ map-append (variable_of places) n.inputs (controls_of n.contract)) ∙ append_assoc ins cs rest in
      let long : length n.inputs ≡ length ins = sym (length-map n.inputs (variable_of places)) in
      let behind : drop (length n.inputs) f.variables ≡ cs ++ rest = ap₂ (λ k vs. drop k vs) long split ∙ drop-append_seam ins (cs ++ rest) in
      subst (λ vs. HaveControls (controls_of n.contract) vs (widths_at decls (controls_among (row_of_slots control (controls_of n.contract) w)))) (sym behind) (have_controls (controls_of n.contract) rest w none firsts)

-- ---- observers

-- a node of this name that has a contract stands among items
abbrev pub NamedIn : List Item → List ℕ → Type 0
NamedIn [] f = ⊥
NamedIn (TypeItem t ∷ items) f = NamedIn items f
NamedIn (NodeItem n ∷ items) f = ((n.name ≡ f) × IsTrue (is_some n.contract)) ⊎ NamedIn items f

module _ (k : Known) (enums : Enumerations) (f : List ℕ) where
  -- so it has an observer
  abbrev HasObserver : List Item → List FlatNode → Type 0
  HasObserver items fs = (before : List Observed) → (o : Observed) × (numbered_of (before ++ observed_all (contracts_of items) fs) (numbered (length before) (names_with_contracts items) f) ≡ Some o)

  pub has_observer : (items : List Item) (fs : List FlatNode) → AreMadeOf k (map (lowered_item enums) (observers items)) fs → NamedIn items f → HasObserver items fs
  has_observer [] fs made there before = absurd there
  has_observer (TypeItem t ∷ items) fs made there before = has_observer items fs made there before
  has_observer (NodeItem n ∷ items) fs made there before = by n.contract fs made there before (has_observer items)
    where
      by : (o : Option Contract) (fs : List FlatNode) → AreMadeOf k (map (lowered_item enums) (observer_if n o ++ observers items)) fs → ((n.name ≡ f) × IsTrue (is_some o)) ⊎ NamedIn items f → (before : List Observed)
          → ((gs : List FlatNode) → AreMadeOf k (map (lowered_item enums) (observers items)) gs → NamedIn items f → HasObserver items gs)
          → (x : Observed) × (numbered_of (before ++ observed_all (contract_if o ++ contracts_of items) fs) (numbered (length before) (name_if n.name o ++ names_with_contracts items) f) ≡ Some x)
      by None fs made (inl own) before more = absurd (let no : false ≡ true = own.1 in cc)
      by None fs made (inr there) before more = more fs made there before
      by (Some c) [] made there before more = absurd made
      by (Some c) (g ∷ gs) made there before more = at (bytes_eq n.name f) refl there
        where
          at : (b : Bool) → bytes_eq n.name f ≡ b → ((n.name ≡ f) × IsTrue (is_some (Some c))) ⊎ NamedIn items f
              → (x : Observed) × (numbered_of (before ++ observed c g ∷ observed_all (contracts_of items) gs) (if b then Some (length before) else numbered (length before + 1) (names_with_contracts items) f) ≡ Some x)
          at true e there = (observed c g, at_length before (observed c g) (observed_all (contracts_of items) gs))
          at false e (inl same) = absurd (let yes = (bytes_eq-Decides n.name f).1 same.0 in let no : true ≡ false = sym yes ∙ e in cc)
          at false e (inr there) =
              let x = more gs made.1 there (before ++ observed c g ∷ []) in
              (x.0, ap₂ (λ os j. numbered_of os (numbered j (names_with_contracts items) f)) (sym (append_assoc before (observed c g ∷ []) (observed_all (contracts_of items) gs))) (sym (length-append before (observed c g ∷ []))) ∙ x.1)

-- ---- what suits

-- As many places and bits are seen of a node that has this observer as its machine is told of.
pub record SeesAsMany (types : List ObcType) (observers : Observing) (node : Node) (n : FlatNode) (a : Abstraction) (own : Observed) : Type 0 where
  pub places : length (surveyed observers own (length node.inputs) (walked node n) n).free ≡ length a.given.items
  pub early : length (watched_by types (map (λ (g : Given). g.is_early) a.given.items) (surveyed observers own (length node.inputs) (walked node n) n)).early ≡ a.machine.early
  pub late : length (watched_by types (map (λ (g : Given). g.is_early) a.given.items) (surveyed observers own (length node.inputs) (walked node n) n)).late ≡ a.machine.late

module _ (types : List ObcType) (seen : Observing) (node : Node) (n : FlatNode) (a : Abstraction) (own : Observed) where
  pub suits : n.inputs ≡ length node.inputs + length (controls_of node.contract) → ((cs : List Control) × AreControls types (drop (length node.inputs) n.variables) a.machine.widths cs × (length a.machine.widths ≡ length (controls_of node.contract)))
      → in_block node.body ≡ length (events_from 0 n.eqns) → seen n.name ≡ Some own → SeesAsMany types seen node n a own → Suits types seen node n a
  suits inputs controls events has all =
      let flags = map (λ (g : Given). g.is_early) a.given.items in
      record {
        inputs = inputs;
        widths = controls.2;
        controls = controls.0;
        are = controls.1;
        watched = watched_by types flags (surveyed seen own (length node.inputs) (walked node n) n);
        sees = record {
          is_watched = record { fits = record { events = events; own = own; has = has; places = all.places ∙ sym (length-map a.given.items (λ (g : Given). g.is_early)) }; is = refl };
          early = all.early;
          late = all.late;
        };
      }
