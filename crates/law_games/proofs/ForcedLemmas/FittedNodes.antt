-- What is mended for the instance of a call, and for a node, fits.
use Rattle.std.proofs.Common.{◌≡◌, ℕ, List, [], ◌∷◌, ◌++◌, refl, sym, ap, subst, ◌∙◌}
use Rattle.std.proofs.lemmas.List.Elements.{All-contains_itself, All-head, All-tail}
use Rattle.std.proofs.lemmas.Slice.Eq.{bytes_eq-Decides}
use Rattle.std.specs.Prelude.{Bool, true, false, ◌||◌, IsTrue, IsFalse, if◌then◌else◌, reverse, All, Contains, Option, None, Some, map}
use Rattle.std.specs.Str.{bytes_eq}
use Rattle.hp_base.specs.declared.ty.Ty.{Ty}
use Rattle.hp_base.specs.declared.ty.Ty.TheVariants as ty
use Rattle.hp_base.specs.declared.value.Value.{Value}
use Rattle.hp_base.specs.declared.value.Value.TheVariants.{B, E}
use Rattle.hp_tree.specs.declared.program.Item.{Item}
use Rattle.hp_tree.specs.declared.program.Item.TheVariants.{TypeItem, NodeItem}
use Rattle.hp_tree.specs.Blocks.{Decl}
use Rattle.hp_tree.specs.Programs.{TypeDecl, Contract, Node}
use Rattle.hp_tree.specs.Operators.{constructor_from, same_value, marked}
use Rattle.hp_tree.specs.ExpressionTypes.{typed_in, untyped}
use Rattle.hp_tree.specs.Filled.{first_value}
use Rattle.hp_tree.specs.Instant.{Inputs, Controls, Body, Observer, Assume, Enforce, Named, Head, Tail, Place, Instant, part, alone, in_row}
use Rattle.hp_tree.specs.Meaning.{types_of, declares, controls_of, node_among}
use Rattle.hp_tree.specs.Values.{constructors_of, IsOf}
use Rattle.hp_meaning.specs.Causal.Sources.{below}
use Rattle.hp_meaning.specs.Causal.Steering.{steered_by}
use Rattle.hp_typing.specs.Scopes.{inside_node}
use Rattle.law_judged.specs.Typed.Scopes.{Scope}
use Rattle.law_values.specs.Filled.Firsts.{HasFirst, DeclsHaveFirsts}
use Rattle.law_values.specs.Valued.Values.{scope_behind, either_of}
use Rattle.hp_meaning.specs.Contract.FreePlaces.{IsAbstractOf}
use Rattle.hp_meaning.specs.Contract.Game.{Choice, IsChoiceOf, at_controls}
use Rattle.hp_meaning.specs.Contract.Slots.{Slot, input, control, callee_slots, slots_of_contract, slots_of_block, slots_of_node}
use Rattle.law_games.specs.Wires.WiredNodes.{FillsObserver, FillsNode}
use Rattle.law_games.specs.Wires.WiredCallees.{no_callees, FillsBy, callee_wires}
use Rattle.law_games.specs.Wiretyped.Typed.{IsWire, AreWires}
use Rattle.law_games.specs.Wiretyped.Kept.{OutputsGiven}
use Rattle.law_games.specs.Wiretyped.Callees.{any_given, AloneGiven, CalleeGiven}
use Rattle.law_games.specs.Wiretyped.Laws.{GivenFits}
use Rattle.law_games.proofs.WiretypedLemmas.Givens.{inputs_fit, choice_fits}
use Rattle.law_games.specs.Mirror.Mirrored.{given_with}
use Rattle.law_games.specs.Mirror.Memories.{AreApart, SlotsFit}
use Rattle.law_games.proofs.ForcedLemmas.Mended.{one_among, of_type, of_output, Mends, mend_node, mend_none, mend_alone, mend_by}
use Rattle.law_games.proofs.ForcedLemmas.Fitted.{Under, lasts_slots, free_of, outputs_slots, mended, is_flag, fits_joined, lasts_fit, block_of, contract_of}

-- ---- values

-- what is made of a value is of the type
of_enum : (types : List TypeDecl) (t : List ℕ) (v : Value) → IsOf types (ty.Enum t) v → IsAbstractOf types (ty.Enum t) v
of_enum types t (E u k) h = h
of_enum types t v h = absurd h

among_of : (types : List TypeDecl) (t : List ℕ) (cs : List (List ℕ)) (other v : Value) → All (Contains (constructors_of types t)) cs → IsAbstractOf types (ty.Enum t) other → IsAbstractOf types (ty.Enum t) (one_among types cs other v)
among_of types t [] other v has h = h
among_of types t (c ∷ cs) other v has h =
    by (same_value v (constructor_from 0 types c)) (among_of types t cs other v (All-tail (Contains (constructors_of types t)) c cs has) h)
  where
    by : (b : Bool) → IsAbstractOf types (ty.Enum t) (one_among types cs other v) → IsAbstractOf types (ty.Enum t) (if b then constructor_from 0 types c else one_among types cs other v)
    by true k = (c, All-head (Contains (constructors_of types t)) c cs has, refl)
    by false k = k

pub made_of : (types : List TypeDecl) (t : Ty) (v : Value) → HasFirst types t → IsAbstractOf types t (of_type types t v)
made_of types ty.Bool v h = is_flag v
made_of types ty.Int v h = refl
made_of types (ty.Enum t) v h =
    among_of types t (constructors_of types t) (first_value types (ty.Enum t)) v (All-contains_itself (constructors_of types t)) (of_enum types t (first_value types (ty.Enum t)) h)

-- values of declared types are on wires as their marks, and so they fit slots
pub abstract_wire : (types : List TypeDecl) (d : Decl) (v : Value) → IsAbstractOf types d.ty v → IsWire types d.ty (marked v)
abstract_wire types d v h = (inputs_fit types (d ∷ []) (v ∷ []) (h, tt)).0

unmarked_bool : (types : List TypeDecl) (v : Value) → IsOf types ty.Bool (marked v) → IsOf types ty.Bool v
unmarked_bool types (B b) h = h
unmarked_bool types v h = absurd h

unmarked_enum : (types : List TypeDecl) (t : List ℕ) (v : Value) → IsOf types (ty.Enum t) (marked v) → IsOf types (ty.Enum t) v
unmarked_enum types t (E u k) h = h
unmarked_enum types t v h = absurd h

slot_of : (types : List TypeDecl) (t : Ty) (q : Place) (i : Instant) → IsWire types t (marked (i q)) → SlotsFit types (free_of q t) i
slot_of types ty.Bool q i h = (unmarked_bool types (i q) h, tt)
slot_of types ty.Int q i h = tt
slot_of types (ty.Enum t) q i h = (unmarked_enum types t (i q) h, tt)

-- ---- outputs, which have names of their own

pub same_name : (x : List ℕ) → IsTrue (bytes_eq x x)
same_name x = (bytes_eq-Decides x x).1 refl

pub other_name : (ds : List Decl) (x y : List ℕ) → IsFalse (declares ds x) → IsTrue (declares ds y) → bytes_eq x y ≡ false
other_name ds x y f t = by (bytes_eq x y) refl
  where
    by : (b : Bool) → bytes_eq x y ≡ b → b ≡ false
    by true e = let h : IsTrue (declares ds x) = subst (λ z. IsTrue (declares ds z)) (sym ((bytes_eq-Decides x y).0 e)) t in absurd (cc)
    by false e = refl

pub or_first : (a b : Bool) → IsTrue a → IsTrue (a || b)
or_first true b h = refl
or_first false b h = absurd (cc)

pub or_second : (a b : Bool) → IsTrue b → IsTrue (a || b)
or_second true b h = refl
or_second false b h = h

module _ (types : List TypeDecl) where
  -- The values at some names are made of values of their types.
  abbrev Made : List Decl → (List ℕ → Value) → (List ℕ → Value) → Type 0
  Made ds named i = (x : List ℕ) → IsTrue (declares ds x) → named x ≡ of_output types ds x (i x)

  here : (d : Decl) (ds : List Decl) (named i : List ℕ → Value) → Made (d ∷ ds) named i → HasFirst types d.ty → IsWire types d.ty (marked (named d.name))
  here d ds named i m h =
      subst (λ v. IsWire types d.ty (marked v)) (sym (m d.name (or_first (bytes_eq d.name d.name) (declares ds d.name) (same_name d.name)) ∙ ap (λ b. if b then of_type types d.ty (i d.name) else of_output types ds d.name (i d.name)) (same_name d.name)))
      (abstract_wire types d (of_type types d.ty (i d.name)) (made_of types d.ty (i d.name) h))

  others : (d : Decl) (ds : List Decl) (named i : List ℕ → Value) → IsFalse (declares ds d.name) → Made (d ∷ ds) named i → Made ds named i
  others d ds named i a m x t = m x (or_second (bytes_eq d.name x) (declares ds x) t) ∙ ap (λ b. if b then of_type types d.ty (i x) else of_output types ds x (i x)) (other_name ds d.name x a t)

  outputs_given : (ds : List Decl) (j : Instant) (i : List ℕ → Value) → AreApart ds → DeclsHaveFirsts types ds → Made ds (λ x. j (Named x ∷ [])) i → OutputsGiven types ds j
  outputs_given [] j i a h m = tt
  outputs_given (d ∷ ds) j i a h m = (here d ds (λ x. j (Named x ∷ [])) i m h.0, outputs_given ds j i a.1 h.1 (others d ds (λ x. j (Named x ∷ [])) i a.0 m))

  outputs_fit : (ds : List Decl) (w : Place → Place) (root : Instant) (i : List ℕ → Value) → AreApart ds → DeclsHaveFirsts types ds → Made ds (λ x. root (w (Named x ∷ []))) i → SlotsFit types (outputs_slots ds w) root
  outputs_fit [] w root i a h m = tt
  outputs_fit (d ∷ ds) w root i a h m =
      fits_joined types (free_of (w (Named d.name ∷ [])) d.ty) (outputs_slots ds w) root (slot_of types d.ty (w (Named d.name ∷ [])) root (here d ds (λ x. root (w (Named x ∷ []))) i m h.0))
      (outputs_fit ds w root i a.1 h.1 (others d ds (λ x. root (w (Named x ∷ []))) i a.0 m))

  -- ---- instances

  abbrev no_slots : List ℕ → (Place → Place) → List Slot
  no_slots f w = []

  abbrev OfAlone : Node → Instant → Instant → Type 0
  OfAlone n start i =
      ((s : Scope) → AloneGiven types s n (mended (mend_alone types n start) i)) × FillsObserver types no_callees n.contract start (mended (mend_alone types n start) i)
      × ((w : Place → Place) (root : Instant) → Under w root (mended (mend_alone types n start) i) → SlotsFit types (outputs_slots n.outputs w ++ callee_slots types (Some n) w) root)

  of_alone : (n : Node) → AreApart n.outputs → DeclsHaveFirsts types n.outputs → (start i : Instant) → OfAlone n start i
  of_alone n a h start i =
      let r = contract_of types no_callees (λ f. []) no_slots mend_none any_given (λ f start i. (tt, tt, λ w root u. tt)) n.contract start i (mended (mend_alone types n start) i) (refl, refl, refl) in (
        (λ s. (outputs_given n.outputs (mended (mend_alone types n start) i) (λ x. i (Named x ∷ [])) a h (λ x t. refl), r.0 (inside_node s n))),
        r.1,
        λ w root u.
            fits_joined types (outputs_slots n.outputs w) (callee_slots types (Some n) w) root (outputs_fit n.outputs w root (λ x. i (Named x ∷ [])) a h (λ x t. u (Named x ∷ [])))
            (of_contract n.contract w root (r.2 (typed_in n.inputs (typed_in n.outputs untyped)) w root ((λ p. u (Observer ∷ p)), ((λ p. u (Assume ∷ p)), (λ p. u (Enforce ∷ p)))))),
      )
    where
      of_contract : (o : Option Contract) (w : Place → Place) (root : Instant) → SlotsFit types (slots_of_contract types (λ f. []) no_slots o (typed_in n.inputs (typed_in n.outputs untyped)) w) root
          → SlotsFit types (elim o [ None ↦ [] | Some c ↦ lasts_slots types n.outputs w ++ slots_of_contract types (λ f. []) no_slots (Some c) (typed_in n.inputs (typed_in n.outputs untyped)) w ]) root
      of_contract None w root f = tt
      of_contract (Some c) w root f = fits_joined types (lasts_slots types n.outputs w) (slots_of_contract types (λ f. []) no_slots (Some c) (typed_in n.inputs (typed_in n.outputs untyped)) w) root (lasts_fit types n.outputs w root) f

  callee_given : (items : List Item) (f : List ℕ) (i : Instant) → ((k : Node) → node_among items f ≡ Some k → (s : Scope) → AloneGiven types s k i) → CalleeGiven types items f i
  callee_given [] f i h = tt
  callee_given (TypeItem t ∷ items) f i h = callee_given items f i h
  callee_given (NodeItem n ∷ items) f i h = by (bytes_eq n.name f) h (λ h. callee_given items f i h)
    where
      by : (b : Bool) → ((k : Node) → (if b then Some n else node_among items f) ≡ Some k → (s : Scope) → AloneGiven types s k i) → (((k : Node) → node_among items f ≡ Some k → (s : Scope) → AloneGiven types s k i) → CalleeGiven types items f i)
          → either_of b (AloneGiven types (scope_behind items) n i) (CalleeGiven types items f i)
      by true h more = h n refl (scope_behind items)
      by false h more = more h

  callee_filled : (o : Option Node) (start i : Instant) → ((k : Node) → o ≡ Some k → FillsObserver types no_callees k.contract start i) → FillsBy types o start i
  callee_filled None start i h = tt
  callee_filled (Some n) start i h = h n refl

  abbrev pub decls_by : Option Node → List Decl
  decls_by None = []
  decls_by (Some n) = n.outputs

  -- what is mended for the instance of the node o, which is found among some items too where there is one of its name
  abbrev Called : List Item → List ℕ → Option Node → Instant → Instant → Type 0
  Called items f o start i =
      CalleeGiven types items f (mended (mend_by types o start) i) × FillsBy types (node_among items f) start (mended (mend_by types o start) i)
      × ((w : Place → Place) (root : Instant) → Under w root (mended (mend_by types o start) i) → SlotsFit types (outputs_slots (decls_by o) w ++ callee_slots types o w) root)

  pub of_called : (items : List Item) (f : List ℕ) (o : Option Node) → ((k : Node) → node_among items f ≡ Some k → o ≡ Some k) → ((k : Node) → o ≡ Some k → AreApart k.outputs × DeclsHaveFirsts types k.outputs) → (start i : Instant) → Called items f o start i
  of_called items f None found h start i = (
    callee_given items f (mended (mend_by types None start) i) (λ k e. none k (found k e)),
    callee_filled (node_among items f) start (mended (mend_by types None start) i) (λ k e. none k (found k e)),
    λ w root u. tt,
  )
    where
      none : {X : Type 0} (k : Node) → None ≡ Some k → X
      none k e = absurd (cc)
  of_called items f (Some n) found h start i =
      let r = of_alone n (h n refl).0 (h n refl).1 start i in (
        callee_given items f (mended (mend_alone types n start) i) (λ k e s. subst (λ (z : Node). AloneGiven types s z (mended (mend_alone types n start) i)) (same n k (found k e)) (r.0 s)),
        callee_filled (node_among items f) start (mended (mend_alone types n start) i) (λ k e. subst (λ (z : Node). FillsObserver types no_callees z.contract start (mended (mend_alone types n start) i)) (same n k (found k e)) r.1),
        r.2,
      )
    where
      same : (n k : Node) → Some n ≡ Some k → n ≡ k
      same n k e = ap (λ o. elim o [ None ↦ n | Some z ↦ z ]) e

  -- ---- inputs and controllable variables

  abbrev pub kind_of : (Place → Ty → Slot) → Place → Ty → List Slot
  kind_of kind p ty.Int = []
  kind_of kind p t = kind p t ∷ []

  abbrev pub row_slots : (Place → Ty → Slot) → List Decl → (Place → Place) → List Slot
  row_slots kind [] w = []
  row_slots kind (d ∷ ds) w = kind_of kind (w (Head ∷ [])) d.ty ++ row_slots kind ds (below Tail w)

  input_of : (t : Ty) (q : Place) (i : Instant) → IsWire types t (i q) → SlotsFit types (kind_of input q t) i
  input_of ty.Bool q i h = (h, tt)
  input_of ty.Int q i h = tt
  input_of (ty.Enum t) q i h = (h, tt)

  inputs_of : (ds : List Decl) (vs : List Value) (w : Place → Place) (root : Instant) → AreWires types ds vs → Under w root (in_row (map alone vs)) → SlotsFit types (row_slots input ds w) root
  inputs_of [] vs w root a u = tt
  inputs_of (d ∷ ds) [] w root a u = absurd a
  inputs_of (d ∷ ds) (v ∷ vs) w root a u =
      fits_joined types (kind_of input (w (Head ∷ [])) d.ty) (row_slots input ds (below Tail w)) root (input_of d.ty (w (Head ∷ [])) root (subst (IsWire types d.ty) (sym (u (Head ∷ []))) a.0))
      (inputs_of ds vs (below Tail w) root a.1 (λ p. u (Tail ∷ p)))

  control_of : (t : Ty) (q : Place) (i : Instant) → SlotsFit types (kind_of control q t) i
  control_of ty.Bool q i = tt
  control_of ty.Int q i = tt
  control_of (ty.Enum t) q i = tt

  controls_fit : (ds : List Decl) (w : Place → Place) (root : Instant) → SlotsFit types (row_slots control ds w) root
  controls_fit [] w root = tt
  controls_fit (d ∷ ds) w root = fits_joined types (kind_of control (w (Head ∷ [])) d.ty) (row_slots control ds (below Tail w)) root (control_of d.ty (w (Head ∷ [])) root) (controls_fit ds (below Tail w) root)

-- ---- a node

abbrev pub callee_of : List Item → List ℕ → Mends
callee_of program f = mend_by (types_of program) (node_among (reverse program) f)

-- what is given for a node, mended
abbrev pub mended_for : List Item → Node → Instant → Instant → Instant
mended_for program n start i = mended (mend_node (callee_of program) n start) i

module _ (program earlier : List Item) (n : Node) (found : (f : List ℕ) (k : Node) → node_among earlier f ≡ Some k → node_among (reverse program) f ≡ Some k)
    (declared : (f : List ℕ) (k : Node) → node_among (reverse program) f ≡ Some k → AreApart k.outputs × DeclsHaveFirsts (types_of program) k.outputs) where
  abbrev types : List TypeDecl
  types = types_of program

  pub node_fits : (c : Choice) → IsChoiceOf program n c → (start i : Instant)
      → GivenFits types earlier n (steered_by (mended_for program n start i) (at_controls c)) × FillsNode types (callee_wires types earlier) n start (steered_by (mended_for program n start i) (at_controls c))
      × ((inputs : List Value) → AreWires types n.inputs inputs → SlotsFit types (slots_of_node program n) (given_with inputs (mended_for program n start i) c))
  node_fits c is start i =
      let outs : List ℕ → List Decl = λ f. decls_by types (node_among (reverse program) f) in
      let called : List ℕ → (Place → Place) → List Slot = λ f w. callee_slots types (node_among (reverse program) f) w in
      let here : Place → Place = λ p. p in
      let seen = typed_in n.inputs (typed_in n.outputs untyped) in
      let J = mended_for program n start i in
      let calls = λ (f : List ℕ) (start i : Instant). of_called types earlier f (node_among (reverse program) f) (found f) (declared f) start i in
      let k = contract_of types (callee_wires types earlier) outs called (callee_of program) (CalleeGiven types earlier) calls n.contract start i (steered_by J (at_controls c)) (refl, refl, refl) in
      let b = block_of types (callee_wires types earlier) outs called (callee_of program) (CalleeGiven types earlier) calls n.body (part Body start) (part Body i) in (
        (choice_fits program n c is, (b.0 _, k.0 _)),
        record { body = b.1; contract = k.1 },
        λ inputs a.
            let root = given_with inputs J c in
            let s1 = row_slots types input n.inputs (below Inputs here) in
            let s2 = lasts_slots types n.outputs here in
            let s3 = row_slots types control (controls_of n.contract) (below Controls here) in
            let s4 = slots_of_contract types outs called n.contract seen here in
            let s5 = slots_of_block types outs called n.body (typed_in (controls_of n.contract) seen) (below Body here) in
            fits_joined types s1 (s2 ++ (s3 ++ (s4 ++ s5))) root (inputs_of types n.inputs inputs (below Inputs here) root a (λ p. refl))
            (fits_joined types s2 (s3 ++ (s4 ++ s5)) root (lasts_fit types n.outputs here root)
            (fits_joined types s3 (s4 ++ s5) root (controls_fit types (controls_of n.contract) (below Controls here) root)
            (fits_joined types s4 s5 root (k.2 seen here root ((λ p. refl), ((λ p. refl), (λ p. refl)))) (b.2 (typed_in (controls_of n.contract) seen) (below Body here) root (λ p. refl))))),
      )
