-- What is drawn of a node, with marks.
use Rattle.std.proofs.Common.{◌≡◌, ◌⊎◌, ℕ, suc, ◌+◌, ◌<◌, Bool, true, false, if◌then◌else◌, ◌&&◌, ◌||◌, List, [], ◌∷◌, Option, None, Some, refl, sym, ap, subst, ◌∙◌, inl, inr, arith}
use Rattle.std.specs.Str.{bytes_eq}
use Rattle.std.proofs.lemmas.Option.{none-some}
use Rattle.hp_tree.specs.Blocks.{Decl, Block, block}
use Rattle.hp_tree.specs.Instant.{Body, Controls, Observer, Assume, Enforce, Named, Place as TreePlace}
use Rattle.hp_tree.specs.Meaning.{declares, controls_of}
use Rattle.hp_tree.specs.Programs.{Contract, Node}
use Rattle.hp_meaning.specs.Causal.Sources.{none, only, Within, NameSources, PlaceSources, below}
use Rattle.hp_meaning.specs.Causal.WhatIsRead.{names_in_block, control_in, has_equation, output_in, in_block, at_told, in_contract}
use Rattle.hp_circuit.specs.declared.circuit.Role.{Role}
use Rattle.hp_circuit.specs.declared.circuit.Role.TheVariants as role
use Rattle.hp_drawing.specs.declared.parts.Entry.{Entry}
use Rattle.hp_drawing.specs.declared.parts.Place.{Place}
use Rattle.hp_drawing.specs.Told.{Told, type_shape}
use Rattle.hp_drawing.specs.Sketch.{Sketch, low, high, push, given, next_wire, add_clock, define, finish, nothing, begun, empty}
use Rattle.hp_drawing.specs.Places.{top_place}
use Rattle.hp_drawing.specs.Scopes.{Scope, Layer, unseen_entry, entry_in, add, or_found, found, value_by, outer_layers, value_in, last_in, push_values, push_lasts, pop_values}
use Rattle.hp_drawing.specs.DrawnBlocks.{drawn_block}
use Rattle.hp_drawing.specs.DrawnNodes.{contract_scope, put_row, put_outputs, body_layer, body_scope, contracts, Observer as Drawn, add_given, define_from, define_outputs, drawn_observer, drawn_body, with_outputs, with_inputs, with_controls, node_scope, drawn_node}
use Rattle.law_drawing.proofs.CarryingLemmas.Layers.{self-name}
use Rattle.law_drawing.specs.Steered.Asked.{ContractFits}
use Rattle.hp_tree.specs.Programs.{TypeDecl}
use Rattle.hp_circuit.specs.declared.circuit.Shape.TheVariants.{Truth}
use Rattle.hp_typing.specs.Scopes.{with_variables, inside as inner_scope, inside_node}
use Rattle.law_judged.specs.Typed.Scopes.{Scope as TypeScope}
use Rattle.law_values.specs.Valued.Judged.{Lasts, lasts_in, lasts_of, no_lasts, body_scope as typed_body, HaveOwnTypes, ContractSound}
use Rattle.law_values.proofs.ValuedLemmas.Scoped.{still_known}
use Rattle.hp_drawing.specs.Scopes.{add_lasts}
use Rattle.hp_drawing.specs.DrawnNodes.{contract_layer}
use Rattle.law_drawing.proofs.CarryingLemmas.Layers.{same-name, Knows, knows-add, knows-added, or-cases}
use Rattle.law_drawing.specs.NoCircle.Typed.{AreTyped}
use Rattle.law_drawing.specs.NoCircle.Nodes.{NodeAsked}
use Rattle.law_drawing.proofs.NoCircleLemmas.Steps as steps
use Rattle.law_drawing.proofs.NoCircleLemmas.Rows.{AreNamed, RowLate, holes-marked}
use Rattle.law_drawing.proofs.NoCircleLemmas.Carried.{type-whole}
use Rattle.law_drawing.proofs.NoCircleLemmas.EnterTypes as entries
use Rattle.law_drawing.proofs.NoCircleLemmas.EnterTypes.{IsOf, of-type, lasts-typed}
use Rattle.law_drawing.specs.NoCircle.Marks.{Mark, Marks, ground, Less, Grows, Has, Low, Under, There, Frame, later, AreMarked, IsPlaced, around}
use Rattle.law_drawing.specs.NoCircle.Asked.{AreSeen, BringsMarked, ContractApart}
use Rattle.law_drawing.proofs.NoCircleLemmas.Orders.{most-same, ground-most}
use Rattle.law_drawing.proofs.NoCircleLemmas.Steps.{grows-none, grows-both, has-grows, low-grows, there-grows, low-up, low-under, low-there, low-own, ground-low, Step}
use Rattle.law_drawing.proofs.NoCircleLemmas.Parts.{given-marked}
use Rattle.law_drawing.proofs.NoCircleLemmas.Rows.{given-number, given-next-number}
use Rattle.law_drawing.proofs.NoCircleLemmas.Values.{IsAt, seen-grows}
use Rattle.law_drawing.proofs.NoCircleLemmas.Bodies.{Blocked}
use Rattle.law_drawing.proofs.NoCircleLemmas.Blocks.{block-marked}
use Rattle.law_drawing.proofs.NoCircleLemmas.Contracts.{rows-typed, rows-keep, rows-known, declared-in, none-alone, over-nothing, outputs-lasts, contract-typed, named-grows, Says, says-add, says-row, finish-marked, LowAt, contract-seen, contract-marked, raised, within-top, contracts-marked}

-- ---- the scope of a body has one layer

contract-alone : (t : Told) (spot : Place) (n : Node) (inputs outputs : ℕ) (s : Sketch) → outer_layers (contract_scope t spot n inputs outputs s).0.values ≡ []
unfolding contract_scope push_values push_lasts
contract-alone t spot n inputs outputs s = refl

-- before anything is drawn no wire is open
abbrev pub alone : Frame
alone = record { late = λ k. ⊥; shapes = [] }

-- what stands around a body, and around a contract, which is a step above
abbrev narrow : Mark
narrow = (0, 1)

abbrev wide : Mark
wide = (0, 2)

module _ (t : Told) where
  -- ---- rows of wires

  given-named : {F : Frame} (r : Role) (ds : List Decl) (s : Sketch) (ms : Marks) → AreMarked F s ms → (ms' : Marks) × Grows ms ms' × AreMarked F (add_given t r ds s) ms' × AreNamed ms' (next_wire s) ds (λ x. ground)
  given-named r [] s ms a = (ms, grows-none ms, a, tt)
  given-named r (d ∷ ds) s ms a =
      let p = type_shape t d.ty in
      let h = given-marked r p s ms ground a in
      let more = given-named r ds (given r p s).1 h.0 h.2 in (
        more.0,
        grows-both ms h.0 more.0 h.1 more.1,
        more.2,
        (subst (λ w. Has more.0 w ground) (given-number r p s) (has-grows h.0 more.0 more.1 (given r p s).0 ground h.3), subst (λ w. AreNamed more.0 w ds (λ x. ground)) (given-next-number r p s) more.3),
      )

  -- ---- at first

  empty-marked : AreMarked alone empty (ground ∷ ground ∷ [])
  unfolding empty begun push add_clock nothing
  empty-marked = record {
    wires = (inr tt, (inr tt, tt));
    first_shapes = (Truth ∷ Truth ∷ [], refl);
    as_many = refl;
    reads = tt;
    clocks = (record { mark = ground; has = refl }, tt);
    low_is = record { mark = ground; has = refl; most = most-same ground };
    high_is = record { mark = ground; has = refl; most = most-same ground };
    hyp_is = record { mark = ground; has = refl };
    duty_is = record { mark = ground; has = refl };
  }

  top-placed : {F : Frame} (s : Sketch) (ms : Marks) (n : ℕ) → AreMarked F s ms → IsPlaced ms top_place (0, suc n)
  top-placed s ms n a = record { cut = low-under ms low ground (0, suc n) (inr (omega arith, omega arith)) a.low_is; here = low-there ms high ground a.high_is; kept = low-there ms low ground a.low_is }

  -- ---- outputs are what the body defines

  outputs-defined : (F : Frame) (types : List TypeDecl) (among : List ℕ → Option Node) (g : TypeScope) (lasts : Lasts) (z : Scope) (S : AreTyped g lasts z) (first k : ℕ) (ds : List Decl) (m : List ℕ → Mark) (s : Sketch) (ms : Marks) → HaveOwnTypes types among g ds
      → AreMarked (later F (RowLate t (first + k) ds)) s ms → AreNamed ms (first + k) ds m → ((x : List ℕ) → declares ds x ≡ true → Under ms (value_in z x).wire (m x)) → AreMarked F (define_from z first k ds s) ms
  outputs-defined F types among g lasts z S first k [] m s ms own a h f = steps.weaken F.late s ms (λ i q. elim q [ inl o ↦ o | inr o ↦ absurd o ]) a
  outputs-defined F types among g lasts z S first k (d ∷ ds) m s ms own a h f =
      let v = value_in z d.name in
      let s1 = define (first + k) v s in
      let late : ℕ → Type 0 = λ i. F.late i ⊎ RowLate t (suc (first + k)) ds i in
      let b = steps.define-said late (first + k) v s ms (m d.name) (λ i q. elim q [ inl y ↦ inr (inl y) | inr y ↦ elim y [ inl w ↦ inl (w.1, S.values d.name d.ty own.0 ∙ sym (type-whole t d.ty) ∙ w.0) | inr w ↦ inr (inr w) ] ]) a h.0 (f d.name (self d.name)) in
      outputs-defined F types among g lasts z S first (k + 1) ds m s1 ms own.1 (subst (λ i. AreMarked (later F (RowLate t i ds)) s1 ms) (let y : suc (first + k) ≡ first + (k + 1) = omega arith in y) b)
      (subst (λ w. AreNamed ms w ds m) (let y : suc (first + k) ≡ first + (k + 1) = omega arith in y) h.1) (λ x q. f x (further x q))
    where
      self : (x : List ℕ) → bytes_eq x x || declares ds x ≡ true
      self x = ap (λ b. b || declares ds x) (self-name x)

      further : (x : List ℕ) → declares ds x ≡ true → bytes_eq d.name x || declares ds x ≡ true
      further x q = by (bytes_eq d.name x)
        where
          by : (b : Bool) → b || declares ds x ≡ true
          by true = refl
          by false = q

  -- ---- what a body sees

  unseen-outputs : (Q : List ℕ → ℕ → Type 0) (ds : List Decl) (l : Layer) → ((x : List ℕ) → Q x low) → Says Q l → Says Q (put_outputs t ds l)
  unseen-outputs Q [] l f h = h
  unseen-outputs Q (d ∷ ds) l f h = unseen-outputs Q ds (add l d.name (unseen_entry (type_shape t d.ty))) f (says-add Q l d.name (unseen_entry (type_shape t d.ty)) h (f d.name))

  module _ (rank : TreePlace → ℕ) where
    body-says : {F : Frame} (n : Node) (inputs controls : ℕ) (context : Mark) (names : NameSources) (ms : Marks) (s : Sketch) → AreMarked F s ms → AreNamed ms inputs n.inputs (λ x. ground) → AreNamed ms controls (controls_of n.contract) (λ x. ground)
        → Says (LowAt rank ms context names) (body_layer t n inputs controls)
    body-says n inputs controls context names ms s a i c =
        let Q : List ℕ → ℕ → Type 0 = LowAt rank ms context names in
        let grounded : (x : List ℕ) (w : ℕ) → Has ms w ground → Q x w = λ x w h. ground-low ms w (around rank context (names x)) (low-own ms w ground h) in
        let l0 = put_row t (controls_of n.contract) controls [] in
        let first = says-row Q ms (λ x. ground) t controls 0 (controls_of n.contract) [] (λ x w d h. grounded x w h)
        (subst (λ w. AreNamed ms w (controls_of n.contract) (λ x. ground)) (let z : controls ≡ controls + 0 = omega arith in z) c) (λ x e q. absurd (none-some e q)) in
        let second = says-row Q ms (λ x. ground) t inputs 0 n.inputs l0 (λ x w d h. grounded x w h) (subst (λ w. AreNamed ms w n.inputs (λ x. ground)) (let z : inputs ≡ inputs + 0 = omega arith in z) i) first in
        unseen-outputs Q n.outputs (put_row t n.inputs inputs l0) (λ x. ground-low ms low (around rank context (names x)) a.low_is) second

    body-seen : {F : Frame} (z : Scope) (l : Layer) (context : Mark) (names : NameSources) (ms : Marks) (s : Sketch) → AreMarked F s ms → outer_layers z.values ≡ [] → Says (LowAt rank ms context names) l → ((x : List ℕ) → Low ms (last_in z x).wire context)
        → AreSeen rank ms (body_scope l z) context names
    unfolding value_in last_in push_values pop_values
    body-seen z l context names ms s a e h k = record { values = λ x. by x (entry_in l x) refl; lasts = k }
      where
        outside : (x : List ℕ) → found (outer_layers z.values) x ≡ None
        outside x = ap (λ ls. found ls x) e

        by : (x : List ℕ) (o : Option Entry) → entry_in l x ≡ o → Low ms (value_by (or_found o (found (outer_layers z.values) x))).wire (around rank context (names x))
        by x None q = subst (λ i. Low ms (value_by i).wire (around rank context (names x))) (sym (outside x)) (ground-low ms low (around rank context (names x)) a.low_is)
        by x (Some i) q = h x i q

-- ---- a node

inside-read : (b : Block) (names : NameSources) (k : PlaceSources) (x : List ℕ) → has_equation b x ≡ true → names_in_block b names k x ≡ k (Named x ∷ [])
inside-read (block ds es) names k x h = ap (λ i. if i then k (Named x ∷ []) else names x) h

-- ---- the scope of a body is typed

unseen-keep : (t : Told) (ds : List Decl) (l : Layer) (x : List ℕ) → Knows l x → Knows (put_outputs t ds l) x
unseen-keep t [] l x h = h
unseen-keep t (d ∷ ds) l x h = unseen-keep t ds (add l d.name (unseen_entry (type_shape t d.ty))) x (knows-add l d.name (unseen_entry (type_shape t d.ty)) x h)

unseen-known : (t : Told) (ds : List Decl) (l : Layer) (x : List ℕ) → declares ds x ≡ true → Knows (put_outputs t ds l) x
unseen-known t [] l x h = absurd cc
unseen-known t (d ∷ ds) l x h =
    let e = unseen_entry (type_shape t d.ty) in
    or-cases (bytes_eq d.name x) (declares ds x) h (λ q. unseen-keep t ds (add l d.name e) x (subst (Knows (add l d.name e)) (same-name d.name x q) (knows-added l d.name e))) (λ q. unseen-known t ds (add l d.name e) x q)

module _ (types : List TypeDecl) (among : List ℕ → Option Node) (t : Told) where
  unseen-typed : (g : TypeScope) (ds : List Decl) (l : Layer) → HaveOwnTypes types among g ds → entries.Says (IsOf types among t g no_lasts g) l → entries.Says (IsOf types among t g no_lasts g) (put_outputs t ds l)
  unseen-typed g [] l ok h = h
  unseen-typed g (d ∷ ds) l ok h =
      let e = unseen_entry (type_shape t d.ty) in
      unseen-typed g ds (add l d.name e) ok.1 (entries.says-add (IsOf types among t g no_lasts g) l d.name e h (of-type types among t g no_lasts g d.name d.ty e ok.0 (type-whole t d.ty)))

  body-typed : (spot : Place) (n : Node) (inputs outputs controls : ℕ) (s : Sketch) (g : TypeScope) → g.variables ≡ [] → HaveOwnTypes types among (typed_body g n) n.inputs → HaveOwnTypes types among (typed_body g n) n.outputs → HaveOwnTypes types among (typed_body g n) (controls_of n.contract)
      → AreTyped (typed_body g n) (lasts_in n.outputs no_lasts) (body_scope (body_layer t n inputs controls) (contract_scope t spot n inputs outputs s).0)
  unfolding contract_scope push_values push_lasts pop_values
  body-typed spot n inputs outputs controls s g alone own_in own_out own_controls =
      let i = typed_body g n in
      let l0 = put_row t (controls_of n.contract) controls [] in
      let l1 = put_row t n.inputs inputs l0 in
      let l = put_outputs t n.outputs l1 in
      let lasts = add_lasts t spot n.outputs (contract_layer t n inputs outputs) [] s in
      over-nothing types among t i n.outputs l lasts.0 own_out
      (unseen-typed i n.outputs l1 own_out (rows-typed types among t i inputs 0 n.inputs l0 own_in (rows-typed types among t i controls 0 (controls_of n.contract) [] own_controls (λ x e q. absurd (none-some e q)))))
      (λ x u h. elim (declared-in (inside_node g n) (controls_of n.contract) x u h) [
        | inl a ↦ unseen-keep t n.outputs l1 x (rows-keep t inputs 0 n.inputs l0 x (rows-known t controls 0 (controls_of n.contract) [] x a))
        | inr a ↦ elim (declared-in (with_variables g n.inputs) n.outputs x u a) [
          | inl c ↦ unseen-known t n.outputs l1 x c
          | inr c ↦ elim (declared-in g n.inputs x u c) [ inl e ↦ unseen-keep t n.outputs l1 x (rows-known t inputs 0 n.inputs l0 x e) | inr e ↦ absurd (none-alone g x u alone e) ]
        ]
      ])
      (lasts-typed types among t i no_lasts i spot n.outputs (contract_layer t n inputs outputs) [] s own_out (λ x e q. absurd (none-some e q))) (outputs-lasts types among t i spot n.outputs (contract_layer t n inputs outputs) s)

-- names are known inside as they are around
still-own : (types : List TypeDecl) (among : List ℕ → Option Node) (g : TypeScope) (b : Block) (ds : List Decl) → HaveOwnTypes types among g ds → HaveOwnTypes types among (inner_scope g b) ds
still-own types among g b [] h = tt
still-own types among g (block os es) (d ∷ ds) h = (still_known d.name os g d.ty h.0, still-own types among g (block os es) ds h.1)

module _ (types : List TypeDecl) (t : Told) (n : Node) (asked : NodeAsked types t n) where
  abbrev rank : TreePlace → ℕ
  rank = raised 0 asked.ranked.rank

  abbrev shown : NameSources
  shown = output_in n (below Body only)

  abbrev seen_inside : NameSources
  seen_inside = control_in (controls_of n.contract) (below Controls only)

  -- an output stands as high as its definition, and a step above
  abbrev outs : List ℕ → Mark
  outs x = around rank wide (shown x)

  output-read : (x : List ℕ) → declares n.outputs x ≡ true → shown x ≡ only (Body ∷ Named x ∷ [])
  output-read x d = ap (λ i. if i then only (Body ∷ Named x ∷ []) else none) (ap (λ i. i && has_equation n.body x) d ∙ asked.fits.outputs x d)

  brought : BringsMarked t contracts
  brought = contracts-marked types t asked.callees

  -- while a node is drawn its outputs may be open
  abbrev drawing : Frame
  drawing = later alone (RowLate t (next_wire empty) n.outputs)

  abbrev known_inside : Lasts
  known_inside = lasts_in n.outputs no_lasts

  -- what is assumed and enforced
  observed : (z : Scope) (S : AreTyped (inside_node asked.scope n) known_inside z) (s : Sketch) (ms : Marks) → IsAt rank z wide shown drawing ms s top_place
      → (ms' : Marks) × Grows ms ms' × AreMarked drawing (drawn_observer t z n.contract s).1 ms' × There ms' (drawn_observer t z n.contract s).0.assume × There ms' (drawn_observer t z n.contract s).0.enforce
  observed z S s ms at = by n.contract refl asked.fits.contract asked.contract_apart asked.sound.1.1.1.1.1
    where
      by : (o : Option Contract) → n.contract ≡ o → ContractFits t o → ContractApart o → ContractSound types asked.among (inside_node asked.scope n) known_inside o
          → (ms' : Marks) × Grows ms ms' × AreMarked drawing (drawn_observer t z o s).1 ms' × There ms' (drawn_observer t z o s).0.assume × There ms' (drawn_observer t z o s).0.enforce
      by None own fit apart ok = (ms, grows-none ms, at.marks, low-there ms high ground at.marks.high_is, low-there ms high ground at.marks.high_is)
      by (Some c) own fit apart ok =
          let r = asked.ranked in
          let inner = names_in_block c.body shown (below Observer only) in
          let falls : (p : TreePlace) → Within (λ q. r.rank q < r.rank p) (in_contract n.contract shown only p) → Within (λ q. r.rank q < r.rank p) (in_contract (Some c) shown only p) = λ p. subst (λ o. Within (λ q. r.rank q < r.rank p) (in_contract o shown only p)) own in
          contract-marked rank types asked.among t asked.known contracts brought (inside_node asked.scope n) known_inside drawing c z S wide shown only top_place s ms fit apart ok
          (λ p. within-top 0 r.rank (in_block c.body shown (below Observer only) p) (r.rank (Observer ∷ p)) (falls (Observer ∷ p) (r.falls (Observer ∷ p))))
          (λ p. within-top 0 r.rank (at_told c.assume inner (below Assume only) p) (r.rank (Assume ∷ p)) (falls (Assume ∷ p) (r.falls (Assume ∷ p))))
          (λ p. within-top 0 r.rank (at_told c.enforce inner (below Enforce only) p) (r.rank (Enforce ∷ p)) (falls (Enforce ∷ p) (r.falls (Enforce ∷ p)))) at

  -- the body, behind which the outputs are what it defines
  bodied : (z : Scope) (l : Layer) (S : AreTyped (typed_body asked.scope n) known_inside (body_scope l z)) (s : Sketch) (ms : Marks) → AreMarked drawing s ms → AreSeen rank ms (body_scope l z) narrow seen_inside → AreNamed ms (next_wire empty) n.outputs outs
      → Step alone ms (drawn_body t z l n (next_wire empty) s)
  bodied z l S s ms a seen named =
      behind (drawn_block t contracts (body_scope l z) top_place n.body s)
      (block-marked rank types asked.among t asked.known contracts brought n.body asked.fits.body asked.body_apart drawing (typed_body asked.scope n) known_inside (body_scope l z) S narrow seen_inside (below Body only) top_place s ms asked.sound.1.1.1.1.0
      (λ p. within-top 0 asked.ranked.rank (in_block n.body seen_inside (below Body only) p) (asked.ranked.rank (Body ∷ p)) (asked.ranked.falls (Body ∷ p)))
      (record { marks = a; placed = top-placed t s ms 0 a; seen = seen }))
    where
      behind : (d : Scope × Sketch) → Blocked rank drawing (typed_body asked.scope n) known_inside ms n.body narrow (names_in_block n.body seen_inside (below Body only)) d → Step alone ms (define_outputs d.0 n.outputs (next_wire empty) d.1)
      behind d u = (
        u.0,
        u.1,
        outputs-defined t alone types asked.among (inner_scope (typed_body asked.scope n) n.body) (lasts_of n.body known_inside) d.0 u.5 (next_wire empty) 0 n.outputs outs d.1 u.0 (still-own types asked.among (typed_body asked.scope n) n.body n.outputs asked.sound.1.0.1)
            (subst (λ w. AreMarked (later alone (RowLate t w n.outputs)) d.1 u.0) (let y : next_wire empty ≡ next_wire empty + 0 = omega arith in y) u.2)
            (subst (λ w. AreNamed u.0 w n.outputs outs) (let y : next_wire empty ≡ next_wire empty + 0 = omega arith in y) (named-grows ms u.0 u.1 (next_wire empty) n.outputs outs named)) (λ x q.
            let own = only (Body ∷ Named x ∷ []) in
            low-under u.0 (value_in d.0 x).wire (around rank narrow own) (outs x) (subst (λ m. Less (around rank narrow own) (around rank wide m)) (sym (output-read x q)) (inr (omega arith, omega arith)))
            (subst (λ m. Low u.0 (value_in d.0 x).wire (around rank narrow m)) (inside-read n.body seen_inside (below Body only) x (asked.fits.outputs x q)) (u.3.values x))),
      )

  -- the contract and the body, behind the wires of inputs, outputs and controllable variables
  rest-marked : (z : Scope) (inputs controls : ℕ) (S : AreTyped (inside_node asked.scope n) known_inside z) (inside_is : AreTyped (typed_body asked.scope n) known_inside (body_scope (body_layer t n inputs controls) z)) (s : Sketch) (ms : Marks) → outer_layers z.values ≡ []
      → AreMarked drawing s ms → AreSeen rank ms z wide shown → ((x : List ℕ) → Low ms (last_in z x).wire narrow)
      → AreNamed ms inputs n.inputs (λ x. ground) → AreNamed ms controls (controls_of n.contract) (λ x. ground) → AreNamed ms (next_wire empty) n.outputs outs
      → Step alone ms (let g = drawn_observer t z n.contract s in finish g.0.assume g.0.enforce (drawn_body t z (body_layer t n inputs controls) n (next_wire empty) g.1))
  rest-marked z inputs controls S inside_is s ms one_layer a seen lasts i c o =
      behind (drawn_observer t z n.contract s) (observed z S s ms (record { marks = a; placed = top-placed t s ms 1 a; seen = seen }))
    where
      behind : (g : Drawn × Sketch) → (ms' : Marks) × Grows ms ms' × AreMarked drawing g.1 ms' × There ms' g.0.assume × There ms' g.0.enforce
          → Step alone ms (finish g.0.assume g.0.enforce (drawn_body t z (body_layer t n inputs controls) n (next_wire empty) g.1))
      behind g u =
          let l = body_layer t n inputs controls in
          let says = body-says t rank n inputs controls narrow seen_inside u.0 g.1 u.2 (named-grows ms u.0 u.1 inputs n.inputs (λ x. ground) i) (named-grows ms u.0 u.1 controls (controls_of n.contract) (λ x. ground) c) in
          let inside = body-seen t rank z l narrow seen_inside u.0 g.1 u.2 one_layer says (λ x. low-grows ms u.0 u.1 (last_in z x).wire narrow (lasts x)) in
          let v = bodied z l inside_is g.1 u.0 u.2 inside (named-grows ms u.0 u.1 (next_wire empty) n.outputs outs o) in
          let w = finish-marked g.0.assume g.0.enforce (drawn_body t z l n (next_wire empty) g.1) v.0 v.2 (there-grows u.0 v.0 v.1 g.0.assume u.3) (there-grows u.0 v.0 v.1 g.0.enforce u.4) in
          (w.0, grows-both ms u.0 w.0 u.1 (grows-both u.0 v.0 w.0 v.1 w.1), w.2)

  -- behind outputs and inputs
  scope-marked : (s : Sketch) (ms : Marks) → s ≡ empty → AreMarked alone s ms
      → (ms' : Marks) × Grows ms ms' × AreMarked drawing (node_scope t n s).1 ms' × AreSeen rank ms' (node_scope t n s).0 wide shown × ((x : List ℕ) → Low ms' (last_in (node_scope t n s).0 x).wire narrow) × AreNamed ms' (next_wire (with_outputs t n s)) n.inputs (λ x. ground) × AreNamed ms' (next_wire s) n.outputs outs
  scope-marked s ms e a =
      let u = holes-marked t n.outputs s ms outs (λ k q. inr (subst (λ i. RowLate t (next_wire i) n.outputs k) e q)) (steps.weaken drawing.late s ms (λ k q. inl q) a) in
      let v = given-named t role.Input n.inputs (with_outputs t n s) u.0 u.2 in
      let o = named-grows u.0 v.0 v.1 (next_wire s) n.outputs outs u.3 in
      let w = contract-seen rank t top_place n (next_wire (with_outputs t n s)) (next_wire s) (with_inputs t n s) v.0 narrow wide shown (λ x. ground) outs (inr (omega arith, omega arith)) v.2 (top-placed t (with_inputs t n s) v.0 0 v.2) v.3 o
      (λ x d. ground-most (around rank wide (shown x))) (λ x d. most-same (around rank wide (shown x))) in
      (w.0, grows-both ms u.0 w.0 u.1 (grows-both u.0 v.0 w.0 v.1 w.1), w.2, w.3, w.4, named-grows v.0 w.0 w.1 (next_wire (with_outputs t n s)) n.inputs (λ x. ground) v.3, named-grows v.0 w.0 w.1 (next_wire s) n.outputs outs o)

  pub node-marked : (ms : Marks) × AreMarked alone (drawn_node t n) ms
  node-marked =
      let u = scope-marked empty (ground ∷ ground ∷ []) refl (empty-marked t) in
      let z = node_scope t n empty in
      let inputs = next_wire (with_outputs t n empty) in
      let v = given-named t role.Control (controls_of n.contract) z.1 u.0 u.2 in
      let s = with_controls t n z.1 in
      let S = contract-typed types asked.among t top_place n inputs (next_wire empty) (with_inputs t n empty) asked.scope asked.alone asked.sound.0.0 asked.sound.0.1 in
      let B = body-typed types asked.among t top_place n inputs (next_wire empty) (next_wire z.1) (with_inputs t n empty) asked.scope asked.alone asked.sound.1.0.0 asked.sound.1.0.1 asked.sound.1.1.0 in
      let w = rest-marked z.0 inputs (next_wire z.1) S B s v.0 (contract-alone t top_place n inputs (next_wire empty) (with_inputs t n empty)) v.2 (seen-grows rank z.0 wide shown u.0 v.0 v.1 u.3)
      (λ x. low-grows u.0 v.0 v.1 (last_in z.0 x).wire narrow (u.4 x)) (named-grows u.0 v.0 v.1 inputs n.inputs (λ x. ground) u.5) v.3 (named-grows u.0 v.0 v.1 (next_wire empty) n.outputs outs u.6) in
      (w.0, w.2)
