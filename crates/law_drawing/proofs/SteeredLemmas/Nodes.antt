-- What is drawn of a node, with marks.
use Rattle.std.proofs.Common.{◌≡◌, ℕ, suc, ◌+◌, ◌<◌, Bool, true, false, if◌then◌else◌, ◌&&◌, ◌||◌, List, [], ◌∷◌, length, Option, None, Some, refl, sym, ap, subst, ◌∙◌, inl, inr, arith}
use Rattle.std.specs.Str.{bytes_eq}
use Rattle.std.proofs.lemmas.Option.{none-some}
use Rattle.hp_tree.specs.Blocks.{Decl, Block, block}
use Rattle.hp_tree.specs.Instant.{Body, Controls, Observer, Assume, Enforce, Named, Head, Tail, Place as TreePlace}
use Rattle.hp_tree.specs.Meaning.{declares, controls_of}
use Rattle.hp_tree.specs.Programs.{Contract, Node}
use Rattle.hp_meaning.specs.Causal.Sources.{Sources, none, only, both, also, IsRead, NameSources, PlaceSources, below}
use Rattle.hp_meaning.specs.Causal.WhatIsRead.{names_in_block, control_in, has_equation, output_in, in_block, at_told, in_contract}
use Rattle.hp_meaning.specs.Causal.Causality.{sources}
use Rattle.hp_circuit.specs.declared.circuit.Role.TheVariants as role
use Rattle.hp_circuit.specs.Forms.{slot_at}
use Rattle.hp_circuit.specs.Reading.{edges_of, IsSteered}
use Rattle.hp_drawing.specs.declared.parts.Entry.{Entry}
use Rattle.hp_drawing.specs.declared.parts.Place.{Place}
use Rattle.hp_drawing.specs.Told.{Told, type_shape}
use Rattle.hp_drawing.specs.Sketch.{Sketch, low, high, push, hole, given, next_wire, add_clock, define, finish, nothing, begun, empty}
use Rattle.hp_drawing.specs.Places.{top_place}
use Rattle.hp_drawing.specs.Scopes.{Scope, Layer, unseen_entry, entry_in, add, or_found, found, value_by, outer_layers, value_in, last_in, push_values, push_lasts, pop_values}
use Rattle.hp_drawing.specs.DrawnExpressions.{add_holes}
use Rattle.hp_drawing.specs.DrawnBlocks.{drawn_block}
use Rattle.hp_drawing.specs.DrawnNodes.{contract_scope, put_row, put_outputs, body_layer, body_scope, contracts, Observer as Drawn, add_given, define_from, define_outputs, drawn_observer, drawn_body, with_outputs, with_inputs, with_controls, node_scope, drawn_node}
use Rattle.law_drawing.proofs.CarryingLemmas.Layers.{self-name}
use Rattle.law_drawing.specs.Steered.Marks.{Steering, Marks, Grows, Has, Leads, Low, AreMarked, IsPlaced}
use Rattle.law_drawing.specs.Steered.Placed.{contracts_held, BlockPlaced}
use Rattle.law_drawing.specs.Steered.Asked.{AreSeen, BringsMarked, ContractFits}
use Rattle.law_drawing.specs.Steered.Nodes.{Depends, steering_of, NodeFits, ObserverPlaced, NodePlaced}
use Rattle.law_drawing.proofs.SteeredLemmas.Steps.{grows-none, grows-both, has-grows, low-grows, there-grows, low-up, low-there, low-own, Made, Step, hole-marked, define-marked}
use Rattle.law_drawing.proofs.SteeredLemmas.Parts.{given-marked, given-control-marked}
use Rattle.law_drawing.proofs.SteeredLemmas.Rows.{hole-number, hole-next, given-number, given-next-number}
use Rattle.law_drawing.proofs.SteeredLemmas.Values.{IsAt, seen-grows}
use Rattle.law_drawing.proofs.SteeredLemmas.Bodies.{Blocked}
use Rattle.law_drawing.proofs.SteeredLemmas.Blocks.{block-marked}
use Rattle.law_drawing.proofs.SteeredLemmas.Steered.{leads, free-leads}
use Rattle.law_drawing.proofs.SteeredLemmas.Contracts.{AreNamed, named-grows, Says, says-add, says-row, finish-marked, LowAt, Observed, contract-seen, contract-marked, contracts-marked}
use Rattle.law_drawing.proofs.SteeredLemmas.Assumed.{told_reads, assumption-place, finish-assume}

-- ---- the scope of a body has one layer

contract-alone : (t : Told) (spot : Place) (n : Node) (inputs outputs : ℕ) (s : Sketch) → outer_layers (contract_scope t spot n inputs outputs s).0.values ≡ []
unfolding contract_scope push_values push_lasts
contract-alone t spot n inputs outputs s = refl

module _ (steers : Steering) (t : Told) where
  -- ---- rows of wires

  holes-named : (ds : List Decl) (m : NameSources) (s : Sketch) (ms : Marks) → AreMarked steers s ms → (ms' : Marks) × Grows ms ms' × AreMarked steers (add_holes t ds s) ms' × AreNamed ms' (next_wire s) ds m
  holes-named [] m s ms a = (ms, grows-none ms, a, tt)
  holes-named (d ∷ ds) m s ms a =
      let p = type_shape t d.ty in
      let h = hole-marked steers p s ms (m d.name) a in
      let more = holes-named ds m (hole p s).1 h.0 h.2 in
      (more.0, grows-both ms h.0 more.0 h.1 more.1, more.2, (subst (λ w. Has more.0 w (m d.name)) (hole-number p s) (has-grows h.0 more.0 more.1 (hole p s).0 (m d.name) h.3), subst (λ w. AreNamed more.0 w ds m) (hole-next p s) more.3))

  inputs-named : (ds : List Decl) (s : Sketch) (ms : Marks) → AreMarked steers s ms → (ms' : Marks) × Grows ms ms' × AreMarked steers (add_given t role.Input ds s) ms' × AreNamed ms' (next_wire s) ds (λ x. none)
  inputs-named [] s ms a = (ms, grows-none ms, a, tt)
  inputs-named (d ∷ ds) s ms a =
      let p = type_shape t d.ty in
      let h = given-marked steers role.Input p s ms none a (λ e. tt) in
      let more = inputs-named ds (given role.Input p s).1 h.0 h.2 in (
        more.0,
        grows-both ms h.0 more.0 h.1 more.1,
        more.2,
        (subst (λ w. Has more.0 w none) (given-number role.Input p s) (has-grows h.0 more.0 more.1 (given role.Input p s).0 none h.3), subst (λ w. AreNamed more.0 w ds (λ x. none)) (given-next-number role.Input p s) more.3),
      )

  controls-named : (ds : List Decl) (m : Sources) (s : Sketch) (ms : Marks) → Leads steers m → AreMarked steers s ms → (ms' : Marks) × Grows ms ms' × AreMarked steers (add_given t role.Control ds s) ms' × AreNamed ms' (next_wire s) ds (λ x. m)
  controls-named [] m s ms l a = (ms, grows-none ms, a, tt)
  controls-named (d ∷ ds) m s ms l a =
      let p = type_shape t d.ty in
      let h = given-control-marked steers p s ms m a l in
      let more = controls-named ds m (given role.Control p s).1 h.0 l h.2 in (
        more.0,
        grows-both ms h.0 more.0 h.1 more.1,
        more.2,
        (subst (λ w. Has more.0 w m) (given-number role.Control p s) (has-grows h.0 more.0 more.1 (given role.Control p s).0 m h.3), subst (λ w. AreNamed more.0 w ds (λ x. m)) (given-next-number role.Control p s) more.3),
      )

  -- ---- at first

  empty-marked : AreMarked steers empty (none ∷ none ∷ [])
  unfolding empty begun push add_clock nothing
  empty-marked = record {
    wires = (tt, (tt, tt));
    reads = tt;
    slots = tt;
    clocks = (record { mark = none; has = refl }, tt);
    low_is = record { mark = none; has = refl; leads = λ l. l };
    high_is = record { mark = none; has = refl; leads = λ l. l };
    hyp_is = record { mark = none; has = refl };
    duty_is = record { mark = none; has = refl };
  }

  top-placed : (s : Sketch) (ms : Marks) → AreMarked steers s ms → IsPlaced steers ms top_place none
  top-placed s ms a = record { cut = a.low_is; here = low-there steers ms high none a.high_is; kept = low-there steers ms low none a.low_is }

  -- ---- outputs are what the body defines

  outputs-defined : (z : Scope) (first k : ℕ) (ds : List Decl) (m : NameSources) (s : Sketch) (ms : Marks) → AreMarked steers s ms → AreNamed ms (first + k) ds m → ((x : List ℕ) → declares ds x ≡ true → Low steers ms (value_in z x).wire (m x)) → AreMarked steers (define_from z first k ds s) ms
  outputs-defined z first k [] m s ms a h f = a
  outputs-defined z first k (d ∷ ds) m s ms a h f =
      outputs-defined z first (k + 1) ds m (define (first + k) (value_in z d.name) s) ms (define-marked steers (first + k) (value_in z d.name) s ms (m d.name) a h.0 (f d.name (self d.name)))
      (subst (λ w. AreNamed ms w ds m) (let z : suc (first + k) ≡ first + (k + 1) = omega arith in z) h.1) (λ x q. f x (further x q))
    where
      self : (x : List ℕ) → bytes_eq x x || declares ds x ≡ true
      self x = ap (λ b. b || declares ds x) (self-name x)

      further : (x : List ℕ) → declares ds x ≡ true → bytes_eq d.name x || declares ds x ≡ true
      further x q = by (bytes_eq d.name x)
        where
          by : (b : Bool) → b || declares ds x ≡ true
          by true = refl
          by false = q

  -- ---- what a body sees

  control-found : (ds : List Decl) (k : PlaceSources) (x : List ℕ) → ((p : TreePlace) → Leads steers (k p)) → declares ds x ≡ true → Leads steers (control_in ds k x)
  control-found [] k x f h = absurd cc
  control-found (d ∷ ds) k x f h = by (bytes_eq d.name x) h (control-found ds (below Tail k) x (λ p. f (Tail ∷ p)))
    where
      by : (b : Bool) → b || declares ds x ≡ true → (declares ds x ≡ true → Leads steers (control_in ds (below Tail k) x)) → Leads steers (if b then k (Head ∷ []) else control_in ds (below Tail k) x)
      by true q more = f (Head ∷ [])
      by false q more = more q

  unseen-outputs : (Q : List ℕ → ℕ → Type 0) (ds : List Decl) (l : Layer) → ((x : List ℕ) → Q x low) → Says Q l → Says Q (put_outputs t ds l)
  unseen-outputs Q [] l f h = h
  unseen-outputs Q (d ∷ ds) l f h = unseen-outputs Q ds (add l d.name (unseen_entry (type_shape t d.ty))) f (says-add Q l d.name (unseen_entry (type_shape t d.ty)) h (f d.name))

  body-says : (n : Node) (inputs controls : ℕ) (control : Sources) (ms : Marks) (s : Sketch) → AreMarked steers s ms → ((p : TreePlace) → Leads steers (only (Controls ∷ p))) → AreNamed ms inputs n.inputs (λ x. none) → AreNamed ms controls (controls_of n.contract) (λ x. control)
      → Says (LowAt steers ms none (control_in (controls_of n.contract) (below Controls only))) (body_layer t n inputs controls)
  body-says n inputs controls control ms s a f i c =
      let names = control_in (controls_of n.contract) (below Controls only) in
      let Q : List ℕ → ℕ → Type 0 = LowAt steers ms none names in
      let l0 = put_row t (controls_of n.contract) controls [] in
      let first = says-row Q ms (λ x. control) t controls 0 (controls_of n.contract) [] (λ x w d h. low-up steers ms w control (both none (names x)) (λ l. inr (control-found (controls_of n.contract) (below Controls only) x f d)) (low-own steers ms w control h))
      (subst (λ w. AreNamed ms w (controls_of n.contract) (λ x. control)) (let z : controls ≡ controls + 0 = omega arith in z) c) (λ x e q. absurd (none-some e q)) in
      let second = says-row Q ms (λ x. none) t inputs 0 n.inputs l0 (λ x w d h. low-up steers ms w none (both none (names x)) (λ l. absurd l) (low-own steers ms w none h)) (subst (λ w. AreNamed ms w n.inputs (λ x. none)) (let z : inputs ≡ inputs + 0 = omega arith in z) i) first in
      unseen-outputs Q n.outputs (put_row t n.inputs inputs l0) (λ x. low-up steers ms low none (both none (names x)) (λ l. absurd l) a.low_is) second

  body-seen : (z : Scope) (l : Layer) (context : Sources) (names : NameSources) (ms : Marks) (s : Sketch) → AreMarked steers s ms → outer_layers z.values ≡ [] → Says (LowAt steers ms context names) l → ((x : List ℕ) → Low steers ms (last_in z x).wire context)
      → AreSeen steers ms (body_scope l z) context names
  unfolding value_in last_in push_values pop_values
  body-seen z l context names ms s a e h k = record { values = λ x. by x (entry_in l x) refl; lasts = k }
    where
      outside : (x : List ℕ) → found (outer_layers z.values) x ≡ None
      outside x = ap (λ ls. found ls x) e

      by : (x : List ℕ) (o : Option Entry) → entry_in l x ≡ o → Low steers ms (value_by (or_found o (found (outer_layers z.values) x))).wire (both context (names x))
      by x None q = subst (λ i. Low steers ms (value_by i).wire (both context (names x))) (sym (outside x)) (low-up steers ms low none (both context (names x)) (λ l. absurd l) a.low_is)
      by x (Some i) q = h x i q

-- ---- a node

inside-read : (b : Block) (names : NameSources) (k : PlaceSources) (x : List ℕ) → has_equation b x ≡ true → names_in_block b names k x ≡ k (Named x ∷ [])
inside-read (block ds es) names k x h = ap (λ i. if i then k (Named x ∷ []) else names x) h

module _ (steers : Steering) (t : Told) (n : Node) (fits : NodeFits t n) (closed : (p : TreePlace) → Leads steers (sources n p) → steers.places p) (controlled : (q : TreePlace) → steers.places (Controls ∷ q)) where
  abbrev shown : NameSources
  shown = output_in n (below Body only)

  abbrev seen_inside : NameSources
  seen_inside = control_in (controls_of n.contract) (below Controls only)

  output-read : (x : List ℕ) → declares n.outputs x ≡ true → shown x ≡ only (Body ∷ Named x ∷ [])
  output-read x d = ap (λ i. if i then only (Body ∷ Named x ∷ []) else none) (ap (λ i. i && has_equation n.body x) d ∙ fits.outputs x d)

  brought : (context : Sources) → BringsMarked steers t contracts (contracts_held steers t) context
  brought context = contracts-marked steers t fits.callees context

  alone : (s : Sources) (p : TreePlace) → (Leads steers s → steers.places p) → Leads steers (both none s) → Leads steers (only p)
  alone s p f (inl l) = absurd l
  alone s p f (inr l) = f l

  -- what is assumed and enforced
  observed : (z : Scope) (s : Sketch) (ms : Marks) → ObserverPlaced steers t z n.contract s → IsAt steers z none shown ms s top_place → Observed steers ms (only (Assume ∷ [])) (drawn_observer t z n.contract s)
  observed z s ms placed at = by n.contract fits.contract (λ p. closed (Observer ∷ p)) (λ p. closed (Assume ∷ p)) (λ p. closed (Enforce ∷ p)) placed
    where
      by : (o : Option Contract) → ContractFits t o → ((p : TreePlace) → Leads steers (in_contract o shown only (Observer ∷ p)) → steers.places (Observer ∷ p)) → ((p : TreePlace) → Leads steers (in_contract o shown only (Assume ∷ p)) → steers.places (Assume ∷ p))
          → ((p : TreePlace) → Leads steers (in_contract o shown only (Enforce ∷ p)) → steers.places (Enforce ∷ p)) → ObserverPlaced steers t z o s → Observed steers ms (only (Assume ∷ [])) (drawn_observer t z o s)
      by None fit f g h placed = (ms, grows-none ms, at.marks, low-up steers ms high none (only (Assume ∷ [])) (λ l. absurd l) at.marks.high_is, low-there steers ms high none at.marks.high_is)
      by (Some c) fit f g h placed =
          let inner = names_in_block c.body shown (below Observer only) in
          let u = contract-marked steers t contracts (contracts_held steers t) brought c z none shown only top_place s ms fit (λ p. alone (in_block c.body shown (below Observer only) p) (Observer ∷ p) (f p)) (λ p. alone (at_told c.assume inner (below Assume only) p) (Assume ∷ p) (g p))
          (λ p. alone (at_told c.enforce inner (below Enforce only) p) (Enforce ∷ p) (h p)) placed at in
          let reads = both none (told_reads c.assume inner (below Assume only)) in
          (u.0, u.1, u.2, low-up steers u.0 (drawn_observer t z (Some c) s).0.assume reads (only (Assume ∷ [])) (λ l. elim l [ inl i ↦ absurd i | inr i ↦ elim (assumption-place steers (Some c) shown i) [ inl j ↦ g [] j | inr j ↦ j ] ]) u.3, u.4)

  -- the body, behind which the outputs are what it defines
  bodied : (z : Scope) (l : Layer) (outputs : ℕ) (s : Sketch) (ms : Marks) → BlockPlaced steers t contracts (contracts_held steers t) (body_scope l z) top_place n.body (below Body only) s → AreMarked steers s ms → AreSeen steers ms (body_scope l z) none seen_inside
      → AreNamed ms outputs n.outputs shown → Step steers ms (drawn_body t z l n outputs s)
  bodied z l outputs s ms placed a seen named =
      behind (drawn_block t contracts (body_scope l z) top_place n.body s)
      (block-marked steers t contracts (contracts_held steers t) brought n.body fits.body (body_scope l z) none seen_inside (below Body only) top_place s ms (λ p. alone (in_block n.body seen_inside (below Body only) p) (Body ∷ p) (closed (Body ∷ p))) placed
      (record { marks = a; placed = top-placed steers t s ms a; seen = seen }))
    where
      behind : (d : Scope × Sketch) → Blocked steers ms n.body none (names_in_block n.body seen_inside (below Body only)) d → Step steers ms (define_outputs d.0 n.outputs outputs d.1)
      behind d u = (
        u.0,
        u.1,
        outputs-defined steers t d.0 outputs 0 n.outputs shown d.1 u.0 u.2 (subst (λ w. AreNamed u.0 w n.outputs shown) (let z : outputs ≡ outputs + 0 = omega arith in z) (named-grows ms u.0 u.1 outputs n.outputs shown named)) (λ x q. low-up steers u.0 (value_in d.0 x).wire
            (both none (only (Body ∷ Named x ∷ []))) (shown x) (λ l. subst (Leads steers) (sym (output-read x q)) (elim l [ inl i ↦ absurd i | inr i ↦ i ]))
            (subst (λ m. Low steers u.0 (value_in d.0 x).wire (both none m)) (inside-read n.body seen_inside (below Body only) x (fits.outputs x q)) (u.3.values x))),
      )

  -- the contract and the body, behind the wires of inputs, outputs and controllable variables
  rest-marked : (z : Scope) (inputs controls outputs : ℕ) (s : Sketch) (ms : Marks) → ObserverPlaced steers t z n.contract s
      → (let g = drawn_observer t z n.contract s in BlockPlaced steers t contracts (contracts_held steers t) (body_scope (body_layer t n inputs controls) z) top_place n.body (below Body only) g.1) → outer_layers z.values ≡ [] → AreMarked steers s ms → AreSeen steers ms z none shown
      → AreNamed ms inputs n.inputs (λ x. none) → AreNamed ms controls (controls_of n.contract) (λ x. only (Controls ∷ [])) → AreNamed ms outputs n.outputs shown
      → (let g = drawn_observer t z n.contract s in Made steers ms (only (Assume ∷ [])) (g.0.assume, finish g.0.assume g.0.enforce (drawn_body t z (body_layer t n inputs controls) n outputs g.1)))
  rest-marked z inputs controls outputs s ms observer_placed body_placed one_layer a seen i c o =
      behind (drawn_observer t z n.contract s) body_placed (observed z s ms observer_placed (record { marks = a; placed = top-placed steers t s ms a; seen = seen }))
    where
      l : Layer
      l = body_layer t n inputs controls

      behind : (g : Drawn × Sketch) → BlockPlaced steers t contracts (contracts_held steers t) (body_scope l z) top_place n.body (below Body only) g.1 → Observed steers ms (only (Assume ∷ [])) g
          → Made steers ms (only (Assume ∷ [])) (g.0.assume, finish g.0.assume g.0.enforce (drawn_body t z l n outputs g.1))
      behind g placed u =
          let says = body-says steers t n inputs controls (only (Controls ∷ [])) u.0 g.1 u.2 (λ p. controlled p) (named-grows ms u.0 u.1 inputs n.inputs (λ x. none) i) (named-grows ms u.0 u.1 controls (controls_of n.contract) (λ x. only (Controls ∷ [])) c) in
          let inside = body-seen steers t z l none seen_inside u.0 g.1 u.2 one_layer says (λ x. low-grows steers ms u.0 u.1 (last_in z x).wire none (seen.lasts x)) in
          let v = bodied z l outputs g.1 u.0 placed u.2 inside (named-grows ms u.0 u.1 outputs n.outputs shown o) in
          let w = finish-marked steers g.0.assume g.0.enforce (drawn_body t z l n outputs g.1) v.0 v.2 (low-there steers v.0 g.0.assume (only (Assume ∷ [])) (low-grows steers u.0 v.0 v.1 g.0.assume (only (Assume ∷ [])) u.3)) (there-grows steers u.0 v.0 v.1 g.0.enforce u.4) in
          (w.0, grows-both ms u.0 w.0 u.1 (grows-both u.0 v.0 w.0 v.1 w.1), w.2, low-grows steers v.0 w.0 w.1 g.0.assume (only (Assume ∷ [])) (low-grows steers u.0 v.0 v.1 g.0.assume (only (Assume ∷ [])) u.3))

  -- behind outputs and inputs
  scope-marked : (s : Sketch) (ms : Marks) → AreMarked steers s ms
      → (ms' : Marks) × Grows ms ms' × AreMarked steers (node_scope t n s).1 ms' × AreSeen steers ms' (node_scope t n s).0 none shown × AreNamed ms' (next_wire (with_outputs t n s)) n.inputs (λ x. none) × AreNamed ms' (next_wire s) n.outputs shown
  scope-marked s ms a =
      let u = holes-named steers t n.outputs shown s ms a in
      let v = inputs-named steers t n.inputs (with_outputs t n s) u.0 u.2 in
      let o = named-grows u.0 v.0 v.1 (next_wire s) n.outputs shown u.3 in
      let w = contract-seen steers t top_place n (next_wire (with_outputs t n s)) (next_wire s) (with_inputs t n s) v.0 none shown (λ x. none) shown v.2 (top-placed steers t (with_inputs t n s) v.0 v.2) v.3 o (λ x d l. absurd l) (λ x d l. inr l) in
      (w.0, grows-both ms u.0 w.0 u.1 (grows-both u.0 v.0 w.0 v.1 w.1), w.2, w.3, named-grows v.0 w.0 w.1 (next_wire (with_outputs t n s)) n.inputs (λ x. none) v.3, named-grows v.0 w.0 w.1 (next_wire s) n.outputs shown o)

  pub node-marked : NodePlaced steers t n → (ms : Marks) × AreMarked steers (drawn_node t n) ms × Low steers ms (drawn_node t n).assume (only (Assume ∷ []))
  node-marked placed =
      let u = scope-marked empty (none ∷ none ∷ []) (empty-marked steers t) in
      let z = node_scope t n empty in
      let v = controls-named steers t (controls_of n.contract) (only (Controls ∷ [])) z.1 u.0 (controlled []) u.2 in
      let s = with_controls t n z.1 in
      let w = rest-marked z.0 (next_wire (with_outputs t n empty)) (next_wire z.1) (next_wire empty) s v.0 placed.0 placed.1 (contract-alone t top_place n (next_wire (with_outputs t n empty)) (next_wire empty) (with_inputs t n empty)) v.2 (seen-grows steers z.0 none shown u.0 v.0 v.1 u.3)
      (named-grows u.0 v.0 v.1 (next_wire (with_outputs t n empty)) n.inputs (λ x. none) u.4) v.3 (named-grows u.0 v.0 v.1 (next_wire empty) n.outputs shown u.5) in
      let g = drawn_observer t z.0 n.contract s in
      let e = finish-assume g.0.assume g.0.enforce (drawn_body t z.0 (body_layer t n (next_wire (with_outputs t n empty)) (next_wire z.1)) n (next_wire empty) g.1) in
      (w.0, w.2, subst (λ a. Low steers w.0 a (only (Assume ∷ []))) (sym e) w.3)

-- ---- chains of reads

-- one of those that are read leads
read-leads : (steers : Steering) (s : Sources) → Leads steers s → (p : TreePlace) × IsRead p s × steers.places p
read-leads steers none l = absurd l
read-leads steers (only p) l = (p, refl, l)
read-leads steers (both s t) (inl l) = let r = read-leads steers s l in (r.0, inl r.1, r.2)
read-leads steers (both s t) (inr l) = let r = read-leads steers t l in (r.0, inr r.1, r.2)
read-leads steers (also s) l = absurd l

depends-closed : (n : Node) (place : ℕ → TreePlace) (p : TreePlace) → Leads (steering_of n place) (sources n p) → Depends n p
depends-closed n place p l = let r = read-leads (steering_of n place) (sources n p) l in by r.0 r.1 r.2
  where
    by : (q : TreePlace) → IsRead q (sources n p) → Depends n q → Depends n p
    by q h (inl c) = inr ([], c.0, subst (λ i. IsRead i (sources n p)) c.1 h)
    by q h (inr c) = inr (q ∷ c.0, c.1, (h, c.2))

pub free-depends : (t : Told) (n : Node) (place : ℕ → TreePlace) → NodeFits t n → NodePlaced (steering_of n place) t n
    → let s = drawn_node t n in
    (i : ℕ) → i < length s.slots → (early : Bool) → (slot_at s.slots i).role ≡ role.Free early → IsSteered s.slots (edges_of s.wires s.reads) (slot_at s.slots i).wire → Depends n (place i)
free-depends t n place fits placed i l early e from =
    let steers = steering_of n place in
    let u = node-marked steers t n fits (depends-closed n place) (λ q. inl (q, refl)) placed in
    free-leads steers (drawn_node t n) u.0 u.1 i l early e from

-- and so does that of the assumption
pub assumption-depends : (t : Told) (n : Node) (place : ℕ → TreePlace) → NodeFits t n → NodePlaced (steering_of n place) t n → let s = drawn_node t n in IsSteered s.slots (edges_of s.wires s.reads) s.assume → Depends n (Assume ∷ [])
assumption-depends t n place fits placed from =
    let steers = steering_of n place in
    let u = node-marked steers t n fits (depends-closed n place) (λ q. inl (q, refl)) placed in
    u.2.leads (leads steers (drawn_node t n) u.0 u.1 (drawn_node t n).assume from u.2.mark u.2.has)
