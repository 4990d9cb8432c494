-- What is drawn of a node reads all that its places read, so a place that depends on a controllable variable has a wire that reads one.
use Rattle.std.proofs.Common.{◌≡◌, ℕ, ◌+◌, ◌<◌, Bool, true, false, if◌then◌else◌, ◌||◌, ◌&&◌, List, [], ◌∷◌, length, reverse, Option, None, Some, refl, sym, ap, subst, ◌∙◌, inl, inr, arith}
use Rattle.std.specs.Prelude.{◌⊎◌}
use Rattle.std.specs.Str.{bytes_eq}
use Rattle.std.proofs.lemmas.Option.{none-some}
use Rattle.hp_tree.specs.declared.program.Item.{Item}
use Rattle.hp_tree.specs.Blocks.{Decl, Block, block}
use Rattle.hp_tree.specs.Instant.{Body, Controls, Assume, Named, Head, Tail, Place}
use Rattle.hp_tree.specs.Meaning.{declares, controls_of, node_among}
use Rattle.hp_tree.specs.Programs.{Contract, Node}
use Rattle.hp_meaning.specs.Causal.Sources.{Sources, none, only, both, also, IsRead, NameSources, PlaceSources, below}
use Rattle.hp_meaning.specs.Causal.WhatIsRead.{control_in, output_in, has_equation}
use Rattle.hp_meaning.specs.Causal.Causality.{Chain, sources}
use Rattle.hp_circuit.specs.declared.circuit.Role.TheVariants as role
use Rattle.hp_circuit.specs.Forms.{slot_at}
use Rattle.hp_meaning.specs.Contract.Forgetting.{ContractsCallNothing}
use Rattle.hp_meaning.specs.Contract.FreePlaces.{FreeClocks, by_step, free_in_block, free_in_contract, own_free}
use Rattle.hp_circuit.specs.declared.circuit.Role.{Role}
use Rattle.hp_drawing.specs.Told.{Told, type_shape}
use Rattle.hp_drawing.specs.Sketch.{Sketch, next_wire, nothing, begun, push, add_clock, empty}
use Rattle.hp_drawing.specs.Places.{top_place}
use Rattle.hp_drawing.specs.Scopes.{Scope, Layer, entry_in, or_found, found, entry_at, value_by, value_in, push_values, push_lasts, pop_values}
use Rattle.hp_drawing.specs.DrawnBlocks.{drawn_block}
use Rattle.law_drawing.specs.Steered.Marks.{Leads}
use Rattle.hp_drawing.specs.DrawnNodes.{Observer as Drawn, contract_scope, contract_layer, put_row, body_layer, body_scope, contracts, drawn_observer, define_from, with_outputs, with_inputs, with_controls, add_given, add_one_given, node_scope, drawn_node}
use Rattle.law_drawing.specs.Steered.Laid.{slot_place}
use Rattle.law_drawing.specs.Steered.Nodes.{Depends, NodeFits, NodePlaced}
use Rattle.law_drawing.specs.Steered.Placed.{contracts_held}
use Rattle.law_drawing.proofs.SteeredLemmas.Assumed.{assumption-value, finish-assume}
use Rattle.law_drawing.proofs.EarlyLemmas.Running.{IsHeld, holes-run, given-runs, scope-runs, from-runs, finish-runs}
use Rattle.law_drawing.proofs.EarlyLemmas.Walk.{standing}
use Rattle.law_drawing.proofs.EarlyLemmas.Nodes.{node-flagged, node-lies, node-frees, rest-goes}
use Rattle.law_drawing.specs.Reached.Reached.{NodeReads, ReachedLaw, AssumptionReachedLaw}
use Rattle.law_drawing.proofs.ReachedLemmas.Closed.{Closed, none-runs, both-run, running, running-told}
use Rattle.law_drawing.proofs.ReachedLemmas.Final.{Steered, steered-closed, control-steered, early-at}
use Rattle.law_drawing.proofs.ReachedLemmas.Wires.{BlockWires}
use Rattle.law_drawing.proofs.ReachedLemmas.Scopes.{pushed-value}
use Rattle.law_drawing.proofs.ReachedLemmas.Expressions.{leading, L, Early, R, SlotsRight, NamesLead, BringsRun}
use Rattle.law_drawing.proofs.ReachedLemmas.Wholes.{whole-block}
use Rattle.law_drawing.proofs.ReachedLemmas.Blocks.{BlockDone}
use Rattle.law_drawing.proofs.ReachedLemmas.Contracts.{ObserverWires, ObserverDone, contracts-run, observer-done}
use Rattle.law_drawing.proofs.ReachedLemmas.Rows.{row-keeps, outputs-keep, row-lacks, output-at, control-at}

-- ---- what is read

-- a place that is read, and leads
read-lead : (T : Place → Type 0) (s : Sources) (p : Place) → IsRead p s → T p → Leads (leading T) s
read-lead T none p h k = absurd h
read-lead T (only q) p h k = subst T h k
read-lead T (both s u) p (inl h) k = inl (read-lead T s p h k)
read-lead T (both s u) p (inr h) k = inr (read-lead T u p h k)
read-lead T (also s) p h k = absurd h

control-declared : (T : Place → Type 0) (ds : List Decl) (k : PlaceSources) (x : List ℕ) → Leads (leading T) (control_in ds k x) → declares ds x ≡ true
control-declared T [] k x l = absurd l
control-declared T (d ∷ ds) k x l = by (bytes_eq d.name x) l (control-declared T ds (below Tail k) x)
  where
    by : (b : Bool) → Leads (leading T) (if b then k (Head ∷ []) else control_in ds (below Tail k) x) → (Leads (leading T) (control_in ds (below Tail k) x) → declares ds x ≡ true) → b || declares ds x ≡ true
    by true l more = refl
    by false l more = more l

shown-output : (a b : Bool) (T : Place → Type 0) (p : Place) → Leads (leading T) (if a && b then only p else none) → (a ≡ true) × T p
shown-output true true T p l = (refl, l)
shown-output true false T p l = absurd l
shown-output false b T p l = absurd l

-- a controllable variable is no free place
controls-free : (body : FreeClocks) (o : Option Contract) (q : Place) → by_step ((Body, body) ∷ free_in_contract o) (Controls ∷ q) ≡ None
controls-free body None q = refl
controls-free body (Some c) q = refl

-- ---- scopes

scope-value : (t : Told) (n : Node) (inputs outputs : ℕ) (s : Sketch) (x : List ℕ) → value_in (contract_scope t top_place n inputs outputs s).0 x ≡ value_by (or_found (entry_in (contract_layer t n inputs outputs) x) None)
unfolding contract_scope push_values push_lasts value_in
scope-value t n inputs outputs s x = refl

block-wire : (S : ℕ → Type 0) (t : Told) (z : Scope) (c : Block) (s : Sketch) (x : List ℕ) → BlockWires S t contracts z top_place c s (Named x ∷ []) → S (value_in (drawn_block t contracts z top_place c s).0 x).wire
block-wire S t z (block ds es) s x k = k

no-slots : (S : ℕ → Type 0) (T : Place → Type 0) (n : Node) (place : ℕ → Place) → SlotsRight S T n place empty
unfolding empty begun push add_clock nothing
no-slots S T n place = tt

observer-others : (S : ℕ → Type 0) (t : Told) (z : Scope) (o : Option Contract) (s : Sketch) → ((p : Place) → ObserverWires S t z o s (Body ∷ p)) × ((p : Place) → ObserverWires S t z o s (Controls ∷ p)) × ((x : List ℕ) (p : Place) → ObserverWires S t z o s (Named x ∷ p))
observer-others S t z None s = (λ p. tt, λ p. tt, λ x p. tt)
observer-others S t z (Some c) s = (λ p. tt, λ p. tt, λ x p. tt)

never : {X : Type 0} → ⊥ ⊎ X → X
never (inl c) = absurd c
never (inr x) = x

module _ (program : List Item) (t : Told) (n : Node) (known : (f : List ℕ) → t.nodes f ≡ node_among (reverse program) f) (nothing_called : ContractsCallNothing program) (fits : NodeFits t n) (filled : NodeReads t n) where
  abbrev place : ℕ → Place
  place i = slot_place program n i

  -- ---- what is drawn, step by step

  abbrev outs : Sketch
  outs = with_outputs t n empty

  abbrev ins : Sketch
  ins = with_inputs t n empty

  abbrev z : Scope × Sketch
  z = node_scope t n empty

  abbrev s : Sketch
  s = with_controls t n z.1

  abbrev g : Drawn × Sketch
  g = drawn_observer t z.0 n.contract s

  abbrev l : Layer
  l = body_layer t n (next_wire outs) (next_wire z.1)

  abbrev y : Scope
  y = body_scope l z.0

  abbrev d : Scope × Sketch
  d = drawn_block t contracts y top_place n.body g.1

  abbrev e : Sketch
  e = define_from d.0 (next_wire empty) 0 n.outputs d.1

  abbrev final : Sketch
  final = drawn_node t n

  abbrev S : ℕ → Type 0
  S w = Steered final w

  -- a place has a wire that reads a controllable variable
  abbrev T : Place → Type 0
  T (Body ∷ p) = BlockWires S t contracts y top_place n.body g.1 p
  T p = ObserverWires S t z.0 n.contract s p

  abbrev Leading : Sources → Type 0
  Leading u = L S T n place u

  abbrev Runs : Sketch → Sketch → Type 0
  Runs = R S T n place

  abbrev NamesOf : Scope → NameSources → Type 0
  NamesOf x names = NamesLead S T n place ⊥ x names

  abbrev shown : NameSources
  shown = output_in n (below Body only)

  abbrev seen : NameSources
  seen = control_in (controls_of n.contract) (below Controls only)

  others : ((p : Place) → ObserverWires S t z.0 n.contract s (Body ∷ p)) × ((p : Place) → ObserverWires S t z.0 n.contract s (Controls ∷ p)) × ((x : List ℕ) (p : Place) → ObserverWires S t z.0 n.contract s (Named x ∷ p))
  others = observer-others S t z.0 n.contract s

  lies : (q : Place) → NodePlaced (standing place q) t n
  lies q = node-lies program t n known nothing_called q

  run : BringsRun S T n place t contracts
  run = contracts-run S T n place t fits.callees filled.callees

  shut_e : Closed S e
  shut_e = (finish-runs Runs (running S (Early S T n place)) (running-told S (Early S T n place)) g.0.assume g.0.enforce e).closed (steered-closed final)

  shut_d : Closed S d.1
  shut_d = (from-runs Runs (running S (Early S T n place)) d.0 (next_wire empty) 0 n.outputs d.1).closed shut_e

  -- controllable variables have slots
  body-names : NamesOf y seen
  body-names x k =
      let declared = control-declared T (controls_of n.contract) (below Controls only) x k in
      let c = control-at t (next_wire z.1) 0 (controls_of n.contract) [] z.1 x filled.controls (let q : next_wire z.1 + 0 ≡ next_wire z.1 = omega arith in q) refl declared in
      let there : entry_in l x ≡ Some (entry_at c.0 c.1) = outputs-keep t n.outputs (put_row t n.inputs (next_wire outs) (put_row t (controls_of n.contract) (next_wire z.1) [])) x (entry_at c.0 c.1) (row-keeps t (next_wire outs) 0 n.inputs (put_row t (controls_of n.contract) (next_wire z.1) []) x (entry_at c.0 c.1) c.2) in
      let steered : S c.0 = control-steered final c.3.0 c.0 ((rest-goes place (own_free n) t n (node-frees place t n) lies).controls c.3.0 c.0 c.3.1) in
      inr (subst (λ v. S v.wire) (sym (pushed-value l (pop_values z.0) x ∙ ap (λ o. value_by (or_found o (found (pop_values z.0).values x))) there)) steered)

  -- outputs are what the body defines
  observer-names : NamesOf z.0 shown
  observer-names x k =
      let so = shown-output (declares n.outputs x) (has_equation n.body x) T (Body ∷ Named x ∷ []) k in
      let v : S (value_in d.0 x).wire = block-wire S t y n.body g.1 x so.1 in
      let o = output-at S (Early S T n place) t d.0 (next_wire empty) 0 n.outputs (put_row t n.inputs (next_wire outs) []) d.1 x (row-lacks t (next_wire outs) 0 n.inputs [] x refl (filled.outputs x so.0)) so.0 shut_e in
      inr (subst (λ v. S v.wire) (sym (scope-value t n (next_wire outs) (next_wire empty) ins x ∙ ap (λ i. value_by (or_found i None)) o.2)) (o.3 v))

  observer-of : (p : Place) → T p → ⊥ ⊎ ObserverWires S t z.0 n.contract s p
  observer-of (Body ∷ p) k = inr (others.0 p)
  observer-of p k = inr k

  body_law : BlockDone S T n place t contracts (λ q. contracts_held (standing place q) t) run ⊥ y seen (λ p. Body ∷ p) top_place n.body g.1
  body_law = whole-block S T n place t contracts (λ q. contracts_held (standing place q) t) run n.body fits.body filled.body ⊥ y seen (λ p. Body ∷ p) top_place g.1 body-names (λ p k. inr k) (λ o. (λ q. (lies q).1, λ p k. k, λ x. x)) shut_d

  observer_law : ObserverDone S T n place t n.contract z.0 shown s
  observer_law = observer-done S T n place t run n.contract z.0 shown s fits.contract filled.contract observer-names observer-of (λ q. (lies q).0) (λ p k. k) (λ p k. k) (λ p k. k) body_law.shut

  -- where one of those that it reads has such a wire, a place has one
  closed : (p : Place) → Leading (sources n p) → T p
  closed (Body ∷ p) k = never (body_law.placed p k)
  closed (Named x ∷ []) k = others.2 x []
  closed p k = never (observer_law.placed p k)

  -- ---- slots

  given-row : (r : Role) (ds : List Decl) (a : Sketch) → IsHeld r → Runs a (add_given t r ds a)
  given-row r [] a h = none-runs S (Early S T n place) a
  given-row r (i ∷ ds) a h = let a1 = add_one_given r (type_shape t i.ty) a in both-run S (Early S T n place) a a1 (add_given t r ds a1) (given-runs Runs (running S (Early S T n place)) r (type_shape t i.ty) a h) (given-row r ds a1 h)

  slots-right : SlotsRight S T n place final
  slots-right =
      let r0 = holes-run Runs (running S (Early S T n place)) t n.outputs empty in
      let r1 = given-row role.Input n.inputs outs tt in
      let r2 = scope-runs Runs (running S (Early S T n place)) t top_place n (next_wire outs) (next_wire empty) ins in
      let r3 = given-row role.Control (controls_of n.contract) z.1 tt in
      let r4 = from-runs Runs (running S (Early S T n place)) d.0 (next_wire empty) 0 n.outputs d.1 in
      let r5 = finish-runs Runs (running S (Early S T n place)) (running-told S (Early S T n place)) g.0.assume g.0.enforce e in
      r5.slots (r4.slots (body_law.slots (observer_law.slots (r3.slots (r2.slots (r1.slots (r0.slots (no-slots S T n place))))))))

  -- ---- chains

  chain-reached : (p : Place) (between : List Place) (q : Place) → Chain n p between (Controls ∷ q) → T p
  chain-reached p [] q c = closed p (read-lead T (sources n p) (Controls ∷ q) c (others.1 q))
  chain-reached p (i ∷ between) q c = closed p (read-lead T (sources n p) i c.0 (chain-reached i between q c.1))

  first-leads : (p : Place) → own_free n p ≡ Some [] → Depends n p → Leading (sources n p)
  first-leads p f (inl c) = absurd (none-some [] (sym (controls-free (free_in_block n.body) n.contract c.0) ∙ ap (own_free n) (sym c.1) ∙ f))
  first-leads p f (inr ([], q, c)) = read-lead T (sources n p) (Controls ∷ q) c (others.1 q)
  first-leads p f (inr (i ∷ between, q, c)) = read-lead T (sources n p) i c.0 (chain-reached i between q c.1)

  pub slot-reached : (i : ℕ) → i < length final.slots → (slot_at final.slots i).role ≡ role.Free true → Depends n (place i) → S (slot_at final.slots i).wire
  slot-reached i h r c =
      let based = (node-flagged program t n known nothing_called i h true r).0 refl in
      let right = early-at S (Early S T n place) 0 final.slots i slots-right h r in
      right (subst (λ j. Leading (sources n (place j))) (let q : i ≡ i + 0 = omega arith in q) (first-leads (place i) based c))

  -- ---- the assumption

  assume-place : Depends n (Assume ∷ []) → T (Assume ∷ []) × Leading (sources n (Assume ∷ []))
  assume-place (inl c) = absurd (let e : Assume ∷ [] ≡ Controls ∷ c.0 = c.1 in cc)
  assume-place (inr ([], q, c)) = (chain-reached (Assume ∷ []) [] q c, read-lead T (sources n (Assume ∷ [])) (Controls ∷ q) c (others.1 q))
  assume-place (inr (i ∷ between, q, c)) = (chain-reached (Assume ∷ []) (i ∷ between) q c, read-lead T (sources n (Assume ∷ [])) i c.0 (chain-reached i between q c.1))

  pub assumption-steered : Depends n (Assume ∷ []) → S final.assume
  assumption-steered c =
      let h = assume-place c in
      subst S (sym (finish-assume g.0.assume g.0.enforce e)) (never (observer_law.assumed (assumption-value (leading T) n.contract shown h.1 h.0)))

pub node-reached : ReachedLaw
node-reached program t n known nothing fits filled i h r c = slot-reached program t n known nothing fits filled i h r c

pub assumption-reached : AssumptionReachedLaw
assumption-reached program t n known nothing fits filled c = assumption-steered program t n known nothing fits filled c
