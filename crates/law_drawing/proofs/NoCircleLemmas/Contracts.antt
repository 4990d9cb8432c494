-- What is drawn of contracts, and of those of nodes that are called, with marks. What the contract of a call reads besides its own names stands below them.
use Rattle.std.proofs.Common.{◌≡◌, ℕ, suc, ◌+◌, ◌<◌, max, Bool, true, false, ◌||◌, ◌⊎◌, IsTrue, ap, List, [], ◌∷◌, length, Option, None, Some, refl, sym, subst, ◌∙◌, inl, inr, arith}
use Rattle.std.specs.Str.{bytes_eq}
use Rattle.std.proofs.lemmas.Option.{same_Some, none-some}
use Rattle.hp_tree.specs.Blocks.{Decl}
use Rattle.hp_tree.specs.Expressions.{Expr}
use Rattle.hp_tree.specs.Instant.{Body, Observer, Assume, Enforce, Place as TreePlace}
use Rattle.hp_tree.specs.Meaning.{declares}
use Rattle.hp_tree.specs.Programs.{Contract, Node}
use Rattle.hp_meaning.specs.Causal.Sources.{Sources, none, only, both, also, Within, NameSources, PlaceSources, below}
use Rattle.hp_meaning.specs.Causal.WhatIsRead.{of_expr, names_in_block, output_in, in_block, at_told, in_contract}
use Rattle.hp_drawing.specs.declared.parts.Callee.{Callee}
use Rattle.hp_drawing.specs.declared.parts.Entry.{Entry}
use Rattle.hp_drawing.specs.declared.parts.Place.{Place}
use Rattle.hp_drawing.specs.Told.{Told, type_shape, or_none}
use Rattle.hp_drawing.specs.Sketch.{Sketch, low, high, not_gate, and_gate, or_gate, with_hyp, with_duty, with_assume, with_hyp_drawn, hyp_of, duty_of, add_told, add_call, finish}
use Rattle.hp_drawing.specs.Places.{called_at}
use Rattle.hp_drawing.specs.Scopes.{Scope, Layer, no_scope, entry_at, entry_if, entry_in, put, add_if, add, value_by, wire_by, wire_in, or_found, value_in, last_in, add_lasts, push_values, push_lasts}
use Rattle.hp_drawing.specs.DrawnExpressions.{Brings, drawn}
use Rattle.hp_drawing.specs.DrawnBlocks.{drawn_block}
use Rattle.hp_drawing.specs.DrawnNodes.{put_from, put_row, contract_layer, scope_over, contract_scope, drawn_told, drawn_contract, no_brings, contracts, drawn_called_if, drawn_called}
use Rattle.law_drawing.proofs.CarryingLemmas.Layers.{same-name, self-name, put-found, Knows, knows-add, knows-added, or-cases}
use Rattle.hp_base.specs.declared.ty.Ty.{Ty}
use Rattle.hp_base.specs.declared.ty.Ty.TheVariants as ty
use Rattle.hp_tree.specs.Programs.{TypeDecl}
use Rattle.hp_base.specs.Known.Known.{lookup}
use Rattle.hp_typing.specs.Scopes.{with_variables, inside as inner_scope, inside_node}
use Rattle.law_judged.specs.Typed.Scopes.{Scope as TypeScope}
use Rattle.law_values.specs.Valued.Judged.{Lasts, lasts_in, lasts_of, no_lasts, HaveOwnTypes, ToldSound, ContractSound}
use Rattle.law_values.proofs.ValuedLemmas.Scoped.{not_declared}
use Rattle.hp_meaning.specs.Contract.Slots.{is_int}
use Rattle.hp_drawing.specs.Kept.{is_mark}
use Rattle.law_drawing.specs.Steered.Asked.{ContractFits}
use Rattle.law_drawing.specs.NoCircle.Typed.{AreTyped}
use Rattle.law_drawing.specs.NoCircle.Nodes.{ContractAsked}
use Rattle.law_drawing.proofs.NoCircleLemmas.Carried.{type-whole}
use Rattle.law_drawing.proofs.NoCircleLemmas.EnterTypes as entries
use Rattle.law_drawing.proofs.NoCircleLemmas.EnterTypes.{not-known, lasts-known, IsOf, of-type, lasts-typed, lasts-have}
use Rattle.law_drawing.specs.NoCircle.Marks.{Mark, Marks, ground, Most, up, Grows, AreRow, Has, Low, There, Frame, AreMarked, IsPlaced, top, around}
use Rattle.law_drawing.specs.NoCircle.Asked.{Owes, AreSeen, IsCallee, BringsMarked, BlockApart, ContractApart}
use Rattle.law_drawing.specs.NoCircle.Heights.{height}
use Rattle.law_drawing.proofs.NoCircleLemmas.Steps.{grows-none, grows-both, has-grows, low-grows, there-grows, low-up, low-there, low-own, ground-low, Step}
use Rattle.law_drawing.proofs.NoCircleLemmas.Rows.{AreNamed}
use Rattle.law_drawing.proofs.NoCircleLemmas.Parts as parts
use Rattle.law_drawing.proofs.NoCircleLemmas.Parts.{placed-grows, placed-up, MadeThere, not-there, and-there, or-there}
use Rattle.law_drawing.proofs.NoCircleLemmas.Values.{IsAt, at-behind, bound}
use Rattle.law_drawing.proofs.NoCircleLemmas.Expressions.{expr}
use Rattle.law_drawing.proofs.NoCircleLemmas.Entering.{all-lasts}
use Rattle.law_drawing.proofs.NoCircleLemmas.Bodies as blocks
use Rattle.law_drawing.proofs.NoCircleLemmas.Blocks.{block-marked}

-- ---- wires one behind the other, each with the mark of its name

pub named-grows : (ms ms' : Marks) → Grows ms ms' → (first : ℕ) (ds : List Decl) (m : List ℕ → Mark) → AreNamed ms first ds m → AreNamed ms' first ds m
named-grows ms ms' g first [] m h = tt
named-grows ms ms' g first (d ∷ ds) m h = (has-grows ms ms' g first (m d.name) h.0, named-grows ms ms' g (suc first) ds m h.1)

pub row-named : (ms : Marks) (first : ℕ) (ds : List Decl) (m : Mark) → AreRow ms first (length ds) m → AreNamed ms first ds (λ x. m)
row-named ms first [] m h = tt
row-named ms first (d ∷ ds) m h = (subst (λ w. Has ms w m) (let z : first + 0 ≡ first = omega arith in z) (h 0 (omega arith)), row-named ms (suc first) ds m (λ i l. subst (λ w. Has ms w m) (let z : first + suc i ≡ suc first + i = omega arith in z) (h (suc i) (omega (arith, l)))))

left-or : (a b : Bool) → a ≡ true → a || b ≡ true
left-or true b h = refl
left-or false b h = absurd cc

right-or : (a b : Bool) → b ≡ true → a || b ≡ true
right-or true b h = refl
right-or false b h = h

module _ (Q : List ℕ → ℕ → Type 0) where
  -- what is said of names, and of their wires
  abbrev pub Says : Layer → Type 0
  Says l = (x : List ℕ) (e : Entry) → entry_in l x ≡ Some e → Q x (or_none e.wire)

  pub says-add : (l : Layer) (y : List ℕ) (n : Entry) → Says l → Q y (or_none n.wire) → Says (add l y n)
  says-add l y n h k = by (entry_in l y)
    where
      says-put : Says (put l y n)
      says-put x e q = of (bytes_eq x y) refl (sym (put-found l y n x) ∙ q)
        where
          of : (b : Bool) → bytes_eq x y ≡ b → entry_if b n (entry_in l x) ≡ Some e → Q x (or_none e.wire)
          of true r p = subst (λ i. Q i (or_none e.wire)) (sym (same-name x y r)) (subst (λ i. Q y (or_none i.wire)) (same_Some n e p) k)
          of false r p = h x e p

      by : (o : Option Entry) → Says (add_if o l y n)
      by None = says-put
      by (Some old) = h

  pub says-row : (ms : Marks) (m : List ℕ → Mark) (t : Told) (first k : ℕ) (ds : List Decl) (l : Layer) → ((x : List ℕ) (w : ℕ) → declares ds x ≡ true → Has ms w (m x) → Q x w) → AreNamed ms (first + k) ds m → Says l → Says (put_from t first k ds l)
  says-row ms m t first k [] l f h s = s
  says-row ms m t first k (d ∷ ds) l f h s =
      says-row ms m t first (k + 1) ds (add l d.name (entry_at (first + k) (type_shape t d.ty))) (λ x w q. f x w (right-or (bytes_eq d.name x) (declares ds x) q)) (subst (λ w. AreNamed ms w ds m) (let z : suc (first + k) ≡ first + (k + 1) = omega arith in z) h.1)
      (says-add l d.name (entry_at (first + k) (type_shape t d.ty)) s (f d.name (first + k) (left-or (bytes_eq d.name d.name) (declares ds d.name) (self-name d.name)) h.0))

-- ---- what may be supposed and what is owed, which may have any mark

hyp-marked : {F : Frame} (w : ℕ) (s : Sketch) (ms : Marks) → AreMarked F s ms → There ms w → AreMarked F (with_hyp w s) ms
unfolding with_hyp
hyp-marked w s ms a t = record { wires = a.wires; first_shapes = a.first_shapes; as_many = a.as_many; reads = a.reads; clocks = a.clocks; low_is = a.low_is; high_is = a.high_is; hyp_is = t; duty_is = a.duty_is }

duty-marked : {F : Frame} (w : ℕ) (s : Sketch) (ms : Marks) → AreMarked F s ms → There ms w → AreMarked F (with_duty w s) ms
unfolding with_duty
duty-marked w s ms a t = record { wires = a.wires; first_shapes = a.first_shapes; as_many = a.as_many; reads = a.reads; clocks = a.clocks; low_is = a.low_is; high_is = a.high_is; hyp_is = a.hyp_is; duty_is = t }

assume-marked : {F : Frame} (w : ℕ) (s : Sketch) (ms : Marks) → AreMarked F s ms → AreMarked F (with_assume w s) ms
unfolding with_assume
assume-marked w s ms a = record { wires = a.wires; first_shapes = a.first_shapes; as_many = a.as_many; reads = a.reads; clocks = a.clocks; low_is = a.low_is; high_is = a.high_is; hyp_is = a.hyp_is; duty_is = a.duty_is }

hyp-there : {F : Frame} (s : Sketch) (ms : Marks) → AreMarked F s ms → There ms (hyp_of s)
unfolding hyp_of
hyp-there s ms a = a.hyp_is

duty-there : {F : Frame} (s : Sketch) (ms : Marks) → AreMarked F s ms → There ms (duty_of s)
unfolding duty_of
duty-there s ms a = a.duty_is

told-marked : {F : Frame} (supposed owed : ℕ) (s : Sketch) (ms : Marks) → AreMarked F s ms → There ms supposed → There ms owed → Step F ms (add_told supposed owed s)
unfolding add_told
told-marked supposed owed s ms a t r =
    let u = and-there (hyp_of s) supposed s ms a (hyp-there s ms a) t in
    let d = and_gate (hyp_of s) supposed s in
    let h = with_hyp_drawn d in
    let b = hyp-marked d.0 d.1 u.0 u.2 u.3 in
    let v = and-there (duty_of h) owed h u.0 b (duty-there h u.0 b) (there-grows ms u.0 u.1 owed r) in
    let e = and_gate (duty_of h) owed h in
    (v.0, grows-both ms u.0 v.0 u.1 v.1, duty-marked e.0 e.1 v.0 v.2 v.3)

pub call-told : {F : Frame} (here assume enforce : ℕ) (s : Sketch) (ms : Marks) → AreMarked F s ms → There ms here → There ms assume → There ms enforce → Step F ms (add_call here assume enforce s)
unfolding add_call
call-told here assume enforce s ms a h t r =
    let away = not_gate here s in
    let u = not-there here s ms a h in
    let unassumed = not_gate assume away.1 in
    let v = not-there assume away.1 u.0 u.2 (there-grows ms u.0 u.1 assume t) in
    let g = grows-both ms u.0 v.0 u.1 v.1 in
    let kept = or_gate unassumed.0 enforce unassumed.1 in
    let w = or-there unassumed.0 enforce unassumed.1 v.0 v.2 v.3 (there-grows ms v.0 g enforce r) in
    let from_u = grows-both u.0 v.0 w.0 v.1 w.1 in
    let supposed = or_gate away.0 kept.0 kept.1 in
    let x = or-there away.0 kept.0 kept.1 w.0 w.2 (there-grows u.0 w.0 from_u away.0 u.3) w.3 in
    let to_x = grows-both u.0 w.0 x.0 from_u x.1 in
    let owed = or_gate away.0 assume supposed.1 in
    let y = or-there away.0 assume supposed.1 x.0 x.2 (there-grows u.0 x.0 to_x away.0 u.3) (there-grows ms x.0 (grows-both ms u.0 x.0 u.1 to_x) assume t) in
    let e = told-marked supposed.0 owed.0 owed.1 y.0 y.2 (there-grows x.0 y.0 y.1 supposed.0 x.3) y.3 in
    (e.0, grows-both ms u.0 e.0 u.1 (grows-both u.0 x.0 e.0 to_x (grows-both x.0 y.0 e.0 y.1 e.1)), e.2)

pub finish-marked : {F : Frame} (assume enforce : ℕ) (s : Sketch) (ms : Marks) → AreMarked F s ms → There ms assume → There ms enforce → Step F ms (finish assume enforce s)
unfolding finish
finish-marked assume enforce s ms a t r =
    let first = with_assume assume s in
    let b = assume-marked assume s ms a in
    let u = and-there assume (hyp_of first) first ms b t (hyp-there first ms b) in
    let d = and_gate assume (hyp_of first) first in
    let h = with_hyp_drawn d in
    let c = hyp-marked d.0 d.1 u.0 u.2 u.3 in
    let v = and-there enforce (duty_of h) h u.0 c (there-grows ms u.0 u.1 enforce r) (duty-there h u.0 c) in
    let e = and_gate enforce (duty_of h) h in
    (v.0, grows-both ms u.0 v.0 u.1 v.1, duty-marked e.0 e.1 v.0 v.2 v.3)

-- ---- what a contract sees

module _ (rank : TreePlace → ℕ) where
  abbrev pub LowAt : Marks → Mark → NameSources → List ℕ → ℕ → Type 0
  LowAt ms context names x w = Low ms w (around rank context (names x))

  -- where nothing is seen
  pub nothing-seen : {F : Frame} (s : Sketch) (ms : Marks) (context : Mark) (names : NameSources) → AreMarked F s ms → AreSeen rank ms no_scope context names
  unfolding value_in last_in
  nothing-seen s ms context names a = record { values = λ x. ground-low ms low (around rank context (names x)) a.low_is; lasts = λ x. ground-low ms low context a.low_is }

  pub layer-there : {F : Frame} (s : Sketch) (ms : Marks) (context : Mark) (names : NameSources) (l : Layer) → AreMarked F s ms → Says (LowAt ms context names) l → (x : List ℕ) → There ms (wire_in l x)
  layer-there s ms context names l a h x = by (entry_in l x) refl
    where
      by : (o : Option Entry) → entry_in l x ≡ o → There ms (or_none (wire_by o))
      by None q = low-there ms low ground a.low_is
      by (Some e) q = low-there ms (or_none e.wire) (around rank context (names x)) (h x e q)

  pub layers-seen : {F : Frame} (s : Sketch) (ms : Marks) (context : Mark) (names : NameSources) (values lasts : Layer) → AreMarked F s ms → Says (LowAt ms context names) values → Says (λ x w. Low ms w context) lasts → AreSeen rank ms (scope_over values lasts) context names
  unfolding value_in last_in push_values push_lasts
  layers-seen s ms context names values lasts a h k = record { values = λ x. by-value x (entry_in values x) refl; lasts = λ x. by-last x (entry_in lasts x) refl }
    where
      by-value : (x : List ℕ) (o : Option Entry) → entry_in values x ≡ o → Low ms (value_by (or_found o None)).wire (around rank context (names x))
      by-value x None q = ground-low ms low (around rank context (names x)) a.low_is
      by-value x (Some e) q = h x e q

      by-last : (x : List ℕ) (o : Option Entry) → entry_in lasts x ≡ o → Low ms (value_by (or_found o None)).wire context
      by-last x None q = ground-low ms low context a.low_is
      by-last x (Some e) q = k x e q

  -- last values alone
  pub lasts-seen : {F : Frame} (s : Sketch) (ms : Marks) (context : Mark) (values lasts : Layer) → AreMarked F s ms → Says (λ x w. Low ms w context) lasts → (x : List ℕ) → Low ms (last_in (scope_over values lasts) x).wire context
  unfolding last_in push_values push_lasts
  lasts-seen s ms context values lasts a k x = by (entry_in lasts x) refl
    where
      by : (o : Option Entry) → entry_in lasts x ≡ o → Low ms (value_by (or_found o None)).wire context
      by None q = ground-low ms low context a.low_is
      by (Some e) q = k x e q

  pub says-grows : (ms ms' : Marks) → Grows ms ms' → (context : Mark) (names : NameSources) (l : Layer) → Says (LowAt ms context names) l → Says (LowAt ms' context names) l
  says-grows ms ms' g context names l h x e q = low-grows ms ms' g (or_none e.wire) (around rank context (names x)) (h x e q)

  -- Inputs and outputs, whose wires stand no higher than their names, and last values of outputs; `wide` is what stands around values, which may be some steps more than what cuts the place.
  pub contract-seen : {F : Frame} (t : Told) (spot : Place) (n : Node) (inputs outputs : ℕ) (s : Sketch) (ms : Marks) (context wide : Mark) (names : NameSources) (ins outs : List ℕ → Mark) → Most context wide → AreMarked F s ms → IsPlaced ms spot context → AreNamed ms inputs n.inputs ins
      → AreNamed ms outputs n.outputs outs → ((x : List ℕ) → declares n.inputs x ≡ true → Most (ins x) (around rank wide (names x))) → ((x : List ℕ) → declares n.outputs x ≡ true → Most (outs x) (around rank wide (names x)))
      → (ms' : Marks) × Grows ms ms' × AreMarked F (contract_scope t spot n inputs outputs s).1 ms' × AreSeen rank ms' (contract_scope t spot n inputs outputs s).0 wide names × ((x : List ℕ) → Low ms' (last_in (contract_scope t spot n inputs outputs s).0 x).wire context)
  unfolding contract_scope
  contract-seen t spot n inputs outputs s ms context wide names ins outs more a p i o from_in from_out =
      let Q : List ℕ → ℕ → Type 0 = LowAt ms wide names in
      let first = says-row Q ms ins t inputs 0 n.inputs [] (λ x w d h. low-up ms w (ins x) (around rank wide (names x)) (from_in x d) (low-own ms w (ins x) h)) (subst (λ w. AreNamed ms w n.inputs ins) (let z : inputs ≡ inputs + 0 = omega arith in z) i) (λ x e q. absurd (none-some e q)) in
      let l0 = put_row t n.inputs inputs [] in
      let says = says-row Q ms outs t outputs 0 n.outputs l0 (λ x w d h. low-up ms w (outs x) (around rank wide (names x)) (from_out x d) (low-own ms w (outs x) h)) (subst (λ w. AreNamed ms w n.outputs outs) (let z : outputs ≡ outputs + 0 = omega arith in z) o) first in
      let l = contract_layer t n inputs outputs in
      let u = all-lasts rank t no_scope context names names spot n.outputs l [] s ms (record { marks = a; placed = p; seen = nothing-seen s ms context names a }) (layer-there s ms wide names l a says) (λ x e q. absurd (none-some e q)) in
      let lasts = add_lasts t spot n.outputs l [] s in
      (u.0, u.1, u.2, layers-seen lasts.1 u.0 wide names l lasts.0 u.2 (says-grows ms u.0 u.1 wide names l says) (λ x e q. low-up u.0 (or_none e.wire) context wide more (u.3 x e q)), lasts-seen lasts.1 u.0 context l lasts.0 u.2 u.3)

  -- ---- contracts

  module _ (types : List TypeDecl) (among : List ℕ → Option Node) (t : Told) (known : (f : List ℕ) (n : Node) → among f ≡ Some n → t.nodes f ≡ Some n) (brings : Brings) (b : BringsMarked t brings) (g : TypeScope) (has_last : Lasts) where
    told-there : (F : Frame) (i : TypeScope) (lasts : Lasts) (o : Option Expr) (z : Scope) (S : AreTyped i lasts z) (context : Mark) (names : NameSources) (k : PlaceSources) (spot : Place) (s : Sketch) (ms : Marks) → ToldSound types among i lasts o → Owes rank context (at_told o names k) k
        → IsAt rank z context names F ms s spot → MadeThere F ms (drawn_told t brings z spot o s)
    told-there F i lasts None z S context names k spot s ms ok o at = (ms, grows-none ms, at.marks, low-there ms high ground at.marks.high_is)
    told-there F i lasts (Some e) z S context names k spot s ms ok o at =
        let u = expr rank types among t known brings b i lasts z S context names F e ty.Bool [] k spot ok.0 ok.1 o s ms at in
        (u.0, u.1, u.2, low-there u.0 (drawn t brings z spot e s).0.wire (bound rank z context names (height e) (of_expr e names k)) u.3)

    pub contract-marked : (F : Frame) (c : Contract) (z : Scope) (S : AreTyped g has_last z) (context : Mark) (names : NameSources) (k : PlaceSources) (spot : Place) (s : Sketch) (ms : Marks) → ContractFits t (Some c) → BlockApart c.body → ContractSound types among g has_last (Some c)
        → Owes rank context (in_block c.body names (below Observer k)) (below Observer k)
        → Owes rank context (at_told c.assume (names_in_block c.body names (below Observer k)) (below Assume k)) (below Assume k) → Owes rank context (at_told c.enforce (names_in_block c.body names (below Observer k)) (below Enforce k)) (below Enforce k)
        → IsAt rank z context names F ms s spot
        → (ms' : Marks) × Grows ms ms' × AreMarked F (drawn_contract t brings z spot c s).1 ms' × There ms' (drawn_contract t brings z spot c s).0.assume × There ms' (drawn_contract t brings z spot c s).0.enforce
    contract-marked F c z S context names k spot s ms fit apart ok o o_assume o_enforce at =
        behind (drawn_block t brings z spot c.body s) (block-marked rank types among t known brings b c.body fit.0 apart F g has_last z S context names (below Observer k) spot s ms ok.0 o at)
      where
        inner : NameSources
        inner = names_in_block c.body names (below Observer k)

        behind : (inside : Scope × Sketch) → blocks.Blocked rank F g has_last ms c.body context inner inside
            → (let assume = drawn_told t brings inside.0 spot c.assume inside.1 in let enforce = drawn_told t brings inside.0 spot c.enforce assume.1 in
            (ms' : Marks) × Grows ms ms' × AreMarked F enforce.1 ms' × There ms' assume.0 × There ms' enforce.0)
        behind inside u =
            let at1 : IsAt rank inside.0 context inner F u.0 inside.1 spot = record { marks = u.2; placed = placed-grows ms u.0 u.1 spot context at.placed; seen = u.3 } in
            let assume = drawn_told t brings inside.0 spot c.assume inside.1 in
            let v = told-there F (inner_scope g c.body) (lasts_of c.body has_last) c.assume inside.0 u.5 context inner (below Assume k) spot inside.1 u.0 ok.1.0 o_assume at1 in
            let w = told-there F (inner_scope g c.body) (lasts_of c.body has_last) c.enforce inside.0 u.5 context inner (below Enforce k) spot assume.1 v.0 ok.1.1 o_enforce (at-behind rank inside.0 context inner u.0 v.0 inside.1 assume.1 spot at1 v.1 v.2) in
            (w.0, grows-both ms u.0 w.0 u.1 (grows-both u.0 v.0 w.0 v.1 w.1), w.2, there-grows v.0 w.0 w.1 assume.0 v.3, w.3)

-- ---- ranks that begin at a height

abbrev pub raised : ℕ → (TreePlace → ℕ) → TreePlace → ℕ
raised base rank p = base + rank p

pub within-top : (base : ℕ) (rank : TreePlace → ℕ) (s : Sources) (v : ℕ) → Within (λ q. rank q < v) s → max base (top (raised base rank) s) < suc (base + v)
within-top base rank none v h = omega arith
within-top base rank (only q) v h = omega (arith, h)
within-top base rank (both s t) v h = let k = within-top base rank s v h.0 in let l = within-top base rank t v h.1 in omega (arith, k, l)
within-top base rank (also s) v h = within-top base rank s v h

-- ---- the scope of a contract is typed

pub rows-typed : (types : List TypeDecl) (among : List ℕ → Option Node) (t : Told) (g : TypeScope) (first k : ℕ) (ds : List Decl) (l : Layer) → HaveOwnTypes types among g ds → entries.Says (IsOf types among t g no_lasts g) l → entries.Says (IsOf types among t g no_lasts g) (put_from t first k ds l)
rows-typed types among t g first k [] l ok h = h
rows-typed types among t g first k (d ∷ ds) l ok h =
    let e = entry_at (first + k) (type_shape t d.ty) in
    rows-typed types among t g first (k + 1) ds (add l d.name e) ok.1 (entries.says-add (IsOf types among t g no_lasts g) l d.name e h (of-type types among t g no_lasts g d.name d.ty e ok.0 (type-whole t d.ty)))

pub rows-keep : (t : Told) (first k : ℕ) (ds : List Decl) (l : Layer) (x : List ℕ) → Knows l x → Knows (put_from t first k ds l) x
rows-keep t first k [] l x h = h
rows-keep t first k (d ∷ ds) l x h = rows-keep t first (k + 1) ds (add l d.name (entry_at (first + k) (type_shape t d.ty))) x (knows-add l d.name (entry_at (first + k) (type_shape t d.ty)) x h)

pub rows-known : (t : Told) (first k : ℕ) (ds : List Decl) (l : Layer) (x : List ℕ) → declares ds x ≡ true → Knows (put_from t first k ds l) x
rows-known t first k [] l x h = absurd cc
rows-known t first k (d ∷ ds) l x h =
    let e = entry_at (first + k) (type_shape t d.ty) in
    or-cases (bytes_eq d.name x) (declares ds x) h (λ q. rows-keep t first (k + 1) ds (add l d.name e) x (subst (Knows (add l d.name e)) (same-name d.name x q) (knows-added l d.name e))) (λ q. rows-known t first (k + 1) ds (add l d.name e) x q)

-- where a scope has no other variables its names are those that are declared
pub declared-in : (g : TypeScope) (ds : List Decl) (x : List ℕ) (u : Ty) → lookup (with_variables g ds).variables x ≡ Some u → (declares ds x ≡ true) ⊎ (lookup g.variables x ≡ Some u)
declared-in g ds x u h = by (declares ds x) refl
  where
    by : (b : Bool) → declares ds x ≡ b → (declares ds x ≡ true) ⊎ (lookup g.variables x ≡ Some u)
    by true q = inl q
    by false q = inr (sym (not_declared x ds g q) ∙ h)

pub none-alone : (g : TypeScope) (x : List ℕ) (u : Ty) → g.variables ≡ [] → lookup g.variables x ≡ Some u → ⊥
none-alone g x u e h = let k : None ≡ Some u = sym (ap (λ vs. lookup vs x) e) ∙ h in absurd cc

module _ (types : List TypeDecl) (among : List ℕ → Option Node) (t : Told) where
  -- a layer, and one of last values, over nothing else
  pub over-nothing : (g : TypeScope) (ds : List Decl) (values lasts : Layer) → HaveOwnTypes types among g ds → entries.Says (IsOf types among t g no_lasts g) values → ((x : List ℕ) (u : Ty) → lookup g.variables x ≡ Some u → Knows values x)
      → entries.Says (IsOf types among t g no_lasts g) lasts → ((x : List ℕ) → lasts_in ds no_lasts x ≡ true → Knows lasts x) → AreTyped g (lasts_in ds no_lasts) (scope_over values lasts)
  unfolding value_in last_in push_values push_lasts
  over-nothing g ds values lasts own v kv l kl = record {
    values = λ x u h. value-of x u h (entry_in values x) refl;
    lasts = λ x u k h. last-of x u k h (entry_in lasts x) refl;
    known = λ x k. elim (lasts-have types among t g no_lasts g ds own x k) [ inl a ↦ a | inr a ↦ absurd (let c : false ≡ true = a in cc) ];
  }
    where
      value-of : (x : List ℕ) (u : Ty) → lookup g.variables x ≡ Some u → (o : Option Entry) → entry_in values x ≡ o → is_mark (value_by (or_found o None)).shape ≡ is_int u
      value-of x u h None q = absurd (not-known values x q (kv x u h))
      value-of x u h (Some e) q = v x e q u h

      last-of : (x : List ℕ) (u : Ty) → IsTrue (lasts_in ds no_lasts x) → lookup g.variables x ≡ Some u → (o : Option Entry) → entry_in lasts x ≡ o → is_mark (value_by (or_found o None)).shape ≡ is_int u
      last-of x u k h None q = absurd (not-known lasts x q (kl x k))
      last-of x u k h (Some e) q = l x e q u h

  pub outputs-lasts : (g : TypeScope) (spot : Place) (ds : List Decl) (values : Layer) (s : Sketch) (x : List ℕ) → lasts_in ds no_lasts x ≡ true → Knows (add_lasts t spot ds values [] s).0 x
  outputs-lasts g spot ds values s x h = elim (lasts-known t spot ds no_lasts values [] s x h) [ inl a ↦ a | inr a ↦ absurd (let c : false ≡ true = a in cc) ]

  pub contract-typed : (spot : Place) (n : Node) (inputs outputs : ℕ) (s : Sketch) (g : TypeScope) → g.variables ≡ [] → HaveOwnTypes types among (inside_node g n) n.inputs → HaveOwnTypes types among (inside_node g n) n.outputs
      → AreTyped (inside_node g n) (lasts_in n.outputs no_lasts) (contract_scope t spot n inputs outputs s).0
  unfolding contract_scope
  contract-typed spot n inputs outputs s g alone own_in own_out =
      let i = inside_node g n in
      let l0 = put_row t n.inputs inputs [] in
      let l = contract_layer t n inputs outputs in
      let typed = rows-typed types among t i outputs 0 n.outputs l0 own_out (rows-typed types among t i inputs 0 n.inputs [] own_in (λ x e q. absurd (none-some e q))) in
      over-nothing i n.outputs l (add_lasts t spot n.outputs l [] s).0 own_out typed
      (λ x u h. elim (declared-in (with_variables g n.inputs) n.outputs x u h) [
        | inl a ↦ rows-known t outputs 0 n.outputs l0 x a
        | inr a ↦ rows-keep t outputs 0 n.outputs l0 x (elim (declared-in g n.inputs x u a) [ inl c ↦ rows-known t inputs 0 n.inputs [] x c | inr c ↦ absurd (none-alone g x u alone c) ])
      ])
      (lasts-typed types among t i no_lasts i spot n.outputs l [] s own_out (λ x e q. absurd (none-some e q))) (outputs-lasts i spot n.outputs l s)

-- ---- the contract of a node that is called

module _ (types : List TypeDecl) (t : Told) (asked : (f : List ℕ) (n : Node) → t.nodes f ≡ Some n → ContractAsked types t n) where
  nothing-brought : BringsMarked t no_brings
  nothing-brought = λ F spot f n c s ms m context found a p callee. (ms, grows-none ms, a)

  -- Its names stand above all that the call reads.
  pub called-marked : (F : Frame) (context : Mark) (spot : Place) (n : Node) (contract : Contract) (c : Callee) (s : Sketch) (ms : Marks) (m : Mark) → n.contract ≡ Some contract → ContractAsked types t n
      → AreMarked F s ms → IsPlaced ms spot context → IsCallee ms n c m → Step F ms (drawn_called t spot n contract c s)
  called-marked F context spot n contract c s ms m own ask a p callee =
      behind (called_at spot s) (parts.called-marked spot s ms context a p)
    where
      base : ℕ
      base = suc (max m.0 context.0)

      rank : TreePlace → ℕ
      rank = raised base ask.ranked.rank

      high_context : Mark
      high_context = (base, 1)

      names : NameSources
      names = output_in n (below Body only)

      inner : NameSources
      inner = names_in_block contract.body names (below Observer only)

      owes_observer : Owes rank high_context (in_block contract.body names (below Observer only)) (below Observer only)
      owes_observer p = within-top base ask.ranked.rank (in_block contract.body names (below Observer only) p) (ask.ranked.rank (Observer ∷ p)) (subst (λ o. Within (λ q. ask.ranked.rank q < ask.ranked.rank (Observer ∷ p)) (in_contract o names only (Observer ∷ p))) own (ask.ranked.falls (Observer ∷ p)))

      owes_assume : Owes rank high_context (at_told contract.assume inner (below Assume only)) (below Assume only)
      owes_assume p = within-top base ask.ranked.rank (at_told contract.assume inner (below Assume only) p) (ask.ranked.rank (Assume ∷ p)) (subst (λ o. Within (λ q. ask.ranked.rank q < ask.ranked.rank (Assume ∷ p)) (in_contract o names only (Assume ∷ p))) own (ask.ranked.falls (Assume ∷ p)))

      owes_enforce : Owes rank high_context (at_told contract.enforce inner (below Enforce only)) (below Enforce only)
      owes_enforce p = within-top base ask.ranked.rank (at_told contract.enforce inner (below Enforce only) p) (ask.ranked.rank (Enforce ∷ p)) (subst (λ o. Within (λ q. ask.ranked.rank q < ask.ranked.rank (Enforce ∷ p)) (in_contract o names only (Enforce ∷ p))) own (ask.ranked.falls (Enforce ∷ p)))

      seen : (inside : Place × Sketch) (ms1 : Marks) → Grows ms ms1 → There ms1 inside.0.here → (z : Scope × Sketch) → AreTyped (inside_node ask.scope n) (lasts_in n.outputs no_lasts) z.0 → AreMarked F z.1 ms1 → IsPlaced ms1 inside.0 high_context
          → AreSeen rank ms1 z.0 high_context names → Step F ms (let g = drawn_contract t no_brings z.0 inside.0 contract z.1 in add_call inside.0.here g.0.assume g.0.enforce g.1)
      seen inside ms1 g t1 z S a1 p1 seen1 =
          let v = contract-marked rank types ask.among t ask.known no_brings nothing-brought (inside_node ask.scope n) (lasts_in n.outputs no_lasts) F contract z.0 S high_context names only inside.0 z.1 ms1 (subst (ContractFits t) own ask.fits) (subst ContractApart own ask.apart)
          (subst (ContractSound types ask.among (inside_node ask.scope n) (lasts_in n.outputs no_lasts)) own ask.sound) owes_observer owes_assume owes_enforce (record { marks = a1; placed = p1; seen = seen1 }) in
          let g1 = drawn_contract t no_brings z.0 inside.0 contract z.1 in
          let e = call-told inside.0.here g1.0.assume g1.0.enforce g1.1 v.0 v.2 (there-grows ms1 v.0 v.1 inside.0.here t1) v.3 v.4 in
          (e.0, grows-both ms ms1 e.0 g (grows-both ms1 v.0 e.0 v.1 e.1), e.2)

      behind : (inside : Place × Sketch) → (ms' : Marks) × Grows ms ms' × AreMarked F inside.1 ms' × IsPlaced ms' inside.0 context
          → Step F ms (let z = contract_scope t inside.0 n c.inputs c.outputs inside.1 in let g = drawn_contract t no_brings z.0 inside.0 contract z.1 in add_call inside.0.here g.0.assume g.0.enforce g.1)
      behind inside u =
          let p1 = placed-up u.0 inside.0 context high_context (inl (omega arith)) u.3 in
          let ins = named-grows ms u.0 u.1 c.inputs n.inputs (λ x. m) (row-named ms c.inputs n.inputs m callee.inputs) in
          let outs = named-grows ms u.0 u.1 c.outputs n.outputs (λ x. up 1 m) (row-named ms c.outputs n.outputs (up 1 m) callee.outputs) in
          let v = contract-seen rank t inside.0 n c.inputs c.outputs inside.1 u.0 high_context high_context names (λ x. m) (λ x. up 1 m) (inr (omega arith, omega arith)) u.2 p1 ins outs (λ x d. inl (omega arith)) (λ x d. inl (omega arith)) in
          let S = contract-typed types ask.among t inside.0 n c.inputs c.outputs inside.1 ask.scope ask.alone ask.inputs ask.outputs in
          seen inside v.0 (grows-both ms u.0 v.0 u.1 v.1) (there-grows u.0 v.0 v.1 inside.0.here u.3.here) (contract_scope t inside.0 n c.inputs c.outputs inside.1) S v.2 (placed-grows u.0 v.0 v.1 inside.0 high_context p1) v.3

  brought-by : (F : Frame) (o : Option Contract) (spot : Place) (n : Node) (c : Callee) (s : Sketch) (ms : Marks) (m context : Mark) → n.contract ≡ o → ContractAsked types t n → AreMarked F s ms → IsPlaced ms spot context → IsCallee ms n c m → Step F ms (drawn_called_if t spot n o c s)
  brought-by F None spot n c s ms m context own ask a p callee = (ms, grows-none ms, a)
  brought-by F (Some contract) spot n c s ms m context own ask a p callee = called-marked F context spot n contract c s ms m own ask a p callee

  -- so what a call brings goes on with marks
  pub contracts-marked : BringsMarked t contracts
  contracts-marked = λ F spot f n c s ms m context found a p callee. brought-by F n.contract spot n c s ms m context refl (asked f n found) a p callee
