-- What is drawn of contracts, and of those of nodes that are called, with marks. All that a call brings has one mark.
use Rattle.std.proofs.Common.{◌≡◌, ℕ, suc, ◌+◌, Bool, true, false, ◌||◌, List, [], ◌∷◌, length, Option, None, Some, refl, sym, subst, ◌∙◌, inl, inr, arith}
use Rattle.std.specs.Prelude.{⊤}
use Rattle.std.specs.Str.{bytes_eq}
use Rattle.std.proofs.lemmas.Option.{same_Some, none-some}
use Rattle.hp_tree.specs.Blocks.{Decl}
use Rattle.hp_tree.specs.Expressions.{Expr}
use Rattle.hp_tree.specs.Instant.{Observer, Assume, Enforce, Place as TreePlace}
use Rattle.hp_tree.specs.Meaning.{declares}
use Rattle.hp_tree.specs.Programs.{Contract, Node}
use Rattle.hp_meaning.specs.Causal.Sources.{Sources, none, both, NameSources, PlaceSources, below}
use Rattle.hp_meaning.specs.Causal.WhatIsRead.{names_in_block, in_block, at_told}
use Rattle.hp_drawing.specs.declared.parts.Callee.{Callee}
use Rattle.hp_drawing.specs.declared.parts.Entry.{Entry}
use Rattle.hp_drawing.specs.declared.parts.Place.{Place}
use Rattle.hp_drawing.specs.Told.{Told, type_shape, or_none}
use Rattle.hp_drawing.specs.Sketch.{Sketch, low, high, not_gate, and_gate, or_gate, with_hyp, with_duty, with_assume, with_hyp_drawn, hyp_of, duty_of, add_told, add_call, finish}
use Rattle.hp_drawing.specs.Places.{called_at}
use Rattle.hp_drawing.specs.Scopes.{Scope, Layer, no_scope, entry_at, entry_if, entry_in, put, add_if, add, value_by, wire_by, wire_in, or_found, value_in, last_in, add_lasts, push_values, push_lasts}
use Rattle.hp_drawing.specs.DrawnExpressions.{Brings}
use Rattle.hp_drawing.specs.DrawnBlocks.{drawn_block}
use Rattle.hp_drawing.specs.DrawnNodes.{Observer as Drawn, put_from, put_row, contract_layer, scope_over, contract_scope, drawn_told, drawn_contract, no_brings, contracts, drawn_called_if, drawn_called}
use Rattle.law_drawing.proofs.CarryingLemmas.Layers.{same-name, self-name, put-found}
use Rattle.law_drawing.specs.Steered.Marks.{Steering, Marks, Grows, AreRow, Has, Leads, Low, There, AreMarked, IsPlaced}
use Rattle.law_drawing.specs.Steered.Placed.{Held, none_held, contracts_held, ToldPlaced, ContractPlaced, CalledPlaced}
use Rattle.law_drawing.specs.Steered.Asked.{Owes, AreSeen, IsCallee, BringsMarked, TellsFit, ContractFits}
use Rattle.law_drawing.proofs.SteeredLemmas.Assumed.{told_reads}
use Rattle.law_drawing.proofs.SteeredLemmas.Steps.{grows-none, grows-both, has-grows, low-grows, there-grows, low-up, low-there, low-own, there-low, Made, Step, not-marked, and-marked, or-marked}
use Rattle.law_drawing.proofs.SteeredLemmas.Parts as parts
use Rattle.law_drawing.proofs.SteeredLemmas.Parts.{placed-grows}
use Rattle.law_drawing.proofs.SteeredLemmas.Values.{IsAt, at-behind}
use Rattle.law_drawing.proofs.SteeredLemmas.Expressions.{expr}
use Rattle.law_drawing.proofs.SteeredLemmas.Entering.{all-lasts}
use Rattle.law_drawing.proofs.SteeredLemmas.Controls.{placed-up}
use Rattle.law_drawing.proofs.SteeredLemmas.Bodies as blocks
use Rattle.law_drawing.proofs.SteeredLemmas.Blocks.{block-marked}
use Rattle.law_drawing.proofs.SteeredLemmas.Bounded.{block-places, told-places, names-inside}
use Rattle.law_drawing.proofs.SteeredLemmas.Fewer.{contract-fewer}

-- ---- wires one behind the other, each with the mark of its name

abbrev pub AreNamed : Marks → ℕ → List Decl → NameSources → Type 0
AreNamed ms first [] m = ⊤
AreNamed ms first (d ∷ ds) m = Has ms first (m d.name) × AreNamed ms (suc first) ds m

pub named-grows : (ms ms' : Marks) → Grows ms ms' → (first : ℕ) (ds : List Decl) (m : NameSources) → AreNamed ms first ds m → AreNamed ms' first ds m
named-grows ms ms' g first [] m h = tt
named-grows ms ms' g first (d ∷ ds) m h = (has-grows ms ms' g first (m d.name) h.0, named-grows ms ms' g (suc first) ds m h.1)

pub row-named : (ms : Marks) (first : ℕ) (ds : List Decl) (m : Sources) → AreRow ms first (length ds) m → AreNamed ms first ds (λ x. m)
row-named ms first [] m h = tt
row-named ms first (d ∷ ds) m h = (subst (λ w. Has ms w m) (let z : first + 0 ≡ first = omega arith in z) (h 0 (omega arith)), row-named ms (suc first) ds m (λ i l. subst (λ w. Has ms w m) (let z : first + suc i ≡ suc first + i = omega arith in z) (h (suc i) (omega (arith, l)))))

left-or : (a b : Bool) → a ≡ true → a || b ≡ true
left-or true b h = refl
left-or false b h = absurd cc

right-or : (a b : Bool) → b ≡ true → a || b ≡ true
right-or true b h = refl
right-or false b h = h

module _ (Q : List ℕ → ℕ → Type 0) where
  -- what is said of names, and of their wires
  abbrev pub Says : Layer → Type 0
  Says l = (x : List ℕ) (e : Entry) → entry_in l x ≡ Some e → Q x (or_none e.wire)

  pub says-add : (l : Layer) (y : List ℕ) (n : Entry) → Says l → Q y (or_none n.wire) → Says (add l y n)
  says-add l y n h k = by (entry_in l y)
    where
      says-put : Says (put l y n)
      says-put x e q = of (bytes_eq x y) refl (sym (put-found l y n x) ∙ q)
        where
          of : (b : Bool) → bytes_eq x y ≡ b → entry_if b n (entry_in l x) ≡ Some e → Q x (or_none e.wire)
          of true r p = subst (λ i. Q i (or_none e.wire)) (sym (same-name x y r)) (subst (λ i. Q y (or_none i.wire)) (same_Some n e p) k)
          of false r p = h x e p

      by : (o : Option Entry) → Says (add_if o l y n)
      by None = says-put
      by (Some old) = h

  pub says-row : (ms : Marks) (m : NameSources) (t : Told) (first k : ℕ) (ds : List Decl) (l : Layer) → ((x : List ℕ) (w : ℕ) → declares ds x ≡ true → Has ms w (m x) → Q x w) → AreNamed ms (first + k) ds m → Says l → Says (put_from t first k ds l)
  says-row ms m t first k [] l f h s = s
  says-row ms m t first k (d ∷ ds) l f h s =
      says-row ms m t first (k + 1) ds (add l d.name (entry_at (first + k) (type_shape t d.ty))) (λ x w q. f x w (right-or (bytes_eq d.name x) (declares ds x) q)) (subst (λ w. AreNamed ms w ds m) (let z : suc (first + k) ≡ first + (k + 1) = omega arith in z) h.1)
      (says-add l d.name (entry_at (first + k) (type_shape t d.ty)) s (f d.name (first + k) (left-or (bytes_eq d.name d.name) (declares ds d.name) (self-name d.name)) h.0))

module _ (steers : Steering) where
  -- ---- what may be supposed and what is owed, which may read anything

  abbrev MadeThere : Marks → ℕ × Sketch → Type 0
  MadeThere ms d = (ms' : Marks) × Grows ms ms' × AreMarked steers d.1 ms' × There steers ms' d.0

  not-there : (x : ℕ) (s : Sketch) (ms : Marks) → AreMarked steers s ms → There steers ms x → MadeThere ms (not_gate x s)
  not-there x s ms a t = let u = not-marked steers x s ms t.mark a (there-low steers ms x t) in (u.0, u.1, u.2, low-there steers u.0 (not_gate x s).0 t.mark u.3)

  and-there : (x y : ℕ) (s : Sketch) (ms : Marks) → AreMarked steers s ms → There steers ms x → There steers ms y → MadeThere ms (and_gate x y s)
  and-there x y s ms a t r =
      let m = both t.mark r.mark in
      let u = and-marked steers x y s ms m a (low-up steers ms x t.mark m (λ h. inl h) (there-low steers ms x t)) (low-up steers ms y r.mark m (λ h. inr h) (there-low steers ms y r)) in
      (u.0, u.1, u.2, low-there steers u.0 (and_gate x y s).0 m u.3)

  or-there : (x y : ℕ) (s : Sketch) (ms : Marks) → AreMarked steers s ms → There steers ms x → There steers ms y → MadeThere ms (or_gate x y s)
  or-there x y s ms a t r =
      let m = both t.mark r.mark in
      let u = or-marked steers x y s ms m a (low-up steers ms x t.mark m (λ h. inl h) (there-low steers ms x t)) (low-up steers ms y r.mark m (λ h. inr h) (there-low steers ms y r)) in
      (u.0, u.1, u.2, low-there steers u.0 (or_gate x y s).0 m u.3)

  hyp-marked : (w : ℕ) (s : Sketch) (ms : Marks) → AreMarked steers s ms → There steers ms w → AreMarked steers (with_hyp w s) ms
  unfolding with_hyp
  hyp-marked w s ms a t = record { wires = a.wires; reads = a.reads; slots = a.slots; clocks = a.clocks; low_is = a.low_is; high_is = a.high_is; hyp_is = t; duty_is = a.duty_is }

  duty-marked : (w : ℕ) (s : Sketch) (ms : Marks) → AreMarked steers s ms → There steers ms w → AreMarked steers (with_duty w s) ms
  unfolding with_duty
  duty-marked w s ms a t = record { wires = a.wires; reads = a.reads; slots = a.slots; clocks = a.clocks; low_is = a.low_is; high_is = a.high_is; hyp_is = a.hyp_is; duty_is = t }

  assume-marked : (w : ℕ) (s : Sketch) (ms : Marks) → AreMarked steers s ms → AreMarked steers (with_assume w s) ms
  unfolding with_assume
  assume-marked w s ms a = record { wires = a.wires; reads = a.reads; slots = a.slots; clocks = a.clocks; low_is = a.low_is; high_is = a.high_is; hyp_is = a.hyp_is; duty_is = a.duty_is }

  hyp-there : (s : Sketch) (ms : Marks) → AreMarked steers s ms → There steers ms (hyp_of s)
  unfolding hyp_of
  hyp-there s ms a = a.hyp_is

  duty-there : (s : Sketch) (ms : Marks) → AreMarked steers s ms → There steers ms (duty_of s)
  unfolding duty_of
  duty-there s ms a = a.duty_is

  told-marked : (supposed owed : ℕ) (s : Sketch) (ms : Marks) → AreMarked steers s ms → There steers ms supposed → There steers ms owed → Step steers ms (add_told supposed owed s)
  unfolding add_told
  told-marked supposed owed s ms a t r =
      let u = and-there (hyp_of s) supposed s ms a (hyp-there s ms a) t in
      let d = and_gate (hyp_of s) supposed s in
      let h = with_hyp_drawn d in
      let b = hyp-marked d.0 d.1 u.0 u.2 u.3 in
      let v = and-there (duty_of h) owed h u.0 b (duty-there h u.0 b) (there-grows steers ms u.0 u.1 owed r) in
      let e = and_gate (duty_of h) owed h in
      (v.0, grows-both ms u.0 v.0 u.1 v.1, duty-marked e.0 e.1 v.0 v.2 v.3)

  pub call-told : (here assume enforce : ℕ) (s : Sketch) (ms : Marks) → AreMarked steers s ms → There steers ms here → There steers ms assume → There steers ms enforce → Step steers ms (add_call here assume enforce s)
  unfolding add_call
  call-told here assume enforce s ms a h t r =
      let away = not_gate here s in
      let u = not-there here s ms a h in
      let unassumed = not_gate assume away.1 in
      let v = not-there assume away.1 u.0 u.2 (there-grows steers ms u.0 u.1 assume t) in
      let g = grows-both ms u.0 v.0 u.1 v.1 in
      let kept = or_gate unassumed.0 enforce unassumed.1 in
      let w = or-there unassumed.0 enforce unassumed.1 v.0 v.2 v.3 (there-grows steers ms v.0 g enforce r) in
      let from_u = grows-both u.0 v.0 w.0 v.1 w.1 in
      let supposed = or_gate away.0 kept.0 kept.1 in
      let x = or-there away.0 kept.0 kept.1 w.0 w.2 (there-grows steers u.0 w.0 from_u away.0 u.3) w.3 in
      let to_x = grows-both u.0 w.0 x.0 from_u x.1 in
      let owed = or_gate away.0 assume supposed.1 in
      let y = or-there away.0 assume supposed.1 x.0 x.2 (there-grows steers u.0 x.0 to_x away.0 u.3) (there-grows steers ms x.0 (grows-both ms u.0 x.0 u.1 to_x) assume t) in
      let e = told-marked supposed.0 owed.0 owed.1 y.0 y.2 (there-grows steers x.0 y.0 y.1 supposed.0 x.3) y.3 in
      (e.0, grows-both ms u.0 e.0 u.1 (grows-both u.0 x.0 e.0 to_x (grows-both x.0 y.0 e.0 y.1 e.1)), e.2)

  pub finish-marked : (assume enforce : ℕ) (s : Sketch) (ms : Marks) → AreMarked steers s ms → There steers ms assume → There steers ms enforce → Step steers ms (finish assume enforce s)
  unfolding finish
  finish-marked assume enforce s ms a t r =
      let first = with_assume assume s in
      let b = assume-marked assume s ms a in
      let u = and-there assume (hyp_of first) first ms b t (hyp-there first ms b) in
      let d = and_gate assume (hyp_of first) first in
      let h = with_hyp_drawn d in
      let c = hyp-marked d.0 d.1 u.0 u.2 u.3 in
      let v = and-there enforce (duty_of h) h u.0 c (there-grows steers ms u.0 u.1 enforce r) (duty-there h u.0 c) in
      let e = and_gate enforce (duty_of h) h in
      (v.0, grows-both ms u.0 v.0 u.1 v.1, duty-marked e.0 e.1 v.0 v.2 v.3)

  -- ---- what a contract sees

  abbrev pub LowAt : Marks → Sources → NameSources → List ℕ → ℕ → Type 0
  LowAt ms context names x w = Low steers ms w (both context (names x))

  -- where nothing is seen
  pub nothing-seen : (s : Sketch) (ms : Marks) (context : Sources) (names : NameSources) → AreMarked steers s ms → AreSeen steers ms no_scope context names
  unfolding value_in last_in
  nothing-seen s ms context names a = record { values = λ x. low-up steers ms low none (both context (names x)) (λ l. absurd l) a.low_is; lasts = λ x. low-up steers ms low none context (λ l. absurd l) a.low_is }

  pub layer-there : (s : Sketch) (ms : Marks) (context : Sources) (names : NameSources) (l : Layer) → AreMarked steers s ms → Says (LowAt ms context names) l → (x : List ℕ) → There steers ms (wire_in l x)
  layer-there s ms context names l a h x = by (entry_in l x) refl
    where
      by : (o : Option Entry) → entry_in l x ≡ o → There steers ms (or_none (wire_by o))
      by None q = low-there steers ms low none a.low_is
      by (Some e) q = low-there steers ms (or_none e.wire) (both context (names x)) (h x e q)

  pub layers-seen : (s : Sketch) (ms : Marks) (context : Sources) (names : NameSources) (values lasts : Layer) → AreMarked steers s ms → Says (LowAt ms context names) values → Says (λ x w. Low steers ms w context) lasts → AreSeen steers ms (scope_over values lasts) context names
  unfolding value_in last_in push_values push_lasts
  layers-seen s ms context names values lasts a h k = record { values = λ x. by-value x (entry_in values x) refl; lasts = λ x. by-last x (entry_in lasts x) refl }
    where
      by-value : (x : List ℕ) (o : Option Entry) → entry_in values x ≡ o → Low steers ms (value_by (or_found o None)).wire (both context (names x))
      by-value x None q = low-up steers ms low none (both context (names x)) (λ l. absurd l) a.low_is
      by-value x (Some e) q = h x e q

      by-last : (x : List ℕ) (o : Option Entry) → entry_in lasts x ≡ o → Low steers ms (value_by (or_found o None)).wire context
      by-last x None q = low-up steers ms low none context (λ l. absurd l) a.low_is
      by-last x (Some e) q = k x e q

  pub says-grows : (ms ms' : Marks) → Grows ms ms' → (context : Sources) (names : NameSources) (l : Layer) → Says (LowAt ms context names) l → Says (LowAt ms' context names) l
  says-grows ms ms' g context names l h x e q = low-grows steers ms ms' g (or_none e.wire) (both context (names x)) (h x e q)

  -- inputs and outputs, whose wires have marks that lead where their names do, and last values of outputs
  pub contract-seen : (t : Told) (spot : Place) (n : Node) (inputs outputs : ℕ) (s : Sketch) (ms : Marks) (context : Sources) (names ins outs : NameSources) → AreMarked steers s ms → IsPlaced steers ms spot context → AreNamed ms inputs n.inputs ins → AreNamed ms outputs n.outputs outs
      → ((x : List ℕ) → declares n.inputs x ≡ true → Leads steers (ins x) → Leads steers (both context (names x))) → ((x : List ℕ) → declares n.outputs x ≡ true → Leads steers (outs x) → Leads steers (both context (names x)))
      → (ms' : Marks) × Grows ms ms' × AreMarked steers (contract_scope t spot n inputs outputs s).1 ms' × AreSeen steers ms' (contract_scope t spot n inputs outputs s).0 context names
  unfolding contract_scope
  contract-seen t spot n inputs outputs s ms context names ins outs a p i o from_in from_out =
      let Q : List ℕ → ℕ → Type 0 = LowAt ms context names in
      let first = says-row Q ms ins t inputs 0 n.inputs [] (λ x w d h. low-up steers ms w (ins x) (both context (names x)) (from_in x d) (low-own steers ms w (ins x) h)) (subst (λ w. AreNamed ms w n.inputs ins) (let z : inputs ≡ inputs + 0 = omega arith in z) i) (λ x e q. absurd (none-some e q)) in
      let l0 = put_row t n.inputs inputs [] in
      let says = says-row Q ms outs t outputs 0 n.outputs l0 (λ x w d h. low-up steers ms w (outs x) (both context (names x)) (from_out x d) (low-own steers ms w (outs x) h)) (subst (λ w. AreNamed ms w n.outputs outs) (let z : outputs ≡ outputs + 0 = omega arith in z) o) first in
      let l = contract_layer t n inputs outputs in
      let u = all-lasts steers t no_scope context names names spot n.outputs l [] s ms (record { marks = a; placed = p; seen = nothing-seen s ms context names a }) (layer-there s ms context names l a says) (λ x e q. absurd (none-some e q)) in
      let lasts = add_lasts t spot n.outputs l [] s in
      (u.0, u.1, u.2, layers-seen lasts.1 u.0 context names l lasts.0 u.2 (says-grows ms u.0 u.1 context names l says) u.3)

  -- ---- contracts

  -- What is drawn of a contract goes on with marks, and what is assumed leads nowhere else.
  abbrev pub Observed : Marks → Sources → Drawn × Sketch → Type 0
  Observed ms m g = (ms' : Marks) × Grows ms ms' × AreMarked steers g.1 ms' × Low steers ms' g.0.assume m × There steers ms' g.0.enforce

  module _ (t : Told) (brings : Brings) (held : Held) (b : (context : Sources) → BringsMarked steers t brings held context) where
    -- what is told leads nowhere else
    told-low : (o : Option Expr) (z : Scope) (context : Sources) (names : NameSources) (k : PlaceSources) (spot : Place) (s : Sketch) (ms : Marks) → TellsFit t o → Owes steers context (at_told o names k) k → ToldPlaced steers t brings held z spot o k s → IsAt steers z context names ms s spot
        → Made steers ms (both context (told_reads o names k)) (drawn_told t brings z spot o s)
    told-low None z context names k spot s ms fit o j at = (ms, grows-none ms, at.marks, low-up steers ms high none (both context none) (λ l. absurd l) at.marks.high_is)
    told-low (Some e) z context names k spot s ms fit o j at = expr steers t brings held z context names (b context) e [] k spot fit o s ms j at

    pub contract-marked : (c : Contract) (z : Scope) (context : Sources) (names : NameSources) (k : PlaceSources) (spot : Place) (s : Sketch) (ms : Marks) → ContractFits t (Some c) → Owes steers context (in_block c.body names (below Observer k)) (below Observer k)
        → Owes steers context (at_told c.assume (names_in_block c.body names (below Observer k)) (below Assume k)) (below Assume k) → Owes steers context (at_told c.enforce (names_in_block c.body names (below Observer k)) (below Enforce k)) (below Enforce k)
        → ContractPlaced steers t brings held z spot c k s → IsAt steers z context names ms s spot
        → Observed ms (both context (told_reads c.assume (names_in_block c.body names (below Observer k)) (below Assume k))) (drawn_contract t brings z spot c s)
    contract-marked c z context names k spot s ms fit o o_assume o_enforce j at =
        behind (drawn_block t brings z spot c.body s) (j.1, j.2) (block-marked steers t brings held b c.body fit.0 z context names (below Observer k) spot s ms o j.0 at)
      where
        inner : NameSources
        inner = names_in_block c.body names (below Observer k)

        behind : (inside : Scope × Sketch)
            → (let assume = drawn_told t brings inside.0 spot c.assume inside.1 in ToldPlaced steers t brings held inside.0 spot c.assume (below Assume k) inside.1 × ToldPlaced steers t brings held inside.0 spot c.enforce (below Enforce k) assume.1)
            → blocks.Blocked steers ms c.body context inner inside
            → (let assume = drawn_told t brings inside.0 spot c.assume inside.1 in let enforce = drawn_told t brings inside.0 spot c.enforce assume.1 in
            (ms' : Marks) × Grows ms ms' × AreMarked steers enforce.1 ms' × Low steers ms' assume.0 (both context (told_reads c.assume inner (below Assume k))) × There steers ms' enforce.0)
        behind inside j u =
            let at1 : IsAt steers inside.0 context inner u.0 inside.1 spot = record { marks = u.2; placed = placed-grows steers ms u.0 u.1 spot context at.placed; seen = u.3 } in
            let assume = drawn_told t brings inside.0 spot c.assume inside.1 in
            let v = told-low c.assume inside.0 context inner (below Assume k) spot inside.1 u.0 fit.1 o_assume j.0 at1 in
            let w = told-low c.enforce inside.0 context inner (below Enforce k) spot assume.1 v.0 fit.2 o_enforce j.1 (at-behind steers inside.0 context inner u.0 v.0 inside.1 assume.1 spot at1 v.1 v.2) in
            let enforce = drawn_told t brings inside.0 spot c.enforce assume.1 in (
              w.0,
              grows-both ms u.0 w.0 u.1 (grows-both u.0 v.0 w.0 v.1 w.1),
              w.2,
              low-grows steers v.0 w.0 w.1 assume.0 (both context (told_reads c.assume inner (below Assume k))) v.3,
              low-there steers w.0 enforce.0 (both context (told_reads c.enforce inner (below Enforce k))) w.3,
            )

  -- ---- the contract of a node that is called

  module _ (t : Told) (fits : (f : List ℕ) (n : Node) → t.nodes f ≡ Some n → ContractFits t n.contract) where
    nothing-brought : (context : Sources) → BringsMarked steers t no_brings none_held context
    nothing-brought context = λ spot f n c s ms m k found held into a p around callee. (ms, grows-none ms, a)

    -- all that the contract reads leads nowhere else
    pub called-marked : (context : Sources) (spot : Place) (n : Node) (contract : Contract) (c : Callee) (s : Sketch) (ms : Marks) (m : Sources) (k : PlaceSources) → ContractFits t (Some contract) → CalledPlaced steers t spot n (Some contract) c s k
        → ((p : TreePlace) → Leads steers m → Leads steers (k p)) → AreMarked steers s ms → IsPlaced steers ms spot context → (Leads steers context → Leads steers m) → IsCallee ms n c m → Step steers ms (drawn_called t spot n contract c s)
    called-marked context spot n contract c s ms m k fit j into a p around callee =
        behind (called_at spot s) j (parts.called-marked steers spot s ms context a p)
      where
        const : NameSources
        const x = m

        here : PlaceSources
        here p = m

        same : (s : Sources) → (Leads steers s → Leads steers m) → Leads steers (both m s) → Leads steers m
        same s f (inl h) = h
        same s f (inr h) = f h

        names_go : (x : List ℕ) → Leads steers (const x) → Leads steers m
        names_go x h = h

        all_go : (p : TreePlace) → Leads steers (here p) → Leads steers m
        all_go p h = h

        inner : NameSources
        inner = names_in_block contract.body const (below Observer here)

        inner_go : (x : List ℕ) → Leads steers (inner x) → Leads steers m
        inner_go = names-inside steers (Leads steers m) contract.body const (below Observer here) names_go (λ p. all_go (Observer ∷ p))

        seen : (inside : Place × Sketch) (ms1 : Marks) → Grows ms ms1 → There steers ms1 inside.0.here → (z : Scope × Sketch) → ContractPlaced steers t no_brings none_held z.0 inside.0 contract k z.1
            → AreMarked steers z.1 ms1 → IsPlaced steers ms1 inside.0 m → AreSeen steers ms1 z.0 m const
            → Step steers ms (let g = drawn_contract t no_brings z.0 inside.0 contract z.1 in add_call inside.0.here g.0.assume g.0.enforce g.1)
        seen inside ms1 g t1 z j a1 p1 seen1 =
            let v = contract-marked t no_brings none_held nothing-brought contract z.0 m const here inside.0 z.1 ms1 fit (λ q h. same (in_block contract.body const (below Observer here) q) (block-places steers (Leads steers m) contract.body const (below Observer here) names_go (λ p. all_go (Observer ∷ p)) q) h)
            (λ q h. same (at_told contract.assume inner (below Assume here) q) (told-places steers (Leads steers m) contract.assume inner (below Assume here) inner_go (λ p. all_go (Assume ∷ p)) q) h)
            (λ q h. same (at_told contract.enforce inner (below Enforce here) q) (told-places steers (Leads steers m) contract.enforce inner (below Enforce here) inner_go (λ p. all_go (Enforce ∷ p)) q) h)
            (contract-fewer steers t no_brings contract z.0 inside.0 k here z.1 into j) (record { marks = a1; placed = p1; seen = seen1 }) in
            let g1 = drawn_contract t no_brings z.0 inside.0 contract z.1 in
            let e = call-told inside.0.here g1.0.assume g1.0.enforce g1.1 v.0 v.2 (there-grows steers ms1 v.0 v.1 inside.0.here t1) (low-there steers v.0 g1.0.assume (both m (told_reads contract.assume inner (below Assume here))) v.3) v.4 in
            (e.0, grows-both ms ms1 e.0 g (grows-both ms1 v.0 e.0 v.1 e.1), e.2)

        behind : (inside : Place × Sketch) → (let z = contract_scope t inside.0 n c.inputs c.outputs inside.1 in ContractPlaced steers t no_brings none_held z.0 inside.0 contract k z.1)
            → (ms' : Marks) × Grows ms ms' × AreMarked steers inside.1 ms' × IsPlaced steers ms' inside.0 context
            → Step steers ms (let z = contract_scope t inside.0 n c.inputs c.outputs inside.1 in let g = drawn_contract t no_brings z.0 inside.0 contract z.1 in add_call inside.0.here g.0.assume g.0.enforce g.1)
        behind inside j u =
            let p1 = placed-up steers u.0 inside.0 context m around u.3 in
            let ins = named-grows ms u.0 u.1 c.inputs n.inputs const (row-named ms c.inputs n.inputs m callee.inputs) in
            let outs = named-grows ms u.0 u.1 c.outputs n.outputs const (row-named ms c.outputs n.outputs m callee.outputs) in
            let v = contract-seen t inside.0 n c.inputs c.outputs inside.1 u.0 m const const const u.2 p1 ins outs (λ x d h. inl h) (λ x d h. inl h) in
            seen inside v.0 (grows-both ms u.0 v.0 u.1 v.1) (there-grows steers u.0 v.0 v.1 inside.0.here u.3.here) (contract_scope t inside.0 n c.inputs c.outputs inside.1) j v.2 (placed-grows steers u.0 v.0 v.1 inside.0 m p1) v.3

    -- so what a call brings has its mark
    pub contracts-marked : (context : Sources) → BringsMarked steers t contracts (contracts_held steers t) context
    contracts-marked context = λ spot f n c s ms m k found held into a p around callee. by n.contract (fits f n found) spot n c s ms m k held into a p around callee
      where
        by : (o : Option Contract) → ContractFits t o → (spot : Place) (n : Node) (c : Callee) (s : Sketch) (ms : Marks) (m : Sources) (k : PlaceSources) → CalledPlaced steers t spot n o c s k
            → ((p : TreePlace) → Leads steers m → Leads steers (k p)) → AreMarked steers s ms → IsPlaced steers ms spot context → (Leads steers context → Leads steers m) → IsCallee ms n c m → Step steers ms (drawn_called_if t spot n o c s)
        by None fit spot n c s ms m k held into a p around callee = (ms, grows-none ms, a)
        by (Some contract) fit spot n c s ms m k held into a p around callee = called-marked context spot n contract c s ms m k fit held into a p around callee
