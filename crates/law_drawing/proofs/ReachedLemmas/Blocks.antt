-- What is drawn of blocks and control equations reads all that they read: each part by what is drawn of its own parts.
use Rattle.std.proofs.Common.{◌≡◌, ℕ, Bool, true, false, if◌then◌else◌, ◌||◌, ◌&&◌, not, List, [], ◌∷◌, Some, refl, sym, ap, subst, ◌∙◌, inl, inr}
use Rattle.std.specs.Prelude.{◌⊎◌}
use Rattle.hp_base.specs.declared.span.Span.{Span}
use Rattle.hp_tree.specs.declared.decl.Cons as tree_cons
use Rattle.hp_tree.specs.Blocks.{Decl, Block, block, Eqns, no_eqn, more_eqns, Eqn, define, switch, reset, Arms, no_arm, more_arms}
use Rattle.hp_tree.specs.Expressions.{Expr}
use Rattle.hp_tree.specs.Instant.{Body, Named, Equations, Head, Tail, Right, Test, Arms as ArmsOf, Place}
use Rattle.hp_tree.specs.Programs.{Node}
use Rattle.hp_tree.specs.Meaning as meaning
use Rattle.hp_tree.specs.Meaning.{declares, defines, some_defines, arms_define, states_define, block_defines}
use Rattle.hp_meaning.specs.Causal.Sources.{Sources, none, only, NameSources, PlaceSources}
use Rattle.hp_meaning.specs.Causal.WhatIsRead.{of_clock, of_expr, at_expr, names_in, names_within, names_in_block, in_arms, of_definition, of_definitions, in_block, in_equations, in_equation, in_each_arm}
use Rattle.hp_drawing.specs.declared.parts.Entry.{Entry}
use Rattle.hp_drawing.specs.declared.parts.Lines.{Lines}
use Rattle.hp_drawing.specs.declared.parts.Place.{Place as Spot}
use Rattle.hp_circuit.specs.declared.circuit.Shape.TheVariants.{Truth}
use Rattle.hp_drawing.specs.Told.{Told}
use Rattle.hp_drawing.specs.Sketch.{Sketch, high, hole}
use Rattle.hp_drawing.specs.Places.{on_clock, within, reset_by}
use Rattle.hp_drawing.specs.Scopes.{Scope, Layer, entry_in, or_found, found, value_by, value_in, top_layer, push_values, join_names, enter, hide, branch_value, with_hole, read_by_names, read_by_hidden}
use Rattle.hp_drawing.specs.DrawnExpressions.{Brings, drawn, has_cons}
use Rattle.hp_drawing.specs.DrawnBlocks.{clock_of, drawn_block, drawn_eqns, drawn_eqn, drawn_arms, enter_arm, enter_state, reset_begin, join_drawn, leave_hidden}
use Rattle.law_drawing.specs.Steered.Placed.{Held, BlockPlaced, EqnsPlaced, EqnPlaced}
use Rattle.law_drawing.specs.Steered.Asked.{RightFits, CallsFit}
use Rattle.law_drawing.proofs.SteeredLemmas.Outer.{IsWithin, block-within}
use Rattle.law_drawing.proofs.EarlyLemmas.Running.{join-runs, within-runs, reset-runs, define-runs, joined_names-run, end_hidden-runs, enter-runs, enter_arm-runs, reset_begin-runs}
use Rattle.law_drawing.proofs.EarlyLemmas.Walk.{standing}
use Rattle.law_drawing.specs.Reached.Filled.{IsFilled}
use Rattle.law_drawing.proofs.ReachedLemmas.Closed.{running}
use Rattle.law_drawing.proofs.ReachedLemmas.Steps.{cons-gives, define-gives}
use Rattle.law_drawing.proofs.ReachedLemmas.Whereabouts.{Said, by_row, Holds, row-holds, block-holds, right-holds, arms-hold, body-holds}
use Rattle.law_drawing.proofs.ReachedLemmas.Wires.{ExprWires, BlockWires, EqnsWires, EqnWires, ArmsWires}
use Rattle.law_drawing.proofs.ReachedLemmas.Expressions.{leading, L, Early, R, Shut, SlotsRight, NamesLead, IsOwn, Reached, on, top, nothing-read, BringsRun, expr-done}
use Rattle.law_drawing.proofs.ReachedLemmas.Definitions.{definition-done}
use Rattle.law_drawing.proofs.ReachedLemmas.Scopes.{Owned, entered-owned, entered-outside, branch-is, hidden_layer, hidden-at, hidden-not, pushed-value, plain-value, joined-at, joined-value, read-at, join-is}

-- ---- what is drawn inside stands in no node itself

arm-outside : (t : Told) (spot : Spot) (w : ℕ) (c : tree_cons.Cons) (s : Sketch) → (enter_arm t spot w c s).1.outside ≡ false
unfolding enter_arm within
arm-outside t spot w c s = refl

reset-outside : (z : Scope) (spot : Spot) (s : Sketch) → (reset_begin z spot s).1.outside ≡ false
unfolding reset_begin reset_by
reset-outside z spot s = refl

pub place-outside : (lines : Lines) (spot : Spot) (k : ℕ) (s : Sketch) → (enter_state lines spot k s).0.place.outside ≡ false
unfolding enter_state within
place-outside lines spot k s = refl

pub body-outside : (lines : Lines) (spot : Spot) (k : ℕ) (s : Sketch) → (enter_state lines spot k s).0.body.outside ≡ false
unfolding enter_state reset_by
body-outside lines spot k s = refl

-- a name that a block defines and does not declare
defines-apart : (ds : List Decl) (es : Eqns) (x : List ℕ) → block_defines (block ds es) x ≡ true → (some_defines es x ≡ true) × (declares ds x ≡ false)
defines-apart ds es x h = by (some_defines es x) (declares ds x) h
  where
    by : (a b : Bool) → a && not b ≡ true → (a ≡ true) × (b ≡ false)
    by true true h = absurd cc
    by true false h = (refl, refl)
    by false b h = absurd cc

first-of : (a b : Bool) {X : Type 0} → a || b ≡ true → (a ≡ true → X) → (a ≡ false → b ≡ true → X) → X
first-of true b h f g = f refl
first-of false b h f g = g refl h

module _ (S : ℕ → Type 0) (T : Place → Type 0) (n : Node) (place : ℕ → Place) (t : Told) (brings : Brings) (held : Place → Held) (b : BringsRun S T n place t brings) where
  abbrev pub Steps : Sketch → Sketch → Type 0
  Steps = R S T n place

  abbrev pub Ends : Sketch → Type 0
  Ends s = Shut S T n place s

  abbrev pub Slotted : Sketch → Type 0
  Slotted s = SlotsRight S T n place s

  abbrev pub Leads : Sources → Type 0
  Leads s = L S T n place s

  abbrev pub Lead : Type 0 → Scope → NameSources → Type 0
  Lead C z names = NamesLead S T n place C z names

  abbrev pub Reach : Type 0 → (Place → Place) → Said → Type 0
  Reach C at f = Reached S T n place C at f

  abbrev pub Own : Type 0 → Spot → (Place → Type 0) → (Place → Place) → PlaceSources → Type 0
  Own C spot lies at reads = IsOwn S T n place C spot lies at reads

  -- nothing is owned inside
  pub inside : (C : Type 0) (spot : Spot) (lies : Place → Type 0) (at : Place → Place) (reads : PlaceSources) → spot.outside ≡ false → Own C spot lies at reads
  inside C spot lies at reads f o = absurd (let c : false ≡ true = sym f ∙ o in cc)

  -- ---- what is shown of each part

  pub record BlockDone (C : Type 0) (z : Scope) (names : NameSources) (at : Place → Place) (spot : Spot) (c : Block) (s : Sketch) : Type 0 where
    pub shut : Ends s
    pub slots : Slotted s → Slotted (drawn_block t brings z spot c s).1
    pub named : Lead C (drawn_block t brings z spot c s).0 (names_in_block c names (λ p. only (at p)))
    pub placed : Holds (leading T) C (in_block c names (λ p. only (at p))) (BlockWires S t brings z spot c s)

  abbrev pub BlockLaw : Block → Type 1
  BlockLaw c =
      (C : Type 0) (z : Scope) (names : NameSources) (at : Place → Place) (spot : Spot) (s : Sketch) → Lead C z names → Reach C at (BlockWires S t brings z spot c s)
      → Own C spot (λ q. BlockPlaced (standing place q) t brings (held q) z spot c (λ p. only (at p)) s) at (in_block c names (λ p. only (at p))) → Ends (drawn_block t brings z spot c s).1 → BlockDone C z names at spot c s

  pub record EqnsDone (C : Type 0) (z : Scope) (ds : List Decl) (names : NameSources) (at : Place → Place) (spot : Spot) (es : Eqns) (s : Sketch) : Type 0 where
    pub shut : Ends s
    pub slots : Slotted s → Slotted (drawn_eqns t brings z spot ds es s)
    pub given : (x : List ℕ) → some_defines es x ≡ true → Leads (of_definitions ds es names (λ p. only (at p)) x) → C ⊎ S (value_in z x).wire
    pub placed : Holds (leading T) C (in_equations ds es names (λ p. only (at p))) (EqnsWires S t brings z spot ds es s)

  abbrev pub EqnsLaw : Eqns → Type 1
  EqnsLaw es =
      (C : Type 0) (z : Scope) (ds : List Decl) (names : NameSources) (at : Place → Place) (spot : Spot) (s : Sketch) → Lead C z names → Owned z (some_defines es) → Reach C at (EqnsWires S t brings z spot ds es s)
      → Own C spot (λ q. EqnsPlaced (standing place q) t brings (held q) z spot ds es (λ p. only (at p)) s) at (in_equations ds es names (λ p. only (at p))) → Ends (drawn_eqns t brings z spot ds es s) → EqnsDone C z ds names at spot es s

  pub record EqnDone (C : Type 0) (z : Scope) (ds : List Decl) (names : NameSources) (at : Place → Place) (spot : Spot) (e : Eqn) (s : Sketch) : Type 0 where
    pub shut : Ends s
    pub slots : Slotted s → Slotted (drawn_eqn t brings z spot ds e s)
    pub given : (x : List ℕ) → defines e x ≡ true → Leads (of_definition ds e names (λ p. only (at p)) x) → C ⊎ S (value_in z x).wire
    pub placed : Holds (leading T) C (in_equation ds e names (λ p. only (at p))) (EqnWires S t brings z spot ds e s)

  abbrev pub EqnLaw : Eqn → Type 1
  EqnLaw e =
      (C : Type 0) (z : Scope) (ds : List Decl) (names : NameSources) (at : Place → Place) (spot : Spot) (s : Sketch) → Lead C z names → Owned z (defines e) → Reach C at (EqnWires S t brings z spot ds e s)
      → Own C spot (λ q. EqnPlaced (standing place q) t brings (held q) z spot ds e (λ p. only (at p)) s) at (in_equation ds e names (λ p. only (at p))) → Ends (drawn_eqn t brings z spot ds e s) → EqnDone C z ds names at spot e s

  -- what is to be said of hidden names is of the set where their wires outside are
  abbrev pub Hides : Eqn → Layer → (List ℕ → ℕ) → Type 0
  Hides e h target = (x : List ℕ) → defines e x ≡ true → (i : Entry) × (entry_in h x ≡ Some i) × (S i.hole → S (target x))

  pub record ArmsDone (D : Type 0) (e : Eqn) (target : List ℕ → ℕ) (inner : NameSources) (at : Place → Place) (w : ℕ) (arms : Arms) (s : Sketch) (behind : Sketch) (wires : Said) : Type 0 where
    pub shut : Ends s
    pub slots : Slotted s → Slotted behind
    pub given : (x : List ℕ) → defines e x ≡ true → Leads (in_arms arms (λ p. only (at p)) x) → D ⊎ S (target x)
    pub chosen : (x : List ℕ) → defines e x ≡ true → arms_define arms x ≡ true → S w → S (target x)
    pub placed : Holds (leading T) D (in_each_arm arms inner (λ p. only (at p))) wires

  abbrev pub ArmsLaw : Arms → Type 1
  ArmsLaw arms =
      (D : Type 0) (e : Eqn) (z : Scope) (target : List ℕ → ℕ) (h : Layer) (inner : NameSources) (at : Place → Place) (spot : Spot) (w : ℕ) (s : Sketch) → Lead D (push_values h z) inner → Reach D at (ArmsWires S t brings (push_values h z) spot w arms s) → (Ends s → Hides e h target)
      → Ends (drawn_arms t brings (push_values h z) spot w arms s).1
      → ArmsDone D e target inner at w arms s (drawn_arms t brings (push_values h z) spot w arms s).1 (ArmsWires S t brings (push_values h z) spot w arms s)

  -- ---- blocks

  -- names inside
  inside-named : (ds : List Decl) (es : Eqns) → ((x : List ℕ) → declares ds x ≡ true → some_defines es x ≡ true) → (C : Type 0) (z : Scope) (names : NameSources) (at : Place → Place) (spot : Spot) (s : Sketch) → Lead C z names → Reach C at (BlockWires S t brings z spot (block ds es) s)
      → Lead C (enter t z spot ds es s).0 (names_in es names (λ p. only (at p)))
  inside-named ds es filled C z names at spot s named h x l = by (some_defines es x) refl l
    where
      by : (d : Bool) → some_defines es x ≡ d → Leads (if d then only (at (Named x ∷ [])) else names x) → C ⊎ S (value_in (enter t z spot ds es s).0 x).wire
      by true q l = h (Named x ∷ []) l
      by false q l = subst (λ v. C ⊎ S v.wire) (sym (entered-outside t z spot ds es s x filled q)) (named x l)

  pub block-named : (c : Block) → IsFilled c → (C : Type 0) (z : Scope) (names : NameSources) (at : Place → Place) (spot : Spot) (s : Sketch) → Lead C z names → Reach C at (BlockWires S t brings z spot c s) → Lead C (drawn_block t brings z spot c s).0 (names_in_block c names (λ p. only (at p)))
  block-named (block ds es) filled C z names at spot s named h = inside-named ds es filled.0 C z names at spot s named h

  pub block-done : (ds : List Decl) (es : Eqns) → ((x : List ℕ) → declares ds x ≡ true → some_defines es x ≡ true) → EqnsLaw es → BlockLaw (block ds es)
  block-done ds es filled law C z names at spot s named h own c =
      let k : PlaceSources = λ p. only (at p) in
      let i = enter t z spot ds es s in
      let r = enter-runs Steps (running S (Early S T n place)) t z spot ds es s in
      let u = law C i.0 ds (names_in es names k) (λ p. at (Equations ∷ p)) spot i.1 within (entered-owned t z spot ds es s) (λ p. h (Equations ∷ p)) (λ o. let x = own o in (x.0, λ p. x.1 (Equations ∷ p), x.2)) c in
      record {
        shut = r.closed u.shut;
        slots = λ k. u.slots (r.slots k);
        named = within;
        placed = block-holds (leading T) C (of_definitions ds es (names_in es names k) (λ p. only (at (Equations ∷ p)))) (in_equations ds es (names_in es names k) (λ p. only (at (Equations ∷ p)))) (λ x. S (value_in i.0 x).wire) (EqnsWires S t brings i.0 spot ds es i.1)
            (λ x l. defined i.0 i.1 u x (some_defines es x) refl l) u.placed;
      }
    where
      within : Lead C (enter t z spot ds es s).0 (names_in es names (λ p. only (at p)))
      within = inside-named ds es filled C z names at spot s named h

      defined : (y : Scope) (s1 : Sketch) → EqnsDone C y ds (names_in es names (λ p. only (at p))) (λ p. at (Equations ∷ p)) spot es s1 → (x : List ℕ) (d : Bool) → some_defines es x ≡ d → Leads (of_definitions ds es (names_in es names (λ p. only (at p))) (λ p. only (at (Equations ∷ p))) x) → C ⊎ S (value_in y x).wire
      defined y s1 u x true q l = u.given x q l
      defined y s1 u x false q l = absurd (undefined es (λ p. at (Equations ∷ p)) x q l)
        where
          undefined : (es' : Eqns) (at' : Place → Place) (x : List ℕ) → some_defines es' x ≡ false → Leads (of_definitions ds es' (names_in es names (λ p. only (at p))) (λ p. only (at' p)) x) → ⊥
          undefined no_eqn at' x q l = absurd l
          undefined (more_eqns e es') at' x q l = by (defines e x) q l (undefined es' (λ p. at' (Tail ∷ p)) x)
            where
              by : (d : Bool) → d || some_defines es' x ≡ false → Leads (if d then of_definition ds e (names_in es names (λ p. only (at p))) (λ p. only (at' (Head ∷ p))) x else of_definitions ds es' (names_in es names (λ p. only (at p))) (λ p. only (at' (Tail ∷ p))) x)
                  → (some_defines es' x ≡ false → Leads (of_definitions ds es' (names_in es names (λ p. only (at p))) (λ p. only (at' (Tail ∷ p))) x) → ⊥) → ⊥
              by true q l more = absurd (let c : true ≡ false = q in cc)
              by false q l more = more q l

  pub no-equation : EqnsLaw no_eqn
  no-equation C z ds names at spot s named owned h own c = record { shut = c; slots = λ k. k; given = λ x d l. absurd l; placed = nothing-read S T n place C }

  pub more-equations : (e : Eqn) (es : Eqns) → EqnLaw e → EqnsLaw es → EqnsLaw (more_eqns e es)
  more-equations e es first others C z ds names at spot s named owned h own c =
      let s1 = drawn_eqn t brings z spot ds e s in
      let u2 = others C z ds names (λ p. at (Tail ∷ p)) spot s1 named (λ x d. owned x (right (defines e x) (some_defines es x) d)) (λ p. h (Tail ∷ p)) (λ o. let x = own o in (λ q. (x.0 q).1, λ p. x.1 (Tail ∷ p), x.2)) c in
      let u1 = first C z ds names (λ p. at (Head ∷ p)) spot s named (λ x d. owned x (left (defines e x) (some_defines es x) d)) (λ p. h (Head ∷ p)) (λ o. let x = own o in (λ q. (x.0 q).0, λ p. x.1 (Head ∷ p), x.2)) u2.shut in
      record {
        shut = u1.shut;
        slots = λ k. u2.slots (u1.slots k);
        given = λ x d l. by x (defines e x) refl d l (u1.given x) (u2.given x);
        placed = row-holds (leading T) C (in_equation ds e names (λ p. only (at (Head ∷ p)))) (in_equations ds es names (λ p. only (at (Tail ∷ p)))) (EqnWires S t brings z spot ds e s) (EqnsWires S t brings z spot ds es s1) u1.placed u2.placed;
      }
    where
      left : (a b : Bool) → a ≡ true → a || b ≡ true
      left true b h = refl
      left false b h = absurd cc

      right : (a b : Bool) → b ≡ true → a || b ≡ true
      right true b h = refl
      right false b h = h

      by : (x : List ℕ) (d : Bool) → defines e x ≡ d → d || some_defines es x ≡ true → Leads (if d then of_definition ds e names (λ p. only (at (Head ∷ p))) x else of_definitions ds es names (λ p. only (at (Tail ∷ p))) x)
          → (defines e x ≡ true → Leads (of_definition ds e names (λ p. only (at (Head ∷ p))) x) → C ⊎ S (value_in z x).wire)
          → (some_defines es x ≡ true → Leads (of_definitions ds es names (λ p. only (at (Tail ∷ p))) x) → C ⊎ S (value_in z x).wire) → C ⊎ S (value_in z x).wire
      by x true q d l f g = f q l
      by x false q d l f g = g d l

  pub definition : (q : Span) (xs : List (List ℕ × Span)) (e : Expr) → RightFits t e xs → EqnLaw (define q xs e)
  definition q xs e fit C z ds names at spot s named owned h own c =
      let i = clock_of t z ds xs e s in
      let k : PlaceSources = λ p. only (at (Right ∷ p)) in
      let clock = meaning.clock_of ds xs e in
      let u = definition-done S T n place t brings held b e C z ds names clock (λ p. at (Right ∷ p)) spot xs s fit named (λ p. h (Right ∷ p)) (λ o. let x = own o in (x.0, λ p. x.1 (Right ∷ p), x.2)) c in
      record {
        shut = u.shut;
        slots = u.slots;
        given = λ x d l. top S T n place C (S (value_in z x).wire) (of_clock clock names) (of_expr e names k) (u.given x d) l;
        placed = right-holds (leading T) C (at_expr e clock names k) (ExprWires S t brings z (on_clock spot i.0) e i.1) u.placed;
      }

  -- ---- control equations: what is joined

  -- the name of a block that is left
  pub named-branch : (c : Block) (y : Scope) (spot : Spot) (s : Sketch) (x : List ℕ) (i : Entry) → block_defines c x ≡ true → BlockWires S t brings y spot c s (Named x ∷ []) → S (branch_value (top_layer (drawn_block t brings y spot c s).0) x i).wire
  named-branch (block ds es) y spot s x i d k = let a = defines-apart ds es x d in subst S (sym (branch-is t y spot ds es s x i a.0 a.1)) k

  -- the layer that is joined, and the sketch behind it
  joined-of : (w : ℕ) (h : Layer) (d : Scope × Sketch) → Layer × Sketch
  joined-of w h d = join_names (top_layer d.0) w h d.1

  pub joined-is : (c : Block) (w : ℕ) (z : Scope) (h : Layer) (d : Scope) (s : Sketch) → IsWithin c (push_values h z) d → join_drawn w (d, s) ≡ (let j = join_names (top_layer d) w h s in (push_values j.0 z, j.1))
  joined-is c w z h d s within = join-is w z d h s within.values within.lasts

  pub joined-named : (own : Layer) (w : ℕ) (h : Layer) (s : Sketch) (D : Type 0) (z : Scope) (inner : NameSources) → Lead D (push_values h z) inner → Lead D (push_values (join_names own w h s).0 z) inner
  joined-named own w h s D z inner named x l = subst (λ v. D ⊎ S v.wire) (pushed-value h z x ∙ sym (joined-value S (Early S T n place) own w h s x (found z.values x)) ∙ sym (pushed-value (join_names own w h s).0 z x)) (named x l)

  -- where a block is joined what it gives to a name is of the set only where the name is, and so is the condition, and what is to be said next
  pub joined-hides : (own : Layer) (w : ℕ) (h : Layer) (s : Sketch) (e : Eqn) (target : List ℕ → ℕ) → Hides e h target → Ends (join_names own w h s).1 → Hides e (join_names own w h s).0 target
  joined-hides own w h s e target hides c x d =
      let i = hides x d in
      let j = joined-at S (Early S T n place) own w h s x i.0 i.1 c in
      (with_hole i.0 j.0, j.1, λ k. i.2 (j.4 k))

  pub joined-chosen : (own : Layer) (w : ℕ) (h : Layer) (s : Sketch) (e : Eqn) (target : List ℕ → ℕ) → Hides e h target → Ends (join_names own w h s).1 → (x : List ℕ) → defines e x ≡ true → S w → S (target x)
  joined-chosen own w h s e target hides c x d k = let i = hides x d in i.2 ((joined-at S (Early S T n place) own w h s x i.0 i.1 c).2 k)

  pub joined-given : (c : Block) (y : Scope) (spot : Spot) (s0 : Sketch) (w : ℕ) (h : Layer) (s : Sketch) (e : Eqn) (target : List ℕ → ℕ) → Hides e h target → (let own = top_layer (drawn_block t brings y spot c s0).0 in
      Ends (join_names own w h s).1) → (x : List ℕ) → defines e x ≡ true → block_defines c x ≡ true → BlockWires S t brings y spot c s0 (Named x ∷ []) → S (target x)
  joined-given c y spot s0 w h s e target hides k x d m v =
      let own = top_layer (drawn_block t brings y spot c s0).0 in
      let i = hides x d in
      i.2 ((joined-at S (Early S T n place) own w h s x i.0 i.1 k).3 (named-branch c y spot s0 x i.0 m v))

  -- ---- arms

  arm-gives : (spot : Spot) (w : ℕ) (c : tree_cons.Cons) (s : Sketch) → Ends (enter_arm t spot w c s).2 → S w → S (enter_arm t spot w c s).0
  unfolding enter_arm
  arm-gives spot w c s k = let taken = has_cons t w c s in cons-gives S t w c s ((within-runs Steps (running S (Early S T n place)) spot taken.0 taken.1).closed k)

  pub no-arm : ArmsLaw no_arm
  no-arm D e z target h inner at spot w s named reach hides c = record { shut = c; slots = λ k. k; given = λ x d l. absurd l; chosen = λ x d m. absurd cc; placed = nothing-read S T n place D }

  -- by the cases of what a block defines
  pub of-block : (D X : Type 0) (m : Bool) (p : Place) → (m ≡ true → T p → D ⊎ X) → Leads (if m then only p else none) → D ⊎ X
  of-block D X true p f l = f refl l
  of-block D X false p f l = absurd l

  pub more-arms : (c : tree_cons.Cons) (body : Block) (q : Span) (arms : Arms) → BlockLaw body → ArmsLaw arms → ArmsLaw (more_arms c body q arms)
  more-arms c body q arms first others D e z target h inner at spot w s named reach hides k =
      subst Law (sym (joined-is body arm.0 z h d.0 d.1 (block-within t brings y arm.1 body arm.2))) law reach k
    where
      y : Scope
      y = push_values h z

      arm : ℕ × Spot × Sketch
      arm = enter_arm t spot w c s

      d : Scope × Sketch
      d = drawn_block t brings y arm.1 body arm.2

      Law : Scope × Sketch → Type 0
      Law j =
          Reach D at (by_row (BlockWires S t brings y arm.1 body arm.2) (ArmsWires S t brings j.0 spot w arms j.1)) → Ends (drawn_arms t brings j.0 spot w arms j.1).1
          → ArmsDone D e target inner at w (more_arms c body q arms) s (drawn_arms t brings j.0 spot w arms j.1).1 (by_row (BlockWires S t brings y arm.1 body arm.2) (ArmsWires S t brings j.0 spot w arms j.1))

      own : Layer
      own = top_layer d.0

      j : Layer × Sketch
      j = join_names own arm.0 h d.1

      law : Law (push_values j.0 z, j.1)
      law reach k =
          let r1 = joined_names-run Steps (running S (Early S T n place)) own arm.0 h d.1 in
          let r0 = enter_arm-runs Steps (running S (Early S T n place)) t spot w c s in
          let at_block = λ (e1 : Ends j.1). first D y inner (λ p. at (Head ∷ p)) arm.1 arm.2 named (λ p. reach (Head ∷ p)) (inside D arm.1 (λ q. BlockPlaced (standing place q) t brings (held q) y arm.1 body (λ p. only (at (Head ∷ p))) arm.2) (λ p. at (Head ∷ p)) (in_block body inner (λ p. only (at (Head ∷ p)))) (arm-outside t spot w c s)) (r1.closed e1) in
          let before : Ends j.1 → Ends s = λ e1. r0.closed (at_block e1).shut in
          let u2 = others D e z target j.0 inner (λ p. at (Tail ∷ p)) spot w j.1 (joined-named own arm.0 h d.1 D z inner named) (λ p. reach (Tail ∷ p)) (λ e1. joined-hides own arm.0 h d.1 e target (hides (before e1)) e1) k in
          let u1 = at_block u2.shut in
          let hidden = hides (before u2.shut) in
          record {
            shut = before u2.shut;
            slots = λ i. u2.slots (r1.slots (u1.slots (r0.slots i)));
            given = λ x m l. elim l [
              | inl l ↦ of-block D (S (target x)) (block_defines body x) (at (Head ∷ Named x ∷ [])) (λ f g. elim (reach (Head ∷ Named x ∷ []) g) [ inl o ↦ inl o | inr v ↦ inr (joined-given body y arm.1 arm.2 arm.0 h d.1 e target hidden u2.shut x m f v) ]) l
              | inr l ↦ u2.given x m l
            ];
            chosen = λ x m f v. joined-chosen own arm.0 h d.1 e target hidden u2.shut x m (arm-gives spot w c s u1.shut v);
            placed = row-holds (leading T) D (in_block body inner (λ p. only (at (Head ∷ p)))) (in_each_arm arms inner (λ p. only (at (Tail ∷ p)))) (BlockWires S t brings y arm.1 body arm.2) (ArmsWires S t brings (push_values j.0 z) spot w arms j.1) u1.placed u2.placed;
          }

  -- ---- what a control equation hides

  pub hidden-named : (D : Type 0) (C : Type 0) (e : Eqn) (z : Scope) (names : NameSources) → (C → D) → Lead C z names → Lead D (push_values (hidden_layer e z) z) (names_within e names)
  hidden-named D C e z names into named x l = by (defines e x) refl l
    where
      by : (d : Bool) → defines e x ≡ d → Leads (if d then none else names x) → D ⊎ S (value_in (push_values (hidden_layer e z) z) x).wire
      by true q l = absurd l
      by false q l =
          subst (λ v. D ⊎ S v.wire) (plain-value z x ∙ sym (ap (λ o. value_by (or_found o (found z.values x))) (hidden-not e z x q)) ∙ sym (pushed-value (hidden_layer e z) z x))
          (elim (named x l) [ inl c ↦ inl (into c) | inr v ↦ inr v ])

  pub hidden-hides : (e : Eqn) (z : Scope) → Owned z (defines e) → Hides e (hidden_layer e z) (λ x. (value_in z x).wire)
  hidden-hides e z owned x d = let i = hidden-at e z x owned d in (i.0, i.1, subst S i.2)

  -- with more that is left out
  pub regroup : (C X Y : Type 0) → C ⊎ (X ⊎ Y) → (C ⊎ X) ⊎ Y
  regroup C X Y (inl c) = inl (inl c)
  regroup C X Y (inr (inl x)) = inl (inr x)
  regroup C X Y (inr (inr y)) = inr y

  pub back : (C X Y : Type 0) → (X → Y) → (C ⊎ X) ⊎ Y → C ⊎ Y
  back C X Y f (inl (inl c)) = inl c
  back C X Y f (inl (inr x)) = inr (f x)
  back C X Y f (inr y) = inr y

  pub switch-done : (q : Span) (e : Expr) (arms : Arms) → CallsFit t e → ArmsLaw arms → EqnLaw (switch q e arms)
  unfolding hide
  switch-done q e arms fit law C z ds names at spot s named owned h own c =
      let eqn = switch q e arms in
      let l = hidden_layer eqn z in
      let v = drawn t brings z spot e s in
      let w = v.0.wire in
      let d = drawn_arms t brings (push_values l z) spot w arms v.1 in
      let kt : PlaceSources = λ p. only (at (Test ∷ p)) in
      let ka : PlaceSources = λ p. only (at (ArmsOf ∷ p)) in
      let r = end_hidden-runs Steps (running S (Early S T n place)) d.0 d.1 in
      let u2 = law (C ⊎ S w) eqn z (λ x. (value_in z x).wire) l (names_within eqn names) (λ p. at (ArmsOf ∷ p)) spot w v.1 (hidden-named (C ⊎ S w) C eqn z names (λ i. inl i) named)
      (λ p k. regroup C (S w) (ArmsWires S t brings (push_values l z) spot w arms v.1 p) (h (ArmsOf ∷ p) k)) (λ e1. hidden-hides eqn z owned) (r.closed c) in
      let u1 = expr-done S T n place t brings held b e C z names [] (λ p. at (Test ∷ p)) spot s fit named (λ p. h (Test ∷ p)) (λ o. let x = own o in (λ i. (x.0 i).0, λ p. x.1 (Test ∷ p), x.2)) u2.shut in
      record {
        shut = u1.shut;
        slots = λ k. r.slots (u2.slots (u1.slots k));
        given = λ x m f. elim f [ inl f ↦ on S T n place C w (value_in z x).wire (u2.chosen x m m) (u1.valued f) | inr f ↦ back C (S w) (S (value_in z x).wire) (u2.chosen x m m) (u2.given x m f) ];
        placed = arms-hold (leading T) C (at_expr e [] names kt) (of_expr e names kt) (in_each_arm arms (names_within eqn names) ka) (ExprWires S t brings z spot e s) (S w) (ArmsWires S t brings (push_values l z) spot w arms v.1) u1.placed u1.valued u2.placed;
      }

  -- ---- the body of a `reset`

  reset-gives : (z : Scope) (l : Layer) (spot : Spot) (s : Sketch) (x : List ℕ) (i : Entry) → entry_in l x ≡ Some i → Ends (reset_begin (push_values l z) spot s).2 → S (reset_begin (push_values l z) spot s).0 → S i.hole
  unfolding reset_begin read_by_hidden top_layer push_values
  reset-gives z l spot s x i q c =
      let w = hole Truth s in
      let one = read_by_names l w.0 w.1 in
      read-at S (Early S T n place) l w.0 w.1 x i q ((reset-runs Steps (running S (Early S T n place)) spot w.0 one).closed c)

  pub reset-done : (q : Span) (body : Block) (e : Expr) → BlockLaw body → CallsFit t e → EqnLaw (reset q body e)
  unfolding hide
  reset-done q body e law fit C z ds names at spot s named owned h own c =
      let eqn = reset q body e in
      let l = hidden_layer eqn z in
      let y = push_values l z in
      let i = reset_begin y spot s in
      let d = drawn_block t brings y i.1 body i.2 in
      let j = join_drawn high d in
      let left = leave_hidden j in
      let v = drawn t brings z spot e left in
      let w = v.0.wire in
      let inner = names_within eqn names in
      let kt : PlaceSources = λ p. only (at (Test ∷ p)) in
      let kb : PlaceSources = λ p. only (at (Body ∷ p)) in
      let r3 = define-runs Steps (running S (Early S T n place)) i.0 v.0 v.1 in
      let r2 = end_hidden-runs Steps (running S (Early S T n place)) j.0 j.1 in
      let r1 = join-runs Steps (running S (Early S T n place)) high d.0 d.1 in
      let r0 = reset_begin-runs Steps (running S (Early S T n place)) y spot s in
      let u3 = expr-done S T n place t brings held b e C z names [] (λ p. at (Test ∷ p)) spot left fit named (λ p. h (Test ∷ p)) (λ o. let x = own o in (λ k. (x.0 k).1, λ p. x.1 (Test ∷ p), x.2)) (r3.closed c) in
      let at_join = r2.closed u3.shut in
      let u1 = law (C ⊎ S w) y inner (λ p. at (Body ∷ p)) i.1 i.2 (hidden-named (C ⊎ S w) C eqn z names (λ k. inl k) named) (λ p k. regroup C (S w) (BlockWires S t brings y i.1 body i.2 p) (h (Body ∷ p) k))
      (inside (C ⊎ S w) i.1 (λ q. BlockPlaced (standing place q) t brings (held q) y i.1 body (λ p. only (at (Body ∷ p))) i.2) (λ p. at (Body ∷ p)) (in_block body inner kb) (reset-outside y spot s)) (r1.closed at_join) in
      let hides = hidden-hides eqn z owned in
      let joined : Ends (join_names (top_layer d.0) high l d.1).1 = subst Ends (ap (λ a. a.1) (joined-is body high z l d.0 d.1 (block-within t brings y i.1 body i.2))) at_join in
      let chosen : (x : List ℕ) → defines eqn x ≡ true → S w → S (value_in z x).wire = λ x m k. (let o = hides x m in o.2 (reset-gives z l spot s x o.0 o.1 u1.shut (define-gives S i.0 v.0 v.1 c k))) in
      record {
        shut = r0.closed u1.shut;
        slots = λ k. r3.slots (u3.slots (r2.slots (r1.slots (u1.slots (r0.slots k)))));
        given = λ x m f. elim f [
          | inl f ↦ on S T n place C w (value_in z x).wire (chosen x m) (u3.valued f)
          | inr f ↦ back C (S w) (S (value_in z x).wire) (chosen x m) (elim (regroup C (S w) (BlockWires S t brings y i.1 body i.2 (Named x ∷ [])) (h (Body ∷ Named x ∷ []) f)) [ inl o ↦ inl o | inr k ↦ inr (joined-given body y i.1 i.2 high l d.1 eqn (λ x. (value_in z x).wire) hides joined x m m k) ])
        ];
        placed = body-holds (leading T) C (at_expr e [] names kt) (of_expr e names kt) (in_block body inner kb) (ExprWires S t brings z spot e left) (S w) (BlockWires S t brings y i.1 body i.2) u3.placed u3.valued u1.placed;
      }
