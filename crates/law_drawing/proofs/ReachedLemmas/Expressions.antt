-- What is drawn of expressions reads all that they read.
use Rattle.std.proofs.Common.{◌≡◌, ℕ, suc, ◌+◌, ◌<◌, nat_eq, zero, Bool, true, false, ◌&&◌, List, [], ◌∷◌, length, Option, Some, refl, sym, ap, subst, ◌∙◌, inl, inr, arith}
use Rattle.std.specs.Prelude.{◌⊎◌}
use Rattle.hp_tree.specs.Expressions.{Expr, constant, variable, last_of, one, two, choose, pre, fby, arrow, when_is, merge, call, Exprs, no_expr, more_exprs, Parts, no_part, more_parts}
use Rattle.hp_tree.specs.Blocks.{Decl}
use Rattle.hp_tree.specs.Instant.{Named, Head, Tail, First, Second, Third, Args, Instance, Place, Clock, without}
use Rattle.hp_tree.specs.Programs.{Node}
use Rattle.hp_meaning.specs.Causal.Sources.{Sources, none, only, both, also, NameSources, PlaceSources, nowhere}
use Rattle.hp_meaning.specs.Causal.WhatIsRead.{of_clock, of_expr, of_exprs, of_parts, at_expr, at_exprs, at_parts}
use Rattle.hp_meaning.specs.Causal.Causality.{sources}
use Rattle.hp_circuit.specs.declared.circuit.Role.TheVariants as role
use Rattle.hp_circuit.specs.declared.circuit.Shape.{Shape}
use Rattle.hp_circuit.specs.declared.circuit.Shape.TheVariants.{Truth, Cons, Mark}
use Rattle.hp_tree.specs.declared.expr.Op2.{Op2}
use Rattle.hp_drawing.specs.declared.parts.Callee.{Callee}
use Rattle.hp_drawing.specs.declared.parts.Value.{Value}
use Rattle.hp_drawing.specs.declared.parts.Place.{Place as Spot}
use Rattle.hp_drawing.specs.Kept.{is_mark}
use Rattle.hp_drawing.specs.Told.{Told, type_shape}
use Rattle.hp_drawing.specs.Planned.{shape_in, shape_in_parts}
use Rattle.hp_drawing.specs.Sketch.{Sketch, base, high, next_slot, next_wire, mark, slot, given}
use Rattle.hp_drawing.specs.Places.{on_clock, may_be_early, new_register, takes, chain_add}
use Rattle.hp_drawing.specs.Scopes.{Scope, value_in, shapes_in}
use Rattle.hp_drawing.specs.DrawnExpressions.{Brings, drawn, drawn_parts, drawn_args, compares, two_begin, two_end, drawn_one, delay_begin, delay_take, fby_end, drawn_choice, sampled, outside_of, merge_begin, has_cons, step_clock, begin_with, begin_call, callee_of, add_output, add_outputs, add_holes, output, takes_input}
use Rattle.law_drawing.specs.Steered.Marks.{Steering, Leads}
use Rattle.law_drawing.specs.Steered.Placed.{Held, IsNext, IsCompared, IsGiven, OutputsPlaced, CallPlaced, Placed, PartsPlaced, ArgsPlaced}
use Rattle.law_drawing.specs.Steered.Asked.{CallsFit, CallsInAllFit, CallsInPartsFit}
use Rattle.law_drawing.proofs.SteeredLemmas.Rows.{given-number, given-next-number, read-next}
use Rattle.law_drawing.proofs.EarlyLemmas.Running.{mark-runs, constant-runs, one-runs, two_end-runs, choice-runs, delay-runs, delay_take-runs, pre_end-runs, fby_end-runs, sampled-runs, merge-runs, merge_end-runs, register-runs, takes-runs, cons-runs, step-runs, chain-runs, input-runs, holes-run}
use Rattle.law_drawing.proofs.EarlyLemmas.Walk.{standing}
use Rattle.law_drawing.proofs.ReachedLemmas.Closed.{Closed, AreEarlyRight, IsEarlyRight, Runs, read-runs, slot-runs, running, read-gives}
use Rattle.law_drawing.proofs.ReachedLemmas.Steps.{one-gives, two-gives, choice-gives, compared-gives, fby-gives, sampled-gives, merge-gives, chain-gives, input-gives}
use Rattle.law_drawing.proofs.ReachedLemmas.Whereabouts.{Said, anything, Holds, one-holds, two-hold, three-hold, row-holds, merge-holds, call-holds}
use Rattle.law_drawing.proofs.ReachedLemmas.Wires.{ExprWires, PartsWires, ArgsWires}

-- ---- what leads where

-- the places that lead
abbrev pub leading : (Place → Type 0) → Steering
leading T = record { places = T; slots = λ i. none }

output-next : (early : Bool) (p : Shape) (reads : ℕ) (s : Sketch) → next_wire (add_output early p reads s) ≡ suc (next_wire s)
output-next early p reads s = let w = given (role.Free early) p s in read-next w.0 reads w.1 ∙ given-next-number (role.Free early) p s

module _ (S : ℕ → Type 0) (T : Place → Type 0) (n : Node) (place : ℕ → Place) where
  abbrev pub L : Sources → Type 0
  L s = Leads (leading T) s

  -- a slot that may be early has a wire of the set where what its place reads leads
  abbrev pub Early : ℕ → ℕ → Type 0
  Early i w = L (sources n (place i)) → S w

  abbrev pub R : Sketch → Sketch → Type 0
  R = Runs S Early

  abbrev pub Shut : Sketch → Type 0
  Shut s = Closed S s

  abbrev pub SlotsRight : Sketch → Type 0
  SlotsRight s = AreEarlyRight S Early 0 s.slots

  -- names lead where their wires are of the set, or something that is left out holds
  abbrev pub NamesLead : Type 0 → Scope → NameSources → Type 0
  NamesLead C z names = (x : List ℕ) → L (names x) → C ⊎ S (value_in z x).wire

  -- where something stands in the node itself its slots have their places, which read what it does, and nothing is left out
  abbrev pub IsOwn : Type 0 → Spot → (Place → Type 0) → (Place → Place) → PlaceSources → Type 0
  IsOwn C spot lies at reads = spot.outside ≡ true → ((q : Place) → lies q) × ((p : Place) → L (sources n (at p)) → L (reads p)) × (C → ⊥)

  abbrev pub Reached : Type 0 → (Place → Place) → Said → Type 0
  Reached C at f = (p : Place) → T (at p) → C ⊎ f p

  -- what is drawn from one sketch to another
  pub record Done (C : Type 0) (s s' : Sketch) (value : Sources) (w : ℕ) (reads : PlaceSources) (wires : Said) : Type 0 where
    pub shut : Shut s
    pub slots : SlotsRight s → SlotsRight s'
    pub valued : L value → C ⊎ S w
    pub placed : Holds (leading T) C reads wires

  pub out : {X : Type 0} (C : Type 0) → (C → ⊥) → C ⊎ X → X
  out C never (inl c) = absurd (never c)
  out C never (inr x) = x

  pub on : (C : Type 0) (a b : ℕ) → (S a → S b) → C ⊎ S a → C ⊎ S b
  on C a b f (inl c) = inl c
  on C a b f (inr x) = inr (f x)

  pub either : (C X : Type 0) (s u : Sources) → (L s → C ⊎ X) → (L u → C ⊎ X) → L (both s u) → C ⊎ X
  either C X s u f g (inl l) = f l
  either C X s u f g (inr l) = g l

  -- what is read at the top, besides the clock
  pub top : (C X : Type 0) (clock s : Sources) → (L s → C ⊎ X) → L (both (also clock) s) → C ⊎ X
  top C X clock s f (inl l) = absurd l
  top C X clock s f (inr l) = f l

  pub nothing-read : (C : Type 0) → Holds (leading T) C nowhere anything
  nothing-read C p l = absurd l

  -- a step back, and forward
  abbrev pub Going : Sketch → Sketch → Type 0
  Going s s' = Shut s' → Shut s × (SlotsRight s → SlotsRight s')

  pub going-run : (s s' : Sketch) → R s s' → Going s s'
  going-run s s' r c = (r.closed c, r.slots)

  pub going-both : (a b c : Sketch) → Going a b → Going b c → Going a c
  going-both a b c f g k = let v = g k in let u = f v.0 in (u.0, λ h. v.1 (u.1 h))

  -- What the contract of a node brings that is called is drawn where nothing is early.
  abbrev pub BringsRun : Told → Brings → Type 0
  BringsRun t brings = (spot : Spot) (f : List ℕ) (m : Node) (c : Callee) (s : Sketch) → t.nodes f ≡ Some m → Going s (brings t spot m c s)

  module _ (t : Told) (brings : Brings) (held : Place → Held) (b : BringsRun t brings) where
    abbrev Lies : Scope → Spot → Expr → (Place → Place) → Sketch → Place → Type 0
    Lies z spot e at s q = Placed (standing place q) t brings (held q) z spot e (λ p. only (at p)) s

    -- ---- calls

    -- the slot of an output, and of a comparison
    free-runs : (spot : Spot) (p : Shape) (s : Sketch) → (spot.outside ≡ true → Early (next_slot s) (slot (role.Free (may_be_early spot)) p s).0) → R s (slot (role.Free (may_be_early spot)) p s).1
    free-runs spot p s f = slot-runs S Early (role.Free (may_be_early spot)) p s (by spot.outside refl (may_be_early spot) refl)
      where
        by : (o : Bool) → spot.outside ≡ o → (m : Bool) → may_be_early spot ≡ m → IsEarlyRight S Early (next_slot s) (slot (role.Free (may_be_early spot)) p s).0 (role.Free m)
        by o q false k = tt
        by true q true k = f q
        by false q true k = absurd (let z : false ≡ true = sym (ap (λ i. i && nat_eq spot.clock base) q) ∙ k in cc)

    next-place : (s : Sketch) (p : Place) → ((q : Place) → IsNext (standing place q) (only p) s) → place (next_slot s) ≡ p
    next-place s p h = h p refl

    -- an output reads the wire that its call reads
    abbrev OutputFrees : Spot → Place → ℕ → (Place → Type 0) → Type 0
    OutputFrees spot here reads lies = spot.outside ≡ true → ((q : Place) → lies q) × (L (sources n here) → S reads)

    output-runs : (p : Shape) (spot : Spot) (here : Place) (reads : ℕ) (s : Sketch) → OutputFrees spot here reads (λ q. IsGiven (standing place q) (is_mark p) (only here) s) → Shut (add_output (may_be_early spot) p reads s)
        → Shut s × (SlotsRight s → SlotsRight (add_output (may_be_early spot) p reads s)) × (S reads → S (next_wire s))
    unfolding given
    output-runs p spot here reads s f c =
        let w = given (role.Free (may_be_early spot)) p s in
        let gives : S reads → S w.0 = read-gives S w.0 reads w.1 c in
        let r = read-runs S Early w.0 reads w.1 in
        let u = begun p f gives (r.closed c) in
        (u.0, λ h. r.slots (u.1 h), λ h. subst S (given-number (role.Free (may_be_early spot)) p s) (gives h))
      where
        right : (p : Shape) → ((q : Place) → IsNext (standing place q) (only here) s) → (L (sources n here) → S reads) → (S reads → S (slot (role.Free (may_be_early spot)) p s).0) → Early (next_slot s) (slot (role.Free (may_be_early spot)) p s).0
        right p lies to gives l = gives (to (subst (λ q. L (sources n q)) (next-place s here lies) l))

        begun : (p : Shape) → OutputFrees spot here reads (λ q. IsGiven (standing place q) (is_mark p) (only here) s) → (S reads → S (given (role.Free (may_be_early spot)) p s).0) → Shut (given (role.Free (may_be_early spot)) p s).1
            → Shut s × (SlotsRight s → SlotsRight (given (role.Free (may_be_early spot)) p s).1)
        begun Truth f gives c = going-run s (slot (role.Free (may_be_early spot)) Truth s).1 (free-runs spot Truth s (λ o. right Truth (f o).0 (f o).1 gives)) c
        begun (Cons i) f gives c = going-run s (slot (role.Free (may_be_early spot)) (Cons i) s).1 (free-runs spot (Cons i) s (λ o. right (Cons i) (f o).0 (f o).1 gives)) c
        begun Mark f gives c = going-run s (mark s).1 (mark-runs R (running S Early) s) c

    -- the outputs of a call, whose wires stand in a row
    outputs-run : (ds : List Decl) (spot : Spot) (at : Place → Place) (reads : ℕ) (s : Sketch) → (spot.outside ≡ true → ((q : Place) → OutputsPlaced (standing place q) t (may_be_early spot) ds reads (λ p. only (at p)) s) × ((x : List ℕ) → L (sources n (at (Named x ∷ []))) → S reads))
        → Shut (add_outputs t (may_be_early spot) ds reads s) → Shut s × (SlotsRight s → SlotsRight (add_outputs t (may_be_early spot) ds reads s)) × ((j : ℕ) → j < length ds → S reads → S (next_wire s + j))
    outputs-run [] spot at reads s f c = (c, λ h. h, λ j l. absurd (omega (arith, l)))
    outputs-run (d ∷ ds) spot at reads s f c =
        let p = type_shape t d.ty in
        let s1 = add_output (may_be_early spot) p reads s in
        let v = outputs-run ds spot at reads s1 (λ o. (λ q. ((f o).0 q).1, (f o).1)) c in
        let u = output-runs p spot (at (Named d.name ∷ [])) reads s (λ o. (λ q. ((f o).0 q).0, (f o).1 d.name)) v.0 in
        (u.0, λ h. v.1 (u.1 h), by u.2 v.2)
      where
        later : next_wire (add_output (may_be_early spot) (type_shape t d.ty) reads s) ≡ suc (next_wire s)
        later = output-next (may_be_early spot) (type_shape t d.ty) reads s

        by : (S reads → S (next_wire s)) → ((j : ℕ) → j < length ds → S reads → S (next_wire (add_output (may_be_early spot) (type_shape t d.ty) reads s) + j)) → (j : ℕ) → j < suc (length ds) → S reads → S (next_wire s + j)
        by first others zero l h = subst S (let e : next_wire s ≡ next_wire s + 0 = omega arith in e) (first h)
        by first others (suc j) l h = subst S (ap (λ i. i + j) later ∙ (let e : suc (next_wire s) + j ≡ next_wire s + suc j = omega arith in e)) (others j (omega (arith, l)) h)

    -- a call but for its arguments
    with-run : (f : List ℕ) (m : Node) (spot : Spot) (at : Place → Place) (s : Sketch) → t.nodes f ≡ Some m
        → (spot.outside ≡ true → ((q : Place) → CallPlaced (standing place q) t brings (held q) spot (Some m) (λ p. only (at p)) s) × ((x : List ℕ) → L (sources n (at (Instance ∷ Named x ∷ []))) → S (begin_with t brings spot (Some m) s).0.reads))
        → let c = begin_with t brings spot (Some m) s in Shut c.1 → Shut s × (SlotsRight s → SlotsRight c.1) × ((j : ℕ) → j < length m.outputs → S c.0.reads → S (c.0.outputs + j))
    with-run f m spot at s found free c =
        let reads = mark s in
        let outs = add_outputs t (may_be_early spot) m.outputs reads.0 reads.1 in
        let ins = add_holes t m.inputs outs in
        let c0 = callee_of (next_wire reads.1) (next_wire outs) reads.0 in
        let w = b spot f m c0 ins found c in
        let g = holes-run R (running S Early) t m.inputs outs in
        let v = outputs-run m.outputs spot (λ p. at (Instance ∷ p)) reads.0 reads.1 (λ o. (λ q. ((free o).0 q).0, (free o).1)) (g.closed w.0) in
        let u = mark-runs R (running S Early) s in
        (u.closed v.0, λ h. w.1 (g.slots (v.1 (u.slots h))), v.2)

    pub call-run : (f : List ℕ) (m : Node) (spot : Spot) (at : Place → Place) (s : Sketch) → t.nodes f ≡ Some m
        → (spot.outside ≡ true → ((q : Place) → CallPlaced (standing place q) t brings (held q) spot (t.nodes f) (λ p. only (at p)) s) × ((x : List ℕ) → L (sources n (at (Instance ∷ Named x ∷ []))) → S (begin_call t brings spot f s).0.reads))
        → let c = begin_call t brings spot f s in Shut c.1 → Shut s × (SlotsRight s → SlotsRight c.1) × ((j : ℕ) → j < length m.outputs → S c.0.reads → S (c.0.outputs + j))
    unfolding begin_call
    call-run f m spot at s found = subst Law (sym found) (with-run f m spot at s found)
      where
        Law : Option Node → Type 0
        Law o =
            (spot.outside ≡ true → ((q : Place) → CallPlaced (standing place q) t brings (held q) spot o (λ p. only (at p)) s) × ((x : List ℕ) → L (sources n (at (Instance ∷ Named x ∷ []))) → S (begin_with t brings spot o s).0.reads))
            → let c = begin_with t brings spot o s in Shut c.1 → Shut s × (SlotsRight s → SlotsRight c.1) × ((j : ℕ) → j < length m.outputs → S c.0.reads → S (c.0.outputs + j))

    first-output : (c : Callee) (s : Sketch) → (output c 0 s).wire ≡ c.outputs + 0
    unfolding output
    first-output c s = refl

    -- ---- comparisons

    end-gives : (compared : Bool) (w : ℕ) (o : Op2) (a d : Value) (s : Sketch) → Shut (two_end compared w o a d s).1 → (S a.wire → S (two_end compared w o a d s).0.wire) × (S d.wire → S (two_end compared w o a d s).0.wire)
    end-gives true w o a d s c = compared-gives S w o a d s c
    end-gives false w o a d s c = two-gives S o a d s c

    begin-run : (compared : Bool) (spot : Spot) (here : Place) (s : Sketch) (o : Op2) (a d : Value) (s2 : Sketch)
        → (spot.outside ≡ true → ((q : Place) → IsCompared (standing place q) compared (only here) s) × (L (sources n here) → S (two_end compared (two_begin compared spot s).0 o a d s2).0.wire)) → Going s (two_begin compared spot s).1
    begin-run true spot here s o a d s2 f = going-run s (slot (role.Free (may_be_early spot)) Truth s).1 (free-runs spot Truth s (λ q l. (f q).1 (subst (λ p. L (sources n p)) (next-place s here (f q).0) l)))
    begin-run false spot here s o a d s2 f = λ c. (c, λ h. h)

    -- ---- expressions

    mutual
      pub expr-done : (e : Expr) (C : Type 0) (z : Scope) (names : NameSources) (clock : Clock) (at : Place → Place) (spot : Spot) (s : Sketch) → CallsFit t e → NamesLead C z names → Reached C at (ExprWires S t brings z spot e s)
          → IsOwn C spot (Lies z spot e at s) at (at_expr e clock names (λ p. only (at p))) → Shut (drawn t brings z spot e s).1
          → Done C s (drawn t brings z spot e s).1 (of_expr e names (λ p. only (at p))) (drawn t brings z spot e s).0.wire (at_expr e clock names (λ p. only (at p))) (ExprWires S t brings z spot e s)
      expr-done (constant q i) C z names clock at spot s fit named h own c =
          let x = S (drawn t brings z spot (constant q i) s).0.wire in
          let r = constant-runs R (running S Early) t i s in
          record { shut = r.closed c; slots = r.slots; valued = λ l. absurd l; placed = one-holds (leading T) C (also (of_clock clock names)) nowhere x anything (λ l. absurd l) (nothing-read C) }
      expr-done (variable q i) C z names clock at spot s fit named h own c =
          let x = S (value_in z i).wire in
          record { shut = c; slots = λ k. k; valued = named i; placed = one-holds (leading T) C (both (also (of_clock clock names)) (names i)) nowhere x anything (top C x (of_clock clock names) (names i) (named i)) (nothing-read C) }
      expr-done (last_of q i) C z names clock at spot s fit named h own c = record { shut = c; slots = λ k. k; valued = λ l. absurd l; placed = λ p l. absurd l }
      expr-done (one q o a) C z names clock at spot s fit named h own c =
          let v = drawn t brings z spot a s in
          let w = (drawn_one o v.0 v.1).0.wire in
          let r = one-runs R (running S Early) o v.0 v.1 in
          let ka : PlaceSources = λ p. only (at (First ∷ p)) in
          let u = expr-done a C z names clock (λ p. at (First ∷ p)) spot s fit named (λ p. h (First ∷ p)) (λ o. let x = own o in (x.0, λ p. x.1 (First ∷ p), x.2)) (r.closed c) in
          let valued : L (of_expr a names ka) → C ⊎ S w = λ l. on C v.0.wire w (one-gives S o v.0 v.1 c) (u.valued l) in
          record {
            shut = u.shut;
            slots = λ k. r.slots (u.slots k);
            valued = valued;
            placed = one-holds (leading T) C (both (also (of_clock clock names)) (of_expr a names ka)) (at_expr a clock names ka) (S w) (ExprWires S t brings z spot a s) (top C (S w) (of_clock clock names) (of_expr a names ka) valued) u.placed;
          }
      expr-done (two q o a d) C z names clock at spot s fit named h own c =
          let compared = compares t z o a in
          let m = two_begin compared spot s in
          let first = drawn t brings z spot a m.1 in
          let second = drawn t brings z spot d first.1 in
          let w = (two_end compared m.0 o first.0 second.0 second.1).0.wire in
          let r = two_end-runs R (running S Early) compared m.0 o first.0 second.0 second.1 in
          let ka : PlaceSources = λ p. only (at (First ∷ p)) in
          let kd : PlaceSources = λ p. only (at (Second ∷ p)) in
          let all = both (of_expr a names ka) (of_expr d names kd) in
          let u2 = expr-done d C z names clock (λ p. at (Second ∷ p)) spot first.1 fit.1 named (λ p. h (Second ∷ p)) (λ o. let x = own o in (λ q. (x.0 q).2, λ p. x.1 (Second ∷ p), x.2)) (r.closed c) in
          let u1 = expr-done a C z names clock (λ p. at (First ∷ p)) spot m.1 fit.0 named (λ p. h (First ∷ p)) (λ o. let x = own o in (λ q. (x.0 q).1, λ p. x.1 (First ∷ p), x.2)) u2.shut in
          let e = end-gives compared m.0 o first.0 second.0 second.1 c in
          let valued : L all → C ⊎ S w = either C (S w) (of_expr a names ka) (of_expr d names kd) (λ l. on C first.0.wire w e.0 (u1.valued l)) (λ l. on C second.0.wire w e.1 (u2.valued l)) in
          let upper : L (both (also (of_clock clock names)) all) → C ⊎ S w = top C (S w) (of_clock clock names) all valued in
          let g = begin-run compared spot (at []) s o first.0 second.0 second.1 (λ i. let x = own i in (λ q. (x.0 q).0, λ l. out C x.2 (upper (x.1 [] l)))) u1.shut in
          record {
            shut = g.0;
            slots = λ k. r.slots (u2.slots (u1.slots (g.1 k)));
            valued = valued;
            placed = two-hold (leading T) C (both (also (of_clock clock names)) all) (at_expr a clock names ka) (at_expr d clock names kd) (S w) (ExprWires S t brings z spot a m.1) (ExprWires S t brings z spot d first.1) upper u1.placed u2.placed;
          }
      expr-done (choose q a d f) C z names clock at spot s fit named h own c =
          let condition = drawn t brings z spot a s in
          let first = drawn t brings z spot d condition.1 in
          let second = drawn t brings z spot f first.1 in
          let w = (drawn_choice condition.0.wire first.0 second.0 second.1).0.wire in
          let r = choice-runs R (running S Early) condition.0.wire first.0 second.0 second.1 in
          let ka : PlaceSources = λ p. only (at (First ∷ p)) in
          let kd : PlaceSources = λ p. only (at (Second ∷ p)) in
          let kf : PlaceSources = λ p. only (at (Third ∷ p)) in
          let others = both (of_expr d names kd) (of_expr f names kf) in
          let all = both (of_expr a names ka) others in
          let u3 = expr-done f C z names clock (λ p. at (Third ∷ p)) spot first.1 fit.2 named (λ p. h (Third ∷ p)) (λ o. let x = own o in (λ q. (x.0 q).2, λ p. x.1 (Third ∷ p), x.2)) (r.closed c) in
          let u2 = expr-done d C z names clock (λ p. at (Second ∷ p)) spot condition.1 fit.1 named (λ p. h (Second ∷ p)) (λ o. let x = own o in (λ q. (x.0 q).1, λ p. x.1 (Second ∷ p), x.2)) u3.shut in
          let u1 = expr-done a C z names clock (λ p. at (First ∷ p)) spot s fit.0 named (λ p. h (First ∷ p)) (λ o. let x = own o in (λ q. (x.0 q).0, λ p. x.1 (First ∷ p), x.2)) u2.shut in
          let e = choice-gives S condition.0.wire first.0 second.0 second.1 c in
          let some : L others → C ⊎ S w = either C (S w) (of_expr d names kd) (of_expr f names kf) (λ l. on C first.0.wire w e.1 (u2.valued l)) (λ l. on C second.0.wire w e.2 (u3.valued l)) in
          let valued : L all → C ⊎ S w = either C (S w) (of_expr a names ka) others (λ l. on C condition.0.wire w e.0 (u1.valued l)) some in
          record {
            shut = u1.shut;
            slots = λ k. r.slots (u3.slots (u2.slots (u1.slots k)));
            valued = valued;
            placed = three-hold (leading T) C (both (also (of_clock clock names)) all) (at_expr a clock names ka) (at_expr d clock names kd) (at_expr f clock names kf) (S w) (ExprWires S t brings z spot a s) (ExprWires S t brings z spot d condition.1) (ExprWires S t brings z spot f first.1)
                (top C (S w) (of_clock clock names) all valued) u1.placed u2.placed u3.placed;
          }
      expr-done (pre q a) C z names clock at spot s fit named h own c =
          let p = shape_in t a (shapes_in z) in
          let d = delay_begin p spot s in
          let v = drawn t brings z spot a d.1 in
          let w = (drawn t brings z spot (pre q a) s).0.wire in
          let r = pre_end-runs R (running S Early) p d.0 spot v in
          let r0 = delay-runs R (running S Early) p spot s in
          let ka : PlaceSources = λ p. only (at (First ∷ p)) in
          let u = expr-done a C z names clock (λ p. at (First ∷ p)) spot d.1 fit named (λ p. h (First ∷ p)) (λ o. let x = own o in (x.0, λ p. x.1 (First ∷ p), x.2)) (r.closed c) in
          record {
            shut = r0.closed u.shut;
            slots = λ k. r.slots (u.slots (r0.slots k));
            valued = λ l. absurd l;
            placed = one-holds (leading T) C (also (of_clock clock names)) (at_expr a clock names ka) (S w) (ExprWires S t brings z spot a d.1) (λ l. absurd l) u.placed;
          }
      expr-done (fby q a d) C z names clock at spot s fit named h own c =
          let p = shape_in t a (shapes_in z) in
          let m = delay_begin p spot s in
          let past = new_register spot 0 Truth m.1 in
          let first = drawn t brings z spot a past.1 in
          let second = drawn t brings z spot d first.1 in
          let taken = delay_take p m.0 spot second.0.wire second.1 in
          let told = takes past.0 spot high taken in
          let w = (fby_end p m.0 past.0 first.0 told).0.wire in
          let r3 = fby_end-runs R (running S Early) p m.0 past.0 first.0 told in
          let r2 = takes-runs R (running S Early) past.0 spot high taken in
          let r1 = delay_take-runs R (running S Early) p m.0 spot second.0.wire second.1 in
          let q1 = register-runs R (running S Early) spot 0 Truth m.1 in
          let q0 = delay-runs R (running S Early) p spot s in
          let ka : PlaceSources = λ p. only (at (First ∷ p)) in
          let kd : PlaceSources = λ p. only (at (Second ∷ p)) in
          let u2 = expr-done d C z names clock (λ p. at (Second ∷ p)) spot first.1 fit.1 named (λ p. h (Second ∷ p)) (λ o. let x = own o in (λ q. (x.0 q).1, λ p. x.1 (Second ∷ p), x.2)) (r1.closed (r2.closed (r3.closed c))) in
          let u1 = expr-done a C z names clock (λ p. at (First ∷ p)) spot past.1 fit.0 named (λ p. h (First ∷ p)) (λ o. let x = own o in (λ q. (x.0 q).0, λ p. x.1 (First ∷ p), x.2)) u2.shut in
          let valued : L (of_expr a names ka) → C ⊎ S w = λ l. on C first.0.wire w (fby-gives S p m.0 past.0 first.0 told c) (u1.valued l) in
          record {
            shut = q0.closed (q1.closed u1.shut);
            slots = λ k. r3.slots (r2.slots (r1.slots (u2.slots (u1.slots (q1.slots (q0.slots k))))));
            valued = valued;
            placed = two-hold (leading T) C (both (also (of_clock clock names)) (of_expr a names ka)) (at_expr a clock names ka) (at_expr d clock names kd) (S w) (ExprWires S t brings z spot a past.1) (ExprWires S t brings z spot d first.1)
                (top C (S w) (of_clock clock names) (of_expr a names ka) valued) u1.placed u2.placed;
          }
      expr-done (arrow q a d) C z names clock at spot s fit named h own c =
          let past = new_register spot 0 Truth s in
          let first = drawn t brings z spot a past.1 in
          let second = drawn t brings z spot d first.1 in
          let told = takes past.0 spot high second.1 in
          let w = (drawn_choice past.0.read second.0 first.0 told).0.wire in
          let r2 = choice-runs R (running S Early) past.0.read second.0 first.0 told in
          let r1 = takes-runs R (running S Early) past.0 spot high second.1 in
          let q0 = register-runs R (running S Early) spot 0 Truth s in
          let ka : PlaceSources = λ p. only (at (First ∷ p)) in
          let kd : PlaceSources = λ p. only (at (Second ∷ p)) in
          let all = both (of_expr a names ka) (of_expr d names kd) in
          let u2 = expr-done d C z names clock (λ p. at (Second ∷ p)) spot first.1 fit.1 named (λ p. h (Second ∷ p)) (λ o. let x = own o in (λ q. (x.0 q).1, λ p. x.1 (Second ∷ p), x.2)) (r1.closed (r2.closed c)) in
          let u1 = expr-done a C z names clock (λ p. at (First ∷ p)) spot past.1 fit.0 named (λ p. h (First ∷ p)) (λ o. let x = own o in (λ q. (x.0 q).0, λ p. x.1 (First ∷ p), x.2)) u2.shut in
          let e = choice-gives S past.0.read second.0 first.0 told c in
          let valued : L all → C ⊎ S w = either C (S w) (of_expr a names ka) (of_expr d names kd) (λ l. on C first.0.wire w e.2 (u1.valued l)) (λ l. on C second.0.wire w e.1 (u2.valued l)) in
          record {
            shut = q0.closed u1.shut;
            slots = λ k. r2.slots (r1.slots (u2.slots (u1.slots (q0.slots k))));
            valued = valued;
            placed = two-hold (leading T) C (both (also (of_clock clock names)) all) (at_expr a clock names ka) (at_expr d clock names kd) (S w) (ExprWires S t brings z spot a past.1) (ExprWires S t brings z spot d first.1) (top C (S w) (of_clock clock names) all valued) u1.placed u2.placed;
          }
      expr-done (when_is q a i y) C z names clock at spot s fit named h own c =
          let v = drawn t brings z (outside_of spot s) a s in
          let w = (sampled (value_in z y).wire v).0.wire in
          let r = sampled-runs R (running S Early) (value_in z y).wire v in
          let ka : PlaceSources = λ p. only (at (First ∷ p)) in
          let all = both (names y) (of_expr a names ka) in
          let u = expr-done a C z names (without clock) (λ p. at (First ∷ p)) (outside_of spot s) s fit named (λ p. h (First ∷ p)) (λ o. let x = own o in (x.0, λ p. x.1 (First ∷ p), x.2)) (r.closed c) in
          let e = sampled-gives S (value_in z y).wire v c in
          let valued : L all → C ⊎ S w = either C (S w) (names y) (of_expr a names ka) (λ l. on C (value_in z y).wire w e.0 (named y l)) (λ l. on C v.0.wire w e.1 (u.valued l)) in
          record {
            shut = u.shut;
            slots = λ k. r.slots (u.slots k);
            valued = valued;
            placed = one-holds (leading T) C (both (also (of_clock clock names)) all) (at_expr a (without clock) names ka) (S w) (ExprWires S t brings z (outside_of spot s) a s) (top C (S w) (of_clock clock names) all valued) u.placed;
          }
      expr-done (merge q y ps) C z names clock at spot s fit named h own c =
          let p = shape_in_parts t ps (shapes_in z) in
          let m = merge_begin p (value_in z y).wire s in
          let d = drawn_parts t brings z spot y ps m.0 m.1 in
          let r = merge_end-runs R (running S Early) p m.0 d in
          let q0 = merge-runs R (running S Early) p (value_in z y).wire s in
          let ka : PlaceSources = λ p. only (at (Args ∷ p)) in
          let all = both (names y) (of_parts ps names ka) in
          let u = parts-done ps C z names y clock (λ p. at (Args ∷ p)) spot m.0 m.1 fit named (λ p. h (Args ∷ p)) (λ o. let x = own o in (x.0, λ p. x.1 (Args ∷ p), x.2)) (r.closed c) in
          let valued : L all → C ⊎ S m.0 = either C (S m.0) (names y) (of_parts ps names ka) (λ l. on C (value_in z y).wire m.0 (merge-gives S p (value_in z y).wire s u.shut) (named y l)) u.valued in
          record {
            shut = q0.closed u.shut;
            slots = λ k. r.slots (u.slots (q0.slots k));
            valued = valued;
            placed = merge-holds (leading T) C (both (also (of_clock clock names)) all) (at_parts ps y clock names ka) (S m.0) (PartsWires S t brings z spot y ps m.0 m.1) (top C (S m.0) (of_clock clock names) all valued) u.placed;
          }
      expr-done (call q i inlined es) C z names clock at spot s fit named h own c =
          let m = begin_call t brings spot i s in
          let behind = drawn_args t brings z spot m.0 0 es m.1 in
          let w = (output m.0 0 behind).wire in
          let ka : PlaceSources = λ p. only (at (Args ∷ p)) in
          let u = args-done es C z names clock m.0 0 (λ p. at (Args ∷ p)) spot m.1 fit.2 named (λ p. h (Args ∷ p)) (λ o. let x = own o in (λ q. (x.0 q).1, λ p. x.1 (Args ∷ p), x.2)) c in
          let g = call-run i fit.0.node spot at s fit.0.found (λ o. let x = own o in (λ q. (x.0 q).0, λ y l. out C x.2 (top C (S m.0.reads) (of_clock clock names) (only (at [])) (h []) (x.1 (Instance ∷ Named y ∷ []) l)))) u.shut in
          let valued : T (at []) → C ⊎ S w = λ l. on C m.0.reads w (λ k. subst S (sym (first-output m.0 behind)) (g.2 0 fit.1 k)) (h [] l) in
          record {
            shut = g.0;
            slots = λ k. u.slots (g.1 k);
            valued = valued;
            placed = call-holds (leading T) C (both (also (of_clock clock names)) (of_exprs es names ka)) (both (also (of_clock clock names)) (only (at []))) (at_exprs es clock names ka) (S m.0.reads) (ArgsWires S t brings z spot m.0 0 es m.1)
                (top C (S m.0.reads) (of_clock clock names) (of_exprs es names ka) u.valued) u.placed;
          }

      pub parts-done : (ps : Parts) (C : Type 0) (z : Scope) (names : NameSources) (y : List ℕ) (clock : Clock) (at : Place → Place) (spot : Spot) (i : ℕ) (s : Sketch) → CallsInPartsFit t ps → NamesLead C z names → Reached C at (PartsWires S t brings z spot y ps i s)
          → IsOwn C spot (λ q. PartsPlaced (standing place q) t brings (held q) z spot y ps (λ p. only (at p)) i s) at (at_parts ps y clock names (λ p. only (at p))) → Shut (drawn_parts t brings z spot y ps i s).1
          → Done C s (drawn_parts t brings z spot y ps i s).1 (of_parts ps names (λ p. only (at p))) i (at_parts ps y clock names (λ p. only (at p))) (PartsWires S t brings z spot y ps i s)
      parts-done no_part C z names y clock at spot i s fit named h own c = record { shut = c; slots = λ k. k; valued = λ l. absurd l; placed = nothing-read C }
      parts-done (more_parts k e ps) C z names y clock at spot i s fit named h own c =
          let is = has_cons t (value_in z y).wire k s in
          let inner = step_clock t z spot.clock k y is.1 in
          let v = drawn t brings z (on_clock spot inner.0) e inner.1 in
          let rest = chain_add i is.0 v.0 v.1 in
          let ke : PlaceSources = λ p. only (at (Head ∷ p)) in
          let kp : PlaceSources = λ p. only (at (Tail ∷ p)) in
          let u2 = parts-done ps C z names y clock (λ p. at (Tail ∷ p)) spot rest.0 rest.1 fit.1 named (λ p. h (Tail ∷ p)) (λ o. let x = own o in (λ q. (x.0 q).1, λ p. x.1 (Tail ∷ p), x.2)) c in
          let r2 = chain-runs R (running S Early) i is.0 v.0 v.1 in
          let u1 = expr-done e C z names ((k, y) ∷ clock) (λ p. at (Head ∷ p)) (on_clock spot inner.0) inner.1 fit.0 named (λ p. h (Head ∷ p)) (λ o. let x = own o in (λ q. (x.0 q).0, λ p. x.1 (Head ∷ p), x.2)) (r2.closed u2.shut) in
          let r1 = step-runs R (running S Early) t z spot.clock k y is.1 in
          let r0 = cons-runs R (running S Early) t (value_in z y).wire k s in
          let e3 = chain-gives S i is.0 v.0 v.1 u2.shut in
          record {
            shut = r0.closed (r1.closed u1.shut);
            slots = λ k. u2.slots (r2.slots (u1.slots (r1.slots (r0.slots k))));
            valued = either C (S i) (of_expr e names ke) (of_parts ps names kp) (λ l. on C v.0.wire i e3.1 (u1.valued l)) (λ l. on C rest.0 i e3.2 (u2.valued l));
            placed = row-holds (leading T) C (at_expr e ((k, y) ∷ clock) names ke) (at_parts ps y clock names kp) (ExprWires S t brings z (on_clock spot inner.0) e inner.1) (PartsWires S t brings z spot y ps rest.0 rest.1) u1.placed u2.placed;
          }

      pub args-done : (es : Exprs) (C : Type 0) (z : Scope) (names : NameSources) (clock : Clock) (d : Callee) (j : ℕ) (at : Place → Place) (spot : Spot) (s : Sketch) → CallsInAllFit t es → NamesLead C z names → Reached C at (ArgsWires S t brings z spot d j es s)
          → IsOwn C spot (λ q. ArgsPlaced (standing place q) t brings (held q) z spot d j es (λ p. only (at p)) s) at (at_exprs es clock names (λ p. only (at p))) → Shut (drawn_args t brings z spot d j es s)
          → Done C s (drawn_args t brings z spot d j es s) (of_exprs es names (λ p. only (at p))) d.reads (at_exprs es clock names (λ p. only (at p))) (ArgsWires S t brings z spot d j es s)
      args-done no_expr C z names clock d j at spot s fit named h own c = record { shut = c; slots = λ k. k; valued = λ l. absurd l; placed = nothing-read C }
      args-done (more_exprs e es) C z names clock d j at spot s fit named h own c =
          let v = drawn t brings z spot e s in
          let taken = takes_input d j v.0 v.1 in
          let ke : PlaceSources = λ p. only (at (Head ∷ p)) in
          let ks : PlaceSources = λ p. only (at (Tail ∷ p)) in
          let u2 = args-done es C z names clock d (j + 1) (λ p. at (Tail ∷ p)) spot taken fit.1 named (λ p. h (Tail ∷ p)) (λ o. let x = own o in (λ q. (x.0 q).1, λ p. x.1 (Tail ∷ p), x.2)) c in
          let r = input-runs R (running S Early) d j v.0 v.1 in
          let u1 = expr-done e C z names clock (λ p. at (Head ∷ p)) spot s fit.0 named (λ p. h (Head ∷ p)) (λ o. let x = own o in (λ q. (x.0 q).0, λ p. x.1 (Head ∷ p), x.2)) (r.closed u2.shut) in
          record {
            shut = u1.shut;
            slots = λ k. u2.slots (r.slots (u1.slots k));
            valued = either C (S d.reads) (of_expr e names ke) (of_exprs es names ks) (λ l. on C v.0.wire d.reads (input-gives S d j v.0 v.1 u2.shut) (u1.valued l)) u2.valued;
            placed = row-holds (leading T) C (at_expr e clock names ke) (at_exprs es clock names ks) (ExprWires S t brings z spot e s) (ArgsWires S t brings z spot d (j + 1) es taken) u1.placed u2.placed;
          }
