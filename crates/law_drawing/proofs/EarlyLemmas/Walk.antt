-- The flags of what is drawn of expressions, calls and definitions.
use Rattle.std.proofs.Common.{◌≡◌, ℕ, ◌+◌, Bool, true, false, ◌&&◌, List, [], ◌∷◌, Option, None, Some, refl, ap, ◌∙◌}
use Rattle.hp_base.specs.declared.span.Span.{Span}
use Rattle.hp_tree.specs.Blocks.{Decl}
use Rattle.hp_tree.specs.Expressions.{Expr, constant, variable, last_of, one, two, choose, pre, fby, arrow, when_is, merge, call, Exprs, no_expr, more_exprs, Parts, no_part, more_parts}
use Rattle.hp_tree.specs.Instant.{Step, Named, Observer, Assume, Enforce, Head, Tail, First, Second, Third, Args, Instance, Place, Clock, without}
use Rattle.hp_tree.specs.Meaning as meaning
use Rattle.hp_tree.specs.Operators.{is_comparison}
use Rattle.hp_tree.specs.Programs.{Node}
use Rattle.hp_meaning.specs.Causal.Sources.{only}
use Rattle.hp_circuit.specs.declared.circuit.Role.TheVariants as role
use Rattle.hp_circuit.specs.declared.circuit.Shape.{Shape}
use Rattle.hp_circuit.specs.declared.circuit.Shape.TheVariants.{Truth, Cons, Mark}
use Rattle.hp_meaning.specs.Contract.FreePlaces.{FreeClocks, by_step, if_compared, outputs_free, free_in, free_in_all, free_in_parts}
use Rattle.hp_drawing.specs.declared.parts.Callee.{Callee}
use Rattle.hp_drawing.specs.declared.parts.Place.{Place as Spot}
use Rattle.hp_drawing.specs.Kept.{is_mark}
use Rattle.hp_drawing.specs.Told.{Told, type_shape}
use Rattle.hp_drawing.specs.Planned.{shape_in, shape_in_parts}
use Rattle.hp_drawing.specs.Sketch.{Sketch, high, next_slot, next_wire, mark, read, slot, given}
use Rattle.hp_drawing.specs.Places.{on_clock, may_be_early, new_register, takes, chain_add}
use Rattle.hp_drawing.specs.Scopes.{Scope, value_in, shapes_in}
use Rattle.hp_drawing.specs.DrawnExpressions.{Brings, drawn, drawn_parts, drawn_args, compares, two_begin, two_end, delay_begin, delay_take, fby_end, drawn_choice, outside_of, merge_begin, has_cons, step_clock, begin_with, begin_call, callee_of, add_output, add_outputs, add_holes, takes_input}
use Rattle.hp_drawing.specs.DrawnBlocks.{clock_of, drawn_right, drawn_definition}
use Rattle.law_drawing.specs.Steered.Marks.{Steering}
use Rattle.law_drawing.specs.Steered.Placed.{Held, IsNext, IsCompared, IsGiven, OutputsPlaced, CallPlaced, Placed, PartsPlaced, ArgsPlaced, DefinitionPlaced}
use Rattle.law_drawing.proofs.EarlyLemmas.Running.{mark-runs, constant-runs, one-runs, two_end-runs, choice-runs, delay-runs, delay_take-runs, pre_end-runs, fby_end-runs, sampled-runs, merge-runs, merge_end-runs, register-runs, takes-runs, cons-runs, step-runs, chain-runs, input-runs, holes-run, clock_of-runs, each-runs, all-run}
use Rattle.law_drawing.proofs.EarlyLemmas.Flags.{Goes, goes-both, read-goes, slot-goes, stays, going, Stands, stands-behind, stands-outside, stands-stepped, KnowsClocks, defined-clock, HasBase, base-later, if_own, none-own, flag-right}

-- a steering by which each slot stands for its own place: one place is told, and slots have these places
abbrev pub standing : (ℕ → Place) → Place → Steering
standing place q = record { places = λ p. p ≡ q; slots = λ i. only (place i) }

and-first : (a b : Bool) → a && b ≡ true → a ≡ true
and-first true b h = refl
and-first false b h = absurd cc

compared-step : (b : Bool) (clock : Clock) (k : FreeClocks) (s : Step) (p : Place) → if_compared b clock k (s ∷ p) ≡ k (s ∷ p)
compared-step true clock k s p = refl
compared-step false clock k s p = refl

module _ (place : ℕ → Place) (clocks : FreeClocks) where
  abbrev G : Sketch → Sketch → Type 0
  G = Goes place clocks

  abbrev At : Sketch → Spot → Bool → Clock → Type 0
  At s spot own clock = Stands place clocks s spot own clock

  pub both : (a b c : Sketch) → G a b → G b c → G a c
  both = goes-both place clocks

  -- what stands free where, in the node itself or not
  abbrev pub Frees : (Place → Place) → Bool → FreeClocks → Type 0
  Frees at own free = (p : Place) → clocks (at p) ≡ if_own own (free p)

  -- the next slot has this place
  next-place : (s : Sketch) (p : Place) → ((q : Place) → IsNext (standing place q) (only p) s) → place (next_slot s) ≡ p
  next-place s p h = h p refl

  -- What the contract of a node brings that is called goes on; nothing in it stands free in the node itself.
  abbrev pub BringsGo : Told → Brings → (Place → Held) → Type 0
  BringsGo t brings held =
      (spot : Spot) (n : Node) (c : Callee) (s : Sketch) (at : Place → Place) → HasBase s.clocks → ((p : Place) → clocks (at (Observer ∷ p)) ≡ None) → ((p : Place) → clocks (at (Assume ∷ p)) ≡ None) → ((p : Place) → clocks (at (Enforce ∷ p)) ≡ None)
      → ((q : Place) → held q spot n c s (λ p. only (at p))) → G s (brings t spot n c s)

  module _ (t : Told) (brings : Brings) (held : Place → Held) (b : BringsGo t brings held) (z : Scope) where
    abbrev Lies : Spot → Expr → (Place → Place) → Sketch → Type 0
    Lies spot e at s = (q : Place) → Placed (standing place q) t brings (held q) z spot e (λ p. only (at p)) s

    -- ---- calls

    output-goes : (p : Shape) (spot : Spot) (own : Bool) (clock : Clock) (where_is : Place) (reads : ℕ) (s : Sketch) → At s spot own clock → clocks where_is ≡ if_own own (Some clock) → ((q : Place) → IsGiven (standing place q) (is_mark p) (only where_is) s)
        → G s (add_output (may_be_early spot) p reads s)
    unfolding given
    output-goes Truth spot own clock where_is reads s h c l =
        let w = slot (role.Free (may_be_early spot)) Truth s in
        both s w.1 (read w.0 reads w.1) (slot-goes place clocks (role.Free (may_be_early spot)) Truth s (flag-right place clocks s spot own clock where_is h c (next-place s where_is l))) (read-goes place clocks w.0 reads w.1)
    output-goes (Cons n) spot own clock where_is reads s h c l =
        let w = slot (role.Free (may_be_early spot)) (Cons n) s in
        both s w.1 (read w.0 reads w.1) (slot-goes place clocks (role.Free (may_be_early spot)) (Cons n) s (flag-right place clocks s spot own clock where_is h c (next-place s where_is l))) (read-goes place clocks w.0 reads w.1)
    output-goes Mark spot own clock where_is reads s h c l =
        let w = mark s in
        both s w.1 (read w.0 reads w.1) (mark-runs G (going place clocks) s) (read-goes place clocks w.0 reads w.1)

    outputs-go : (ds : List Decl) (spot : Spot) (own : Bool) (clock : Clock) (at : Place → Place) (reads : ℕ) (s : Sketch) → At s spot own clock → ((x : List ℕ) → clocks (at (Named x ∷ [])) ≡ if_own own (Some clock))
        → ((q : Place) → OutputsPlaced (standing place q) t (may_be_early spot) ds reads (λ p. only (at p)) s) → G s (add_outputs t (may_be_early spot) ds reads s)
    outputs-go [] spot own clock at reads s h c l = stays place clocks s
    outputs-go (d ∷ ds) spot own clock at reads s h c l =
        let p = type_shape t d.ty in
        let s1 = add_output (may_be_early spot) p reads s in
        let g = output-goes p spot own clock (at (Named d.name ∷ [])) reads s h (c d.name) (λ q. (l q).0) in
        both s s1 (add_outputs t (may_be_early spot) ds reads s1) g (outputs-go ds spot own clock at reads s1 (stands-behind place clocks s s1 spot own clock g h) c (λ q. (l q).1))

    begins : (o : Option Node) (spot : Spot) (own : Bool) (clock : Clock) (at : Place → Place) (s : Sketch) → At s spot own clock → Frees (λ p. at (Instance ∷ p)) own (outputs_free clock)
        → ((q : Place) → CallPlaced (standing place q) t brings (held q) spot o (λ p. only (at p)) s) → G s (begin_with t brings spot o s).1
    begins None spot own clock at s h c l = stays place clocks s
    begins (Some n) spot own clock at s h c l =
        let inside : Place → Place = λ p. at (Instance ∷ p) in
        let reads = mark s in
        let g0 = mark-runs G (going place clocks) s in
        let outs = add_outputs t (may_be_early spot) n.outputs reads.0 reads.1 in
        let g1 = outputs-go n.outputs spot own clock inside reads.0 reads.1 (stands-behind place clocks s reads.1 spot own clock g0 h) (λ x. c (Named x ∷ [])) (λ q. (l q).0) in
        let ins = add_holes t n.inputs outs in
        let g2 = holes-run G (going place clocks) t n.inputs outs in
        let to_ins = both s outs ins (both s reads.1 outs g0 g1) g2 in
        let c0 = callee_of (next_wire reads.1) (next_wire outs) reads.0 in
        both s ins (brings t spot n c0 ins) to_ins
        (b spot n c0 ins inside (base-later s.clocks ins.clocks to_ins.later h.based) (λ p. c (Observer ∷ p) ∙ none-own own) (λ p. c (Assume ∷ p) ∙ none-own own) (λ p. c (Enforce ∷ p) ∙ none-own own) (λ q. (l q).1))

    call-begins : (f : List ℕ) (spot : Spot) (own : Bool) (clock : Clock) (at : Place → Place) (s : Sketch) → At s spot own clock → Frees (λ p. at (Instance ∷ p)) own (outputs_free clock)
        → ((q : Place) → CallPlaced (standing place q) t brings (held q) spot (t.nodes f) (λ p. only (at p)) s) → G s (begin_call t brings spot f s).1
    unfolding begin_call
    call-begins f spot own clock at s h c l = begins (t.nodes f) spot own clock at s h c l

    -- ---- comparisons

    begin-compared : (compared : Bool) (spot : Spot) (own : Bool) (clock : Clock) (p : Place) (s : Sketch) → At s spot own clock → (compared ≡ true → clocks p ≡ if_own own (Some clock)) → ((q : Place) → IsCompared (standing place q) compared (only p) s) → G s (two_begin compared spot s).1
    begin-compared true spot own clock p s h c l = slot-goes place clocks (role.Free (may_be_early spot)) Truth s (flag-right place clocks s spot own clock p h (c refl) (next-place s p l))
    begin-compared false spot own clock p s h c l = stays place clocks s

    -- ---- expressions

    mutual
      pub expr-goes : (e : Expr) (spot : Spot) (own : Bool) (clock : Clock) (at : Place → Place) (s : Sketch) → At s spot own clock → Frees at own (free_in e clock) → Lies spot e at s → G s (drawn t brings z spot e s).1
      expr-goes (constant q c) spot own clock at s h f l = constant-runs G (going place clocks) t c s
      expr-goes (variable q x) spot own clock at s h f l = stays place clocks s
      expr-goes (last_of q x) spot own clock at s h f l = stays place clocks s
      expr-goes (one q o a) spot own clock at s h f l =
          let v = drawn t brings z spot a s in
          both s v.1 (drawn t brings z spot (one q o a) s).1 (expr-goes a spot own clock (λ p. at (First ∷ p)) s h (λ p. f (First ∷ p)) l) (one-runs G (going place clocks) o v.0 v.1)
      expr-goes (two q o a c) spot own clock at s h f l =
          let operands : FreeClocks = by_step ((First, free_in a clock) ∷ (Second, free_in c clock) ∷ []) in
          let compared = compares t z o a in
          let w = two_begin compared spot s in
          let g0 = begin-compared compared spot own clock (at []) s h (λ e. f [] ∙ ap (λ i. if_own own (if_compared i clock operands [])) (and-first (is_comparison o) (is_mark (shape_in t a (shapes_in z))) e)) (λ r. (l r).0) in
          let first = drawn t brings z spot a w.1 in
          let g1 = expr-goes a spot own clock (λ p. at (First ∷ p)) w.1 (stands-behind place clocks s w.1 spot own clock g0 h) (λ p. f (First ∷ p) ∙ ap (if_own own) (compared-step (is_comparison o) clock operands First p)) (λ r. (l r).1) in
          let to_first = both s w.1 first.1 g0 g1 in
          let second = drawn t brings z spot c first.1 in
          let g2 = expr-goes c spot own clock (λ p. at (Second ∷ p)) first.1 (stands-behind place clocks s first.1 spot own clock to_first h) (λ p. f (Second ∷ p) ∙ ap (if_own own) (compared-step (is_comparison o) clock operands Second p)) (λ r. (l r).2) in
          both s second.1 (two_end compared w.0 o first.0 second.0 second.1).1 (both s first.1 second.1 to_first g2) (two_end-runs G (going place clocks) compared w.0 o first.0 second.0 second.1)
      expr-goes (choose q a c d) spot own clock at s h f l =
          let condition = drawn t brings z spot a s in
          let g0 = expr-goes a spot own clock (λ p. at (First ∷ p)) s h (λ p. f (First ∷ p)) (λ r. (l r).0) in
          let first = drawn t brings z spot c condition.1 in
          let g1 = expr-goes c spot own clock (λ p. at (Second ∷ p)) condition.1 (stands-behind place clocks s condition.1 spot own clock g0 h) (λ p. f (Second ∷ p)) (λ r. (l r).1) in
          let to_first = both s condition.1 first.1 g0 g1 in
          let second = drawn t brings z spot d first.1 in
          let g2 = expr-goes d spot own clock (λ p. at (Third ∷ p)) first.1 (stands-behind place clocks s first.1 spot own clock to_first h) (λ p. f (Third ∷ p)) (λ r. (l r).2) in
          both s second.1 (drawn_choice condition.0.wire first.0 second.0 second.1).1 (both s first.1 second.1 to_first g2) (choice-runs G (going place clocks) condition.0.wire first.0 second.0 second.1)
      expr-goes (pre q a) spot own clock at s h f l =
          let p = shape_in t a (shapes_in z) in
          let r = delay_begin p spot s in
          let g0 = delay-runs G (going place clocks) p spot s in
          let v = drawn t brings z spot a r.1 in
          let g1 = expr-goes a spot own clock (λ p. at (First ∷ p)) r.1 (stands-behind place clocks s r.1 spot own clock g0 h) (λ p. f (First ∷ p)) l in
          both s v.1 (drawn t brings z spot (pre q a) s).1 (both s r.1 v.1 g0 g1) (pre_end-runs G (going place clocks) p r.0 spot v)
      expr-goes (fby q a c) spot own clock at s h f l =
          let p = shape_in t a (shapes_in z) in
          let r = delay_begin p spot s in
          let past = new_register spot 0 Truth r.1 in
          let g0 = both s r.1 past.1 (delay-runs G (going place clocks) p spot s) (register-runs G (going place clocks) spot 0 Truth r.1) in
          let first = drawn t brings z spot a past.1 in
          let g1 = expr-goes a spot own clock (λ p. at (First ∷ p)) past.1 (stands-behind place clocks s past.1 spot own clock g0 h) (λ p. f (First ∷ p)) (λ r. (l r).0) in
          let to_first = both s past.1 first.1 g0 g1 in
          let second = drawn t brings z spot c first.1 in
          let g2 = expr-goes c spot own clock (λ p. at (Second ∷ p)) first.1 (stands-behind place clocks s first.1 spot own clock to_first h) (λ p. f (Second ∷ p)) (λ r. (l r).1) in
          let taken = delay_take p r.0 spot second.0.wire second.1 in
          let told = takes past.0 spot high taken in
          let to_told = both s taken told (both s second.1 taken (both s first.1 second.1 to_first g2) (delay_take-runs G (going place clocks) p r.0 spot second.0.wire second.1)) (takes-runs G (going place clocks) past.0 spot high taken) in
          both s told (fby_end p r.0 past.0 first.0 told).1 to_told (fby_end-runs G (going place clocks) p r.0 past.0 first.0 told)
      expr-goes (arrow q a c) spot own clock at s h f l =
          let past = new_register spot 0 Truth s in
          let g0 = register-runs G (going place clocks) spot 0 Truth s in
          let first = drawn t brings z spot a past.1 in
          let g1 = expr-goes a spot own clock (λ p. at (First ∷ p)) past.1 (stands-behind place clocks s past.1 spot own clock g0 h) (λ p. f (First ∷ p)) (λ r. (l r).0) in
          let to_first = both s past.1 first.1 g0 g1 in
          let second = drawn t brings z spot c first.1 in
          let g2 = expr-goes c spot own clock (λ p. at (Second ∷ p)) first.1 (stands-behind place clocks s first.1 spot own clock to_first h) (λ p. f (Second ∷ p)) (λ r. (l r).1) in
          let told = takes past.0 spot high second.1 in
          let to_told = both s second.1 told (both s first.1 second.1 to_first g2) (takes-runs G (going place clocks) past.0 spot high second.1) in
          both s told (drawn_choice past.0.read second.0 first.0 told).1 to_told (choice-runs G (going place clocks) past.0.read second.0 first.0 told)
      expr-goes (when_is q a c x) spot own clock at s h f l =
          let v = drawn t brings z (outside_of spot s) a s in
          both s v.1 (drawn t brings z spot (when_is q a c x) s).1 (expr-goes a (outside_of spot s) own (without clock) (λ p. at (First ∷ p)) s (stands-outside place clocks s spot own clock h) (λ p. f (First ∷ p)) l)
          (sampled-runs G (going place clocks) (value_in z x).wire v)
      expr-goes (merge q x ps) spot own clock at s h f l =
          let p = shape_in_parts t ps (shapes_in z) in
          let w = merge_begin p (value_in z x).wire s in
          let g0 = merge-runs G (going place clocks) p (value_in z x).wire s in
          let d = drawn_parts t brings z spot x ps w.0 w.1 in
          let g1 = parts-go ps spot own x clock (λ p. at (Args ∷ p)) w.0 w.1 (stands-behind place clocks s w.1 spot own clock g0 h) (λ p. f (Args ∷ p)) l in
          both s d.1 (drawn t brings z spot (merge q x ps) s).1 (both s w.1 d.1 g0 g1) (merge_end-runs G (going place clocks) p w.0 d)
      expr-goes (call q i inlined es) spot own clock at s h f l =
          let c = begin_call t brings spot i s in
          let g0 = call-begins i spot own clock at s h (λ p. f (Instance ∷ p)) (λ r. (l r).0) in
          both s c.1 (drawn_args t brings z spot c.0 0 es c.1) g0 (args-go es spot own clock c.0 0 (λ p. at (Args ∷ p)) c.1 (stands-behind place clocks s c.1 spot own clock g0 h) (λ p. f (Args ∷ p)) (λ r. (l r).1))

      parts-go : (ps : Parts) (spot : Spot) (own : Bool) (x : List ℕ) (clock : Clock) (at : Place → Place) (i : ℕ) (s : Sketch) → At s spot own clock → Frees at own (free_in_parts ps x clock)
          → ((q : Place) → PartsPlaced (standing place q) t brings (held q) z spot x ps (λ p. only (at p)) i s) → G s (drawn_parts t brings z spot x ps i s).1
      parts-go no_part spot own x clock at i s h f l = stays place clocks s
      parts-go (more_parts c e ps) spot own x clock at i s h f l =
          let is = has_cons t (value_in z x).wire c s in
          let g0 = cons-runs G (going place clocks) t (value_in z x).wire c s in
          let h0 = stands-behind place clocks s is.1 spot own clock g0 h in
          let inner = step_clock t z spot.clock c x is.1 in
          let g1 = both s is.1 inner.1 g0 (step-runs G (going place clocks) t z spot.clock c x is.1) in
          let v = drawn t brings z (on_clock spot inner.0) e inner.1 in
          let g2 = expr-goes e (on_clock spot inner.0) own ((c, x) ∷ clock) (λ p. at (Head ∷ p)) inner.1 (stands-stepped place clocks t z spot own clock c x is.1 h0) (λ p. f (Head ∷ p)) (λ r. (l r).0) in
          let rest = chain_add i is.0 v.0 v.1 in
          let g3 = both s v.1 rest.1 (both s inner.1 v.1 g1 g2) (chain-runs G (going place clocks) i is.0 v.0 v.1) in
          both s rest.1 (drawn_parts t brings z spot x ps rest.0 rest.1).1 g3 (parts-go ps spot own x clock (λ p. at (Tail ∷ p)) rest.0 rest.1 (stands-behind place clocks s rest.1 spot own clock g3 h) (λ p. f (Tail ∷ p)) (λ r. (l r).1))

      args-go : (es : Exprs) (spot : Spot) (own : Bool) (clock : Clock) (c : Callee) (j : ℕ) (at : Place → Place) (s : Sketch) → At s spot own clock → Frees at own (free_in_all es clock)
          → ((q : Place) → ArgsPlaced (standing place q) t brings (held q) z spot c j es (λ p. only (at p)) s) → G s (drawn_args t brings z spot c j es s)
      args-go no_expr spot own clock c j at s h f l = stays place clocks s
      args-go (more_exprs e es) spot own clock c j at s h f l =
          let v = drawn t brings z spot e s in
          let g0 = expr-goes e spot own clock (λ p. at (Head ∷ p)) s h (λ p. f (Head ∷ p)) (λ r. (l r).0) in
          let taken = takes_input c j v.0 v.1 in
          let g1 = both s v.1 taken g0 (input-runs G (going place clocks) c j v.0 v.1) in
          both s taken (drawn_args t brings z spot c (j + 1) es taken) g1 (args-go es spot own clock c (j + 1) (λ p. at (Tail ∷ p)) taken (stands-behind place clocks s taken spot own clock g1 h) (λ p. f (Tail ∷ p)) (λ r. (l r).1))

    -- ---- definitions

    right-goes : (e : Expr) (spot : Spot) (xs : List (List ℕ × Span)) (s : Sketch) → G s (drawn t brings z spot e s).1 → G s (drawn_right t brings z spot xs e s)
    right-goes (call q i inlined es) spot xs s g =
        let c = begin_call t brings spot i s in
        let d = drawn_args t brings z spot c.0 0 es c.1 in
        both s d (drawn_right t brings z spot xs (call q i inlined es) s) g (each-runs G (going place clocks) z c.0 0 xs d)
    right-goes e spot xs s g = let d = drawn t brings z spot e s in both s d.1 (drawn_right t brings z spot xs e s) g (all-run G (going place clocks) z xs d.0 d.1)

    pub definition-goes : (e : Expr) (spot : Spot) (own : Bool) (ds : List Decl) (xs : List (List ℕ × Span)) (at : Place → Place) (s : Sketch) → At s spot own [] → KnowsClocks z ds → Frees at own (free_in e (meaning.clock_of ds xs e))
        → ((q : Place) → DefinitionPlaced (standing place q) t brings (held q) z spot ds xs e (λ p. only (at p)) s) → G s (drawn_definition t brings z spot ds xs e s)
    definition-goes e spot own ds xs at s h k f l =
        let c = clock_of t z ds xs e s in
        let g = clock_of-runs G (going place clocks) t z ds xs e s in
        let there = stands-behind place clocks s c.1 spot own [] g h in
        let on : At c.1 (on_clock spot c.0) own (meaning.clock_of ds xs e) = record { based = there.based; clock_is = defined-clock place clocks t z ds xs e s k h.based; outside = there.outside } in
        both s c.1 (drawn_right t brings z (on_clock spot c.0) xs e c.1) g (right-goes e (on_clock spot c.0) xs c.1 (expr-goes e (on_clock spot c.0) own (meaning.clock_of ds xs e) at c.1 on f l))
