-- What is drawn of expressions and definitions that call nothing leaves what is supposed and owed as it is.
use Rattle.std.proofs.Common.{ℕ, Bool, true, false, List}
use Rattle.hp_base.specs.declared.span.Span.{Span}
use Rattle.hp_tree.specs.Blocks.{Decl}
use Rattle.hp_tree.specs.Expressions.{Expr, constant, variable, last_of, one, two, choose, pre, fby, arrow, when_is, merge, call, Parts, no_part, more_parts}
use Rattle.hp_circuit.specs.declared.circuit.Role.TheVariants as role
use Rattle.hp_circuit.specs.declared.circuit.Shape.TheVariants.{Truth}
use Rattle.hp_drawing.specs.declared.parts.Place.{Place}
use Rattle.hp_drawing.specs.Told.{Told}
use Rattle.hp_drawing.specs.Planned.{shape_in, shape_in_parts}
use Rattle.hp_drawing.specs.Sketch.{Sketch, high}
use Rattle.hp_drawing.specs.Places.{on_clock, may_be_early, new_register, takes, chain_add}
use Rattle.hp_drawing.specs.Scopes.{Scope, value_in, shapes_in}
use Rattle.hp_drawing.specs.DrawnExpressions.{Brings, drawn, drawn_parts, compares, two_begin, two_end, delay_begin, delay_take, fby_end, drawn_choice, outside_of, merge_begin, has_cons, step_clock}
use Rattle.hp_drawing.specs.DrawnBlocks.{clock_of, drawn_right, drawn_definition}
use Rattle.law_drawing.proofs.SteeredLemmas.Uncalled.{CallsNothing, PartsCallNothing}
use Rattle.law_drawing.proofs.EarlyLemmas.Running.{constant-runs, one-runs, two_end-runs, choice-runs, delay-runs, delay_take-runs, pre_end-runs, fby_end-runs, sampled-runs, merge-runs, merge_end-runs, register-runs, takes-runs, cons-runs, step-runs, chain-runs, clock_of-runs, all-run}
use Rattle.law_drawing.proofs.UncalledLemmas.Steps.{Leaves, none-leaves, both-leave, slot-leaves, leaving}

compared-leaves : (compared : Bool) (spot : Place) (s : Sketch) → Leaves s (two_begin compared spot s).1
compared-leaves true spot s = slot-leaves (role.Free (may_be_early spot)) Truth s
compared-leaves false spot s = none-leaves s

module _ (t : Told) (brings : Brings) (z : Scope) where
  mutual
    pub expr-leaves : (e : Expr) (spot : Place) (s : Sketch) → CallsNothing e → Leaves s (drawn t brings z spot e s).1
    expr-leaves (constant q c) spot s h = constant-runs Leaves leaving t c s
    expr-leaves (variable q x) spot s h = none-leaves s
    expr-leaves (last_of q x) spot s h = none-leaves s
    expr-leaves (one q o a) spot s h =
        let v = drawn t brings z spot a s in
        both-leave s v.1 (drawn t brings z spot (one q o a) s).1 (expr-leaves a spot s h) (one-runs Leaves leaving o v.0 v.1)
    expr-leaves (two q o a c) spot s h =
        let compared = compares t z o a in
        let w = two_begin compared spot s in
        let first = drawn t brings z spot a w.1 in
        let second = drawn t brings z spot c first.1 in
        let to_first = both-leave s w.1 first.1 (compared-leaves compared spot s) (expr-leaves a spot w.1 h.0) in
        let to_second = both-leave s first.1 second.1 to_first (expr-leaves c spot first.1 h.1) in
        both-leave s second.1 (two_end compared w.0 o first.0 second.0 second.1).1 to_second (two_end-runs Leaves leaving compared w.0 o first.0 second.0 second.1)
    expr-leaves (choose q a c d) spot s h =
        let condition = drawn t brings z spot a s in
        let first = drawn t brings z spot c condition.1 in
        let second = drawn t brings z spot d first.1 in
        let to_first = both-leave s condition.1 first.1 (expr-leaves a spot s h.0) (expr-leaves c spot condition.1 h.1) in
        let to_second = both-leave s first.1 second.1 to_first (expr-leaves d spot first.1 h.2) in
        both-leave s second.1 (drawn_choice condition.0.wire first.0 second.0 second.1).1 to_second (choice-runs Leaves leaving condition.0.wire first.0 second.0 second.1)
    expr-leaves (pre q a) spot s h =
        let p = shape_in t a (shapes_in z) in
        let r = delay_begin p spot s in
        let v = drawn t brings z spot a r.1 in
        both-leave s v.1 (drawn t brings z spot (pre q a) s).1 (both-leave s r.1 v.1 (delay-runs Leaves leaving p spot s) (expr-leaves a spot r.1 h)) (pre_end-runs Leaves leaving p r.0 spot v)
    expr-leaves (fby q a c) spot s h =
        let p = shape_in t a (shapes_in z) in
        let r = delay_begin p spot s in
        let past = new_register spot 0 Truth r.1 in
        let to_past = both-leave s r.1 past.1 (delay-runs Leaves leaving p spot s) (register-runs Leaves leaving spot 0 Truth r.1) in
        let first = drawn t brings z spot a past.1 in
        let to_first = both-leave s past.1 first.1 to_past (expr-leaves a spot past.1 h.0) in
        let second = drawn t brings z spot c first.1 in
        let to_second = both-leave s first.1 second.1 to_first (expr-leaves c spot first.1 h.1) in
        let taken = delay_take p r.0 spot second.0.wire second.1 in
        let told = takes past.0 spot high taken in
        let to_told = both-leave s taken told (both-leave s second.1 taken to_second (delay_take-runs Leaves leaving p r.0 spot second.0.wire second.1)) (takes-runs Leaves leaving past.0 spot high taken) in
        both-leave s told (fby_end p r.0 past.0 first.0 told).1 to_told (fby_end-runs Leaves leaving p r.0 past.0 first.0 told)
    expr-leaves (arrow q a c) spot s h =
        let past = new_register spot 0 Truth s in
        let first = drawn t brings z spot a past.1 in
        let to_first = both-leave s past.1 first.1 (register-runs Leaves leaving spot 0 Truth s) (expr-leaves a spot past.1 h.0) in
        let second = drawn t brings z spot c first.1 in
        let to_second = both-leave s first.1 second.1 to_first (expr-leaves c spot first.1 h.1) in
        let told = takes past.0 spot high second.1 in
        let to_told = both-leave s second.1 told to_second (takes-runs Leaves leaving past.0 spot high second.1) in
        both-leave s told (drawn_choice past.0.read second.0 first.0 told).1 to_told (choice-runs Leaves leaving past.0.read second.0 first.0 told)
    expr-leaves (when_is q a c x) spot s h =
        let v = drawn t brings z (outside_of spot s) a s in
        both-leave s v.1 (drawn t brings z spot (when_is q a c x) s).1 (expr-leaves a (outside_of spot s) s h) (sampled-runs Leaves leaving (value_in z x).wire v)
    expr-leaves (merge q x ps) spot s h =
        let p = shape_in_parts t ps (shapes_in z) in
        let w = merge_begin p (value_in z x).wire s in
        let d = drawn_parts t brings z spot x ps w.0 w.1 in
        both-leave s d.1 (drawn t brings z spot (merge q x ps) s).1 (both-leave s w.1 d.1 (merge-runs Leaves leaving p (value_in z x).wire s) (parts-leave ps spot x w.0 w.1 h)) (merge_end-runs Leaves leaving p w.0 d)
    expr-leaves (call q f inlined es) spot s h = absurd h

    parts-leave : (ps : Parts) (spot : Place) (x : List ℕ) (i : ℕ) (s : Sketch) → PartsCallNothing ps → Leaves s (drawn_parts t brings z spot x ps i s).1
    parts-leave no_part spot x i s h = none-leaves s
    parts-leave (more_parts c e ps) spot x i s h =
        let is = has_cons t (value_in z x).wire c s in
        let inner = step_clock t z spot.clock c x is.1 in
        let to_inner = both-leave s is.1 inner.1 (cons-runs Leaves leaving t (value_in z x).wire c s) (step-runs Leaves leaving t z spot.clock c x is.1) in
        let v = drawn t brings z (on_clock spot inner.0) e inner.1 in
        let rest = chain_add i is.0 v.0 v.1 in
        let to_rest = both-leave s v.1 rest.1 (both-leave s inner.1 v.1 to_inner (expr-leaves e (on_clock spot inner.0) inner.1 h.0)) (chain-runs Leaves leaving i is.0 v.0 v.1) in
        both-leave s rest.1 (drawn_parts t brings z spot x ps rest.0 rest.1).1 to_rest (parts-leave ps spot x rest.0 rest.1 h.1)

  -- ---- definitions

  right-leaves : (e : Expr) (spot : Place) (xs : List (List ℕ × Span)) (s : Sketch) → CallsNothing e → Leaves s (drawn_right t brings z spot xs e s)
  right-leaves (call q f inlined es) spot xs s h = absurd h
  right-leaves e spot xs s h = let d = drawn t brings z spot e s in both-leave s d.1 (drawn_right t brings z spot xs e s) (expr-leaves e spot s h) (all-run Leaves leaving z xs d.0 d.1)

  pub definition-leaves : (e : Expr) (spot : Place) (ds : List Decl) (xs : List (List ℕ × Span)) (s : Sketch) → CallsNothing e → Leaves s (drawn_definition t brings z spot ds xs e s)
  definition-leaves e spot ds xs s h =
      let c = clock_of t z ds xs e s in
      both-leave s c.1 (drawn_right t brings z (on_clock spot c.0) xs e c.1) (clock_of-runs Leaves leaving t z ds xs e s) (right-leaves e (on_clock spot c.0) xs c.1 h)
