-- The slots of what is drawn of expressions and blocks are what is planned.
use Rattle.std.proofs.Common.{◌≡◌, ℕ, ◌+◌, List, [], ◌∷◌, Option, None, Some, refl, ap, ◌∙◌}
use Rattle.hp_base.specs.declared.span.Span.{Span}
use Rattle.hp_circuit.specs.declared.circuit.Shape.TheVariants.{Truth}
use Rattle.hp_tree.specs.declared.block.Trans.{Trans}
use Rattle.hp_tree.specs.declared.decl.Cons as tree_cons
use Rattle.hp_tree.specs.Blocks.{Decl, Block, block, Eqns, no_eqn, more_eqns, Eqn, define, switch, reset, automaton, Arms, no_arm, more_arms, States, no_state, more_states}
use Rattle.hp_tree.specs.Expressions.{Expr, constant, variable, last_of, one, two, choose, pre, fby, arrow, when_is, merge, call, Exprs, no_expr, more_exprs, Parts, no_part, more_parts}
use Rattle.hp_tree.specs.Programs.{Node}
use Rattle.hp_drawing.specs.declared.parts.Callee as code_callee
use Rattle.hp_drawing.specs.declared.parts.Entered.{Entered}
use Rattle.hp_drawing.specs.declared.parts.Jump.{Jump}
use Rattle.hp_drawing.specs.declared.parts.Lines.{Lines}
use Rattle.hp_drawing.specs.declared.parts.Place.{Place}
use Rattle.hp_drawing.specs.declared.parts.Rests.{Rests}
use Rattle.hp_drawing.specs.declared.parts.Value.{Value}
use Rattle.hp_drawing.specs.Kept.{register, free, with_kept}
use Rattle.hp_drawing.specs.Told.{Told}
use Rattle.hp_drawing.specs.Planned.{Names, Callee, shape_in, shape_in_parts, with_row, with_call, count_states, in_block, planned, planned_all, planned_parts, planned_conditions, planned_block, planned_eqns, planned_eqn, planned_arms, planned_states}
use Rattle.hp_drawing.specs.Sketch as sketch
use Rattle.hp_drawing.specs.Sketch.{Sketch, high, mark}
use Rattle.hp_drawing.specs.Places.{may_be_early, on_clock, new_register, takes, stays, jump_hole, new_lines, numbers_of, lines_end, chain_add, transition}
use Rattle.hp_drawing.specs.Scopes.{Scope, value_in, shapes_in, enter, leave, hide, pop_values, join}
use Rattle.hp_drawing.specs.DrawnExpressions.{Brings, has_cons, step_clock, takes_input, add_outputs, add_holes, begin_with, begin_call, callee_of, two_begin, compares, delay_begin, delay_take, outside_of, merge_begin, drawn, drawn_parts, drawn_args, drawn_call, output}
use Rattle.hp_drawing.specs.DrawnBlocks.{Telling, untold, at_base, of_name, on_value, Path, path_of, clock_on, told_by, clock_by, clock_of, define_name, define_each, define_all, drawn_right, drawn_definition, Words, words_of, drawn_transitions, drawn_jump, drawn_strong, drawn_weak, enter_state, leave_state, state_end, rests_of, enter_arm, reset_begin, leave_hidden, join_drawn, states_begin, drawn_block, drawn_eqns, drawn_eqn, drawn_arms, drawn_states}
use Rattle.hp_drawing.proofs.KeptLaws.{kept_at, define-kept, register-kept, takes-kept, chain-kept, is-kept, transition-kept, jump_hole-kept, jump_end-kept, jump_add-kept, within-kept, reset-kept, lines-kept, take-kept, end-kept, mark-kept, hole-kept}
use Rattle.hp_drawing.proofs.NamesLaws.{entered-shapes, entered-left, hidden-shapes, hidden-left, joined-shapes, joined-left}
use Rattle.hp_drawing.proofs.PlanLaws.{entered-kept, join-kept, read_hidden-kept, end_hidden-kept, constant-kept, cons-kept, step-kept, one-kept, choice-kept, input-kept, outputs-kept, holes-kept, two_begin-kept, two_end-kept, delay-kept, delay_take-kept, pre_end-kept, fby_end-kept, sampled-kept, merge-kept, merge_end-kept}

-- ---- clocks and definitions

clock_on-kept : (t : Told) (z : Scope) (clock : ℕ) (path : Path) (s : Sketch) → kept_at (clock_on t z clock path s).1 ≡ kept_at s
clock_on-kept t z clock [] s = refl
clock_on-kept t z clock (p ∷ ps) s = let c = step_clock t z clock p.0 p.1 s in clock_on-kept t z c.0 ps c.1 ∙ step-kept t z clock p.0 p.1 s

clock_by-kept : (t : Told) (z : Scope) (ds : List Decl) (told : Telling) (s : Sketch) → kept_at (clock_by t z ds told s).1 ≡ kept_at s
clock_by-kept t z ds untold s = refl
clock_by-kept t z ds at_base s = refl
clock_by-kept t z ds (of_name x) s = clock_on-kept t z 0 (path_of z ds x) s
clock_by-kept t z ds (on_value c x) s =
    let outer = clock_on t z 0 (path_of z ds x) s in
    step-kept t z outer.0 c x outer.1 ∙ clock_on-kept t z 0 (path_of z ds x) s

clock-kept : (t : Told) (z : Scope) (ds : List Decl) (xs : List (List ℕ × Span)) (e : Expr) (s : Sketch) → kept_at (clock_of t z ds xs e s).1 ≡ kept_at s
unfolding clock_of
clock-kept t z ds xs e s = clock_by-kept t z ds (told_by xs e) s

each-kept : (z : Scope) (c : code_callee.Callee) (k : ℕ) (xs : List (List ℕ × Span)) (s : Sketch) → kept_at (define_each z c k xs s) ≡ kept_at s
each-kept z c k [] s = refl
each-kept z c k (p ∷ ps) s = each-kept z c (k + 1) ps (define_name z p.0 (output c k s) s) ∙ define-kept (value_in z p.0).wire (output c k s) s

all-kept : (z : Scope) (xs : List (List ℕ × Span)) (v : Value) (s : Sketch) → kept_at (define_all z xs v s) ≡ kept_at s
all-kept z [] v s = refl
all-kept z (p ∷ ps) v s = all-kept z ps v (define_name z p.0 v s) ∙ define-kept (value_in z p.0).wire v s

-- ---- states

enter_state-kept : (lines : Lines) (place : Place) (k : ℕ) (s : Sketch) → kept_at (enter_state lines place k s).1 ≡ kept_at s
unfolding enter_state
enter_state-kept lines place k s = simp (is-kept, within-kept, reset-kept) refl

leave_state-kept : (lines : Lines) (k taken : ℕ) (strong weak : Jump) (rests : Rests) (s : Sketch) → kept_at (leave_state lines k taken strong weak rests s).1 ≡ kept_at s
unfolding leave_state
leave_state-kept lines k taken strong weak rests s = simp (is-kept, jump_add-kept) refl

enter_arm-kept : (t : Told) (place : Place) (w : ℕ) (c : tree_cons.Cons) (s : Sketch) → kept_at (enter_arm t place w c s).2 ≡ kept_at s
unfolding enter_arm
enter_arm-kept t place w c s = simp (within-kept, cons-kept) refl

reset_begin-kept : (z : Scope) (place : Place) (s : Sketch) → kept_at (reset_begin z place s).2 ≡ kept_at s
unfolding reset_begin
reset_begin-kept z place s = simp (reset-kept, read_hidden-kept, hole-kept) refl

module _ (t : Told) (brings : Brings) (callee : Callee) (agrees : (place : Place) (n : Node) (c : code_callee.Callee) (s : Sketch) → kept_at (brings t place n c s) ≡ callee t n (kept_at s)) where
  begin_with-kept : (place : Place) (o : Option Node) (s : Sketch) → kept_at (begin_with t brings place o s).1 ≡ with_call t callee o (kept_at s)
  begin_with-kept place None s = refl
  begin_with-kept place (Some n) s =
      let reads = mark s in
      let given = add_outputs t (may_be_early place) n.outputs reads.0 reads.1 in
      agrees place n (callee_of (sketch.next_wire reads.1) (sketch.next_wire given) reads.0) (add_holes t n.inputs given)
      ∙ ap (λ k. callee t n k) (holes-kept t n.inputs given ∙ outputs-kept t (may_be_early place) n.outputs reads.0 reads.1 ∙ ap (λ k. with_row free t n.outputs k) (mark-kept s))

  begin-kept : (place : Place) (f : List ℕ) (s : Sketch) → kept_at (begin_call t brings place f s).1 ≡ with_call t callee (t.nodes f) (kept_at s)
  unfolding begin_call
  begin-kept place f s = begin_with-kept place (t.nodes f) s

  mutual
    pub drawn-planned : (z : Scope) (place : Place) (e : Expr) (s : Sketch) → kept_at (drawn t brings z place e s).1 ≡ planned t callee e (shapes_in z) (kept_at s)
    drawn-planned z place (constant q c) s = constant-kept t c s
    drawn-planned z place (variable q x) s = refl
    drawn-planned z place (last_of q x) s = refl
    drawn-planned z place (one q o a) s =
        let v = drawn t brings z place a s in
        one-kept o v.0 v.1 ∙ drawn-planned z place a s
    drawn-planned z place (two q o a b) s =
        let names = shapes_in z in
        let w = two_begin (compares t z o a) place s in
        let first = drawn t brings z place a w.1 in
        let second = drawn t brings z place b first.1 in
        two_end-kept (compares t z o a) w.0 o first.0 second.0 second.1 ∙ drawn-planned z place b first.1
        ∙ ap (λ k. planned t callee b names k) (drawn-planned z place a w.1 ∙ ap (λ k. planned t callee a names k) (two_begin-kept (compares t z o a) place s))
    drawn-planned z place (choose q a b c) s =
        let names = shapes_in z in
        let condition = drawn t brings z place a s in
        let first = drawn t brings z place b condition.1 in
        let second = drawn t brings z place c first.1 in
        choice-kept condition.0.wire first.0 second.0 second.1 ∙ drawn-planned z place c first.1
        ∙ ap (λ k. planned t callee c names k) (drawn-planned z place b condition.1 ∙ ap (λ k. planned t callee b names k) (drawn-planned z place a s))
    drawn-planned z place (pre q a) s =
        let names = shapes_in z in
        let p = shape_in t a names in
        let r = delay_begin p place s in
        pre_end-kept p r.0 place (drawn t brings z place a r.1) ∙ drawn-planned z place a r.1 ∙ ap (λ k. planned t callee a names k) (delay-kept p place s)
    drawn-planned z place (fby q a b) s =
        let names = shapes_in z in
        let p = shape_in t a names in
        let r = delay_begin p place s in
        let past = new_register place 0 Truth r.1 in
        let first = drawn t brings z place a past.1 in
        let second = drawn t brings z place b first.1 in
        let taken = delay_take p r.0 place second.0.wire second.1 in
        fby_end-kept p r.0 past.0 first.0 (takes past.0 place high taken) ∙ takes-kept past.0 place high taken ∙ delay_take-kept p r.0 place second.0.wire second.1 ∙ drawn-planned z place b first.1
        ∙ ap (λ k. planned t callee b names k) (drawn-planned z place a past.1 ∙ ap (λ k. planned t callee a names k) (register-kept place 0 Truth r.1 ∙ ap (λ k. with_kept k (register 0 Truth)) (delay-kept p place s)))
    drawn-planned z place (arrow q a b) s =
        let names = shapes_in z in
        let past = new_register place 0 Truth s in
        let first = drawn t brings z place a past.1 in
        let second = drawn t brings z place b first.1 in
        choice-kept past.0.read second.0 first.0 (takes past.0 place high second.1) ∙ takes-kept past.0 place high second.1 ∙ drawn-planned z place b first.1
        ∙ ap (λ k. planned t callee b names k) (drawn-planned z place a past.1 ∙ ap (λ k. planned t callee a names k) (register-kept place 0 Truth s))
    drawn-planned z place (when_is q a c x) s = sampled-kept (value_in z x).wire (drawn t brings z (outside_of place s) a s) ∙ drawn-planned z (outside_of place s) a s
    drawn-planned z place (merge q x ps) s =
        let names = shapes_in z in
        let p = shape_in_parts t ps names in
        let w = merge_begin p (value_in z x).wire s in
        merge_end-kept p w.0 (drawn_parts t brings z place x ps w.0 w.1) ∙ parts-planned z place x ps w.0 w.1 ∙ ap (λ k. planned_parts t callee ps names k) (merge-kept p (value_in z x).wire s)
    drawn-planned z place (call q f inlined es) s =
        let c = begin_call t brings place f s in
        args-planned z place c.0 0 es c.1 ∙ ap (λ k. planned_all t callee es (shapes_in z) k) (begin-kept place f s)

    pub parts-planned : (z : Scope) (place : Place) (x : List ℕ) (ps : Parts) (h : ℕ) (s : Sketch) → kept_at (drawn_parts t brings z place x ps h s).1 ≡ planned_parts t callee ps (shapes_in z) (kept_at s)
    parts-planned z place x no_part h s = refl
    parts-planned z place x (more_parts c e ps) h s =
        let names = shapes_in z in
        let is = has_cons t (value_in z x).wire c s in
        let inner = step_clock t z place.clock c x is.1 in
        let v = drawn t brings z (on_clock place inner.0) e inner.1 in
        let rest = chain_add h is.0 v.0 v.1 in
        parts-planned z place x ps rest.0 rest.1
        ∙ ap (λ k. planned_parts t callee ps names k) (chain-kept h is.0 v.0 v.1 ∙ drawn-planned z (on_clock place inner.0) e inner.1 ∙ ap (λ k. planned t callee e names k) (step-kept t z place.clock c x is.1 ∙ cons-kept t (value_in z x).wire c s))

    pub args-planned : (z : Scope) (place : Place) (c : code_callee.Callee) (k : ℕ) (es : Exprs) (s : Sketch) → kept_at (drawn_args t brings z place c k es s) ≡ planned_all t callee es (shapes_in z) (kept_at s)
    args-planned z place c k no_expr s = refl
    args-planned z place c k (more_exprs e es) s =
        let v = drawn t brings z place e s in
        args-planned z place c (k + 1) es (takes_input c k v.0 v.1) ∙ ap (λ m. planned_all t callee es (shapes_in z) m) (input-kept c k v.0 v.1 ∙ drawn-planned z place e s)

  right-planned : (z : Scope) (place : Place) (xs : List (List ℕ × Span)) (e : Expr) (s : Sketch) → kept_at (drawn_right t brings z place xs e s) ≡ planned t callee e (shapes_in z) (kept_at s)
  right-planned z place xs (call q f inlined es) s =
      let c = drawn_call t brings z place f es s in
      each-kept z c.0 0 xs c.1 ∙ drawn-planned z place (call q f inlined es) s
  right-planned z place xs e s =
      let d = drawn t brings z place e s in
      all-kept z xs d.0 d.1 ∙ drawn-planned z place e s

  definition-planned : (z : Scope) (place : Place) (ds : List Decl) (xs : List (List ℕ × Span)) (e : Expr) (s : Sketch) → kept_at (drawn_definition t brings z place ds xs e s) ≡ planned t callee e (shapes_in z) (kept_at s)
  definition-planned z place ds xs e s =
      let clock = clock_of t z ds xs e s in
      right-planned z (on_clock place clock.0) xs e clock.1 ∙ ap (λ k. planned t callee e (shapes_in z) k) (clock-kept t z ds xs e s)

  transitions-planned : (z : Scope) (place : Place) (words : Words) (qs : List Trans) (rest : Jump) (s : Sketch) → kept_at (drawn_transitions t brings z place words qs rest s).1 ≡ planned_conditions t callee qs (shapes_in z) (kept_at s)
  transitions-planned z place words [] rest s = refl
  transitions-planned z place words (q ∷ qs) rest s =
      let c = drawn t brings z place q.cond s in
      let more = transition words.numbers words.lines.shape rest c.0.wire q c.1 in
      transitions-planned z place words qs more.0 more.1
      ∙ ap (λ k. planned_conditions t callee qs (shapes_in z) k) (transition-kept words.numbers words.lines.shape rest c.0.wire q c.1 ∙ drawn-planned z place q.cond s)

  jump-planned : (z : Scope) (place : Place) (words : Words) (qs : List Trans) (none : Jump) (s : Sketch) → kept_at (drawn_jump t brings z place words qs none s).1 ≡ planned_conditions t callee qs (shapes_in z) (kept_at s)
  jump-planned z place words qs none s =
      let j = jump_hole words.lines.shape s in
      let rest = drawn_transitions t brings z place words qs j.0 j.1 in
      jump_end-kept rest.0 none rest.1 ∙ transitions-planned z place words qs j.0 j.1 ∙ ap (λ k. planned_conditions t callee qs (shapes_in z) k) (jump_hole-kept words.lines.shape s)

  -- what a block leaves: its names are seen, and what was around it is there
  pub block-shapes : (z : Scope) (place : Place) (b : Block) (s : Sketch) → shapes_in (drawn_block t brings z place b s).0 ≡ in_block t b (shapes_in z)
  block-shapes z place (block ds es) s = entered-shapes t z place ds es s

  pub block-left : (z : Scope) (place : Place) (b : Block) (s : Sketch) → leave (drawn_block t brings z place b s).0 ≡ z
  block-left z place (block ds es) s = entered-left t z place ds es s

  -- behind the body of a state
  state-planned : (z : Scope) (place : Place) (words : Words) (k : ℕ) (until unless : List Trans) (e : Entered) (rests : Rests) (b : Scope × Sketch) (names : Names)
      → shapes_in b.0 ≡ names → leave b.0 ≡ z
      → kept_at (state_end t brings place words k until unless e rests b).2 ≡ planned_conditions t callee unless (shapes_in (pop_values z)) (planned_conditions t callee until names (kept_at b.1))
  state-planned z place words k until unless e rests b names seen left =
      let weak = drawn_weak t brings b.0 e.place words until b.1 in
      let joined = join e.taken b.0 weak.1 in
      let strong = drawn_strong t brings joined.0 place words unless joined.1 in
      leave_state-kept words.lines k e.taken strong.0 weak.0 rests strong.1
      ∙ jump-planned (pop_values joined.0) place words unless words.lines.selected joined.1
      ∙ (λ j. planned_conditions t callee unless (shapes_in (joined-left e.taken b.0 weak.1 j)) (join-kept e.taken b.0 weak.1 j))
      ∙ (λ j. planned_conditions t callee unless (shapes_in (pop_values (left j))) (jump-planned b.0 e.place words until (stays words.lines) b.1 j))
      ∙ (λ j. planned_conditions t callee unless (shapes_in (pop_values z)) (planned_conditions t callee until (seen j) (kept_at b.1)))

  state-shapes : (place : Place) (words : Words) (k : ℕ) (until unless : List Trans) (e : Entered) (rests : Rests) (b : Scope × Sketch) (z : Scope) → leave b.0 ≡ z
      → shapes_in (state_end t brings place words k until unless e rests b).1 ≡ shapes_in z
  state-shapes place words k until unless e rests b z left =
      let weak = drawn_weak t brings b.0 e.place words until b.1 in
      joined-shapes e.taken b.0 weak.1 ∙ ap shapes_in left

  state-left : (place : Place) (words : Words) (k : ℕ) (until unless : List Trans) (e : Entered) (rests : Rests) (b : Scope × Sketch) (z : Scope) → leave b.0 ≡ z
      → pop_values (state_end t brings place words k until unless e rests b).1 ≡ pop_values z
  state-left place words k until unless e rests b z left =
      let weak = drawn_weak t brings b.0 e.place words until b.1 in
      joined-left e.taken b.0 weak.1 ∙ ap pop_values left

  mutual
    pub block-planned : (z : Scope) (place : Place) (b : Block) (s : Sketch) → kept_at (drawn_block t brings z place b s).1 ≡ planned_block t callee b (shapes_in z) (kept_at s)
    block-planned z place (block ds es) s =
        let inside = enter t z place ds es s in
        eqns-planned inside.0 place ds es inside.1 ∙ (λ j. planned_eqns t callee es (entered-shapes t z place ds es s j) (entered-kept t z place ds es s j))

    pub eqns-planned : (z : Scope) (place : Place) (ds : List Decl) (es : Eqns) (s : Sketch) → kept_at (drawn_eqns t brings z place ds es s) ≡ planned_eqns t callee es (shapes_in z) (kept_at s)
    eqns-planned z place ds no_eqn s = refl
    eqns-planned z place ds (more_eqns e es) s =
        eqns-planned z place ds es (drawn_eqn t brings z place ds e s) ∙ ap (λ k. planned_eqns t callee es (shapes_in z) k) (eqn-planned z place ds e s)

    pub eqn-planned : (z : Scope) (place : Place) (ds : List Decl) (e : Eqn) (s : Sketch) → kept_at (drawn_eqn t brings z place ds e s) ≡ planned_eqn t callee e (shapes_in z) (kept_at s)
    eqn-planned z place ds (define q xs e) s = definition-planned z place ds xs e s
    eqn-planned z place ds (switch q e arms) s =
        let eqn = switch q e arms in
        let c = drawn t brings z place e s in
        let all = drawn_arms t brings (hide z eqn) place c.0.wire arms c.1 in
        end_hidden-kept all.0 all.1 ∙ arms-planned (hide z eqn) place c.0.wire arms c.1 ∙ (λ j. planned_arms t callee arms (hidden-shapes z eqn j) (drawn-planned z place e s j))
    eqn-planned z place ds (reset q b e) s =
        let eqn = reset q b e in
        let c = reset_begin (hide z eqn) place s in
        let body = drawn_block t brings (hide z eqn) c.1 b c.2 in
        let joined = join_drawn high body in
        let d = drawn t brings z place e (leave_hidden joined) in
        define-kept c.0 d.0 d.1 ∙ drawn-planned z place e (leave_hidden joined)
        ∙ ap (λ k. planned t callee e (shapes_in z) k) (end_hidden-kept joined.0 joined.1 ∙ join-kept high body.0 body.1 ∙ block-planned (hide z eqn) c.1 b c.2 ∙ (λ j. planned_block t callee b (hidden-shapes z eqn j) (reset_begin-kept (hide z eqn) place s j)))
    eqn-planned z place ds (automaton q ss) s =
        let eqn = automaton q ss in
        let lines = new_lines (count_states ss) place s in
        let next = states_begin lines.0 lines.1 in
        let words = words_of (numbers_of ss) lines.0 in
        let all = drawn_states t brings (hide z eqn) place words 0 ss (rests_of lines.0.active next.0) next.1 in
        let ended = lines_end lines.0 all.0 all.2 in
        end_hidden-kept all.1 _ ∙ take-kept lines.0 place next.0 ended ∙ end-kept lines.0 all.0 all.2 ∙ states-planned (hide z eqn) place words 0 ss (rests_of lines.0.active next.0) next.1
        ∙ (λ j. planned_states t callee ss (hidden-shapes z eqn j) (shapes_in (hidden-left z eqn j)) (jump_hole-kept lines.0.shape lines.1 j))
        ∙ ap (λ k. planned_states t callee ss (shapes_in z) (shapes_in z) k) (lines-kept (count_states ss) place s)

    pub arms-planned : (z : Scope) (place : Place) (w : ℕ) (arms : Arms) (s : Sketch) → kept_at (drawn_arms t brings z place w arms s).1 ≡ planned_arms t callee arms (shapes_in z) (kept_at s)
    arms-planned z place w no_arm s = refl
    arms-planned z place w (more_arms c b q arms) s =
        let arm = enter_arm t place w c s in
        let body = drawn_block t brings z arm.1 b arm.2 in
        let joined = join_drawn arm.0 body in
        arms-planned joined.0 place w arms joined.1
        ∙ (λ j. planned_arms t callee arms (joined-shapes arm.0 body.0 body.1 j) (join-kept arm.0 body.0 body.1 j))
        ∙ (λ j. planned_arms t callee arms (shapes_in (block-left z arm.1 b arm.2 j)) (block-planned z arm.1 b arm.2 j))
        ∙ ap (λ k. planned_arms t callee arms (shapes_in z) (planned_block t callee b (shapes_in z) k)) (enter_arm-kept t place w c s)

    pub states-planned : (z : Scope) (place : Place) (words : Words) (k : ℕ) (ss : States) (rests : Rests) (s : Sketch)
        → kept_at (drawn_states t brings z place words k ss rests s).2 ≡ planned_states t callee ss (shapes_in z) (shapes_in (pop_values z)) (kept_at s)
    states-planned z place words k no_state rests s = refl
    states-planned z place words k (more_states f b until unless q ss) rests s =
        let e = enter_state words.lines place k s in
        let body = drawn_block t brings z e.0.body b e.1 in
        let gone = block-left z e.0.body b e.1 in
        let left = state_end t brings place words k until unless e.0 rests body in
        states-planned left.1 place words (k + 1) ss left.0 left.2
        ∙ (λ j. planned_states t callee ss (state-shapes place words k until unless e.0 rests body z gone j) (shapes_in (state-left place words k until unless e.0 rests body z gone j)) (state-planned z place words k until unless e.0 rests body (in_block t b (shapes_in z)) (block-shapes z e.0.body b e.1) gone j))
        ∙ (λ j. planned_states t callee ss (shapes_in z) (shapes_in (pop_values z)) (planned_conditions t callee unless (shapes_in (pop_values z)) (planned_conditions t callee until (in_block t b (shapes_in z)) (block-planned z e.0.body b e.1 j))))
        ∙ (λ j. planned_states t callee ss (shapes_in z) (shapes_in (pop_values z)) (planned_conditions t callee unless (shapes_in (pop_values z)) (planned_conditions t callee until (in_block t b (shapes_in z)) (planned_block t callee b (shapes_in z) (enter_state-kept words.lines place k s j)))))
