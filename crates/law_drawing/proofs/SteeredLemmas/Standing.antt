-- Slots that stand for places by their plan are placed so along what is drawn.
use Rattle.std.proofs.Common.{◌≡◌, ℕ, suc, ◌+◌, Bool, true, false, ◌&&◌, List, [], ◌∷◌, length, Option, None, Some, refl, sym, ap, subst, ◌∙◌}
use Rattle.hp_base.specs.declared.span.Span.{Span}
use Rattle.hp_tree.specs.declared.block.Trans.{Trans}
use Rattle.hp_tree.specs.declared.decl.Cons as tree_cons
use Rattle.hp_tree.specs.Blocks.{Decl, Block, block, Eqns, no_eqn, more_eqns, Eqn, define, switch, reset, automaton, Arms, no_arm, more_arms, States, no_state, more_states}
use Rattle.hp_tree.specs.Expressions.{Expr, constant, variable, last_of, one, two, choose, pre, fby, arrow, when_is, merge, call, Exprs, no_expr, more_exprs, Parts, no_part, more_parts}
use Rattle.hp_tree.specs.Instant.{Body, Named, Equations, Head, Tail, Right, Test, Arms as ArmsOf, States as StatesOf, Until, Unless, First, Second, Third, Args, Instance}
use Rattle.hp_tree.specs.Operators.{is_comparison}
use Rattle.hp_tree.specs.Programs.{Node}
use Rattle.hp_meaning.specs.Causal.Sources.{Sources, PlaceSources, below}
use Rattle.hp_circuit.specs.declared.circuit.Shape.TheVariants.{Truth}
use Rattle.hp_circuit.specs.declared.circuit.Slot.{Slot}
use Rattle.hp_drawing.specs.declared.parts.Callee as code_callee
use Rattle.hp_drawing.specs.declared.parts.Jump.{Jump}
use Rattle.hp_drawing.specs.declared.parts.Lines.{Lines}
use Rattle.hp_drawing.specs.declared.parts.Place.{Place}
use Rattle.hp_drawing.specs.declared.parts.Rests.{Rests}
use Rattle.hp_drawing.specs.Kept.{Kept, register, free, is_mark, with_kept, with_shaped, kept_slots}
use Rattle.hp_drawing.specs.Told.{Told, type_shape}
use Rattle.hp_drawing.specs.Planned.{Names, Callee, shape_in, shape_in_parts, with_register, with_comparison, with_row, with_lasts, with_call, with_words, declaring, count_states, in_block, planned, planned_conditions, planned_block, planned_eqn}
use Rattle.hp_drawing.specs.Sketch as sketch
use Rattle.hp_drawing.specs.Sketch.{Sketch, high, next_slot, mark}
use Rattle.hp_drawing.specs.Places.{on_clock, may_be_early, new_register, stays, chain_add, jump_hole, new_lines, numbers_of, transition}
use Rattle.hp_drawing.specs.Scopes.{Scope, value_in, shapes_in, pop_values, hide, enter}
use Rattle.hp_drawing.specs.DrawnExpressions.{Brings, drawn, compares, two_begin, delay_begin, outside_of, merge_begin, has_cons, step_clock, begin_with, begin_call, callee_of, add_output, add_outputs, add_holes, takes_input}
use Rattle.hp_drawing.specs.DrawnBlocks.{Telling, untold, at_base, of_name, on_value, Path, path_of, clock_on, told_by, clock_by, clock_of, Words, words_of, rests_of, drawn_transitions, drawn_jump, drawn_strong, drawn_weak, drawn_block, drawn_eqn, enter_arm, reset_begin, enter_state, leave_state, state_end, states_begin, join_drawn, leave_hidden}
use Rattle.hp_drawing.proofs.KeptLaws.{kept_at, register-kept, chain-kept, is-kept, transition-kept, jump_hole-kept, jump_end-kept, jump_add-kept, within-kept, reset-kept, lines-kept, mark-kept, hole-kept, read-kept, given-kept}
use Rattle.hp_drawing.proofs.NamesLaws.{entered-shapes, hidden-shapes, hidden-left, joined-shapes, joined-left}
use Rattle.hp_drawing.proofs.PlanLaws.{entered-kept, join-kept, read_hidden-kept, end_hidden-kept, cons-kept, step-kept, input-kept, outputs-kept, holes-kept, two_begin-kept, delay-kept, merge-kept}
use Rattle.hp_drawing.proofs.PlanDrawn.{drawn-planned, block-shapes, block-left, block-planned, eqn-planned}
use Rattle.law_drawing.specs.Steered.Marks.{Steering, Leads}
use Rattle.law_drawing.specs.Steered.Placed.{Held, IsNext, IsCompared, IsGiven, OutputsPlaced, CallPlaced, Placed, PartsPlaced, ArgsPlaced, ConditionsPlaced, JumpPlaced, BlockPlaced, EqnsPlaced, EqnPlaced, ArmsPlaced, StatesPlaced}
use Rattle.law_drawing.specs.Steered.Stands.{Asked, IsBehind, ComparedBehind, GivenBehind, RowStands, CallStands, Stands, AllStand, PartsStand, ConditionsStand, BlockStands, EqnsStand, EqnStands, ArmsStand, StatesStand}

-- ---- the number of the next slot

count-kept : (cs : List Slot) → length cs ≡ length (kept_slots cs)
count-kept [] = refl
count-kept (c ∷ cs) = ap suc (count-kept cs)

next-behind : (s : Sketch) → next_slot s ≡ length (kept_at s)
unfolding next_slot kept_at
next-behind s = count-kept s.slots

-- ---- steps that lay down no slot

clock_on-kept : (t : Told) (z : Scope) (clock : ℕ) (path : Path) (s : Sketch) → kept_at (clock_on t z clock path s).1 ≡ kept_at s
clock_on-kept t z clock [] s = refl
clock_on-kept t z clock (p ∷ ps) s = let c = step_clock t z clock p.0 p.1 s in clock_on-kept t z c.0 ps c.1 ∙ step-kept t z clock p.0 p.1 s

clock_by-kept : (t : Told) (z : Scope) (ds : List Decl) (told : Telling) (s : Sketch) → kept_at (clock_by t z ds told s).1 ≡ kept_at s
clock_by-kept t z ds untold s = refl
clock_by-kept t z ds at_base s = refl
clock_by-kept t z ds (of_name x) s = clock_on-kept t z 0 (path_of z ds x) s
clock_by-kept t z ds (on_value c x) s =
    let outer = clock_on t z 0 (path_of z ds x) s in
    step-kept t z outer.0 c x outer.1 ∙ clock_on-kept t z 0 (path_of z ds x) s

clock-kept : (t : Told) (z : Scope) (ds : List Decl) (xs : List (List ℕ × Span)) (e : Expr) (s : Sketch) → kept_at (clock_of t z ds xs e s).1 ≡ kept_at s
unfolding clock_of
clock-kept t z ds xs e s = clock_by-kept t z ds (told_by xs e) s

enter_state-kept : (lines : Lines) (spot : Place) (n : ℕ) (s : Sketch) → kept_at (enter_state lines spot n s).1 ≡ kept_at s
unfolding enter_state
enter_state-kept lines spot n s = simp (is-kept, within-kept, reset-kept) refl

leave_state-kept : (lines : Lines) (n taken : ℕ) (strong weak : Jump) (rests : Rests) (s : Sketch) → kept_at (leave_state lines n taken strong weak rests s).1 ≡ kept_at s
unfolding leave_state
leave_state-kept lines n taken strong weak rests s = simp (is-kept, jump_add-kept) refl

enter_arm-kept : (t : Told) (spot : Place) (w : ℕ) (c : tree_cons.Cons) (s : Sketch) → kept_at (enter_arm t spot w c s).2 ≡ kept_at s
unfolding enter_arm
enter_arm-kept t spot w c s = simp (within-kept, cons-kept) refl

reset_begin-kept : (z : Scope) (spot : Place) (s : Sketch) → kept_at (reset_begin z spot s).2 ≡ kept_at s
unfolding reset_begin
reset_begin-kept z spot s = simp (reset-kept, read_hidden-kept, hole-kept) refl

output-kept : (early : Bool) (t : Told) (d : Decl) (reads : ℕ) (s : Sketch) → kept_at (add_output early (type_shape t d.ty) reads s) ≡ with_shaped free (type_shape t d.ty) (kept_at s)
output-kept early t d reads s = simp (read-kept, given-kept) refl

module _ (steers : Steering) where
  is-next : (own : Sources) (s : Sketch) (before : List Kept) → kept_at s ≡ before → IsBehind steers own before → IsNext steers own s
  is-next own s before e h = λ l. subst (λ n. Leads steers (steers.slots n)) (sym (next-behind s ∙ ap length e)) (h l)

  is-compared : (b c : Bool) (own : Sources) (s : Sketch) (before : List Kept) → b ≡ c → kept_at s ≡ before → ComparedBehind steers c own before → IsCompared steers b own s
  is-compared b c own s before q e h = subst (λ i. IsCompared steers i own s) (sym q) (by c h)
    where
      by : (c : Bool) → ComparedBehind steers c own before → IsCompared steers c own s
      by true h = is-next own s before e h
      by false h = tt

  is-given : (b : Bool) (own : Sources) (s : Sketch) (before : List Kept) → kept_at s ≡ before → GivenBehind steers b own before → IsGiven steers b own s
  is-given true own s before e h = tt
  is-given false own s before e h = is-next own s before e h

  outputs-placed : (t : Told) (early : Bool) (ds : List Decl) (reads : ℕ) (k : PlaceSources) (s : Sketch) (before : List Kept) → kept_at s ≡ before → RowStands steers t ds k before → OutputsPlaced steers t early ds reads k s
  outputs-placed t early [] reads k s before e h = tt
  outputs-placed t early (d ∷ ds) reads k s before e h =
      let p = type_shape t d.ty in
      (is-given (is_mark p) (k (Named d.name ∷ [])) s before e h.0, outputs-placed t early ds reads k (add_output early p reads s) (with_shaped free p before) (output-kept early t d reads s ∙ ap (λ b. with_shaped free p b) e) h.1)

  module _ (t : Told) (brings : Brings) (callee : Callee) (agrees : (place : Place) (n : Node) (c : code_callee.Callee) (s : Sketch) → kept_at (brings t place n c s) ≡ callee t n (kept_at s)) (held : Held) (asked : Asked)
      (into : (spot : Place) (n : Node) (c : code_callee.Callee) (s : Sketch) (k : PlaceSources) (before : List Kept) → kept_at s ≡ before → asked n k before → held spot n c s k) where
    behind : (z : Scope) (spot : Place) (e : Expr) (s : Sketch) (names : Names) (before : List Kept) → shapes_in z ≡ names → kept_at s ≡ before → kept_at (drawn t brings z spot e s).1 ≡ planned t callee e names before
    behind z spot e s names before n k = drawn-planned t brings callee agrees z spot e s ∙ (λ j. planned t callee e (n j) (k j))

    block-behind : (z : Scope) (spot : Place) (b : Block) (s : Sketch) (names : Names) (before : List Kept) → shapes_in z ≡ names → kept_at s ≡ before → kept_at (drawn_block t brings z spot b s).1 ≡ planned_block t callee b names before
    block-behind z spot b s names before n k = block-planned t brings callee agrees z spot b s ∙ (λ j. planned_block t callee b (n j) (k j))

    -- ---- calls

    with-behind : (spot : Place) (o : Option Node) (s : Sketch) (before : List Kept) → kept_at s ≡ before → kept_at (begin_with t brings spot o s).1 ≡ with_call t callee o before
    with-behind spot None s before e = e
    with-behind spot (Some n) s before e =
        let reads = mark s in
        let given = add_outputs t (may_be_early spot) n.outputs reads.0 reads.1 in
        agrees spot n (callee_of (sketch.next_wire reads.1) (sketch.next_wire given) reads.0) (add_holes t n.inputs given)
        ∙ ap (λ k. callee t n k) (holes-kept t n.inputs given ∙ outputs-kept t (may_be_early spot) n.outputs reads.0 reads.1 ∙ ap (λ k. with_row free t n.outputs k) (mark-kept s ∙ e))

    begin-behind : (spot : Place) (f : List ℕ) (s : Sketch) (before : List Kept) → kept_at s ≡ before → kept_at (begin_call t brings spot f s).1 ≡ with_call t callee (t.nodes f) before
    unfolding begin_call
    begin-behind spot f s before e = with-behind spot (t.nodes f) s before e

    call-placed : (spot : Place) (o : Option Node) (k : PlaceSources) (s : Sketch) (before : List Kept) → kept_at s ≡ before → CallStands steers t callee asked o k before → CallPlaced steers t brings held spot o k s
    call-placed spot None k s before e h = tt
    call-placed spot (Some n) k s before e h =
        let reads = mark s in
        let given = add_outputs t (may_be_early spot) n.outputs reads.0 reads.1 in
        let first = mark-kept s ∙ e in (
          outputs-placed t (may_be_early spot) n.outputs reads.0 (below Instance k) reads.1 before first h.0,
          into spot n (callee_of (sketch.next_wire reads.1) (sketch.next_wire given) reads.0) (add_holes t n.inputs given) (below Instance k) (with_row free t n.outputs before)
              (holes-kept t n.inputs given ∙ outputs-kept t (may_be_early spot) n.outputs reads.0 reads.1 ∙ ap (λ k. with_row free t n.outputs k) first) h.1,
        )

    -- ---- expressions

    mutual
      pub expr-placed : (e : Expr) (z : Scope) (spot : Place) (k : PlaceSources) (s : Sketch) (names : Names) (before : List Kept) → shapes_in z ≡ names → kept_at s ≡ before → Stands steers t callee asked e names k before → Placed steers t brings held z spot e k s
      expr-placed (constant q c) z spot k s names before n b h = tt
      expr-placed (variable q x) z spot k s names before n b h = tt
      expr-placed (last_of q x) z spot k s names before n b h = tt
      expr-placed (one q o a) z spot k s names before n b h = expr-placed a z spot (below First k) s names before n b h
      expr-placed (two q o a c) z spot k s names before n b h =
          let compared = compares t z o a in
          let w = two_begin compared spot s in
          let first = drawn t brings z spot a w.1 in
          let start = with_comparison o (shape_in t a names) before in
          let at_first : kept_at w.1 ≡ start = two_begin-kept compared spot s ∙ (λ j. with_comparison o (shape_in t a (n j)) (b j)) in (
            is-compared compared (is_comparison o && is_mark (shape_in t a names)) (k []) s before (ap (λ m. is_comparison o && is_mark (shape_in t a m)) n) b h.0,
            expr-placed a z spot (below First k) w.1 names start n at_first h.1,
            expr-placed c z spot (below Second k) first.1 names (planned t callee a names start) n (behind z spot a w.1 names start n at_first) h.2,
          )
      expr-placed (choose q a c d) z spot k s names before n b h =
          let condition = drawn t brings z spot a s in
          let first = drawn t brings z spot c condition.1 in
          let one = planned t callee a names before in
          let at_one = behind z spot a s names before n b in (
            expr-placed a z spot (below First k) s names before n b h.0,
            expr-placed c z spot (below Second k) condition.1 names one n at_one h.1,
            expr-placed d z spot (below Third k) first.1 names (planned t callee c names one) n (behind z spot c condition.1 names one n at_one) h.2,
          )
      expr-placed (pre q a) z spot k s names before n b h =
          let p = shape_in t a (shapes_in z) in
          let r = delay_begin p spot s in
          expr-placed a z spot (below First k) r.1 names (with_register 0 (shape_in t a names) before) n (delay-kept p spot s ∙ (λ j. with_register 0 (shape_in t a (n j)) (b j))) h
      expr-placed (fby q a c) z spot k s names before n b h =
          let p = shape_in t a (shapes_in z) in
          let r = delay_begin p spot s in
          let past = new_register spot 0 Truth r.1 in
          let first = drawn t brings z spot a past.1 in
          let start = with_kept (with_register 0 (shape_in t a names) before) (register 0 Truth) in
          let at_start : kept_at past.1 ≡ start = register-kept spot 0 Truth r.1 ∙ ap (λ m. with_kept m (register 0 Truth)) (delay-kept p spot s ∙ (λ j. with_register 0 (shape_in t a (n j)) (b j))) in (
            expr-placed a z spot (below First k) past.1 names start n at_start h.0,
            expr-placed c z spot (below Second k) first.1 names (planned t callee a names start) n (behind z spot a past.1 names start n at_start) h.1,
          )
      expr-placed (arrow q a c) z spot k s names before n b h =
          let past = new_register spot 0 Truth s in
          let first = drawn t brings z spot a past.1 in
          let start = with_kept before (register 0 Truth) in
          let at_start : kept_at past.1 ≡ start = register-kept spot 0 Truth s ∙ ap (λ m. with_kept m (register 0 Truth)) b in (
            expr-placed a z spot (below First k) past.1 names start n at_start h.0,
            expr-placed c z spot (below Second k) first.1 names (planned t callee a names start) n (behind z spot a past.1 names start n at_start) h.1,
          )
      expr-placed (when_is q a c x) z spot k s names before n b h = expr-placed a z (outside_of spot s) (below First k) s names before n b h
      expr-placed (merge q x ps) z spot k s names before n b h =
          let p = shape_in_parts t ps (shapes_in z) in
          let w = merge_begin p (value_in z x).wire s in
          parts-placed ps z spot x (below Args k) w.0 w.1 names before n (merge-kept p (value_in z x).wire s ∙ b) h
      expr-placed (call q f inlined es) z spot k s names before n b h =
          let c = begin_call t brings spot f s in
          (call-placed spot (t.nodes f) k s before b h.0, args-placed es z spot c.0 0 (below Args k) c.1 names (with_call t callee (t.nodes f) before) n (begin-behind spot f s before b) h.1)

      parts-placed : (ps : Parts) (z : Scope) (spot : Place) (x : List ℕ) (k : PlaceSources) (i : ℕ) (s : Sketch) (names : Names) (before : List Kept) → shapes_in z ≡ names → kept_at s ≡ before → PartsStand steers t callee asked ps names k before
          → PartsPlaced steers t brings held z spot x ps k i s
      parts-placed no_part z spot x k i s names before n b h = tt
      parts-placed (more_parts c e ps) z spot x k i s names before n b h =
          let is = has_cons t (value_in z x).wire c s in
          let inner = step_clock t z spot.clock c x is.1 in
          let v = drawn t brings z (on_clock spot inner.0) e inner.1 in
          let rest = chain_add i is.0 v.0 v.1 in
          let at_inner = step-kept t z spot.clock c x is.1 ∙ cons-kept t (value_in z x).wire c s ∙ b in (
            expr-placed e z (on_clock spot inner.0) (below Head k) inner.1 names before n at_inner h.0,
            parts-placed ps z spot x (below Tail k) rest.0 rest.1 names (planned t callee e names before) n (chain-kept i is.0 v.0 v.1 ∙ behind z (on_clock spot inner.0) e inner.1 names before n at_inner) h.1,
          )

      args-placed : (es : Exprs) (z : Scope) (spot : Place) (c : code_callee.Callee) (j : ℕ) (k : PlaceSources) (s : Sketch) (names : Names) (before : List Kept) → shapes_in z ≡ names → kept_at s ≡ before → AllStand steers t callee asked es names k before
          → ArgsPlaced steers t brings held z spot c j es k s
      args-placed no_expr z spot c j k s names before n b h = tt
      args-placed (more_exprs e es) z spot c j k s names before n b h =
          let v = drawn t brings z spot e s in
          (expr-placed e z spot (below Head k) s names before n b h.0, args-placed es z spot c (j + 1) (below Tail k) (takes_input c j v.0 v.1) names (planned t callee e names before) n (input-kept c j v.0 v.1 ∙ behind z spot e s names before n b) h.1)

    -- ---- transitions

    conditions-placed : (qs : List Trans) (z : Scope) (spot : Place) (words : Words) (k : PlaceSources) (rest : Jump) (s : Sketch) (names : Names) (before : List Kept) → shapes_in z ≡ names → kept_at s ≡ before → ConditionsStand steers t callee asked qs names k before
        → ConditionsPlaced steers t brings held z spot words qs k rest s
    conditions-placed [] z spot words k rest s names before n b h = tt
    conditions-placed (q ∷ qs) z spot words k rest s names before n b h =
        let c = drawn t brings z spot q.cond s in
        let more = transition words.numbers words.lines.shape rest c.0.wire q c.1 in (
          expr-placed q.cond z spot (below Head k) s names before n b h.0,
          conditions-placed qs z spot words (below Tail k) more.0 more.1 names (planned t callee q.cond names before) n (transition-kept words.numbers words.lines.shape rest c.0.wire q c.1 ∙ behind z spot q.cond s names before n b) h.1,
        )

    jump-placed : (qs : List Trans) (z : Scope) (spot : Place) (words : Words) (k : PlaceSources) (s : Sketch) (names : Names) (before : List Kept) → shapes_in z ≡ names → kept_at s ≡ before → ConditionsStand steers t callee asked qs names k before
        → JumpPlaced steers t brings held z spot words qs k s
    jump-placed qs z spot words k s names before n b h = let j = jump_hole words.lines.shape s in conditions-placed qs z spot words k j.0 j.1 names before n (jump_hole-kept words.lines.shape s ∙ b) h

    conditions-behind : (qs : List Trans) (z : Scope) (spot : Place) (words : Words) (rest : Jump) (s : Sketch) (names : Names) (before : List Kept) → shapes_in z ≡ names → kept_at s ≡ before → kept_at (drawn_transitions t brings z spot words qs rest s).1 ≡ planned_conditions t callee qs names before
    conditions-behind [] z spot words rest s names before n b = b
    conditions-behind (q ∷ qs) z spot words rest s names before n b =
        let c = drawn t brings z spot q.cond s in
        let more = transition words.numbers words.lines.shape rest c.0.wire q c.1 in
        conditions-behind qs z spot words more.0 more.1 names (planned t callee q.cond names before) n (transition-kept words.numbers words.lines.shape rest c.0.wire q c.1 ∙ behind z spot q.cond s names before n b)

    jump-behind : (qs : List Trans) (z : Scope) (spot : Place) (words : Words) (none : Jump) (s : Sketch) (names : Names) (before : List Kept) → shapes_in z ≡ names → kept_at s ≡ before → kept_at (drawn_jump t brings z spot words qs none s).1 ≡ planned_conditions t callee qs names before
    jump-behind qs z spot words none s names before n b =
        let j = jump_hole words.lines.shape s in
        let rest = drawn_transitions t brings z spot words qs j.0 j.1 in
        jump_end-kept rest.0 none rest.1 ∙ conditions-behind qs z spot words j.0 j.1 names before n (jump_hole-kept words.lines.shape s ∙ b)

    -- ---- blocks

    joined-behind : (w : ℕ) (d : Scope × Sketch) (before : List Kept) → kept_at d.1 ≡ before → kept_at (join_drawn w d).1 ≡ before
    joined-behind w d before e = join-kept w d.0 d.1 ∙ e

    mutual
      pub block-placed : (c : Block) (z : Scope) (spot : Place) (k : PlaceSources) (s : Sketch) (names : Names) (before : List Kept) → shapes_in z ≡ names → kept_at s ≡ before → BlockStands steers t callee asked c names k before → BlockPlaced steers t brings held z spot c k s
      block-placed (block ds es) z spot k s names before n b h =
          let inside = enter t z spot ds es s in
          eqns-placed es inside.0 spot ds (below Equations k) inside.1 (declaring t ds names) (with_lasts t ds before) (entered-shapes t z spot ds es s ∙ ap (λ m. declaring t ds m) n) (entered-kept t z spot ds es s ∙ ap (λ m. with_lasts t ds m) b) h

      eqns-placed : (es : Eqns) (z : Scope) (spot : Place) (ds : List Decl) (k : PlaceSources) (s : Sketch) (names : Names) (before : List Kept) → shapes_in z ≡ names → kept_at s ≡ before → EqnsStand steers t callee asked es names k before → EqnsPlaced steers t brings held z spot ds es k s
      eqns-placed no_eqn z spot ds k s names before n b h = tt
      eqns-placed (more_eqns e es) z spot ds k s names before n b h = (
        eqn-placed e z spot ds (below Head k) s names before n b h.0,
        eqns-placed es z spot ds (below Tail k) (drawn_eqn t brings z spot ds e s) names (planned_eqn t callee e names before) n (eqn-planned t brings callee agrees z spot ds e s ∙ (λ j. planned_eqn t callee e (n j) (b j))) h.1,
      )

      eqn-placed : (e : Eqn) (z : Scope) (spot : Place) (ds : List Decl) (k : PlaceSources) (s : Sketch) (names : Names) (before : List Kept) → shapes_in z ≡ names → kept_at s ≡ before → EqnStands steers t callee asked e names k before → EqnPlaced steers t brings held z spot ds e k s
      eqn-placed (define q xs e) z spot ds k s names before n b h =
          let clock = clock_of t z ds xs e s in
          expr-placed e z (on_clock spot clock.0) (below Right k) clock.1 names before n (clock-kept t z ds xs e s ∙ b) h
      eqn-placed (switch q e arms) z spot ds k s names before n b h =
          let eqn = switch q e arms in
          let c = drawn t brings z spot e s in
          (expr-placed e z spot (below Test k) s names before n b h.0, arms-placed arms (hide z eqn) spot c.0.wire (below ArmsOf k) c.1 names (planned t callee e names before) (hidden-shapes z eqn ∙ n) (behind z spot e s names before n b) h.1)
      eqn-placed (reset q c e) z spot ds k s names before n b h =
          let eqn = reset q c e in
          let y = hide z eqn in
          let begun = reset_begin y spot s in
          let body = drawn_block t brings y begun.1 c begun.2 in
          let joined = join_drawn high body in
          let at_body = reset_begin-kept y spot s ∙ b in
          let inner = hidden-shapes z eqn ∙ n in (
            block-placed c y begun.1 (below Body k) begun.2 names before inner at_body h.0,
            expr-placed e z spot (below Test k) (leave_hidden joined) names (planned_block t callee c names before) n (end_hidden-kept joined.0 joined.1 ∙ joined-behind high body (planned_block t callee c names before) (block-behind y begun.1 c begun.2 names before inner at_body)) h.1,
          )
      eqn-placed (automaton q ss) z spot ds k s names before n b h =
          let eqn = automaton q ss in
          let lines = new_lines (count_states ss) spot s in
          let next = states_begin lines.0 lines.1 in
          states-placed ss (hide z eqn) spot (words_of (numbers_of ss) lines.0) 0 (below StatesOf k) (rests_of lines.0.active next.0) next.1 names names (with_words (count_states ss) before) (hidden-shapes z eqn ∙ n) (ap shapes_in (hidden-left z eqn) ∙ n)
          (jump_hole-kept lines.0.shape lines.1 ∙ lines-kept (count_states ss) spot s ∙ ap (λ m. with_words (count_states ss) m) b) h

      arms-placed : (arms : Arms) (z : Scope) (spot : Place) (w : ℕ) (k : PlaceSources) (s : Sketch) (names : Names) (before : List Kept) → shapes_in z ≡ names → kept_at s ≡ before → ArmsStand steers t callee asked arms names k before → ArmsPlaced steers t brings held z spot w arms k s
      arms-placed no_arm z spot w k s names before n b h = tt
      arms-placed (more_arms c body q arms) z spot w k s names before n b h =
          let arm = enter_arm t spot w c s in
          let d = drawn_block t brings z arm.1 body arm.2 in
          let joined = join_drawn arm.0 d in
          let at_arm = enter_arm-kept t spot w c s ∙ b in
          let gone : shapes_in joined.0 ≡ names = joined-shapes arm.0 d.0 d.1 ∙ ap shapes_in (block-left t brings callee agrees z arm.1 body arm.2) ∙ n in (
            block-placed body z arm.1 (below Head k) arm.2 names before n at_arm h.0,
            arms-placed arms joined.0 spot w (below Tail k) joined.1 names (planned_block t callee body names before) gone (joined-behind arm.0 d (planned_block t callee body names before) (block-behind z arm.1 body arm.2 names before n at_arm)) h.1,
          )

      states-placed : (ss : States) (z : Scope) (spot : Place) (words : Words) (i : ℕ) (k : PlaceSources) (rests : Rests) (s : Sketch) (names outer : Names) (before : List Kept) → shapes_in z ≡ names → shapes_in (pop_values z) ≡ outer → kept_at s ≡ before
          → StatesStand steers t callee asked ss names outer k before → StatesPlaced steers t brings held z spot words i ss k rests s
      states-placed no_state z spot words i k rests s names outer before n o b h = tt
      states-placed (more_states f body until unless q ss) z spot words i k rests s names outer before n o b h =
          let e = enter_state words.lines spot i s in
          let d = drawn_block t brings z e.0.body body e.1 in
          let weak = drawn_weak t brings d.0 e.0.place words until d.1 in
          let joined = join_drawn e.0.taken (d.0, weak.1) in
          let left = state_end t brings spot words i until unless e.0 rests d in
          let at_body = enter_state-kept words.lines spot i s ∙ b in
          let inner : shapes_in d.0 ≡ in_block t body names = block-shapes t brings callee agrees z e.0.body body e.1 ∙ ap (λ m. in_block t body m) n in
          let one = planned_block t callee body names before in
          let at_one = block-behind z e.0.body body e.1 names before n at_body in
          let two = planned_conditions t callee until (in_block t body names) one in
          let gone = block-left t brings callee agrees z e.0.body body e.1 in
          let around : shapes_in (pop_values joined.0) ≡ outer = ap shapes_in (joined-left e.0.taken d.0 weak.1 ∙ ap pop_values gone) ∙ o in
          let at_two = joined-behind e.0.taken (d.0, weak.1) two (jump-behind until d.0 e.0.place words (stays words.lines) d.1 (in_block t body names) one inner at_one) in
          let strong = drawn_strong t brings joined.0 spot words unless joined.1 in (
            block-placed body z e.0.body (below Body (below Head k)) e.1 names before n at_body h.0,
            jump-placed until d.0 e.0.place words (below Until (below Head k)) d.1 (in_block t body names) one inner at_one h.1,
            jump-placed unless (pop_values joined.0) spot words (below Unless (below Head k)) joined.1 outer two around at_two h.2,
            states-placed ss left.1 spot words (i + 1) (below Tail k) left.0 left.2 names outer (planned_conditions t callee unless outer two) (joined-shapes e.0.taken d.0 weak.1 ∙ ap shapes_in gone ∙ n) around
                (leave_state-kept words.lines i e.0.taken strong.0 weak.0 rests strong.1 ∙ jump-behind unless (pop_values joined.0) spot words words.lines.selected joined.1 outer two around at_two) h.3,
          )
