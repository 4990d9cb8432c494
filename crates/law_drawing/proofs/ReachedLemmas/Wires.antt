-- What is said of the places of what is drawn: that a wire which stands for the place is one of a set.
use Rattle.std.proofs.Common.{ℕ, ◌+◌, List, [], ◌∷◌}
use Rattle.hp_tree.specs.declared.block.Trans.{Trans}
use Rattle.hp_tree.specs.Blocks.{Decl, Block, block, Eqns, no_eqn, more_eqns, Eqn, define, switch, reset, automaton, Arms, no_arm, more_arms, States, no_state, more_states}
use Rattle.hp_tree.specs.Expressions.{Expr, constant, variable, last_of, one, two, choose, pre, fby, arrow, when_is, merge, call, Exprs, no_expr, more_exprs, Parts, no_part, more_parts}
use Rattle.hp_circuit.specs.declared.circuit.Shape.TheVariants.{Truth}
use Rattle.hp_drawing.specs.declared.parts.Callee.{Callee}
use Rattle.hp_drawing.specs.declared.parts.Jump.{Jump}
use Rattle.hp_drawing.specs.declared.parts.Place.{Place as Spot}
use Rattle.hp_drawing.specs.declared.parts.Rests.{Rests}
use Rattle.hp_drawing.specs.Told.{Told}
use Rattle.hp_drawing.specs.Planned.{count_states, shape_in, shape_in_parts}
use Rattle.hp_drawing.specs.Sketch.{Sketch, high}
use Rattle.hp_drawing.specs.Places.{on_clock, new_register, chain_add, jump_hole, new_lines, numbers_of, transition}
use Rattle.hp_drawing.specs.Scopes.{Scope, value_in, shapes_in, pop_values, hide, enter}
use Rattle.hp_drawing.specs.DrawnExpressions.{Brings, drawn, compares, two_begin, delay_begin, outside_of, merge_begin, has_cons, step_clock, begin_call, takes_input}
use Rattle.hp_drawing.specs.DrawnBlocks.{Words, words_of, rests_of, clock_of, drawn_block, drawn_eqn, drawn_weak, enter_arm, reset_begin, enter_state, state_end, states_begin, join_drawn, leave_hidden}
use Rattle.law_drawing.proofs.ReachedLemmas.Whereabouts.{Said, anything, by_one, by_two, by_three, by_row, by_args, by_block, by_right, by_arms, by_body, by_state, by_words}

module _ (S : ℕ → Type 0) (t : Told) (brings : Brings) where
  abbrev Value : Scope → Spot → Expr → Sketch → Type 0
  Value z spot e s = S (drawn t brings z spot e s).0.wire

  -- The wire of an expression, and of a call the one that its outputs read.
  abbrev mutual
    pub ExprWires : Scope → Spot → Expr → Sketch → Said
    ExprWires z spot (constant q c) s = by_one (Value z spot (constant q c) s) anything
    ExprWires z spot (variable q x) s = by_one (Value z spot (variable q x) s) anything
    ExprWires z spot (last_of q x) s = by_one (Value z spot (last_of q x) s) anything
    ExprWires z spot (one q o a) s = by_one (Value z spot (one q o a) s) (ExprWires z spot a s)
    ExprWires z spot (two q o a b) s =
        let w = two_begin (compares t z o a) spot s in
        let first = drawn t brings z spot a w.1 in
        by_two (Value z spot (two q o a b) s) (ExprWires z spot a w.1) (ExprWires z spot b first.1)
    ExprWires z spot (choose q a b c) s =
        let condition = drawn t brings z spot a s in
        let first = drawn t brings z spot b condition.1 in
        by_three (Value z spot (choose q a b c) s) (ExprWires z spot a s) (ExprWires z spot b condition.1) (ExprWires z spot c first.1)
    ExprWires z spot (pre q a) s = let r = delay_begin (shape_in t a (shapes_in z)) spot s in by_one (Value z spot (pre q a) s) (ExprWires z spot a r.1)
    ExprWires z spot (fby q a b) s =
        let r = delay_begin (shape_in t a (shapes_in z)) spot s in
        let past = new_register spot 0 Truth r.1 in
        let first = drawn t brings z spot a past.1 in
        by_two (Value z spot (fby q a b) s) (ExprWires z spot a past.1) (ExprWires z spot b first.1)
    ExprWires z spot (arrow q a b) s =
        let past = new_register spot 0 Truth s in
        let first = drawn t brings z spot a past.1 in
        by_two (Value z spot (arrow q a b) s) (ExprWires z spot a past.1) (ExprWires z spot b first.1)
    ExprWires z spot (when_is q a c x) s = by_one (Value z spot (when_is q a c x) s) (ExprWires z (outside_of spot s) a s)
    ExprWires z spot (merge q x ps) s = let w = merge_begin (shape_in_parts t ps (shapes_in z)) (value_in z x).wire s in by_args (Value z spot (merge q x ps) s) (PartsWires z spot x ps w.0 w.1)
    ExprWires z spot (call q f inlined es) s = let c = begin_call t brings spot f s in by_args (S c.0.reads) (ArgsWires z spot c.0 0 es c.1)

    pub PartsWires : Scope → Spot → List ℕ → Parts → ℕ → Sketch → Said
    PartsWires z spot x no_part h s = anything
    PartsWires z spot x (more_parts c e ps) h s =
        let is = has_cons t (value_in z x).wire c s in
        let inner = step_clock t z spot.clock c x is.1 in
        let v = drawn t brings z (on_clock spot inner.0) e inner.1 in
        let rest = chain_add h is.0 v.0 v.1 in
        by_row (ExprWires z (on_clock spot inner.0) e inner.1) (PartsWires z spot x ps rest.0 rest.1)

    pub ArgsWires : Scope → Spot → Callee → ℕ → Exprs → Sketch → Said
    ArgsWires z spot c j no_expr s = anything
    ArgsWires z spot c j (more_exprs e es) s =
        let v = drawn t brings z spot e s in
        by_row (ExprWires z spot e s) (ArgsWires z spot c (j + 1) es (takes_input c j v.0 v.1))

  abbrev pub ConditionsWires : Scope → Spot → Words → List Trans → Jump → Sketch → Said
  ConditionsWires z spot words [] rest s = anything
  ConditionsWires z spot words (q ∷ qs) rest s =
      let c = drawn t brings z spot q.cond s in
      let more = transition words.numbers words.lines.shape rest c.0.wire q c.1 in
      by_row (ExprWires z spot q.cond s) (ConditionsWires z spot words qs more.0 more.1)

  abbrev pub JumpWires : Scope → Spot → Words → List Trans → Sketch → Said
  JumpWires z spot words qs s = let j = jump_hole words.lines.shape s in ConditionsWires z spot words qs j.0 j.1

  -- The wire of a name in its block, and the word of the active state.
  abbrev mutual
    pub BlockWires : Scope → Spot → Block → Sketch → Said
    BlockWires z spot (block ds es) s = let inside = enter t z spot ds es s in by_block (λ x. S (value_in inside.0 x).wire) (EqnsWires inside.0 spot ds es inside.1)

    pub EqnsWires : Scope → Spot → List Decl → Eqns → Sketch → Said
    EqnsWires z spot ds no_eqn s = anything
    EqnsWires z spot ds (more_eqns e es) s = by_row (EqnWires z spot ds e s) (EqnsWires z spot ds es (drawn_eqn t brings z spot ds e s))

    pub EqnWires : Scope → Spot → List Decl → Eqn → Sketch → Said
    EqnWires z spot ds (define q xs e) s = let clock = clock_of t z ds xs e s in by_right (ExprWires z (on_clock spot clock.0) e clock.1)
    EqnWires z spot ds (switch q e arms) s =
        let c = drawn t brings z spot e s in
        by_arms (ExprWires z spot e s) (S c.0.wire) (ArmsWires (hide z (switch q e arms)) spot c.0.wire arms c.1)
    EqnWires z spot ds (reset q b e) s =
        let c = reset_begin (hide z (reset q b e)) spot s in
        let body = drawn_block t brings (hide z (reset q b e)) c.1 b c.2 in
        let left = leave_hidden (join_drawn high body) in
        by_body (ExprWires z spot e left) (S (drawn t brings z spot e left).0.wire) (BlockWires (hide z (reset q b e)) c.1 b c.2)
    EqnWires z spot ds (automaton q ss) s =
        let lines = new_lines (count_states ss) spot s in
        let next = states_begin lines.0 lines.1 in
        by_words (S lines.0.active.state) (StatesWires (hide z (automaton q ss)) spot (words_of (numbers_of ss) lines.0) 0 ss (rests_of lines.0.active next.0) next.1)

    pub ArmsWires : Scope → Spot → ℕ → Arms → Sketch → Said
    ArmsWires z spot w no_arm s = anything
    ArmsWires z spot w (more_arms c b q arms) s =
        let arm = enter_arm t spot w c s in
        let joined = join_drawn arm.0 (drawn_block t brings z arm.1 b arm.2) in
        by_row (BlockWires z arm.1 b arm.2) (ArmsWires joined.0 spot w arms joined.1)

    pub StatesWires : Scope → Spot → Words → ℕ → States → Rests → Sketch → Said
    StatesWires z spot words n no_state rests s = anything
    StatesWires z spot words n (more_states f b until unless q ss) rests s =
        let e = enter_state words.lines spot n s in
        let d = drawn_block t brings z e.0.body b e.1 in
        let weak = drawn_weak t brings d.0 e.0.place words until d.1 in
        let joined = join_drawn e.0.taken (d.0, weak.1) in
        let left = state_end t brings spot words n until unless e.0 rests d in
        by_row (by_state (S words.lines.active.state) (BlockWires z e.0.body b e.1) (JumpWires (pop_values joined.0) spot words unless joined.1)) (StatesWires left.1 spot words (n + 1) ss left.0 left.2)
