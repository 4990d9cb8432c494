-- Slots that stand for places stand for places that read less, where nothing is asked of callees.
use Rattle.std.proofs.Common.{ℕ, Bool, true, false, List, [], ◌∷◌, Option, None, Some, ◌+◌}
use Rattle.hp_tree.specs.declared.block.Trans.{Trans}
use Rattle.hp_tree.specs.Blocks.{Decl, Block, block, Eqns, no_eqn, more_eqns, Eqn, define, switch, reset, automaton, Arms, no_arm, more_arms, States, no_state, more_states}
use Rattle.hp_tree.specs.Expressions.{Expr, constant, variable, last_of, one, two, choose, pre, fby, arrow, when_is, merge, call, Exprs, no_expr, more_exprs, Parts, no_part, more_parts}
use Rattle.hp_tree.specs.Instant.{Body, Observer, Assume, Enforce, Named, Equations, Head, Tail, Right, Test, Arms as ArmsOf, States as StatesOf, Until, Unless, First, Second, Third, Args, Instance, Place as TreePlace}
use Rattle.hp_tree.specs.Programs.{Contract, Node}
use Rattle.hp_meaning.specs.Causal.Sources.{Sources, PlaceSources, below}
use Rattle.hp_circuit.specs.declared.circuit.Shape.TheVariants.{Truth}
use Rattle.hp_drawing.specs.declared.parts.Callee.{Callee}
use Rattle.hp_drawing.specs.declared.parts.Jump.{Jump}
use Rattle.hp_drawing.specs.declared.parts.Place.{Place}
use Rattle.hp_drawing.specs.declared.parts.Rests.{Rests}
use Rattle.hp_drawing.specs.Kept.{is_mark}
use Rattle.hp_drawing.specs.Told.{Told, type_shape}
use Rattle.hp_drawing.specs.Planned.{count_states, shape_in, shape_in_parts}
use Rattle.hp_drawing.specs.Sketch.{Sketch, high, mark}
use Rattle.hp_drawing.specs.Places.{on_clock, may_be_early, new_register, chain_add, jump_hole, new_lines, numbers_of, transition}
use Rattle.hp_drawing.specs.Scopes.{Scope, value_in, shapes_in, pop_values, hide, enter}
use Rattle.hp_drawing.specs.DrawnExpressions.{Brings, drawn, compares, two_begin, delay_begin, outside_of, merge_begin, has_cons, step_clock, begin_call, add_output, takes_input}
use Rattle.hp_drawing.specs.DrawnBlocks.{Words, words_of, rests_of, clock_of, drawn_block, drawn_eqn, drawn_weak, enter_arm, reset_begin, enter_state, state_end, states_begin, join_drawn, leave_hidden}
use Rattle.hp_drawing.specs.DrawnNodes.{drawn_told}
use Rattle.law_drawing.specs.Steered.Marks.{Steering, Leads}
use Rattle.law_drawing.specs.Steered.Placed.{none_held, IsCompared, IsGiven, OutputsPlaced, CallPlaced, Placed, PartsPlaced, ArgsPlaced, ConditionsPlaced, BlockPlaced, EqnsPlaced, EqnPlaced, ArmsPlaced, StatesPlaced, ToldPlaced, ContractPlaced}

module _ (steers : Steering) (t : Told) (brings : Brings) where
  abbrev Less : PlaceSources → PlaceSources → Type 0
  Less k k' = (p : TreePlace) → Leads steers (k' p) → Leads steers (k p)

  compared-fewer : (b : Bool) (own own' : Sources) (s : Sketch) → (Leads steers own' → Leads steers own) → IsCompared steers b own s → IsCompared steers b own' s
  compared-fewer true own own' s f h = λ l. h (f l)
  compared-fewer false own own' s f h = tt

  given-fewer : (b : Bool) (own own' : Sources) (s : Sketch) → (Leads steers own' → Leads steers own) → IsGiven steers b own s → IsGiven steers b own' s
  given-fewer true own own' s f h = tt
  given-fewer false own own' s f h = λ l. h (f l)

  outputs-fewer : (early : Bool) (ds : List Decl) (reads : ℕ) (k k' : PlaceSources) (s : Sketch) → Less k k' → OutputsPlaced steers t early ds reads k s → OutputsPlaced steers t early ds reads k' s
  outputs-fewer early [] reads k k' s f h = tt
  outputs-fewer early (d ∷ ds) reads k k' s f h =
      (given-fewer (is_mark (type_shape t d.ty)) (k (Named d.name ∷ [])) (k' (Named d.name ∷ [])) s (f (Named d.name ∷ [])) h.0, outputs-fewer early ds reads k k' (add_output early (type_shape t d.ty) reads s) f h.1)

  call-fewer : (spot : Place) (o : Option Node) (k k' : PlaceSources) (s : Sketch) → Less k k' → CallPlaced steers t brings none_held spot o k s → CallPlaced steers t brings none_held spot o k' s
  call-fewer spot None k k' s f h = tt
  call-fewer spot (Some n) k k' s f h = let reads = mark s in (outputs-fewer (may_be_early spot) n.outputs reads.0 (below Instance k) (below Instance k') reads.1 (λ p. f (Instance ∷ p)) h.0, tt)

  mutual
    expr-fewer : (e : Expr) (z : Scope) (spot : Place) (k k' : PlaceSources) (s : Sketch) → Less k k' → Placed steers t brings none_held z spot e k s → Placed steers t brings none_held z spot e k' s
    expr-fewer (constant q c) z spot k k' s f h = tt
    expr-fewer (variable q x) z spot k k' s f h = tt
    expr-fewer (last_of q x) z spot k k' s f h = tt
    expr-fewer (one q o a) z spot k k' s f h = expr-fewer a z spot (below First k) (below First k') s (λ p. f (First ∷ p)) h
    expr-fewer (two q o a b) z spot k k' s f h =
        let w = two_begin (compares t z o a) spot s in
        let first = drawn t brings z spot a w.1 in (
          compared-fewer (compares t z o a) (k []) (k' []) s (f []) h.0,
          expr-fewer a z spot (below First k) (below First k') w.1 (λ p. f (First ∷ p)) h.1,
          expr-fewer b z spot (below Second k) (below Second k') first.1 (λ p. f (Second ∷ p)) h.2,
        )
    expr-fewer (choose q a b c) z spot k k' s f h =
        let condition = drawn t brings z spot a s in
        let first = drawn t brings z spot b condition.1 in (
          expr-fewer a z spot (below First k) (below First k') s (λ p. f (First ∷ p)) h.0,
          expr-fewer b z spot (below Second k) (below Second k') condition.1 (λ p. f (Second ∷ p)) h.1,
          expr-fewer c z spot (below Third k) (below Third k') first.1 (λ p. f (Third ∷ p)) h.2,
        )
    expr-fewer (pre q a) z spot k k' s f h = let r = delay_begin (shape_in t a (shapes_in z)) spot s in expr-fewer a z spot (below First k) (below First k') r.1 (λ p. f (First ∷ p)) h
    expr-fewer (fby q a b) z spot k k' s f h =
        let r = delay_begin (shape_in t a (shapes_in z)) spot s in
        let past = new_register spot 0 Truth r.1 in
        let first = drawn t brings z spot a past.1 in
        (expr-fewer a z spot (below First k) (below First k') past.1 (λ p. f (First ∷ p)) h.0, expr-fewer b z spot (below Second k) (below Second k') first.1 (λ p. f (Second ∷ p)) h.1)
    expr-fewer (arrow q a b) z spot k k' s f h =
        let past = new_register spot 0 Truth s in
        let first = drawn t brings z spot a past.1 in
        (expr-fewer a z spot (below First k) (below First k') past.1 (λ p. f (First ∷ p)) h.0, expr-fewer b z spot (below Second k) (below Second k') first.1 (λ p. f (Second ∷ p)) h.1)
    expr-fewer (when_is q a c x) z spot k k' s f h = expr-fewer a z (outside_of spot s) (below First k) (below First k') s (λ p. f (First ∷ p)) h
    expr-fewer (merge q x ps) z spot k k' s f h =
        let w = merge_begin (shape_in_parts t ps (shapes_in z)) (value_in z x).wire s in
        parts-fewer ps z spot x (below Args k) (below Args k') w.0 w.1 (λ p. f (Args ∷ p)) h
    expr-fewer (call q g inlined es) z spot k k' s f h =
        let c = begin_call t brings spot g s in
        (call-fewer spot (t.nodes g) k k' s f h.0, args-fewer es z spot c.0 0 (below Args k) (below Args k') c.1 (λ p. f (Args ∷ p)) h.1)

    parts-fewer : (ps : Parts) (z : Scope) (spot : Place) (x : List ℕ) (k k' : PlaceSources) (i : ℕ) (s : Sketch) → Less k k' → PartsPlaced steers t brings none_held z spot x ps k i s → PartsPlaced steers t brings none_held z spot x ps k' i s
    parts-fewer no_part z spot x k k' i s f h = tt
    parts-fewer (more_parts c e ps) z spot x k k' i s f h =
        let is = has_cons t (value_in z x).wire c s in
        let inner = step_clock t z spot.clock c x is.1 in
        let v = drawn t brings z (on_clock spot inner.0) e inner.1 in
        let rest = chain_add i is.0 v.0 v.1 in
        (expr-fewer e z (on_clock spot inner.0) (below Head k) (below Head k') inner.1 (λ p. f (Head ∷ p)) h.0, parts-fewer ps z spot x (below Tail k) (below Tail k') rest.0 rest.1 (λ p. f (Tail ∷ p)) h.1)

    args-fewer : (es : Exprs) (z : Scope) (spot : Place) (c : Callee) (j : ℕ) (k k' : PlaceSources) (s : Sketch) → Less k k' → ArgsPlaced steers t brings none_held z spot c j es k s → ArgsPlaced steers t brings none_held z spot c j es k' s
    args-fewer no_expr z spot c j k k' s f h = tt
    args-fewer (more_exprs e es) z spot c j k k' s f h =
        let v = drawn t brings z spot e s in
        (expr-fewer e z spot (below Head k) (below Head k') s (λ p. f (Head ∷ p)) h.0, args-fewer es z spot c (j + 1) (below Tail k) (below Tail k') (takes_input c j v.0 v.1) (λ p. f (Tail ∷ p)) h.1)

  conditions-fewer : (qs : List Trans) (z : Scope) (spot : Place) (words : Words) (k k' : PlaceSources) (rest : Jump) (s : Sketch) → Less k k' → ConditionsPlaced steers t brings none_held z spot words qs k rest s → ConditionsPlaced steers t brings none_held z spot words qs k' rest s
  conditions-fewer [] z spot words k k' rest s f h = tt
  conditions-fewer (q ∷ qs) z spot words k k' rest s f h =
      let c = drawn t brings z spot q.cond s in
      let more = transition words.numbers words.lines.shape rest c.0.wire q c.1 in
      (expr-fewer q.cond z spot (below Head k) (below Head k') s (λ p. f (Head ∷ p)) h.0, conditions-fewer qs z spot words (below Tail k) (below Tail k') more.0 more.1 (λ p. f (Tail ∷ p)) h.1)

  mutual
    block-fewer : (b : Block) (z : Scope) (spot : Place) (k k' : PlaceSources) (s : Sketch) → Less k k' → BlockPlaced steers t brings none_held z spot b k s → BlockPlaced steers t brings none_held z spot b k' s
    block-fewer (block ds es) z spot k k' s f h = let inside = enter t z spot ds es s in eqns-fewer es inside.0 spot ds (below Equations k) (below Equations k') inside.1 (λ p. f (Equations ∷ p)) h

    eqns-fewer : (es : Eqns) (z : Scope) (spot : Place) (ds : List Decl) (k k' : PlaceSources) (s : Sketch) → Less k k' → EqnsPlaced steers t brings none_held z spot ds es k s → EqnsPlaced steers t brings none_held z spot ds es k' s
    eqns-fewer no_eqn z spot ds k k' s f h = tt
    eqns-fewer (more_eqns e es) z spot ds k k' s f h =
        (eqn-fewer e z spot ds (below Head k) (below Head k') s (λ p. f (Head ∷ p)) h.0, eqns-fewer es z spot ds (below Tail k) (below Tail k') (drawn_eqn t brings z spot ds e s) (λ p. f (Tail ∷ p)) h.1)

    eqn-fewer : (e : Eqn) (z : Scope) (spot : Place) (ds : List Decl) (k k' : PlaceSources) (s : Sketch) → Less k k' → EqnPlaced steers t brings none_held z spot ds e k s → EqnPlaced steers t brings none_held z spot ds e k' s
    eqn-fewer (define q xs e) z spot ds k k' s f h = let clock = clock_of t z ds xs e s in expr-fewer e z (on_clock spot clock.0) (below Right k) (below Right k') clock.1 (λ p. f (Right ∷ p)) h
    eqn-fewer (switch q e arms) z spot ds k k' s f h =
        let c = drawn t brings z spot e s in
        (expr-fewer e z spot (below Test k) (below Test k') s (λ p. f (Test ∷ p)) h.0, arms-fewer arms (hide z (switch q e arms)) spot c.0.wire (below ArmsOf k) (below ArmsOf k') c.1 (λ p. f (ArmsOf ∷ p)) h.1)
    eqn-fewer (reset q b e) z spot ds k k' s f h =
        let y = hide z (reset q b e) in
        let c = reset_begin y spot s in
        let body = drawn_block t brings y c.1 b c.2 in
        (block-fewer b y c.1 (below Body k) (below Body k') c.2 (λ p. f (Body ∷ p)) h.0, expr-fewer e z spot (below Test k) (below Test k') (leave_hidden (join_drawn high body)) (λ p. f (Test ∷ p)) h.1)
    eqn-fewer (automaton q ss) z spot ds k k' s f h =
        let lines = new_lines (count_states ss) spot s in
        let next = states_begin lines.0 lines.1 in
        states-fewer ss (hide z (automaton q ss)) spot (words_of (numbers_of ss) lines.0) 0 (below StatesOf k) (below StatesOf k') (rests_of lines.0.active next.0) next.1 (λ p. f (StatesOf ∷ p)) h

    arms-fewer : (arms : Arms) (z : Scope) (spot : Place) (w : ℕ) (k k' : PlaceSources) (s : Sketch) → Less k k' → ArmsPlaced steers t brings none_held z spot w arms k s → ArmsPlaced steers t brings none_held z spot w arms k' s
    arms-fewer no_arm z spot w k k' s f h = tt
    arms-fewer (more_arms c b q arms) z spot w k k' s f h =
        let arm = enter_arm t spot w c s in
        let joined = join_drawn arm.0 (drawn_block t brings z arm.1 b arm.2) in
        (block-fewer b z arm.1 (below Head k) (below Head k') arm.2 (λ p. f (Head ∷ p)) h.0, arms-fewer arms joined.0 spot w (below Tail k) (below Tail k') joined.1 (λ p. f (Tail ∷ p)) h.1)

    states-fewer : (ss : States) (z : Scope) (spot : Place) (words : Words) (n : ℕ) (k k' : PlaceSources) (rests : Rests) (s : Sketch) → Less k k' → StatesPlaced steers t brings none_held z spot words n ss k rests s → StatesPlaced steers t brings none_held z spot words n ss k' rests s
    states-fewer no_state z spot words n k k' rests s f h = tt
    states-fewer (more_states g b until unless q ss) z spot words n k k' rests s f h =
        let e = enter_state words.lines spot n s in
        let d = drawn_block t brings z e.0.body b e.1 in
        let weak = drawn_weak t brings d.0 e.0.place words until d.1 in
        let joined = join_drawn e.0.taken (d.0, weak.1) in
        let left = state_end t brings spot words n until unless e.0 rests d in
        let first = jump_hole words.lines.shape d.1 in
        let second = jump_hole words.lines.shape joined.1 in (
          block-fewer b z e.0.body (below Body (below Head k)) (below Body (below Head k')) e.1 (λ p. f (Head ∷ Body ∷ p)) h.0,
          conditions-fewer until d.0 e.0.place words (below Until (below Head k)) (below Until (below Head k')) first.0 first.1 (λ p. f (Head ∷ Until ∷ p)) h.1,
          conditions-fewer unless (pop_values joined.0) spot words (below Unless (below Head k)) (below Unless (below Head k')) second.0 second.1 (λ p. f (Head ∷ Unless ∷ p)) h.2,
          states-fewer ss left.1 spot words (n + 1) (below Tail k) (below Tail k') left.0 left.2 (λ p. f (Tail ∷ p)) h.3,
        )

  told-fewer : (o : Option Expr) (z : Scope) (spot : Place) (k k' : PlaceSources) (s : Sketch) → Less k k' → ToldPlaced steers t brings none_held z spot o k s → ToldPlaced steers t brings none_held z spot o k' s
  told-fewer None z spot k k' s f h = tt
  told-fewer (Some e) z spot k k' s f h = expr-fewer e z spot k k' s f h

  pub contract-fewer : (c : Contract) (z : Scope) (spot : Place) (k k' : PlaceSources) (s : Sketch) → Less k k' → ContractPlaced steers t brings none_held z spot c k s → ContractPlaced steers t brings none_held z spot c k' s
  contract-fewer c z spot k k' s f h =
      let inside = drawn_block t brings z spot c.body s in
      let assume = drawn_told t brings inside.0 spot c.assume inside.1 in (
        block-fewer c.body z spot (below Observer k) (below Observer k') s (λ p. f (Observer ∷ p)) h.0,
        told-fewer c.assume inside.0 spot (below Assume k) (below Assume k') inside.1 (λ p. f (Assume ∷ p)) h.1,
        told-fewer c.enforce inside.0 spot (below Enforce k) (below Enforce k') assume.1 (λ p. f (Enforce ∷ p)) h.2,
      )
