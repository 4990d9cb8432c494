-- What the free slots of a drawing stand for: each comparison of integers, and each output of a call, has a slot, whose number is that of its place. It is said along what is drawn.
use Rattle.std.specs.Prelude.{ℕ, ◌+◌, ⊤, Bool, true, false, List, [], ◌∷◌, Option, None, Some}
use Rattle.hp_base.specs.declared.span.Span.{Span}
use Rattle.hp_tree.specs.declared.block.Trans.{Trans}
use Rattle.hp_tree.specs.Blocks.{Decl, Block, block, Eqns, no_eqn, more_eqns, Eqn, define, switch, reset, automaton, Arms, no_arm, more_arms, States, no_state, more_states}
use Rattle.hp_tree.specs.Expressions.{Expr, constant, variable, last_of, one, two, choose, pre, fby, arrow, when_is, merge, call, Exprs, no_expr, more_exprs, Parts, no_part, more_parts}
use Rattle.hp_tree.specs.Instant.{Body, Observer, Assume, Enforce, Named, Equations, Head, Tail, Right, Test, Arms as ArmsOf, States as StatesOf, Until, Unless, First, Second, Third, Args, Instance}
use Rattle.hp_tree.specs.Programs.{Contract, Node}
use Rattle.hp_meaning.specs.Causal.Sources.{Sources, PlaceSources, below}
use Rattle.hp_circuit.specs.declared.circuit.Shape.TheVariants.{Truth}
use Rattle.hp_drawing.specs.declared.parts.Callee.{Callee}
use Rattle.hp_drawing.specs.declared.parts.Jump.{Jump}
use Rattle.hp_drawing.specs.declared.parts.Place.{Place as Spot}
use Rattle.hp_drawing.specs.declared.parts.Rests.{Rests}
use Rattle.hp_drawing.specs.Kept.{is_mark}
use Rattle.hp_drawing.specs.Told.{Told, type_shape}
use Rattle.hp_drawing.specs.Planned.{count_states, shape_in, shape_in_parts}
use Rattle.hp_drawing.specs.Sketch.{Sketch, high, next_wire, next_slot, mark}
use Rattle.hp_drawing.specs.Places.{on_clock, may_be_early, called_at, new_register, chain_add, jump_hole, new_lines, numbers_of, transition}
use Rattle.hp_drawing.specs.Scopes.{Scope, value_in, shapes_in, pop_values, hide, enter}
use Rattle.hp_drawing.specs.DrawnExpressions.{Brings, drawn, compares, two_begin, delay_begin, outside_of, merge_begin, has_cons, step_clock, begin_call, callee_of, add_output, add_outputs, add_holes, takes_input}
use Rattle.hp_drawing.specs.DrawnBlocks.{Words, words_of, rests_of, clock_of, drawn_block, drawn_eqn, drawn_weak, enter_arm, reset_begin, enter_state, state_end, states_begin, join_drawn, leave_hidden}
use Rattle.hp_drawing.specs.DrawnNodes.{contract_scope, no_brings, drawn_told}
use Rattle.law_drawing.specs.Steered.Marks.{Steering, Leads}

-- what is asked of the contract of a node that is called, besides
abbrev pub Held : Type 1
Held = Spot → Node → Callee → Sketch → PlaceSources → Type 0

-- where nothing is called
abbrev pub none_held : Held
none_held spot n c s k = ⊤

module _ (steers : Steering) where
  -- the next slot stands for a place that reads no less
  abbrev pub IsNext : Sources → Sketch → Type 0
  IsNext own s = Leads steers own → Leads steers (steers.slots (next_slot s))

  abbrev pub IsCompared : Bool → Sources → Sketch → Type 0
  IsCompared true own s = IsNext own s
  IsCompared false own s = ⊤

  -- an integer has no slot
  abbrev pub IsGiven : Bool → Sources → Sketch → Type 0
  IsGiven true own s = ⊤
  IsGiven false own s = IsNext own s

  -- the outputs of a call
  abbrev pub OutputsPlaced : Told → Bool → List Decl → ℕ → PlaceSources → Sketch → Type 0
  OutputsPlaced t early [] reads k s = ⊤
  OutputsPlaced t early (d ∷ ds) reads k s = IsGiven (is_mark (type_shape t d.ty)) (k (Named d.name ∷ [])) s × OutputsPlaced t early ds reads k (add_output early (type_shape t d.ty) reads s)

  module _ (t : Told) (brings : Brings) (held : Held) where
    -- a call but for its arguments
    abbrev pub CallPlaced : Spot → Option Node → PlaceSources → Sketch → Type 0
    CallPlaced spot None k s = ⊤
    CallPlaced spot (Some n) k s =
        let reads = mark s in
        let given = add_outputs t (may_be_early spot) n.outputs reads.0 reads.1 in
        OutputsPlaced t (may_be_early spot) n.outputs reads.0 (below Instance k) reads.1 × held spot n (callee_of (next_wire reads.1) (next_wire given) reads.0) (add_holes t n.inputs given) (below Instance k)

    abbrev mutual
      pub Placed : Scope → Spot → Expr → PlaceSources → Sketch → Type 0
      Placed z spot (constant q c) k s = ⊤
      Placed z spot (variable q x) k s = ⊤
      Placed z spot (last_of q x) k s = ⊤
      Placed z spot (one q o a) k s = Placed z spot a (below First k) s
      Placed z spot (two q o a b) k s =
          let w = two_begin (compares t z o a) spot s in
          let first = drawn t brings z spot a w.1 in
          IsCompared (compares t z o a) (k []) s × Placed z spot a (below First k) w.1 × Placed z spot b (below Second k) first.1
      Placed z spot (choose q a b c) k s =
          let condition = drawn t brings z spot a s in
          let first = drawn t brings z spot b condition.1 in
          Placed z spot a (below First k) s × Placed z spot b (below Second k) condition.1 × Placed z spot c (below Third k) first.1
      Placed z spot (pre q a) k s = let r = delay_begin (shape_in t a (shapes_in z)) spot s in Placed z spot a (below First k) r.1
      Placed z spot (fby q a b) k s =
          let r = delay_begin (shape_in t a (shapes_in z)) spot s in
          let past = new_register spot 0 Truth r.1 in
          let first = drawn t brings z spot a past.1 in
          Placed z spot a (below First k) past.1 × Placed z spot b (below Second k) first.1
      Placed z spot (arrow q a b) k s =
          let past = new_register spot 0 Truth s in
          let first = drawn t brings z spot a past.1 in
          Placed z spot a (below First k) past.1 × Placed z spot b (below Second k) first.1
      Placed z spot (when_is q a c x) k s = Placed z (outside_of spot s) a (below First k) s
      Placed z spot (merge q x ps) k s = let w = merge_begin (shape_in_parts t ps (shapes_in z)) (value_in z x).wire s in PartsPlaced z spot x ps (below Args k) w.0 w.1
      Placed z spot (call q f inlined es) k s = let c = begin_call t brings spot f s in CallPlaced spot (t.nodes f) k s × ArgsPlaced z spot c.0 0 es (below Args k) c.1

      pub PartsPlaced : Scope → Spot → List ℕ → Parts → PlaceSources → ℕ → Sketch → Type 0
      PartsPlaced z spot x no_part k h s = ⊤
      PartsPlaced z spot x (more_parts c e ps) k h s =
          let is = has_cons t (value_in z x).wire c s in
          let inner = step_clock t z spot.clock c x is.1 in
          let v = drawn t brings z (on_clock spot inner.0) e inner.1 in
          let rest = chain_add h is.0 v.0 v.1 in
          Placed z (on_clock spot inner.0) e (below Head k) inner.1 × PartsPlaced z spot x ps (below Tail k) rest.0 rest.1

      pub ArgsPlaced : Scope → Spot → Callee → ℕ → Exprs → PlaceSources → Sketch → Type 0
      ArgsPlaced z spot c j no_expr k s = ⊤
      ArgsPlaced z spot c j (more_exprs e es) k s =
          let v = drawn t brings z spot e s in
          Placed z spot e (below Head k) s × ArgsPlaced z spot c (j + 1) es (below Tail k) (takes_input c j v.0 v.1)

    -- ---- definitions and transitions

    abbrev pub DefinitionPlaced : Scope → Spot → List Decl → List (List ℕ × Span) → Expr → PlaceSources → Sketch → Type 0
    DefinitionPlaced z spot ds xs e k s = let clock = clock_of t z ds xs e s in Placed z (on_clock spot clock.0) e k clock.1

    abbrev pub ConditionsPlaced : Scope → Spot → Words → List Trans → PlaceSources → Jump → Sketch → Type 0
    ConditionsPlaced z spot words [] k rest s = ⊤
    ConditionsPlaced z spot words (q ∷ qs) k rest s =
        let c = drawn t brings z spot q.cond s in
        let more = transition words.numbers words.lines.shape rest c.0.wire q c.1 in
        Placed z spot q.cond (below Head k) s × ConditionsPlaced z spot words qs (below Tail k) more.0 more.1

    abbrev pub JumpPlaced : Scope → Spot → Words → List Trans → PlaceSources → Sketch → Type 0
    JumpPlaced z spot words qs k s = let j = jump_hole words.lines.shape s in ConditionsPlaced z spot words qs k j.0 j.1

    -- ---- blocks

    abbrev mutual
      pub BlockPlaced : Scope → Spot → Block → PlaceSources → Sketch → Type 0
      BlockPlaced z spot (block ds es) k s = let inside = enter t z spot ds es s in EqnsPlaced inside.0 spot ds es (below Equations k) inside.1

      pub EqnsPlaced : Scope → Spot → List Decl → Eqns → PlaceSources → Sketch → Type 0
      EqnsPlaced z spot ds no_eqn k s = ⊤
      EqnsPlaced z spot ds (more_eqns e es) k s = EqnPlaced z spot ds e (below Head k) s × EqnsPlaced z spot ds es (below Tail k) (drawn_eqn t brings z spot ds e s)

      pub EqnPlaced : Scope → Spot → List Decl → Eqn → PlaceSources → Sketch → Type 0
      EqnPlaced z spot ds (define q xs e) k s = DefinitionPlaced z spot ds xs e (below Right k) s
      EqnPlaced z spot ds (switch q e arms) k s =
          let c = drawn t brings z spot e s in
          Placed z spot e (below Test k) s × ArmsPlaced (hide z (switch q e arms)) spot c.0.wire arms (below ArmsOf k) c.1
      EqnPlaced z spot ds (reset q b e) k s =
          let c = reset_begin (hide z (reset q b e)) spot s in
          let body = drawn_block t brings (hide z (reset q b e)) c.1 b c.2 in
          BlockPlaced (hide z (reset q b e)) c.1 b (below Body k) c.2 × Placed z spot e (below Test k) (leave_hidden (join_drawn high body))
      EqnPlaced z spot ds (automaton q ss) k s =
          let lines = new_lines (count_states ss) spot s in
          let next = states_begin lines.0 lines.1 in
          StatesPlaced (hide z (automaton q ss)) spot (words_of (numbers_of ss) lines.0) 0 ss (below StatesOf k) (rests_of lines.0.active next.0) next.1

      pub ArmsPlaced : Scope → Spot → ℕ → Arms → PlaceSources → Sketch → Type 0
      ArmsPlaced z spot w no_arm k s = ⊤
      ArmsPlaced z spot w (more_arms c b q arms) k s =
          let arm = enter_arm t spot w c s in
          let joined = join_drawn arm.0 (drawn_block t brings z arm.1 b arm.2) in
          BlockPlaced z arm.1 b (below Head k) arm.2 × ArmsPlaced joined.0 spot w arms (below Tail k) joined.1

      pub StatesPlaced : Scope → Spot → Words → ℕ → States → PlaceSources → Rests → Sketch → Type 0
      StatesPlaced z spot words n no_state k rests s = ⊤
      StatesPlaced z spot words n (more_states f b until unless q ss) k rests s =
          let e = enter_state words.lines spot n s in
          let d = drawn_block t brings z e.0.body b e.1 in
          let weak = drawn_weak t brings d.0 e.0.place words until d.1 in
          let joined = join_drawn e.0.taken (d.0, weak.1) in
          let left = state_end t brings spot words n until unless e.0 rests d in
          BlockPlaced z e.0.body b (below Body (below Head k)) e.1 × JumpPlaced d.0 e.0.place words until (below Until (below Head k)) d.1 × JumpPlaced (pop_values joined.0) spot words unless (below Unless (below Head k)) joined.1
          × StatesPlaced left.1 spot words (n + 1) ss (below Tail k) left.0 left.2

    -- ---- contracts

    abbrev pub ToldPlaced : Scope → Spot → Option Expr → PlaceSources → Sketch → Type 0
    ToldPlaced z spot None k s = ⊤
    ToldPlaced z spot (Some e) k s = Placed z spot e k s

    abbrev pub ContractPlaced : Scope → Spot → Contract → PlaceSources → Sketch → Type 0
    ContractPlaced z spot c k s =
        let inside = drawn_block t brings z spot c.body s in
        let assume = drawn_told t brings inside.0 spot c.assume inside.1 in
        BlockPlaced z spot c.body (below Observer k) s × ToldPlaced inside.0 spot c.assume (below Assume k) inside.1 × ToldPlaced inside.0 spot c.enforce (below Enforce k) assume.1

  -- the contract of a node that is called
  abbrev pub CalledPlaced : Told → Spot → Node → Option Contract → Callee → Sketch → PlaceSources → Type 0
  CalledPlaced t spot n None c s k = ⊤
  CalledPlaced t spot n (Some contract) c s k =
      let inside = called_at spot s in
      let z = contract_scope t inside.0 n c.inputs c.outputs inside.1 in
      ContractPlaced t no_brings none_held z.0 inside.0 contract k z.1

  abbrev pub contracts_held : Told → Held
  contracts_held t spot n c s k = CalledPlaced t spot n n.contract c s k
