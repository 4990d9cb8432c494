-- What is drawn of blocks and control equations, with marks.
use Rattle.std.proofs.Common.{◌≡◌, ℕ, ◌+◌, Bool, true, false, if◌then◌else◌, List, [], ◌∷◌, refl, sym, ap, subst, inl, inr}
use Rattle.hp_base.specs.declared.span.Span.{Span}
use Rattle.hp_tree.specs.declared.block.Trans.{Trans}
use Rattle.hp_tree.specs.declared.decl.Cons as tree_cons
use Rattle.hp_tree.specs.Blocks.{Decl, Block, block, Eqns, no_eqn, more_eqns, Eqn, define, switch, reset, automaton, Arms, no_arm, more_arms, States, no_state, more_states}
use Rattle.hp_tree.specs.Expressions.{Expr}
use Rattle.hp_tree.specs.Instant.{Body, Named, Equations, Head, Tail, Right, Test, Arms as ArmsOf, States as StatesOf, Until, Unless, Active}
use Rattle.hp_tree.specs.Meaning.{defines, some_defines, clock_of}
use Rattle.hp_meaning.specs.Causal.Sources.{Sources, both, NameSources, PlaceSources, below}
use Rattle.hp_meaning.specs.Causal.WhatIsRead.{of_expr, names_in, weak_ones, of_definition, of_definitions, in_equations, in_equation}
use Rattle.hp_drawing.specs.declared.parts.Entered.{Entered}
use Rattle.hp_drawing.specs.declared.parts.Jump.{Jump}
use Rattle.hp_drawing.specs.declared.parts.Lines.{Lines}
use Rattle.hp_drawing.specs.declared.parts.Place.{Place}
use Rattle.hp_drawing.specs.declared.parts.Value.{Value}
use Rattle.hp_drawing.specs.Told.{Told}
use Rattle.hp_drawing.specs.Planned.{count_states}
use Rattle.hp_drawing.specs.Sketch as sketch
use Rattle.hp_drawing.specs.Sketch.{Sketch, low, high}
use Rattle.hp_drawing.specs.Places.{new_lines, numbers_of}
use Rattle.hp_drawing.specs.Scopes.{pop_values, Scope, Layer, push_values, hide, hide_names, names_of_eqn, enter}
use Rattle.hp_drawing.specs.DrawnExpressions.{Brings, drawn}
use Rattle.hp_drawing.specs.DrawnBlocks.{Words, words_of, Rested, rests_of, drawn_block, drawn_eqns, drawn_eqn, drawn_arms, drawn_states, drawn_weak, enter_arm, reset_begin, enter_state, state_end, states_begin, automaton_end, join_drawn, leave_hidden}
use Rattle.law_drawing.specs.Steered.Marks.{Steering, Marks, Grows, Has, Leads, Low, AreMarked, IsPlaced}
use Rattle.law_drawing.specs.Steered.Placed.{Held, Placed, JumpPlaced, BlockPlaced, EqnsPlaced, EqnPlaced, ArmsPlaced, StatesPlaced}
use Rattle.law_drawing.specs.Steered.Asked.{CallsFit, Owes, BringsMarked, IsOwned, ConditionsFit, BlockFits, EqnsFit, EqnFits, ArmsFit, StatesFit}
use Rattle.law_drawing.proofs.SteeredLemmas.Steps.{grows-none, grows-both, low-grows, Step}
use Rattle.law_drawing.proofs.SteeredLemmas.Parts.{placed-grows}
use Rattle.law_drawing.proofs.SteeredLemmas.Values.{Valued, IsAt, at-behind, seen-grows}
use Rattle.law_drawing.proofs.SteeredLemmas.Expressions.{expr}
use Rattle.law_drawing.proofs.SteeredLemmas.Definitions.{definition-marked}
use Rattle.law_drawing.proofs.SteeredLemmas.Entering.{enter-marked}
use Rattle.law_drawing.proofs.SteeredLemmas.Joining.{hide-is, IsOver, over-grows, over-begins, Left, left-ends}
use Rattle.law_drawing.proofs.SteeredLemmas.Jumps.{JumpHas, jump-has-grows, jump-hole-marked, AreLines, lines-grow, new-lines-marked}
use Rattle.law_drawing.proofs.SteeredLemmas.Controls.{enter-arm-marked, reset-begin-marked, enter-state-marked}
use Rattle.law_drawing.proofs.SteeredLemmas.Bodies.{or-left, or-right, not-both, owned-part, owned-grows, Defined, own-each, RestedMarked, BlockDrawn, ArmsDrawn, StatesDrawn, left-behind, rested-behind, arm-joined, reset-joined, reset-ended, state-drawn, automaton-ended}

module _ (steers : Steering) (t : Told) (brings : Brings) (held : Held) (b : (context : Sources) → BringsMarked steers t brings held context) where
  abbrev At : Scope → Sources → NameSources → Marks → Sketch → Place → Type 0
  At z context names ms s spot = IsAt steers z context names ms s spot

  -- ---- equations, by what is drawn of their parts

  abbrev EquationDrawn : Eqn → Type 0
  EquationDrawn e =
      (z : Scope) (ds : List Decl) (context : Sources) (names : NameSources) (k : PlaceSources) (spot : Place) (s : Sketch) (ms : Marks) → Owes steers context (in_equation ds e names k) k → Defined steers context names (defines e) (of_definition ds e names k)
      → EqnPlaced steers t brings held z spot ds e k s → At z context names ms s spot → IsOwned ms z context names (defines e) → Step steers ms (drawn_eqn t brings z spot ds e s)

  switch-drawn : (q : Span) (e : Expr) (arms : Arms) → CallsFit t e → ArmsDrawn steers t brings held b arms → EquationDrawn (switch q e arms)
  switch-drawn q e arms fit draws z ds context names k spot s ms o defined placed at own =
      let u = expr steers t brings held z context names (b context) e [] (below Test k) spot fit (λ p. o (Test ∷ p)) s ms placed.0 at in
      behind (drawn t brings z spot e s) placed.1 u
    where
      eqn : Eqn
      eqn = switch q e arms

      control : Sources
      control = of_expr e names (below Test k)

      h : Layer
      h = hide_names z (names_of_eqn eqn) []

      behind : (c : Value × Sketch) → ArmsPlaced steers t brings held (hide z eqn) spot c.0.wire arms (below ArmsOf k) c.1 → Valued steers ms (both context control) c → Step steers ms (leave_hidden (drawn_arms t brings (hide z eqn) spot c.0.wire arms c.1))
      behind c j u =
          let over = over-grows steers z context names eqn ms u.0 u.1 h (over-begins steers z context names eqn ms at.seen own) in
          let v = draws eqn z context names (below ArmsOf k) spot c.0.wire control h c.1 u.0 (λ p l. o (ArmsOf ∷ p) (elim l [ inl i ↦ inl i | inr i ↦ inr (inr i) ])) (λ x d l. defined x d (inr l)) (subst (λ y. ArmsPlaced steers t brings held y spot c.0.wire arms (below ArmsOf k) c.1) (hide-is z eqn) j) (at-behind steers z context names ms u.0 s c.1 spot at u.1 u.2) u.3 over in
          let d = drawn_arms t brings (push_values h z) spot c.0.wire arms c.1 in
          let w = left-ends steers z context names eqn d u.0 v in
          subst (λ y. Step steers ms (leave_hidden (drawn_arms t brings y spot c.0.wire arms c.1))) (sym (hide-is z eqn)) (w.0, grows-both ms u.0 w.0 u.1 w.1, w.2)

  reset-drawn : (q : Span) (c : Block) (e : Expr) → BlockDrawn steers t brings held b c → CallsFit t e → EquationDrawn (reset q c e)
  reset-drawn q c e draws fit z ds context names k spot s ms o defined placed at own =
      subst (λ y. Step steers ms (let i = reset_begin y spot s in let d = drawn t brings z spot e (leave_hidden (join_drawn high (drawn_block t brings y i.1 c i.2))) in sketch.define i.0 d.0 d.1)) (sym (hide-is z eqn))
      (behind (reset_begin (push_values h z) spot s) (subst ResetPlaced (hide-is z eqn) placed) (reset-begin-marked steers z context names eqn h spot control s ms at.marks at.placed over (λ x d l. defined x d (inr (inl l)))))
    where
      eqn : Eqn
      eqn = reset q c e

      control : Sources
      control = of_expr e names (below Test k)

      h : Layer
      h = hide_names z (names_of_eqn eqn) []

      over : IsOver steers z context names eqn ms h
      over = over-begins steers z context names eqn ms at.seen own

      ResetPlaced : Scope → Type 0
      ResetPlaced y = let i = reset_begin y spot s in BlockPlaced steers t brings held y i.1 c (below Body k) i.2 × Placed steers t brings held z spot e (below Test k) (leave_hidden (join_drawn high (drawn_block t brings y i.1 c i.2)))

      behind : (i : ℕ × Place × Sketch) → BlockPlaced steers t brings held (push_values h z) i.1 c (below Body k) i.2 × Placed steers t brings held z spot e (below Test k) (leave_hidden (join_drawn high (drawn_block t brings (push_values h z) i.1 c i.2)))
          → (ms' : Marks) × Grows ms ms' × AreMarked steers i.2 ms' × Has ms' i.0 (both context control) × IsPlaced steers ms' i.1 (both context control)
          → Step steers ms (let d = drawn t brings z spot e (leave_hidden (join_drawn high (drawn_block t brings (push_values h z) i.1 c i.2))) in sketch.define i.0 d.0 d.1)
      behind i j u =
          let at1 = at-behind steers z context names ms u.0 s i.2 spot at u.1 u.2 in
          let left = reset-joined steers t brings held b eqn z context names c draws (below Body k) h control i u.0 (λ p l. o (Body ∷ p) (elim l [ inl m ↦ elim m [ inl r ↦ inl r | inr r ↦ inr (inl r) ] | inr m ↦ inr (inr m) ])) (λ x d l. defined x d (inr l)) j.0 u.2 u.4
          at1.seen (over-grows steers z context names eqn ms u.0 u.1 h over) in
          let w = reset-ended steers t brings held b eqn z context names e (below Test k) spot i.0 i.2 (join_drawn high (drawn_block t brings (push_values h z) i.1 c i.2)) u.0 fit (λ p. o (Test ∷ p)) j.1 at1 u.3 left in
          (w.0, grows-both ms u.0 w.0 u.1 w.1, w.2)

  automaton-drawn : (q : Span) (ss : States) → StatesDrawn steers t brings held b ss → EquationDrawn (automaton q ss)
  automaton-drawn q ss draws z ds context names k spot s ms o defined placed at own =
      behind (new_lines (count_states ss) spot s) placed (new-lines-marked steers (count_states ss) spot s ms context (both context active) at.marks at.placed)
    where
      eqn : Eqn
      eqn = automaton q ss

      active : Sources
      active = k (Active ∷ [])

      weak : Sources
      weak = both active (weak_ones ss (below StatesOf k))

      h : Layer
      h = hide_names z (names_of_eqn eqn) []

      at_states : (lines : Lines) (next : Jump × Sketch) (ms1 : Marks) → StatesPlaced steers t brings held (hide z eqn) spot (words_of (numbers_of ss) lines) 0 ss (below StatesOf k) (rests_of lines.active next.0) next.1 → Grows ms ms1 → AreMarked steers next.1 ms1 → AreLines steers ms1 lines context (both context active) → JumpHas steers ms1 next.0 (both context weak)
          → Step steers ms (automaton_end lines spot next.0 (drawn_states t brings (hide z eqn) spot (words_of (numbers_of ss) lines) 0 ss (rests_of lines.active next.0) next.1))
      at_states lines next ms1 j g a k1 has =
          let at1 = at-behind steers z context names ms ms1 s next.1 spot at g a in
          let words = words_of (numbers_of ss) lines in
          let rests = rests_of lines.active next.0 in
          let w = draws eqn z context names (below StatesOf k) spot words 0 active weak h rests next.1 ms1 (λ p. o (StatesOf ∷ p)) (λ x d l. defined x d (inr l)) (λ l. o (Active ∷ []) (inr l)) (λ l. inl l) (λ l. inr l) (subst (λ y. StatesPlaced steers t brings held y spot words 0 ss (below StatesOf k) rests next.1) (hide-is z eqn) j) at1 k1 k1.active_is has
          (over-grows steers z context names eqn ms ms1 g h (over-begins steers z context names eqn ms at.seen own)) in
          let e = automaton-ended steers t brings held b eqn z context names lines spot next.0 active weak next.1 (drawn_states t brings (push_values h z) spot words 0 ss rests next.1) ms1 at1 has w in
          subst (λ y. Step steers ms (automaton_end lines spot next.0 (drawn_states t brings y spot words 0 ss rests next.1))) (sym (hide-is z eqn)) (e.0, grows-both ms ms1 e.0 g e.1, e.2)

      behind : (lines : Lines × Sketch) → (let next = states_begin lines.0 lines.1 in StatesPlaced steers t brings held (hide z eqn) spot (words_of (numbers_of ss) lines.0) 0 ss (below StatesOf k) (rests_of lines.0.active next.0) next.1) → (ms' : Marks) × Grows ms ms' × AreMarked steers lines.1 ms' × AreLines steers ms' lines.0 context (both context active)
          → Step steers ms (let next = states_begin lines.0 lines.1 in automaton_end lines.0 spot next.0 (drawn_states t brings (hide z eqn) spot (words_of (numbers_of ss) lines.0) 0 ss (rests_of lines.0.active next.0) next.1))
      behind lines j u =
          let v = jump-hole-marked steers lines.0.shape lines.1 u.0 (both context weak) u.2 in
          at_states lines.0 (states_begin lines.0 lines.1) v.0 j (grows-both ms u.0 v.0 u.1 v.1) v.2 (lines-grow steers u.0 v.0 v.1 lines.0 context (both context active) u.3) v.3

  -- an arm, and those behind it
  arms-next : (c : tree_cons.Cons) (body : Block) (q : Span) (arms : Arms) → BlockDrawn steers t brings held b body → ArmsDrawn steers t brings held b arms → ArmsDrawn steers t brings held b (more_arms c body q arms)
  arms-next c body q arms draws others e z context names k spot w control h s ms o defined placed at l over =
      first (enter_arm t spot w c s) placed (enter-arm-marked steers t spot w c s ms context (both context control) at.marks at.placed l)
    where
      rest : (d : Scope × Sketch) → ArmsPlaced steers t brings held d.0 spot w arms (below Tail k) d.1 → Left steers z context names e ms d → Left steers z context names e ms (drawn_arms t brings d.0 spot w arms d.1)
      rest d p j =
          subst (λ y. Left steers z context names e ms (drawn_arms t brings y spot w arms d.1)) (sym j.1)
          (left-behind steers t brings held b e z context names ms j.2 j.3 (drawn_arms t brings (push_values j.0 z) spot w arms d.1)
          (others e z context names (below Tail k) spot w control j.0 d.1 j.2 (λ p. o (Tail ∷ p)) (λ x i l. defined x i (elim l [ inl m ↦ inl m | inr m ↦ inr (inr m) ])) (subst (λ y. ArmsPlaced steers t brings held y spot w arms (below Tail k) d.1) j.1 p) (at-behind steers z context names ms j.2 s d.1 spot at j.3 j.4) (low-grows steers ms j.2 j.3 w (both context control) l) j.5))

      first : (arm : ℕ × Place × Sketch)
          → (let joined = join_drawn arm.0 (drawn_block t brings (push_values h z) arm.1 body arm.2) in BlockPlaced steers t brings held (push_values h z) arm.1 body (below Head k) arm.2 × ArmsPlaced steers t brings held joined.0 spot w arms (below Tail k) joined.1) → (ms' : Marks) × Grows ms ms' × AreMarked steers arm.2 ms' × Low steers ms' arm.0 (both context control) × IsPlaced steers ms' arm.1 context
          → Left steers z context names e ms (let joined = join_drawn arm.0 (drawn_block t brings (push_values h z) arm.1 body arm.2) in drawn_arms t brings joined.0 spot w arms joined.1)
      first arm p u =
          let at1 = at-behind steers z context names ms u.0 s arm.2 spot at u.1 u.2 in
          let joined = join_drawn arm.0 (drawn_block t brings (push_values h z) arm.1 body arm.2) in
          rest joined p.1 (left-behind steers t brings held b e z context names ms u.0 u.1 joined
          (arm-joined steers t brings held b e z context names body draws (below Head k) h spot w control arm u.0 (λ r. o (Head ∷ r)) (λ x i l. defined x i (elim l [ inl m ↦ inl m | inr m ↦ inr (inl m) ])) p.0 u.2 u.3 u.4 at1.seen (over-grows steers z context names e ms u.0 u.1 h over)))

  abbrev Behind : Eqn → Scope → Sources → NameSources → Words → Sources → Sources → Marks → Rested → Type 0
  Behind e z context names words active weak ms d = RestedMarked steers z context names e words.lines (both context active) (both context weak) ms d

  -- a state, and those behind it
  states-next : (f : List ℕ) (body : Block) (until unless : List Trans) (q : Span) (ss : States) → BlockDrawn steers t brings held b body → ConditionsFit t until → ConditionsFit t unless → StatesDrawn steers t brings held b ss → StatesDrawn steers t brings held b (more_states f body until unless q ss)
  states-next f body until unless q ss draws fit_until fit_unless others e z context names k spot words n active weak h rests s ms o defined strong more less placed at lines has_strong has_weak over =
      first (enter_state words.lines spot n s) placed (enter-state-marked steers words.lines spot n s ms context (both context active) at.marks at.placed lines (λ l. inl l))
    where
      rest : (d : Rested) → StatesPlaced steers t brings held d.1 spot words (n + 1) ss (below Tail k) d.0 d.2 → Behind e z context names words active weak ms d → Behind e z context names words active weak ms (drawn_states t brings d.1 spot words (n + 1) ss d.0 d.2)
      rest d p j =
          subst (λ y. Behind e z context names words active weak ms (drawn_states t brings y spot words (n + 1) ss d.0 d.2)) (sym j.1)
          (rested-behind steers t brings held b e z context names words.lines (both context active) (both context weak) ms j.2 j.3 (drawn_states t brings (push_values j.0 z) spot words (n + 1) ss d.0 d.2)
          (others e z context names (below Tail k) spot words (n + 1) active weak j.0 d.0 d.2 j.2 (λ p. o (Tail ∷ p)) (λ x i l. defined x i (elim l [ inl m ↦ inl m | inr m ↦ inr (inr m) ])) (λ l. strong (inr l)) more (λ l. less (inr l)) (subst (λ y. StatesPlaced steers t brings held y spot words (n + 1) ss (below Tail k) d.0 d.2) j.1 p) (at-behind steers z context names ms j.2 s d.2 spot at j.3 j.4) j.6 j.7
          j.8 j.5))

      first : (entered : Entered × Sketch)
          → (let d = drawn_block t brings (push_values h z) entered.0.body body entered.1 in let weak = drawn_weak t brings d.0 entered.0.place words until d.1 in let joined = join_drawn entered.0.taken (d.0, weak.1) in let left = state_end t brings spot words n until unless entered.0 rests d in
          BlockPlaced steers t brings held (push_values h z) entered.0.body body (below Body (below Head k)) entered.1 × JumpPlaced steers t brings held d.0 entered.0.place words until (below Until (below Head k)) d.1
          × JumpPlaced steers t brings held (pop_values joined.0) spot words unless (below Unless (below Head k)) joined.1 × StatesPlaced steers t brings held left.1 spot words (n + 1) ss (below Tail k) left.0 left.2)
          → (ms' : Marks) × Grows ms ms' × AreMarked steers entered.1 ms' × Low steers ms' entered.0.taken (both context active) × IsPlaced steers ms' entered.0.place context × IsPlaced steers ms' entered.0.body (both context active)
          → Behind e z context names words active weak ms (let left = state_end t brings spot words n until unless entered.0 rests (drawn_block t brings (push_values h z) entered.0.body body entered.1) in drawn_states t brings left.1 spot words (n + 1) ss left.0 left.2)
      first entered p u =
          let at1 = at-behind steers z context names ms u.0 s entered.1 spot at u.1 u.2 in
          let left = state_end t brings spot words n until unless entered.0 rests (drawn_block t brings (push_values h z) entered.0.body body entered.1) in
          rest left p.3 (rested-behind steers t brings held b e z context names words.lines (both context active) (both context weak) ms u.0 u.1 left
          (state-drawn steers t brings held b e z context names body draws until unless (below Head k) h spot words n active weak rests entered u.0 fit_until fit_unless (λ r l. o (Head ∷ Body ∷ r) (elim l [ inl i ↦ elim i [ inl j ↦ inl j | inr j ↦ inr (inl j) ] | inr i ↦ inr (inr i) ]))
          (λ r l. o (Head ∷ Until ∷ r) (elim l [ inl i ↦ elim i [ inl j ↦ inl j | inr j ↦ inr (inl j) ] | inr i ↦ inr (inr i) ])) (λ r. o (Head ∷ Unless ∷ r)) (λ x i l. defined x i (elim l [ inl m ↦ inl m | inr m ↦ inr (inl m) ])) (λ l. strong (inl l)) more (λ l. less (inl l)) p.0 (p.1, p.2)
          (record {
            marks = u.2;
            seen = at1.seen;
            placed = at1.placed;
            inside = u.4;
            body = u.5;
            taken = u.3;
            lines = lines-grow steers ms u.0 u.1 words.lines context (both context active) lines;
            strong_rest = jump-has-grows steers ms u.0 u.1 rests.strong (both context active) has_strong;
            weak_rest = jump-has-grows steers ms u.0 u.1 rests.weak (both context weak) has_weak;
            over = over-grows steers z context names e ms u.0 u.1 h over;
          })))

  -- ---- blocks

  mutual
    pub block-marked : (c : Block) → BlockFits t c → BlockDrawn steers t brings held b c
    block-marked (block ds es) fit z context names k spot s ms o placed at =
        let inner = names_in es names k in
        let u = enter-marked steers t z context names inner ds es spot s ms (λ x q. ap (λ d. if d then k (Named x ∷ []) else names x) q) at in
        let inside = enter t z spot ds es s in
        let defined : Defined steers context inner (some_defines es) (of_definitions ds es inner (below Equations k)) = λ x d l. subst (Leads steers) (sym (ap (λ i. if i then k (Named x ∷ []) else names x) d)) (o (Named x ∷ []) l) in
        let v = eqns-marked es fit inside.0 ds context inner (below Equations k) spot inside.1 u.0 (λ p. o (Equations ∷ p)) defined placed (record { marks = u.2; placed = placed-grows steers ms u.0 u.1 spot context at.placed; seen = u.3 }) u.4 in
        (v.0, grows-both ms u.0 v.0 u.1 v.1, v.2, seen-grows steers inside.0 context inner u.0 v.0 v.1 u.3, owned-grows u.0 v.0 v.1 inside.0 context inner (some_defines es) u.4)

    eqns-marked : (es : Eqns) → EqnsFit t es → (z : Scope) (ds : List Decl) (context : Sources) (names : NameSources) (k : PlaceSources) (spot : Place) (s : Sketch) (ms : Marks) → Owes steers context (in_equations ds es names k) k
        → Defined steers context names (some_defines es) (of_definitions ds es names k) → EqnsPlaced steers t brings held z spot ds es k s → At z context names ms s spot → IsOwned ms z context names (some_defines es) → Step steers ms (drawn_eqns t brings z spot ds es s)
    eqns-marked no_eqn fit z ds context names k spot s ms o defined placed at own = (ms, grows-none ms, at.marks)
    eqns-marked (more_eqns e es) fit z ds context names k spot s ms o defined placed at own =
        let this : Defined steers context names (defines e) (of_definition ds e names (below Head k)) = λ x d l. defined x (or-left (defines e x) (some_defines es x) d) (subst (λ i. Leads steers (both context (if i then of_definition ds e names (below Head k) x else of_definitions ds es names (below Tail k) x))) (sym d) l) in
        let others : Defined steers context names (some_defines es) (of_definitions ds es names (below Tail k)) = λ x d l. defined x (or-right (defines e x) (some_defines es x) d)
        (subst (λ i. Leads steers (both context (if i then of_definition ds e names (below Head k) x else of_definitions ds es names (below Tail k) x))) (sym (elsewhere x d (defines e x) refl)) l) in
        let u = eqn-marked e fit.0 z ds context names (below Head k) spot s ms (λ p. o (Head ∷ p)) this placed.0 at (owned-part ms z context names (some_defines (more_eqns e es)) (defines e) (λ x d. or-left (defines e x) (some_defines es x) d) own) in
        let s1 = drawn_eqn t brings z spot ds e s in
        let v = eqns-marked es fit.2 z ds context names (below Tail k) spot s1 u.0 (λ p. o (Tail ∷ p)) others placed.1 (at-behind steers z context names ms u.0 s s1 spot at u.1 u.2)
        (owned-part u.0 z context names (some_defines (more_eqns e es)) (some_defines es) (λ x d. or-right (defines e x) (some_defines es x) d) (owned-grows ms u.0 u.1 z context names (some_defines (more_eqns e es)) own)) in
        (v.0, grows-both ms u.0 v.0 u.1 v.1, v.2)
      where
        elsewhere : (x : List ℕ) → some_defines es x ≡ true → (i : Bool) → defines e x ≡ i → defines e x ≡ false
        elsewhere x d true i = absurd (not-both (some_defines es x) d (fit.1 x i))
        elsewhere x d false i = i

    eqn-marked : (e : Eqn) → EqnFits t e → EquationDrawn e
    eqn-marked (define q ys e) fit = λ z ds context names k spot s ms o defined placed at own.
        definition-marked steers t brings held z context names (b context) ds ys e (clock_of ds ys e) (below Right k) spot s ms fit (λ p. o (Right ∷ p)) placed at
        (own-each steers ms z context names ys (both context (of_expr e names (below Right k))) own (λ x d l. elim l [ inl i ↦ inl i | inr i ↦ inr (defined x d (inr (inr i))) ]))
    eqn-marked (switch q e arms) fit = switch-drawn q e arms fit.0 (arms-marked arms fit.1)
    eqn-marked (reset q c e) fit = reset-drawn q c e (block-marked c fit.0) fit.1
    eqn-marked (automaton q ss) fit = automaton-drawn q ss (states-marked ss fit)

    arms-marked : (arms : Arms) → ArmsFit t arms → ArmsDrawn steers t brings held b arms
    arms-marked no_arm fit = λ e z context names k spot w control h s ms o defined placed at l over. (h, refl, ms, grows-none ms, at.marks, over)
    arms-marked (more_arms c body q arms) fit = arms-next c body q arms (block-marked body fit.0) (arms-marked arms fit.1)

    states-marked : (ss : States) → StatesFit t ss → StatesDrawn steers t brings held b ss
    states-marked no_state fit = λ e z context names k spot words n active weak h rests s ms o defined strong more less placed at lines has_strong has_weak over. (h, refl, ms, grows-none ms, at.marks, over, lines, has_strong, has_weak)
    states-marked (more_states f body until unless q ss) fit = states-next f body until unless q ss (block-marked body fit.0) fit.1 fit.2 (states-marked ss fit.3)
