-- What is drawn of blocks and control equations, with marks.
use Rattle.std.proofs.Common.{◌≡◌, ◌||◌, Option, Some, ℕ, suc, ◌+◌, ◌<◌, max, Bool, true, false, if◌then◌else◌, List, [], ◌∷◌, refl, sym, ap, subst, inl, inr, arith}
use Rattle.hp_base.specs.declared.span.Span.{Span}
use Rattle.hp_tree.specs.declared.block.Trans.{Trans}
use Rattle.hp_tree.specs.declared.decl.Cons as tree_cons
use Rattle.hp_tree.specs.Blocks.{Decl, Block, block, Eqns, no_eqn, more_eqns, Eqn, define, switch, reset, automaton, Arms, no_arm, more_arms, States, no_state, more_states}
use Rattle.hp_tree.specs.Expressions.{Expr}
use Rattle.hp_tree.specs.Instant.{Body, Named, Equations, Head, Tail, Right, Test, Arms as ArmsOf, States as StatesOf, Until, Unless, Active, Next, Place as TreePlace}
use Rattle.hp_tree.specs.Meaning.{declares, defines, some_defines, block_defines, clock_of}
use Rattle.hp_meaning.specs.Causal.Sources.{Sources, none, both, also, NameSources, PlaceSources, below}
use Rattle.hp_meaning.specs.Causal.WhatIsRead.{of_clock, of_expr, names_in, names_within, names_in_block, of_conditions, strong_ones, weak_ones, in_arms, in_states, in_block, in_each_arm, at_conditions, of_definition, of_definitions, in_equations, in_equation}
use Rattle.hp_drawing.specs.declared.parts.Entered.{Entered}
use Rattle.hp_drawing.specs.declared.parts.Jump.{Jump}
use Rattle.hp_drawing.specs.declared.parts.Lines.{Lines}
use Rattle.hp_drawing.specs.declared.parts.Place.{Place}
use Rattle.hp_drawing.specs.declared.parts.Value.{Value}
use Rattle.hp_drawing.specs.Told.{Told}
use Rattle.hp_drawing.specs.Planned.{count_states}
use Rattle.hp_drawing.specs.Sketch as sketch
use Rattle.hp_drawing.specs.Sketch.{Sketch, high}
use Rattle.hp_drawing.specs.Places.{new_lines, numbers_of}
use Rattle.hp_drawing.specs.Scopes.{Scope, Layer, push_values, hide, hide_names, names_of_eqn, enter}
use Rattle.hp_drawing.specs.DrawnExpressions.{Brings, drawn}
use Rattle.hp_drawing.specs.DrawnBlocks.{Words, words_of, Rested, rests_of, drawn_block, drawn_eqns, drawn_eqn, drawn_arms, drawn_states, enter_arm, reset_begin, enter_state, state_end, states_begin, automaton_end, join_drawn, leave_hidden}
use Rattle.std.specs.Str.{bytes_eq}
use Rattle.hp_tree.specs.Programs.{TypeDecl, Node}
use Rattle.hp_typing.specs.Scopes.{with_variables}
use Rattle.law_judged.specs.Typed.Scopes.{Scope as TypeScope}
use Rattle.law_values.specs.Valued.Judged.{Lasts, lasts_in, DeclsSound, EqnsSound, EqnSound}
use Rattle.hp_meaning.specs.Contract.Slots.{is_int}
use Rattle.law_drawing.proofs.CarryingLemmas.Layers.{same-name, or-cases}
use Rattle.law_drawing.specs.NoCircle.Typed.{AreTyped}
use Rattle.law_drawing.proofs.NoCircleLemmas.Steps as steps
use Rattle.law_drawing.proofs.NoCircleLemmas.EnterTypes.{enter-typed, enter-first}
use Rattle.law_drawing.proofs.NoCircleLemmas.Hiding.{AnyHole}
use Rattle.law_drawing.specs.Steered.Asked.{BlockFits, EqnsFit, EqnFits, ArmsFit, StatesFit}
use Rattle.law_drawing.proofs.SteeredLemmas.Joining.{hide-is}
use Rattle.law_drawing.proofs.SteeredLemmas.Bodies.{or-left, or-right, not-both}
use Rattle.law_drawing.specs.NoCircle.Marks.{Mark, Marks, Less, up, Grows, Has, Low, Frame, later, AreMarked, IsPlaced, top, around}
use Rattle.law_drawing.specs.NoCircle.Asked.{Owes, BringsMarked, IsOwned, AreFirst, Owed, BlockApart, EqnsApart, EqnApart, ArmsApart, EachApart}
use Rattle.law_drawing.specs.NoCircle.Heights.{height}
use Rattle.law_drawing.proofs.NoCircleLemmas.Steps.{grows-none, grows-both, low-grows, Step}
use Rattle.law_drawing.proofs.NoCircleLemmas.Parts.{placed-grows}
use Rattle.law_drawing.proofs.NoCircleLemmas.Values.{Valued, IsAt, at-behind, seen-grows, bound}
use Rattle.law_drawing.proofs.NoCircleLemmas.Expressions.{expr}
use Rattle.law_drawing.proofs.NoCircleLemmas.Definitions.{definition-marked}
use Rattle.law_drawing.proofs.NoCircleLemmas.Entering.{enter-marked}
use Rattle.law_drawing.proofs.NoCircleLemmas.Joining.{IsOver, over-grows, over-begins, over-late, Left, left-ends}
use Rattle.law_drawing.proofs.NoCircleLemmas.Jumps.{JumpHas, JumpLate, jump-has-grows, jump-hole-marked, AreLines, lines-grow, new-lines-marked}
use Rattle.law_drawing.proofs.NoCircleLemmas.Controls.{condition_mark, reset_context, enter-arm-marked, reset-begin-marked, enter-state-marked}
use Rattle.law_drawing.proofs.NoCircleLemmas.Bodies.{inner-below, first-below, second-below, context-below, owned-part, owned-grows, Defined, own-each, word, inside, rests_late, RestedMarked, BlockDrawn, ArmsDrawn, StatesDrawn, left-behind, rested-behind, arm-joined, reset-joined, reset-ended, state-drawn, automaton-ended}

module _ (rank : TreePlace → ℕ) (types : List TypeDecl) (among : List ℕ → Option Node) (t : Told) (known : (f : List ℕ) (n : Node) → among f ≡ Some n → t.nodes f ≡ Some n) (brings : Brings) (b : BringsMarked t brings) where
  abbrev At : Frame → Scope → Mark → NameSources → Marks → Sketch → Place → Type 0
  At F z context names ms s spot = IsAt rank z context names F ms s spot

  -- the first, or the others, of what is read
  head-below : (c : ℕ) (control here others own : Sources) → max c (top rank (both control (both here others))) < top rank own → max c (top rank (both control here)) < top rank own
  head-below c control here others own h = omega (arith, h)

  tail-below : (c : ℕ) (control here others own : Sources) → max c (top rank (both control (both here others))) < top rank own → max c (top rank (both control others)) < top rank own
  tail-below c control here others own h = omega (arith, h)

  right-below : (context : Mark) (s m own : Sources) (n : ℕ) → max context.0 (top rank (both (also s) m)) < top rank own → Less (up n (around rank context m)) (around rank context own)
  right-below context s m own n h = inl (omega (arith, h))

  -- what a block declares is defined in it
  decls-filled : (g : TypeScope) (es : Eqns) (ds : List Decl) → DeclsSound types among g es ds → (x : List ℕ) → declares ds x ≡ true → some_defines es x ≡ true
  decls-filled g es [] h x d = absurd cc
  decls-filled g es (i ∷ ds) h x d = by (bytes_eq i.name x) refl d (decls-filled g es ds h.1 x)
    where
      by : (q : Bool) → bytes_eq i.name x ≡ q → q || declares ds x ≡ true → (declares ds x ≡ true → some_defines es x ≡ true) → some_defines es x ≡ true
      by true q d more = subst (λ y. some_defines es y ≡ true) (same-name i.name x q) h.0.1.0
      by false q d more = more d

  -- ---- equations, by what is drawn of their parts

  abbrev EquationDrawn : Eqn → Type 1
  EquationDrawn e =
      (F : Frame) (g : TypeScope) (has_last : Lasts) (z : Scope) (S : AreTyped g has_last z) (first : AreFirst z) (ds : List Decl) (context : Mark) (names : NameSources) (k : PlaceSources) (spot : Place) (s : Sketch) (ms : Marks)
      → EqnSound types among g has_last e → Owes rank context (in_equation ds e names k) k → Defined rank context names (defines e) (of_definition ds e names k)
      → At (later F (Owed z (defines e))) z context names ms s spot → IsOwned rank ms z context names (defines e) → Step F ms (drawn_eqn t brings z spot ds e s)

  -- what an equation owes are the holes of what it hides
  hidden-late : (F : Frame) (e : Eqn) (z : Scope) (context : Mark) (names : NameSources) (s : Sketch) (ms : Marks) → AreMarked (later F (Owed z (defines e))) s ms → AreMarked (later F (AnyHole (hide_names z (names_of_eqn e) []))) s ms
  hidden-late F e z context names s ms a = steps.weaken (later F (AnyHole (hide_names z (names_of_eqn e) []))).late s ms (λ i q. elim q [ inl o ↦ inl o | inr o ↦ inr (over-late rank z context names e i o) ]) a

  switch-drawn : (q : Span) (e : Expr) (arms : Arms) → ArmsDrawn rank types among t known brings b arms → EquationDrawn (switch q e arms)
  switch-drawn q e arms draws F g has_last z S first ds context names k spot s ms ok o defined at own =
      behind (drawn t brings z spot e s) (expr rank types among t known brings b g has_last z S context names (later F (Owed z (defines eqn))) e ok.1.0.0 [] (below Test k) spot ok.0 ok.1.0.1.0 (λ p. o (Test ∷ p)) s ms at)
    where
      eqn : Eqn
      eqn = switch q e arms

      control : Sources
      control = of_expr e names (below Test k)

      h : Layer
      h = hide_names z (names_of_eqn eqn) []

      behind : (c : Value × Sketch) → Valued (later F (Owed z (defines eqn))) ms (bound rank z context names (height e) control) (is_int ok.1.0.0) c → Step F ms (leave_hidden (drawn_arms t brings (hide z eqn) spot c.0.wire arms c.1))
      behind c u =
          let over = over-grows rank z context names eqn ms u.0 u.1 h (over-begins rank z context names eqn ms at.seen own (λ x d. context-below rank context.0 (of_definition ds eqn names k x) (names x) (defined x d)) first) in
          let v = draws F g has_last eqn z S context names (below ArmsOf k) spot c.0.wire (height e) control h c.1 u.0 ok.1.1 (λ p. second-below rank context.0 control (in_each_arm arms (names_within eqn names) (below ArmsOf k) p) (k (ArmsOf ∷ p)) (o (ArmsOf ∷ p))) defined
          (at-behind rank z context names ms u.0 s c.1 spot at u.1 (hidden-late F eqn z context names c.1 u.0 u.2)) u.3 over in
          let d = drawn_arms t brings (push_values h z) spot c.0.wire arms c.1 in
          let w = left-ends rank z context names eqn F d u.0 v in
          subst (λ y. Step F ms (leave_hidden (drawn_arms t brings y spot c.0.wire arms c.1))) (sym (hide-is z eqn)) (w.0, grows-both ms u.0 w.0 u.1 w.1, w.2)

  reset-drawn : (q : Span) (c : Block) (e : Expr) → BlockDrawn rank types among t known brings b c → EquationDrawn (reset q c e)
  reset-drawn q c e draws F g has_last z S first ds context names k spot s ms ok o defined at own =
      subst (λ y. Step F ms (let i = reset_begin y spot s in let d = drawn t brings z spot e (leave_hidden (join_drawn high (drawn_block t brings y i.1 c i.2))) in sketch.define i.0 d.0 d.1)) (sym (hide-is z eqn))
      (behind (reset_begin (push_values h z) spot s) (reset-begin-marked rank (later F (AnyHole h)) z context names eqn h spot (suc (height e)) control s ms (hidden-late F eqn z context names s ms at.marks) at.placed over
      (λ x d. first-below rank context.0 control (k (Body ∷ Named x ∷ [])) (names x) (defined x d))))
    where
      eqn : Eqn
      eqn = reset q c e

      control : Sources
      control = of_expr e names (below Test k)

      h : Layer
      h = hide_names z (names_of_eqn eqn) []

      over : IsOver rank z context names eqn ms h
      over = over-begins rank z context names eqn ms at.seen own (λ x d. context-below rank context.0 (of_definition ds eqn names k x) (names x) (defined x d)) first

      behind : (i : ℕ × Place × Sketch)
          → (ms' : Marks) × Grows ms ms' × AreMarked (later (later F (AnyHole h)) (λ j. j ≡ i.0)) i.2 ms' × Has ms' i.0 (condition_mark rank context (suc (height e)) control) × IsPlaced ms' i.1 (reset_context rank context (suc (height e)) control)
          → Step F ms (let d = drawn t brings z spot e (leave_hidden (join_drawn high (drawn_block t brings (push_values h z) i.1 c i.2))) in sketch.define i.0 d.0 d.1)
      behind i u =
          let B = later F (λ j. j ≡ i.0) in
          let turned = steps.weaken (later B (AnyHole h)).late i.2 u.0 (λ j r. elim r [ inl y ↦ elim y [ inl w ↦ inl (inl w) | inr w ↦ inr w ] | inr y ↦ inl (inr y) ]) u.2 in
          let at1 = at-behind rank z context names ms u.0 s i.2 spot at u.1 turned in
          let left = reset-joined rank types among t known brings b g has_last eqn z S context names B c draws (below Body k) h (suc (height e)) control i u.0 ok.1
          (λ p. inner-below rank context.0 control (in_block c (names_within eqn names) (below Body k) p) (k (Body ∷ p)) (o (Body ∷ p))) defined turned u.4 at1.seen (over-grows rank z context names eqn ms u.0 u.1 h over) in
          let w = reset-ended rank types among t known brings b g has_last eqn z S context names F e (below Test k) spot i.0 i.2 (join_drawn high (drawn_block t brings (push_values h z) i.1 c i.2)) u.0 ok.0 (λ p. o (Test ∷ p)) at1 u.3 left in
          (w.0, grows-both ms u.0 w.0 u.1 w.1, w.2)

  automaton-drawn : (q : Span) (ss : States) → StatesDrawn rank types among t known brings b ss → EquationDrawn (automaton q ss)
  automaton-drawn q ss draws F g has_last z S first ds context names k spot s ms ok o defined at own =
      behind (new_lines (count_states ss) spot s) (new-lines-marked (later F (Owed z (defines eqn))) (count_states ss) spot s ms context (word rank context active) at.marks at.placed)
    where
      eqn : Eqn
      eqn = automaton q ss

      active : Sources
      active = k (Active ∷ [])

      weak : Sources
      weak = k (Next ∷ [])

      h : Layer
      h = hide_names z (names_of_eqn eqn) []

      strong-below : max context.0 (top rank (strong_ones ss (below StatesOf k))) < top rank active
      strong-below = o (Active ∷ [])

      weak-below : max context.0 (top rank (both active (weak_ones ss (below StatesOf k)))) < top rank weak
      weak-below = o (Next ∷ [])

      at_states : (lines : Lines) (next : Jump × Sketch) (ms1 : Marks) → Grows ms ms1 → AreMarked (later (rests_late rank F (rests_of lines.active next.0)) (AnyHole h)) next.1 ms1 → AreLines ms1 lines context (word rank context active) → JumpHas ms1 next.0 (word rank context weak)
          → Step F ms (automaton_end lines spot next.0 (drawn_states t brings (hide z eqn) spot (words_of (numbers_of ss) lines) 0 ss (rests_of lines.active next.0) next.1))
      at_states lines next ms1 grown a k1 has =
          let at1 = at-behind rank z context names ms ms1 s next.1 spot at grown a in
          let words = words_of (numbers_of ss) lines in
          let rests = rests_of lines.active next.0 in
          let w = draws F g has_last eqn z S context names (below StatesOf k) spot words 0 active weak h rests next.1 ms1 ok (λ p. o (StatesOf ∷ p)) defined strong-below weak-below at1 k1 k1.active_is has
          (over-grows rank z context names eqn ms ms1 grown h (over-begins rank z context names eqn ms at.seen own (λ x d. context-below rank context.0 (of_definition ds eqn names k x) (names x) (defined x d)) first)) in
          let e = automaton-ended rank types among t known brings b g has_last eqn z S context names F lines spot next.0 active weak next.1 (drawn_states t brings (push_values h z) spot words 0 ss rests next.1) ms1
          (context-below rank context.0 (strong_ones ss (below StatesOf k)) active strong-below) (first-below rank context.0 active (weak_ones ss (below StatesOf k)) weak weak-below) at1 has w in
          subst (λ y. Step F ms (automaton_end lines spot next.0 (drawn_states t brings y spot words 0 ss rests next.1))) (sym (hide-is z eqn)) (e.0, grows-both ms ms1 e.0 grown e.1, e.2)

      turned : (lines : Lines) (next : Jump) (i : ℕ) → (later (later (later F (Owed z (defines eqn))) (JumpLate lines.active)) (JumpLate next)).late i → (later (rests_late rank F (rests_of lines.active next)) (AnyHole h)).late i
      turned lines next i (inl (inl (inl r))) = inl (inl (inl r))
      turned lines next i (inl (inl (inr r))) = inr (over-late rank z context names eqn i r)
      turned lines next i (inl (inr r)) = inl (inr r)
      turned lines next i (inr r) = inl (inl (inr r))

      behind : (lines : Lines × Sketch) → (ms' : Marks) × Grows ms ms' × AreMarked (later (later F (Owed z (defines eqn))) (JumpLate lines.0.active)) lines.1 ms' × AreLines ms' lines.0 context (word rank context active)
          → Step F ms (let next = states_begin lines.0 lines.1 in automaton_end lines.0 spot next.0 (drawn_states t brings (hide z eqn) spot (words_of (numbers_of ss) lines.0) 0 ss (rests_of lines.0.active next.0) next.1))
      behind lines u =
          let next = states_begin lines.0 lines.1 in
          let L = later (later F (Owed z (defines eqn))) (JumpLate lines.0.active) in
          let v = jump-hole-marked lines.0.shape lines.1 u.0 (word rank context weak) (λ i r. inr r) (steps.weaken (later L (JumpLate next.0)).late lines.1 u.0 (λ i r. inl r) u.2) in
          let marks = steps.weaken (later (rests_late rank F (rests_of lines.0.active next.0)) (AnyHole h)).late next.1 v.0 (turned lines.0 next.0) v.2 in
          at_states lines.0 next v.0 (grows-both ms u.0 v.0 u.1 v.1) marks (lines-grow u.0 v.0 v.1 lines.0 context (word rank context active) u.3) v.3

  -- an arm, and those behind it
  arms-next : (c : tree_cons.Cons) (body : Block) (q : Span) (arms : Arms) → BlockDrawn rank types among t known brings b body → ArmsDrawn rank types among t known brings b arms → ArmsDrawn rank types among t known brings b (more_arms c body q arms)
  arms-next c body q arms draws others F g has_last e z S context names k spot w n control h s ms ok o defined at l over =
      first (enter_arm t spot w c s) (enter-arm-marked t spot w c s ms context (up n (around rank context control)) at.marks at.placed l)
    where
      here : NameSources
      here x = if block_defines body x then k (Head ∷ Named x ∷ []) else none

      rest : (d : Scope × Sketch) → Left rank z context names e F ms d → Left rank z context names e F ms (drawn_arms t brings d.0 spot w arms d.1)
      rest d j =
          subst (λ y. Left rank z context names e F ms (drawn_arms t brings y spot w arms d.1)) (sym j.1)
          (left-behind rank types among t known brings b g has_last e z S context names ms j.2 j.3 (drawn_arms t brings (push_values j.0 z) spot w arms d.1)
          (others F g has_last e z S context names (below Tail k) spot w n control j.0 d.1 j.2 ok.1.1 (λ p. o (Tail ∷ p)) (λ x i. tail-below context.0 control (here x) (in_arms arms (below Tail k) x) (names x) (defined x i)) (at-behind rank z context names ms j.2 s d.1 spot at j.3 j.4)
          (low-grows ms j.2 j.3 w (up n (around rank context control)) l) j.5))

      first : (arm : ℕ × Place × Sketch) → (ms' : Marks) × Grows ms ms' × AreMarked (later F (AnyHole h)) arm.2 ms' × Low ms' arm.0 (up 1 (up n (around rank context control))) × IsPlaced ms' arm.1 context
          → Left rank z context names e F ms (let joined = join_drawn arm.0 (drawn_block t brings (push_values h z) arm.1 body arm.2) in drawn_arms t brings joined.0 spot w arms joined.1)
      first arm u =
          let at1 = at-behind rank z context names ms u.0 s arm.2 spot at u.1 u.2 in
          let joined = join_drawn arm.0 (drawn_block t brings (push_values h z) arm.1 body arm.2) in
          rest joined (left-behind rank types among t known brings b g has_last e z S context names ms u.0 u.1 joined
          (arm-joined rank types among t known brings b g has_last e z S context names F body draws (below Head k) h spot n control arm u.0 ok.1.0 (λ r. o (Head ∷ r)) (λ x i. head-below context.0 control (here x) (in_arms arms (below Tail k) x) (names x) (defined x i)) u.2 u.3 u.4 at1.seen
          (over-grows rank z context names e ms u.0 u.1 h over)))

  abbrev Behind : Frame → Eqn → Scope → Mark → NameSources → Words → Sources → Sources → Marks → Rested → Type 0
  Behind F e z context names words active weak ms d = RestedMarked rank F z context names e words.lines active weak ms d

  both-first : (c : ℕ) (x y own : Sources) → max c (top rank (both x y)) < top rank own → max c (top rank x) < top rank own
  both-first c x y own h = omega (arith, h)

  both-second : (c : ℕ) (x y own : Sources) → max c (top rank (both x y)) < top rank own → max c (top rank y) < top rank own
  both-second c x y own h = omega (arith, h)

  -- a state, and those behind it
  states-next : (f : List ℕ) (body : Block) (until unless : List Trans) (q : Span) (ss : States) → BlockDrawn rank types among t known brings b body → StatesDrawn rank types among t known brings b ss → StatesDrawn rank types among t known brings b (more_states f body until unless q ss)
  states-next f body until unless q ss draws others F g has_last e z S context names k spot words n active weak h rests s ms ok o defined strong more at lines has_strong has_weak over =
      first (enter_state words.lines spot n s) (enter-state-marked words.lines spot n s ms context (word rank context active) at.marks at.placed lines (inl above))
    where
      here : NameSources
      here x = if block_defines body x then k (Head ∷ Body ∷ Named x ∷ []) else none

      strong-here : Sources
      strong-here = of_conditions unless (below Unless (below Head k))

      strong-others : Sources
      strong-others = strong_ones ss (below Tail k)

      weak-here : Sources
      weak-here = of_conditions until (below Until (below Head k))

      weak-others : Sources
      weak-others = weak_ones ss (below Tail k)

      above : context.0 < max context.0 (top rank active)
      above = let f = context-below rank context.0 (strong_ones (more_states f body until unless q ss) k) active strong in omega (arith, f)

      rest : (d : Rested) → Behind F e z context names words active weak ms d → Behind F e z context names words active weak ms (drawn_states t brings d.1 spot words (n + 1) ss d.0 d.2)
      rest d j =
          subst (λ y. Behind F e z context names words active weak ms (drawn_states t brings y spot words (n + 1) ss d.0 d.2)) (sym j.1)
          (rested-behind rank types among t known brings b g has_last e z S context names words.lines active weak ms j.2 j.3 (drawn_states t brings (push_values j.0 z) spot words (n + 1) ss d.0 d.2)
          (others F g has_last e z S context names (below Tail k) spot words (n + 1) active weak j.0 d.0 d.2 j.2 ok.1.1.1.1 (λ p. o (Tail ∷ p)) (λ x i. tail-below context.0 active (here x) (in_states ss (below Tail k) x) (names x) (defined x i))
          (both-second context.0 strong-here strong-others active strong)
          (tail-below context.0 active weak-here weak-others weak more) (at-behind rank z context names ms j.2 s d.2 spot at j.3 j.4) j.6 j.7 j.8 j.5))

      first : (entered : Entered × Sketch)
          → (ms' : Marks) × Grows ms ms' × AreMarked (later (rests_late rank F rests) (AnyHole h)) entered.1 ms' × Low ms' entered.0.taken (up 1 (word rank context active)) × IsPlaced ms' entered.0.place context × IsPlaced ms' entered.0.body (inside rank context active)
          → Behind F e z context names words active weak ms (let left = state_end t brings spot words n until unless entered.0 rests (drawn_block t brings (push_values h z) entered.0.body body entered.1) in drawn_states t brings left.1 spot words (n + 1) ss left.0 left.2)
      first entered u =
          let at1 = at-behind rank z context names ms u.0 s entered.1 spot at u.1 u.2 in
          let left = state_end t brings spot words n until unless entered.0 rests (drawn_block t brings (push_values h z) entered.0.body body entered.1) in
          rest left (rested-behind rank types among t known brings b g has_last e z S context names words.lines active weak ms u.0 u.1 left
          (state-drawn rank types among t known brings b g has_last e z S context names F body draws until unless (below Head k) h spot words n active weak rests entered u.0 ok.1.0 ok.1.1.0 ok.1.1.1.0
          (λ r. inner-below rank context.0 active (in_block body (names_within e names) (below Body (below Head k)) r) (k (Head ∷ Body ∷ r)) (o (Head ∷ Body ∷ r)))
          (λ r. inner-below rank context.0 active (at_conditions until (names_in_block body (names_within e names) (below Body (below Head k))) (below Until (below Head k)) r) (k (Head ∷ Until ∷ r)) (o (Head ∷ Until ∷ r)))
          (λ r. o (Head ∷ Unless ∷ r)) (λ x i. head-below context.0 active (here x) (in_states ss (below Tail k) x) (names x) (defined x i)) (both-first context.0 strong-here strong-others active strong) (head-below context.0 active weak-here weak-others weak more)
          (record {
            marks = u.2;
            seen = at1.seen;
            placed = at1.placed;
            within = u.4;
            body = u.5;
            taken = u.3;
            lines = lines-grow ms u.0 u.1 words.lines context (word rank context active) lines;
            strong_rest = jump-has-grows ms u.0 u.1 rests.strong (word rank context active) has_strong;
            weak_rest = jump-has-grows ms u.0 u.1 rests.weak (word rank context weak) has_weak;
            over = over-grows rank z context names e ms u.0 u.1 h over;
          })))

  -- ---- blocks

  -- what some equations owe, the first and the others
  owed-first : (F : Frame) (z : Scope) (e : Eqn) (es : Eqns) (i : ℕ) → (later F (Owed z (some_defines (more_eqns e es)))).late i → (later (later F (Owed z (some_defines es))) (Owed z (defines e))).late i
  owed-first F z e es i (inl q) = inl (inl q)
  owed-first F z e es i (inr (x, n, own, part, same, d)) = or-cases (defines e x) (some_defines es x) d (λ r. inr (x, n, own, part, same, r)) (λ r. inl (inr (x, n, own, part, same, r)))

  mutual
    pub block-marked : (c : Block) → BlockFits t c → BlockApart c → BlockDrawn rank types among t known brings b c
    block-marked (block ds es) fit apart F g has_last z S context names k spot s ms ok o at =
        let inner = names_in es names k in
        let u = enter-marked rank t z context names inner F ds es spot s ms apart.0 (decls-filled (with_variables g ds) es ds ok.0) (λ x q. ap (λ d. if d then k (Named x ∷ []) else names x) q) at in
        let within = enter t z spot ds es s in
        let typed = enter-typed types among t g has_last z S ds es spot s ok.0 ok.1.0 in
        let defined : Defined rank context inner (some_defines es) (of_definitions ds es inner (below Equations k)) = λ x d. subst (λ m. max context.0 (top rank (of_definitions ds es inner (below Equations k) x)) < top rank m) (sym (ap (λ i. if i then k (Named x ∷ []) else names x) d)) (o (Named x ∷ [])) in
        let v = eqns-marked es fit apart.1 F (with_variables g ds) (lasts_in ds has_last) within.0 typed (enter-first t z spot ds es s) ds context inner (below Equations k) spot within.1 u.0 ok.1.1 (λ p. o (Equations ∷ p)) defined
        (record { marks = u.2; placed = placed-grows ms u.0 u.1 spot context at.placed; seen = u.3 }) u.4 in
        (v.0, grows-both ms u.0 v.0 u.1 v.1, v.2, seen-grows rank within.0 context inner u.0 v.0 v.1 u.3, owned-grows rank u.0 v.0 v.1 within.0 context inner (some_defines es) u.4, typed)

    eqns-marked : (es : Eqns) → EqnsFit t es → EqnsApart es → (F : Frame) (g : TypeScope) (has_last : Lasts) (z : Scope) (S : AreTyped g has_last z) (first : AreFirst z) (ds : List Decl) (context : Mark) (names : NameSources) (k : PlaceSources) (spot : Place) (s : Sketch) (ms : Marks)
        → EqnsSound types among g has_last es → Owes rank context (in_equations ds es names k) k → Defined rank context names (some_defines es) (of_definitions ds es names k) → At (later F (Owed z (some_defines es))) z context names ms s spot
        → IsOwned rank ms z context names (some_defines es) → Step F ms (drawn_eqns t brings z spot ds es s)
    eqns-marked no_eqn fit apart F g has_last z S first ds context names k spot s ms ok o defined at own = (ms, grows-none ms, steps.weaken F.late s ms (λ i q. elim q [ inl r ↦ r | inr r ↦ absurd (let c = r.5 in cc) ]) at.marks)
    eqns-marked (more_eqns e es) fit apart F g has_last z S first ds context names k spot s ms ok o defined at own =
        let this : Defined rank context names (defines e) (of_definition ds e names (below Head k)) = λ x d. subst (λ i. max context.0 (top rank (if i then of_definition ds e names (below Head k) x else of_definitions ds es names (below Tail k) x)) < top rank (names x)) d (defined x (or-left (defines e x) (some_defines es x) d)) in
        let others : Defined rank context names (some_defines es) (of_definitions ds es names (below Tail k)) = λ x d.
        subst (λ i. max context.0 (top rank (if i then of_definition ds e names (below Head k) x else of_definitions ds es names (below Tail k) x)) < top rank (names x)) (elsewhere x d (defines e x) refl) (defined x (or-right (defines e x) (some_defines es x) d)) in
        let H = later F (Owed z (some_defines es)) in
        let start : At (later H (Owed z (defines e))) z context names ms s spot = record { marks = steps.weaken (later H (Owed z (defines e))).late s ms (owed-first F z e es) at.marks; placed = at.placed; seen = at.seen } in
        let u = eqn-marked e fit.0 apart.0 H g has_last z S first ds context names (below Head k) spot s ms ok.0 (λ p. o (Head ∷ p)) this start (owned-part rank ms z context names (some_defines (more_eqns e es)) (defines e) (λ x d. or-left (defines e x) (some_defines es x) d) own) in
        let s1 = drawn_eqn t brings z spot ds e s in
        let v = eqns-marked es fit.2 apart.1 F g has_last z S first ds context names (below Tail k) spot s1 u.0 ok.1 (λ p. o (Tail ∷ p)) others (at-behind rank z context names ms u.0 s s1 spot at u.1 u.2)
        (owned-part rank u.0 z context names (some_defines (more_eqns e es)) (some_defines es) (λ x d. or-right (defines e x) (some_defines es x) d) (owned-grows rank ms u.0 u.1 z context names (some_defines (more_eqns e es)) own)) in
        (v.0, grows-both ms u.0 v.0 u.1 v.1, v.2)
      where
        elsewhere : (x : List ℕ) → some_defines es x ≡ true → (i : Bool) → defines e x ≡ i → defines e x ≡ false
        elsewhere x d true i = absurd (not-both (some_defines es x) d (fit.1 x i))
        elsewhere x d false i = i

    eqn-marked : (e : Eqn) → EqnFits t e → EqnApart e → EquationDrawn e
    eqn-marked (define q ys e) fit apart = λ F g has_last z S first ds context names k spot s ms ok o defined at own.
        definition-marked rank types among t known brings b g has_last z S context names F ds ys e (clock_of ds ys e) (below Right k) spot s ms first ok (λ p. o (Right ∷ p)) at
        (own-each rank ms z context names ys (bound rank z context names (height e) (of_expr e names (below Right k))) own
        (λ x d. right-below context (of_clock (clock_of ds ys e) names) (of_expr e names (below Right k)) (names x) (height e) (defined x d)))
    eqn-marked (switch q e arms) fit apart = switch-drawn q e arms (arms-marked arms fit.1 apart)
    eqn-marked (reset q c e) fit apart = reset-drawn q c e (block-marked c fit.0 apart)
    eqn-marked (automaton q ss) fit apart = automaton-drawn q ss (states-marked ss fit apart)

    arms-marked : (arms : Arms) → ArmsFit t arms → ArmsApart arms → ArmsDrawn rank types among t known brings b arms
    arms-marked no_arm fit apart = λ F g has_last e z S context names k spot w n control h s ms ok o defined at l over. (h, refl, ms, grows-none ms, at.marks, over)
    arms-marked (more_arms c body q arms) fit apart = arms-next c body q arms (block-marked body fit.0 apart.0) (arms-marked arms fit.1 apart.1)

    states-marked : (ss : States) → StatesFit t ss → EachApart ss → StatesDrawn rank types among t known brings b ss
    states-marked no_state fit apart = λ F g has_last e z S context names k spot words n active weak h rests s ms ok o defined strong more at lines has_strong has_weak over. (h, refl, ms, grows-none ms, at.marks, over, lines, has_strong, has_weak)
    states-marked (more_states f body until unless q ss) fit apart = states-next f body until unless q ss (block-marked body fit.0 apart.0) (states-marked ss fit.3 apart.1)
