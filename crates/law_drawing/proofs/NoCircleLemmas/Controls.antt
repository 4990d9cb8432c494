-- What stands around the blocks of control equations, with marks: arms, the body of a `reset`, transitions and states.
use Rattle.std.proofs.Common.{◌≡◌, refl, Option, Some, ℕ, ◌≤◌, ◌<◌, max, true, List, [], ◌∷◌, inl, inr, arith}
use Rattle.hp_tree.specs.declared.block.Trans.{Trans}
use Rattle.hp_tree.specs.declared.decl.Cons as tree_cons
use Rattle.hp_tree.specs.Blocks.{Eqn}
use Rattle.hp_tree.specs.Expressions.{Expr, constant, variable, last_of, one, two, choose, pre, fby, arrow, when_is, merge, call}
use Rattle.hp_tree.specs.Instant.{Head, Tail, Clock, Place as TreePlace}
use Rattle.hp_tree.specs.Meaning.{defines}
use Rattle.hp_meaning.specs.Causal.Sources.{Sources, both, also, NameSources, PlaceSources, below}
use Rattle.hp_meaning.specs.Causal.WhatIsRead.{of_clock, of_expr, at_expr, of_conditions, at_conditions}
use Rattle.hp_circuit.specs.declared.circuit.Shape.TheVariants.{Truth}
use Rattle.hp_drawing.specs.declared.parts.Jump.{Jump}
use Rattle.hp_drawing.specs.declared.parts.Lines.{Lines}
use Rattle.hp_drawing.specs.declared.parts.Place.{Place}
use Rattle.hp_drawing.specs.declared.parts.Rests.{Rests}
use Rattle.hp_drawing.specs.Told.{Told}
use Rattle.hp_drawing.specs.Sketch.{Sketch, hole, is_gate}
use Rattle.hp_drawing.specs.Places.{within, reset_by, jump_hole, jump_add, transition}
use Rattle.hp_drawing.specs.Scopes.{Scope, Layer, value_in, last_in, push_values, read_by_hidden}
use Rattle.hp_drawing.specs.DrawnExpressions.{Brings, cons_number, drawn, has_cons}
use Rattle.hp_drawing.specs.DrawnBlocks.{Words, drawn_transitions, drawn_jump, enter_arm, reset_begin, enter_state, leave_state}
use Rattle.hp_base.specs.declared.ty.Ty.TheVariants as ty
use Rattle.hp_tree.specs.Programs.{TypeDecl, Node}
use Rattle.law_judged.specs.Typed.Scopes.{Scope as TypeScope}
use Rattle.law_values.specs.Valued.Judged.{Lasts, TestsSound}
use Rattle.law_drawing.specs.NoCircle.Typed.{AreTyped}
use Rattle.law_drawing.specs.NoCircle.Marks.{Mark, Marks, Less, up, Grows, Has, Low, Under, Frame, later, AreMarked, IsPlaced, top, around}
use Rattle.law_drawing.specs.NoCircle.Asked.{Owes, AreSeen, BringsMarked}
use Rattle.law_drawing.specs.NoCircle.Heights.{height}
use Rattle.law_drawing.proofs.NoCircleLemmas.Orders.{most-up, most-most, less-up, less-weak}
use Rattle.law_drawing.proofs.NoCircleLemmas.Steps.{grows-none, grows-both, has-grows, low-grows, under-grows, low-up, low-under, low-next, low-there, low-own, has-under, under-up}
use Rattle.law_drawing.proofs.NoCircleLemmas.Steps as steps
use Rattle.law_drawing.proofs.NoCircleLemmas.Parts.{placed-grows, within-marked, reset-marked}
use Rattle.law_drawing.proofs.NoCircleLemmas.Values.{IsAt, at-behind, bound}
use Rattle.law_drawing.proofs.NoCircleLemmas.Expressions.{expr}
use Rattle.law_drawing.proofs.NoCircleLemmas.Jumps.{JumpHas, JumpUnder, JumpLate, jump-has-grows, jump-under-grows, jump-own, jump-below, Jumped, jump-hole-marked, jump-add-marked, jump-end-marked, transition-marked, AreLines}
use Rattle.law_drawing.proofs.NoCircleLemmas.Joining.{IsOver, over-grows, read-by-marked}

-- ---- arms

pub enter-arm-marked : {F : Frame} (t : Told) (spot : Place) (w : ℕ) (c : tree_cons.Cons) (s : Sketch) (ms : Marks) (context m : Mark) → AreMarked F s ms → IsPlaced ms spot context → Low ms w m
    → (ms' : Marks) × Grows ms ms' × AreMarked F (enter_arm t spot w c s).2 ms' × Low ms' (enter_arm t spot w c s).0 (up 1 m) × IsPlaced ms' (enter_arm t spot w c s).1 context
unfolding enter_arm has_cons
enter-arm-marked t spot w c s ms context m a p l =
    let taken = has_cons t w c s in
    let u = steps.is-marked w (cons_number t c) s ms (up 1 m) a (low-next ms w m l) in
    let v = within-marked spot taken.0 taken.1 u.0 context u.2 (placed-grows ms u.0 u.1 spot context p) (record { mark = up 1 m; has = u.3 }) in
    (v.0, grows-both ms u.0 v.0 u.1 v.1, v.2, low-own v.0 taken.0 (up 1 m) (has-grows u.0 v.0 v.1 taken.0 (up 1 m) u.3), v.3)

-- ---- states

pub enter-state-marked : {F : Frame} (lines : Lines) (spot : Place) (n : ℕ) (s : Sketch) (ms : Marks) (context active : Mark) → AreMarked F s ms → IsPlaced ms spot context → AreLines ms lines context active → Less context active
    → (ms' : Marks) × Grows ms ms' × AreMarked F (enter_state lines spot n s).1 ms' × Low ms' (enter_state lines spot n s).0.taken (up 1 active) × IsPlaced ms' (enter_state lines spot n s).0.place context
    × IsPlaced ms' (enter_state lines spot n s).0.body (up 1 (up 1 active))
unfolding enter_state
enter-state-marked lines spot n s ms context active a p k from =
    let taken = is_gate lines.active.state n s in
    let u = steps.is-marked lines.active.state n s ms (up 1 active) a (has-under ms lines.active.state active (up 1 active) (less-up 0 active) k.active_is.0) in
    let inside = within spot taken.0 taken.1 in
    let v = within-marked spot taken.0 taken.1 u.0 context u.2 (placed-grows ms u.0 u.1 spot context p) (record { mark = up 1 active; has = u.3 }) in
    let g = grows-both ms u.0 v.0 u.1 v.1 in
    let body = reset_by inside.0 lines.active.restart inside.1 in
    let w = reset-marked inside.0 lines.active.restart inside.1 v.0 context (up 1 active) v.2 v.3 (most-most context active (up 1 active) (less-weak context active from) (most-up 1 active))
    (has-under v.0 lines.active.restart active (up 1 active) (less-up 0 active) (has-grows ms v.0 g lines.active.restart active k.active_is.1)) in (
      w.0,
      grows-both ms v.0 w.0 g w.1,
      w.2,
      low-own w.0 taken.0 (up 1 active) (has-grows u.0 w.0 (grows-both u.0 v.0 w.0 v.1 w.1) taken.0 (up 1 active) u.3),
      placed-grows v.0 w.0 w.1 inside.0 context v.3,
      w.3,
    )

-- The jumps of a state stand a step below those of the automaton.
pub leave-state-marked : (F : Frame) (lines : Lines) (n taken : ℕ) (strong weak : Jump) (rests : Rests) (s : Sketch) (ms : Marks) (context active next : Mark) → AreMarked (later (later F (JumpLate rests.weak)) (JumpLate rests.strong)) s ms → AreLines ms lines context (up 1 active) → Less (up 1 context) (up 1 active)
    → Under ms taken (up 1 next) → JumpHas ms strong active → JumpHas ms weak next → JumpHas ms rests.strong (up 1 active) → JumpHas ms rests.weak (up 1 next)
    → (let left = leave_state lines n taken strong weak rests s in (ms' : Marks) × Grows ms ms' × AreMarked (later (later F (JumpLate left.0.weak)) (JumpLate left.0.strong)) left.1 ms' × JumpHas ms' left.0.strong (up 1 active) × JumpHas ms' left.0.weak (up 1 next))
unfolding leave_state
leave-state-marked F lines n taken strong weak rests s ms context active next a k from low has_strong has_weak more_strong more_weak =
    let selected = is_gate lines.selected.state n s in
    let u = steps.is-marked lines.selected.state n s ms (up 1 context) a (low-next ms lines.selected.state context k.selected_is.0) in
    let more = jump_add rests.strong lines.shape selected.0 strong selected.1 in
    let v = jump-add-marked (later F (JumpLate rests.weak)) rests.strong lines.shape selected.0 strong selected.1 u.0 (up 1 active) u.2 (jump-has-grows ms u.0 u.1 rests.strong (up 1 active) more_strong) (has-under u.0 selected.0 (up 1 context) (up 1 active) from u.3)
    (jump-below u.0 strong active (up 1 active) (less-up 0 active) (jump-own u.0 strong active (jump-has-grows ms u.0 u.1 strong active has_strong))) in
    let g = grows-both ms u.0 v.0 u.1 v.1 in
    let turned = steps.weaken (later (later F (JumpLate more.0)) (JumpLate rests.weak)).late more.1 v.0 (λ i q. elim q [ inl o ↦ elim o [ inl y ↦ inl (inl y) | inr y ↦ inr y ] | inr o ↦ inl (inr o) ]) v.2 in
    let less = jump_add rests.weak lines.shape taken weak more.1 in
    let w = jump-add-marked (later F (JumpLate more.0)) rests.weak lines.shape taken weak more.1 v.0 (up 1 next) turned (jump-has-grows ms v.0 g rests.weak (up 1 next) more_weak) (under-grows ms v.0 g taken (up 1 next) low)
    (jump-below v.0 weak next (up 1 next) (less-up 0 next) (jump-own v.0 weak next (jump-has-grows ms v.0 g weak next has_weak))) in (
      w.0,
      grows-both ms v.0 w.0 g w.1,
      steps.weaken (later (later F (JumpLate less.0)) (JumpLate more.0)).late less.1 w.0 (λ i q. elim q [ inl o ↦ elim o [ inl y ↦ inl (inl y) | inr y ↦ inr y ] | inr o ↦ inl (inr o) ]) w.2,
      jump-has-grows v.0 w.0 w.1 more.0 (up 1 active) v.3,
      w.3,
    )

module _ (rank : TreePlace → ℕ) where
  -- ---- bounds that are greater

  pub seen-up : (ms : Marks) (z : Scope) (names : NameSources) (a b : Mark) → a.0 ≤ b.0 → a.1 ≤ b.1 → AreSeen rank ms z a names → AreSeen rank ms z b names
  seen-up ms z names a b f g h = record {
    values = λ x. low-up ms (value_in z x).wire (around rank a (names x)) (around rank b (names x)) (inr (omega (arith, f), g)) (h.values x);
    lasts = λ x. low-up ms (last_in z x).wire a b (inr (f, g)) (h.lasts x);
  }

  -- ---- the body of a `reset`: its condition is said behind it, and what it cuts reads the condition

  -- the mark of a condition with so many steps, and of what stands around in the body
  abbrev pub condition_mark : Mark → ℕ → Sources → Mark
  condition_mark context n condition = up n (around rank context condition)

  abbrev pub reset_context : Mark → ℕ → Sources → Mark
  reset_context context n condition = up 1 (up 1 (condition_mark context n condition))

  pub reset-begin-marked : (F : Frame) (z : Scope) (context : Mark) (names : NameSources) (e : Eqn) (h : Layer) (spot : Place) (n : ℕ) (condition : Sources) (s : Sketch) (ms : Marks) → AreMarked F s ms → IsPlaced ms spot context → IsOver rank z context names e ms h
      → ((x : List ℕ) → defines e x ≡ true → max context.0 (top rank condition) < top rank (names x))
      → (ms' : Marks) × Grows ms ms' × AreMarked (later F (λ k. k ≡ (reset_begin (push_values h z) spot s).0)) (reset_begin (push_values h z) spot s).2 ms' × Has ms' (reset_begin (push_values h z) spot s).0 (condition_mark context n condition) × IsPlaced ms' (reset_begin (push_values h z) spot s).1 (reset_context context n condition)
  unfolding reset_begin
  reset-begin-marked F z context names e h spot n condition s ms a p o f =
      let m = condition_mark context n condition in
      let c = hole Truth s in
      let u = steps.hole-marked Truth s ms m (λ q. inr refl) (steps.weaken (later F (λ k. k ≡ c.0)).late s ms (λ k q. inl q) a) in
      let b = read-by-marked rank z context names e c.0 h c.1 u.0 u.2 (over-grows rank z context names e ms u.0 u.1 h o) (λ x d. let l = f x d in has-under u.0 c.0 m (around rank context (names x)) (inl (omega (arith, l))) u.3) in
      let s1 = read_by_hidden (push_values h z) c.0 c.1 in
      let v = reset-marked spot c.0 s1 u.0 context (up 1 m) b (placed-grows ms u.0 u.1 spot context p) (inr (omega arith, omega arith)) (has-under u.0 c.0 m (up 1 m) (less-up 0 m) u.3) in
      (v.0, grows-both ms u.0 v.0 u.1 v.1, v.2, has-grows u.0 v.0 v.1 c.0 m u.3, v.3)

  -- ---- transitions

  second-below : (c : ℕ) (s t own : Sources) → max c (top rank (both (also s) t)) < top rank own → top rank t ≤ top rank own
  second-below c s t own h = omega (arith, h)

  -- what an expression reads stands no higher than its place
  pub top-below : (e : Expr) (clock : Clock) (context : Mark) (names : NameSources) (k : PlaceSources) → Owes rank context (at_expr e clock names k) k → top rank (of_expr e names k) ≤ top rank (k [])
  top-below (constant q c) clock context names k o = omega arith
  top-below (variable q x) clock context names k o = second-below context.0 (of_clock clock names) (of_expr (variable q x) names k) (k []) (o [])
  top-below (last_of q x) clock context names k o = omega arith
  top-below (one q op a) clock context names k o = second-below context.0 (of_clock clock names) (of_expr (one q op a) names k) (k []) (o [])
  top-below (two q op a b) clock context names k o = second-below context.0 (of_clock clock names) (of_expr (two q op a b) names k) (k []) (o [])
  top-below (choose q a b c) clock context names k o = second-below context.0 (of_clock clock names) (of_expr (choose q a b c) names k) (k []) (o [])
  top-below (pre q a) clock context names k o = omega arith
  top-below (fby q a b) clock context names k o = second-below context.0 (of_clock clock names) (of_expr (fby q a b) names k) (k []) (o [])
  top-below (arrow q a b) clock context names k o = second-below context.0 (of_clock clock names) (of_expr (arrow q a b) names k) (k []) (o [])
  top-below (when_is q a c x) clock context names k o = second-below context.0 (of_clock clock names) (of_expr (when_is q a c x) names k) (k []) (o [])
  top-below (merge q x ps) clock context names k o = second-below context.0 (of_clock clock names) (of_expr (merge q x ps) names k) (k []) (o [])
  top-below (call q f inlined es) clock context names k o = omega arith

  module _ (types : List TypeDecl) (among : List ℕ → Option Node) (t : Told) (known : (f : List ℕ) (n : Node) → among f ≡ Some n → t.nodes f ≡ Some n) (brings : Brings) (b : BringsMarked t brings) (g : TypeScope) (has_last : Lasts) (z : Scope) (S : AreTyped g has_last z) (context : Mark) (names : NameSources) where
    first-below : (own own' : Sources) (more : Sources) (m : Mark) → top rank own ≤ top rank own' → max context.0 (top rank (both own' more)) < m.0 → max context.0 (top rank own) < m.0
    first-below own own' more m h k = omega (arith, h, k)

    others-below : (own more : Sources) (m : Mark) → max context.0 (top rank (both own more)) < m.0 → max context.0 (top rank more) < m.0
    others-below own more m k = omega (arith, k)

    transitions-marked : (F : Frame) (qs : List Trans) (k : PlaceSources) (spot : Place) (words : Words) (m : Mark) (rest : Jump) (s : Sketch) (ms : Marks) → TestsSound types among g has_last qs → Owes rank context (at_conditions qs names k) k
        → max context.0 (top rank (of_conditions qs k)) < m.0 → IsAt rank z context names (later F (JumpLate rest)) ms s spot → JumpHas ms rest m → Jumped (later F (JumpLate (drawn_transitions t brings z spot words qs rest s).0)) ms m (drawn_transitions t brings z spot words qs rest s)
    transitions-marked F [] k spot words m rest s ms ok o over at h = (ms, grows-none ms, at.marks, h)
    transitions-marked F (q ∷ qs) k spot words m rest s ms ok o over at h =
        let here = below Head k in
        let owes : Owes rank context (at_expr q.cond [] names here) here = λ p. o (Head ∷ p) in
        let u = expr rank types among t known brings b g has_last z S context names (later F (JumpLate rest)) q.cond ty.Bool [] here spot ok.0.0 ok.0.1 owes s ms at in
        let c = drawn t brings z spot q.cond s in
        let low = low-under u.0 c.0.wire (bound rank z context names (height q.cond) (of_expr q.cond names here)) m (inl (first-below (of_expr q.cond names here) (k (Head ∷ [])) (of_conditions qs (below Tail k)) m (top-below q.cond [] context names here owes) over)) u.3 in
        let v = transition-marked F words.numbers words.lines.shape rest c.0.wire q c.1 u.0 m u.2 (jump-has-grows ms u.0 u.1 rest m h) low in
        let more = transition words.numbers words.lines.shape rest c.0.wire q c.1 in
        let grown = grows-both ms u.0 v.0 u.1 v.1 in
        let w = transitions-marked F qs (below Tail k) spot words m more.0 more.1 v.0 ok.1 (λ p. o (Tail ∷ p)) (others-below (k (Head ∷ [])) (of_conditions qs (below Tail k)) m over) (at-behind rank z context names ms v.0 s more.1 spot at grown v.2) v.3 in
        (w.0, grows-both ms v.0 w.0 grown w.1, w.2, w.3)

    -- where the first transition goes whose condition holds, else where the other jump goes
    pub jump-marked : (F : Frame) (qs : List Trans) (k : PlaceSources) (spot : Place) (words : Words) (m : Mark) (none : Jump) (s : Sketch) (ms : Marks) → TestsSound types among g has_last qs → Owes rank context (at_conditions qs names k) k
        → max context.0 (top rank (of_conditions qs k)) < m.0 → IsAt rank z context names F ms s spot → JumpUnder ms none m → Jumped F ms m (drawn_jump t brings z spot words qs none s)
    jump-marked F qs k spot words m none s ms ok o over at l =
        let j = jump_hole words.lines.shape s in
        let u = jump-hole-marked words.lines.shape s ms m (λ i q. inr q) (steps.weaken (later F (JumpLate j.0)).late s ms (λ i q. inl q) at.marks) in
        let v = transitions-marked F qs k spot words m j.0 j.1 u.0 ok o over (at-behind rank z context names ms u.0 s j.1 spot at u.1 u.2) u.3 in
        let rest = drawn_transitions t brings z spot words qs j.0 j.1 in
        let grown = grows-both ms u.0 v.0 u.1 v.1 in
        (v.0, grown, jump-end-marked F rest.0 none rest.1 v.0 m v.2 v.3 (jump-under-grows ms v.0 grown none m l), jump-has-grows u.0 v.0 v.1 j.0 m u.3)
