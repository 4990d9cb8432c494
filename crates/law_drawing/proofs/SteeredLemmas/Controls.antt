-- What stands around the blocks of control equations, with marks: arms, the body of a `reset`, transitions and states.
use Rattle.std.proofs.Common.{◌≡◌, ℕ, true, List, [], ◌∷◌, inl, inr}
use Rattle.hp_tree.specs.declared.block.Trans.{Trans}
use Rattle.hp_tree.specs.declared.decl.Cons as tree_cons
use Rattle.hp_tree.specs.Blocks.{Eqn}
use Rattle.hp_tree.specs.Expressions.{Expr, constant, variable, last_of, one, two, choose, pre, fby, arrow, when_is, merge, call}
use Rattle.hp_tree.specs.Instant.{Head, Tail, Clock}
use Rattle.hp_tree.specs.Meaning.{defines}
use Rattle.hp_meaning.specs.Causal.Sources.{Sources, both, NameSources, PlaceSources, below}
use Rattle.hp_meaning.specs.Causal.WhatIsRead.{of_expr, at_expr, of_conditions, at_conditions}
use Rattle.hp_circuit.specs.declared.circuit.Shape.TheVariants.{Truth}
use Rattle.hp_drawing.specs.declared.parts.Jump.{Jump}
use Rattle.hp_drawing.specs.declared.parts.Lines.{Lines}
use Rattle.hp_drawing.specs.declared.parts.Place.{Place}
use Rattle.hp_drawing.specs.declared.parts.Rests.{Rests}
use Rattle.hp_drawing.specs.Told.{Told}
use Rattle.hp_drawing.specs.Sketch.{Sketch, hole, is_gate}
use Rattle.hp_drawing.specs.Places.{within, reset_by, jump_hole, jump_add, transition}
use Rattle.hp_drawing.specs.Scopes.{Scope, Layer, value_in, last_in, push_values, read_by_hidden}
use Rattle.hp_drawing.specs.DrawnExpressions.{Brings, cons_number, drawn, has_cons}
use Rattle.hp_drawing.specs.DrawnBlocks.{Words, drawn_transitions, drawn_jump, enter_arm, reset_begin, enter_state, leave_state}
use Rattle.law_drawing.specs.Steered.Marks.{Steering, Marks, Grows, Has, Leads, Low, AreMarked, IsPlaced}
use Rattle.law_drawing.specs.Steered.Placed.{Held, ConditionsPlaced, JumpPlaced}
use Rattle.law_drawing.specs.Steered.Asked.{ConditionsFit, Owes, AreSeen, BringsMarked}
use Rattle.law_drawing.proofs.SteeredLemmas.Steps.{grows-none, grows-both, has-grows, low-grows, low-up, low-there, low-own}
use Rattle.law_drawing.proofs.SteeredLemmas.Steps as steps
use Rattle.law_drawing.proofs.SteeredLemmas.Parts.{placed-grows, within-marked, reset-marked}
use Rattle.law_drawing.proofs.SteeredLemmas.Values.{IsAt, at-behind}
use Rattle.law_drawing.proofs.SteeredLemmas.Expressions.{expr}
use Rattle.law_drawing.proofs.SteeredLemmas.Jumps.{JumpHas, JumpLow, jump-has-grows, jump-low-grows, jump-own, Jumped, jump-hole-marked, jump-add-marked, jump-end-marked, transition-marked, AreLines}
use Rattle.law_drawing.proofs.SteeredLemmas.Joining.{IsOver, over-grows, read-by-marked}

module _ (steers : Steering) where
  -- ---- bounds that are greater

  pub placed-up : (ms : Marks) (p : Place) (a b : Sources) → (Leads steers a → Leads steers b) → IsPlaced steers ms p a → IsPlaced steers ms p b
  placed-up ms p a b f h = record { cut = low-up steers ms p.cut a b f h.cut; here = h.here; kept = h.kept }

  pub seen-up : (ms : Marks) (z : Scope) (names : NameSources) (a b : Sources) → (Leads steers a → Leads steers b) → AreSeen steers ms z a names → AreSeen steers ms z b names
  seen-up ms z names a b f h = record {
    values = λ x. low-up steers ms (value_in z x).wire (both a (names x)) (both b (names x)) (λ l. elim l [ inl i ↦ inl (f i) | inr i ↦ inr i ]) (h.values x);
    lasts = λ x. low-up steers ms (last_in z x).wire a b f (h.lasts x);
  }

  -- ---- arms

  pub enter-arm-marked : (t : Told) (spot : Place) (w : ℕ) (c : tree_cons.Cons) (s : Sketch) (ms : Marks) (context m : Sources) → AreMarked steers s ms → IsPlaced steers ms spot context → Low steers ms w m
      → (ms' : Marks) × Grows ms ms' × AreMarked steers (enter_arm t spot w c s).2 ms' × Low steers ms' (enter_arm t spot w c s).0 m × IsPlaced steers ms' (enter_arm t spot w c s).1 context
  unfolding enter_arm has_cons
  enter-arm-marked t spot w c s ms context m a p l =
      let taken = has_cons t w c s in
      let u = steps.is-marked steers w (cons_number t c) s ms m a l in
      let v = within-marked steers spot taken.0 taken.1 u.0 context u.2 (placed-grows steers ms u.0 u.1 spot context p) (low-there steers u.0 taken.0 m u.3) in
      (v.0, grows-both ms u.0 v.0 u.1 v.1, v.2, low-grows steers u.0 v.0 v.1 taken.0 m u.3, v.3)

  -- ---- the body of a `reset`: its condition is said behind it, and what it cuts reads the condition

  pub reset-begin-marked : (z : Scope) (context : Sources) (names : NameSources) (e : Eqn) (h : Layer) (spot : Place) (condition : Sources) (s : Sketch) (ms : Marks) → AreMarked steers s ms → IsPlaced steers ms spot context → IsOver steers z context names e ms h
      → ((x : List ℕ) → defines e x ≡ true → Leads steers condition → Leads steers (names x))
      → (ms' : Marks) × Grows ms ms' × AreMarked steers (reset_begin (push_values h z) spot s).2 ms' × Has ms' (reset_begin (push_values h z) spot s).0 (both context condition) × IsPlaced steers ms' (reset_begin (push_values h z) spot s).1 (both context condition)
  unfolding reset_begin
  reset-begin-marked z context names e h spot condition s ms a p o f =
      let m = both context condition in
      let c = hole Truth s in
      let u = steps.hole-marked steers Truth s ms m a in
      let low = low-own steers u.0 c.0 m u.3 in
      let b = read-by-marked steers z context names e c.0 h c.1 u.0 u.2 (over-grows steers z context names e ms u.0 u.1 h o) (λ x d. low-up steers u.0 c.0 m (both context (names x)) (λ l. elim l [ inl i ↦ inl i | inr i ↦ inr (f x d i) ]) low) in
      let s1 = read_by_hidden (push_values h z) c.0 c.1 in
      let v = reset-marked steers spot c.0 s1 u.0 context m b (placed-grows steers ms u.0 u.1 spot context p) low in
      (v.0, grows-both ms u.0 v.0 u.1 v.1, v.2, has-grows u.0 v.0 v.1 c.0 m u.3, placed-up v.0 (reset_by spot c.0 s1).0 (both context m) m (λ l. elim l [ inl i ↦ inl i | inr i ↦ i ]) v.3)

  -- ---- transitions

  -- what an expression reads is what its place reads
  pub top-leads : (e : Expr) (clock : Clock) (context : Sources) (names : NameSources) (k : PlaceSources) → Owes steers context (at_expr e clock names k) k → Leads steers (of_expr e names k) → Leads steers (k [])
  top-leads (constant q c) clock context names k o l = absurd l
  top-leads (variable q x) clock context names k o l = o [] (inr (inr l))
  top-leads (last_of q x) clock context names k o l = absurd l
  top-leads (one q op a) clock context names k o l = o [] (inr (inr l))
  top-leads (two q op a b) clock context names k o l = o [] (inr (inr l))
  top-leads (choose q a b c) clock context names k o l = o [] (inr (inr l))
  top-leads (pre q a) clock context names k o l = absurd l
  top-leads (fby q a b) clock context names k o l = o [] (inr (inr l))
  top-leads (arrow q a b) clock context names k o l = o [] (inr (inr l))
  top-leads (when_is q a c x) clock context names k o l = o [] (inr (inr l))
  top-leads (merge q x ps) clock context names k o l = o [] (inr (inr l))
  top-leads (call q f inlined es) clock context names k o l = l

  module _ (t : Told) (brings : Brings) (held : Held) (z : Scope) (context : Sources) (names : NameSources) (b : BringsMarked steers t brings held context) where
    transitions-marked : (qs : List Trans) (k : PlaceSources) (spot : Place) (words : Words) (m : Sources) (rest : Jump) (s : Sketch) (ms : Marks) → ConditionsFit t qs → Owes steers context (at_conditions qs names k) k
        → (Leads steers context → Leads steers m) → (Leads steers (of_conditions qs k) → Leads steers m) → ConditionsPlaced steers t brings held z spot words qs k rest s → IsAt steers z context names ms s spot → JumpHas steers ms rest m → Jumped steers ms m (drawn_transitions t brings z spot words qs rest s)
    transitions-marked [] k spot words m rest s ms fit o around from j at h = (ms, grows-none ms, at.marks, h)
    transitions-marked (q ∷ qs) k spot words m rest s ms fit o around from j at h =
        let here = below Head k in
        let owes : Owes steers context (at_expr q.cond [] names here) here = λ p. o (Head ∷ p) in
        let u = expr steers t brings held z context names b q.cond [] here spot fit.0 owes s ms j.0 at in
        let c = drawn t brings z spot q.cond s in
        let low = low-up steers u.0 c.0.wire (both context (of_expr q.cond names here)) m (λ l. elim l [ inl i ↦ around i | inr i ↦ from (inl (top-leads q.cond [] context names here owes i)) ]) u.3 in
        let v = transition-marked steers words.numbers words.lines.shape rest c.0.wire q c.1 u.0 m u.2 (jump-has-grows steers ms u.0 u.1 rest m h) low in
        let more = transition words.numbers words.lines.shape rest c.0.wire q c.1 in
        let g = grows-both ms u.0 v.0 u.1 v.1 in
        let w = transitions-marked qs (below Tail k) spot words m more.0 more.1 v.0 fit.1 (λ p. o (Tail ∷ p)) around (λ i. from (inr i)) j.1 (at-behind steers z context names ms v.0 s more.1 spot at g v.2) v.3 in
        (w.0, grows-both ms v.0 w.0 g w.1, w.2, w.3)

    -- where the first transition goes whose condition holds, else where the other jump goes
    pub jump-marked : (qs : List Trans) (k : PlaceSources) (spot : Place) (words : Words) (m : Sources) (none : Jump) (s : Sketch) (ms : Marks) → ConditionsFit t qs → Owes steers context (at_conditions qs names k) k
        → (Leads steers context → Leads steers m) → (Leads steers (of_conditions qs k) → Leads steers m) → JumpPlaced steers t brings held z spot words qs k s → IsAt steers z context names ms s spot → JumpLow steers ms none m → Jumped steers ms m (drawn_jump t brings z spot words qs none s)
    jump-marked qs k spot words m none s ms fit o around from placed at l =
        let j = jump_hole words.lines.shape s in
        let u = jump-hole-marked steers words.lines.shape s ms m at.marks in
        let v = transitions-marked qs k spot words m j.0 j.1 u.0 fit o around from placed (at-behind steers z context names ms u.0 s j.1 spot at u.1 u.2) u.3 in
        let rest = drawn_transitions t brings z spot words qs j.0 j.1 in
        let g = grows-both ms u.0 v.0 u.1 v.1 in
        (v.0, g, jump-end-marked steers rest.0 none rest.1 v.0 m v.2 v.3 (jump-low-grows steers ms v.0 g none m l), jump-has-grows steers u.0 v.0 v.1 j.0 m u.3)

  -- ---- states

  pub enter-state-marked : (lines : Lines) (spot : Place) (n : ℕ) (s : Sketch) (ms : Marks) (context active : Sources) → AreMarked steers s ms → IsPlaced steers ms spot context → AreLines steers ms lines context active → (Leads steers context → Leads steers active)
      → (ms' : Marks) × Grows ms ms' × AreMarked steers (enter_state lines spot n s).1 ms' × Low steers ms' (enter_state lines spot n s).0.taken active × IsPlaced steers ms' (enter_state lines spot n s).0.place context
      × IsPlaced steers ms' (enter_state lines spot n s).0.body active
  unfolding enter_state
  enter-state-marked lines spot n s ms context active a p k from =
      let taken = is_gate lines.active.state n s in
      let u = steps.is-marked steers lines.active.state n s ms active a (low-own steers ms lines.active.state active k.active_is.0) in
      let inside = within spot taken.0 taken.1 in
      let v = within-marked steers spot taken.0 taken.1 u.0 context u.2 (placed-grows steers ms u.0 u.1 spot context p) (low-there steers u.0 taken.0 active u.3) in
      let g = grows-both ms u.0 v.0 u.1 v.1 in
      let body = reset_by inside.0 lines.active.restart inside.1 in
      let w = reset-marked steers inside.0 lines.active.restart inside.1 v.0 context active v.2 v.3 (low-own steers v.0 lines.active.restart active (has-grows ms v.0 g lines.active.restart active k.active_is.1)) in (
        w.0,
        grows-both ms v.0 w.0 g w.1,
        w.2,
        low-grows steers u.0 w.0 (grows-both u.0 v.0 w.0 v.1 w.1) taken.0 active u.3,
        placed-grows steers v.0 w.0 w.1 inside.0 context v.3,
        placed-up w.0 body.0 (both context active) active (λ l. elim l [ inl i ↦ from i | inr i ↦ i ]) w.3,
      )

  pub leave-state-marked : (lines : Lines) (n taken : ℕ) (strong weak : Jump) (rests : Rests) (s : Sketch) (ms : Marks) (context active next : Sources) → AreMarked steers s ms → AreLines steers ms lines context active → (Leads steers context → Leads steers active)
      → Low steers ms taken next → JumpHas steers ms strong active → JumpHas steers ms weak next → JumpHas steers ms rests.strong active → JumpHas steers ms rests.weak next
      → (ms' : Marks) × Grows ms ms' × AreMarked steers (leave_state lines n taken strong weak rests s).1 ms' × JumpHas steers ms' (leave_state lines n taken strong weak rests s).0.strong active × JumpHas steers ms' (leave_state lines n taken strong weak rests s).0.weak next
  unfolding leave_state
  leave-state-marked lines n taken strong weak rests s ms context active next a k from low has_strong has_weak more_strong more_weak =
      let selected = is_gate lines.selected.state n s in
      let u = steps.is-marked steers lines.selected.state n s ms active a (low-up steers ms lines.selected.state context active from k.selected_is.0) in
      let more = jump_add rests.strong lines.shape selected.0 strong selected.1 in
      let v = jump-add-marked steers rests.strong lines.shape selected.0 strong selected.1 u.0 active u.2 (jump-has-grows steers ms u.0 u.1 rests.strong active more_strong) u.3 (jump-own steers u.0 strong active (jump-has-grows steers ms u.0 u.1 strong active has_strong)) in
      let g = grows-both ms u.0 v.0 u.1 v.1 in
      let w = jump-add-marked steers rests.weak lines.shape taken weak more.1 v.0 next v.2 (jump-has-grows steers ms v.0 g rests.weak next more_weak) (low-grows steers ms v.0 g taken next low) (jump-own steers v.0 weak next (jump-has-grows steers ms v.0 g weak next has_weak)) in
      (w.0, grows-both ms v.0 w.0 g w.1, w.2, jump-has-grows steers v.0 w.0 w.1 more.0 active v.3, w.3)
