-- What stands around the blocks of control equations: arms, the body of a `reset`, transitions and states.
use Rattle.std.proofs.Common.{◌≡◌, ℕ, ◌<◌, List, [], ◌∷◌, Option, Some, sym, subst}
use Rattle.hp_base.specs.declared.ty.Ty.{Ty}
use Rattle.hp_base.specs.declared.ty.Ty.TheVariants as ty
use Rattle.hp_tree.specs.declared.block.Trans.{Trans}
use Rattle.hp_tree.specs.declared.decl.Cons as tree_cons
use Rattle.hp_tree.specs.Blocks.{Eqn}
use Rattle.hp_tree.specs.Programs.{TypeDecl, Node}
use Rattle.hp_typing.specs.Types.{cons_type}
use Rattle.law_judged.specs.Typed.Scopes.{Scope as TypeScope}
use Rattle.law_values.specs.Valued.Judged.{Lasts, TestsSound}
use Rattle.hp_circuit.specs.declared.circuit.Shape.TheVariants.{Truth, Cons}
use Rattle.hp_drawing.specs.declared.parts.Jump.{Jump}
use Rattle.hp_drawing.specs.declared.parts.Lines.{Lines}
use Rattle.hp_drawing.specs.declared.parts.Place.{Place}
use Rattle.hp_drawing.specs.declared.parts.Rests.{Rests}
use Rattle.hp_drawing.specs.Told.{Told, type_shape}
use Rattle.hp_drawing.specs.Sketch.{Sketch, hole, is_gate}
use Rattle.hp_drawing.specs.Places.{within, reset_by, jump_hole, jump_add, jump_end, transition}
use Rattle.hp_drawing.specs.Scopes.{Scope, Layer, push_values, read_by_hidden}
use Rattle.hp_drawing.specs.DrawnExpressions.{Brings, drawn, has_cons}
use Rattle.hp_drawing.specs.DrawnBlocks.{Words, drawn_transitions, drawn_jump, enter_arm, reset_begin, enter_state, leave_state}
use Rattle.law_drawing.proofs.FormLemmas.Views.{Has, IsFormed, IsHole, Step, still, onward, has-on, hole-on, shape-is}
use Rattle.law_drawing.proofs.FormLemmas.Steps.{hole-step, is-step}
use Rattle.law_drawing.proofs.FormLemmas.Parts.{IsPlaced, placed-on, within-step, reset-step}
use Rattle.law_drawing.proofs.FormLemmas.Values.{AreCounted, cons-step, none_lacks, IsAt, at-on}
use Rattle.law_drawing.proofs.FormLemmas.Calls.{AreCalled}
use Rattle.law_drawing.proofs.FormLemmas.Expressions.{expr}
use Rattle.law_drawing.proofs.FormLemmas.Joining.{IsOver, over-on, read-by-step}
use Rattle.law_drawing.proofs.FormLemmas.Jumps.{JumpHas, JumpHole, jump-on, jump-hole-on, Jumped, jump-hole-step, jump-add-step, jump-end-step, AreBelow, transition-step, AreLines}

-- ---- arms

pub enter-arm-step : (types : List TypeDecl) (t : Told) (ts : TypeScope) → AreCounted types t ts → (P : List ℕ) (spot : Place) (w : ℕ) (c : tree_cons.Cons) (u : Ty) (s : Sketch) → IsFormed P s → IsPlaced s spot → Has s.shapes w (type_shape t u) → cons_type ts c ≡ Some u
    → (let d = enter_arm t spot w c s in Step P s d.2 × Has d.2.shapes d.0 Truth × IsPlaced d.2 d.1)
unfolding enter_arm
enter-arm-step types t ts K P spot w c u s a h l k =
    let taken = has_cons t w c s in
    let x = cons-step types t ts K P w c u s a l k in
    let inside = within spot taken.0 taken.1 in
    let y = within-step P spot taken.0 taken.1 x.0.formed (placed-on P s taken.1 spot x.0 h) x.1 in
    (onward P P s taken.1 inside.1 x.0 y.0, has-on P taken.1 inside.1 taken.0 Truth y.0 x.1, y.1)

-- ---- the body of a `reset`, whose condition is said behind it

pub reset-begin-step : (types : List TypeDecl) (among : List ℕ → Option Node) (t : Told) (ts : TypeScope) (has_last : Lasts) (z : Scope) (e : Eqn) (P : List ℕ) (h : Layer) (spot : Place) (s : Sketch) → IsFormed P s → IsPlaced s spot → IsOver types among t ts has_last z e s h
    → (let d = reset_begin (push_values h z) spot s in Step P s d.2 × IsHole d.2 d.0 Truth × IsPlaced d.2 d.1)
unfolding reset_begin
reset-begin-step types among t ts has_last z e P h spot s a p o =
    let c = hole Truth s in
    let x = hole-step P Truth s a tt in
    let s1 = read_by_hidden (push_values h z) c.0 c.1 in
    let y = read-by-step types among t ts has_last z e P c.0 h c.1 x.0.formed (over-on types among t ts has_last z e P s c.1 h x.0 o) (Truth, x.1.0) in
    let to_read = onward P P s c.1 s1 x.0 y in
    let inside = reset_by spot c.0 s1 in
    let v = reset-step P spot c.0 s1 y.formed (placed-on P s s1 spot to_read p) (has-on P c.1 s1 c.0 Truth y x.1.0) in
    (onward P P s s1 inside.1 to_read v.0, hole-on P c.1 inside.1 c.0 Truth (onward P P c.1 s1 inside.1 y v.0) x.1, v.1)

-- ---- transitions

module _ (types : List TypeDecl) (among : List ℕ → Option Node) (t : Told) (brings : Brings) (calls : AreCalled t brings among) (ts : TypeScope) (has_last : Lasts) (counted : AreCounted types t ts) (z : Scope) where
  abbrev At : List ℕ → Sketch → Place → Type 0
  At P s spot = IsAt t ts has_last none_lacks z P s spot

  on : (P Q : List ℕ) (s s' : Sketch) (spot : Place) → At P s spot → Step Q s s' → At Q s' spot
  on P Q s s' spot h st = at-on t ts has_last none_lacks z P Q s s' spot h st

  transitions-step : (qs : List Trans) (spot : Place) (words : Words) (n : ℕ) (P : List ℕ) (rest : Jump) (s : Sketch) → TestsSound types among ts has_last qs → words.lines.shape ≡ Cons n → AreBelow n words.numbers → At P s spot → JumpHole s rest (Cons n)
      → Jumped P s (Cons n) (drawn_transitions t brings z spot words qs rest s)
  transitions-step [] spot words n P rest s ok e below at h = (still P s at.formed, h)
  transitions-step (q ∷ qs) spot words n P rest s ok e below at h =
      let c = drawn t brings z spot q.cond s in
      let x = expr types among t brings calls ts has_last counted z q.cond ty.Bool ok.0.0 ok.0.1 spot P s at in
      let more = transition words.numbers words.lines.shape rest c.0.wire q c.1 in
      let y = subst (λ p. Jumped P c.1 (Cons n) (transition words.numbers p rest c.0.wire q c.1)) (sym e) (transition-step P words.numbers n rest c.0.wire q c.1 x.0.formed below (jump-hole-on P s c.1 rest (Cons n) x.0 h) x.1.1) in
      let st = onward P P s c.1 more.1 x.0 y.0 in
      let w = transitions-step qs spot words n P more.0 more.1 ok.1 e below (on P P s more.1 spot at st) y.1 in
      (onward P P s more.1 (drawn_transitions t brings z spot words qs more.0 more.1).1 st w.0, w.1)

  -- where the first transition goes whose condition holds, else where the other jump goes
  pub jump-step : (qs : List Trans) (spot : Place) (words : Words) (n : ℕ) (P : List ℕ) (none : Jump) (s : Sketch) → TestsSound types among ts has_last qs → words.lines.shape ≡ Cons n → AreBelow n words.numbers → At P s spot → JumpHas s none (Cons n)
      → Jumped P s (Cons n) (drawn_jump t brings z spot words qs none s)
  jump-step qs spot words n P none s ok e below at h =
      let p = Cons n in
      let j = jump_hole words.lines.shape s in
      let x = subst (λ q. Jumped P s p (jump_hole q s)) (sym e) (jump-hole-step P p s at.formed (shape-is P s none.state p at.formed h.0)) in
      let rest = drawn_transitions t brings z spot words qs j.0 j.1 in
      let y = transitions-step qs spot words n P j.0 j.1 ok e below (on P P s j.1 spot at x.0) x.1 in
      let s' = jump_end rest.0 none rest.1 in
      let to_rest = onward P P s j.1 rest.1 x.0 y.0 in
      let w = jump-end-step P rest.0 none p rest.1 y.0.formed y.1 (jump-on P s rest.1 none p to_rest h) in
      (onward P P s rest.1 s' to_rest w, jump-hole-on P j.1 s' j.0 p (onward P P j.1 rest.1 s' y.0 w) x.1)

-- ---- states

pub enter-state-step : (P : List ℕ) (n : ℕ) (lines : Lines) (spot : Place) (k : ℕ) (s : Sketch) → IsFormed P s → IsPlaced s spot → AreLines s n lines → k < n
    → (let d = enter_state lines spot k s in Step P s d.1 × Has d.1.shapes d.0.taken Truth × IsPlaced d.1 d.0.place × IsPlaced d.1 d.0.body)
unfolding enter_state
enter-state-step P n lines spot k s a h l b =
    let taken = is_gate lines.active.state k s in
    let x = is-step P lines.active.state k (Cons n) s a l.active.0.0 b in
    let inside = within spot taken.0 taken.1 in
    let y = within-step P spot taken.0 taken.1 x.0.formed (placed-on P s taken.1 spot x.0 h) x.1 in
    let body = reset_by inside.0 lines.active.restart inside.1 in
    let to_inside = onward P P s taken.1 inside.1 x.0 y.0 in
    let w = reset-step P inside.0 lines.active.restart inside.1 y.0.formed y.1 (has-on P s inside.1 lines.active.restart Truth to_inside l.active.1.0) in
    (onward P P s inside.1 body.1 to_inside w.0, has-on P taken.1 body.1 taken.0 Truth (onward P P taken.1 inside.1 body.1 y.0 w.0) x.1, placed-on P inside.1 body.1 inside.0 w.0 y.1, w.1)

pub leave-state-step : (P : List ℕ) (n : ℕ) (lines : Lines) (k taken : ℕ) (strong weak : Jump) (rests : Rests) (s : Sketch) → IsFormed P s → AreLines s n lines → k < n → Has s.shapes taken Truth → JumpHas s strong (Cons n) → JumpHas s weak (Cons n)
    → JumpHole s rests.strong (Cons n) → JumpHole s rests.weak (Cons n)
    → (let d = leave_state lines k taken strong weak rests s in Step P s d.1 × JumpHole d.1 d.0.strong (Cons n) × JumpHole d.1 d.0.weak (Cons n))
unfolding leave_state
leave-state-step P n lines k taken strong weak rests s a l b r js jw hs hw =
    let p = Cons n in
    let selected = is_gate lines.selected.state k s in
    let x = is-step P lines.selected.state k p s a l.selected.0 b in
    let more = jump_add rests.strong lines.shape selected.0 strong selected.1 in
    let y = subst (λ q. Jumped P selected.1 p (jump_add rests.strong q selected.0 strong selected.1)) (sym l.shape)
    (jump-add-step P rests.strong p selected.0 strong selected.1 x.0.formed (jump-hole-on P s selected.1 rests.strong p x.0 hs) x.1 (jump-on P s selected.1 strong p x.0 js)) in
    let to_more = onward P P s selected.1 more.1 x.0 y.0 in
    let less = jump_add rests.weak lines.shape taken weak more.1 in
    let w = subst (λ q. Jumped P more.1 p (jump_add rests.weak q taken weak more.1)) (sym l.shape)
    (jump-add-step P rests.weak p taken weak more.1 y.0.formed (jump-hole-on P s more.1 rests.weak p to_more hw) (has-on P s more.1 taken Truth to_more r) (jump-on P s more.1 weak p to_more jw)) in
    (onward P P s more.1 less.1 to_more w.0, jump-hole-on P more.1 less.1 more.0 p w.0 y.1, w.1)
