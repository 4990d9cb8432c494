-- What is drawn of blocks: one induction over blocks, equations, arms and states.
use Rattle.std.proofs.Common.{◌≡◌, ℕ, ◌+◌, ◌≤◌, List, [], ◌∷◌, Option, Some, refl, sym, subst, ◌∙◌, inl, arith}
use Rattle.hp_base.specs.declared.span.Span.{Span}
use Rattle.hp_base.specs.declared.ty.Ty.{Ty}
use Rattle.hp_base.specs.declared.ty.Ty.TheVariants as ty
use Rattle.hp_tree.specs.declared.block.Trans.{Trans}
use Rattle.hp_tree.specs.declared.decl.Cons as tree_cons
use Rattle.hp_tree.specs.Blocks.{Decl, Block, block, Eqns, no_eqn, more_eqns, Eqn, define, switch, reset, automaton, Arms, no_arm, more_arms, States, no_state, more_states}
use Rattle.hp_tree.specs.Expressions.{Expr}
use Rattle.hp_tree.specs.Meaning.{defines, some_defines}
use Rattle.hp_tree.specs.Programs.{TypeDecl, Node}
use Rattle.hp_typing.specs.Scopes.{with_variables}
use Rattle.hp_typing.specs.Types.{type_of, cons_type}
use Rattle.law_judged.specs.Typed.Scopes.{Scope as TypeScope}
use Rattle.law_values.specs.Valued.Judged.{Lasts, lasts_in, EqnsSound, EqnSound, ArmsSound, StatesSound, IsPlain, AllPlain, OnePlain, ArmsPlain, StatesPlain}
use Rattle.law_values.proofs.ValuedLemmas.Typed.{agreed}
use Rattle.law_values.specs.Filled.Firsts.{HasFirst, DeclsHaveFirsts, BlockHasFirsts, EqnsHaveFirsts, EqnHasFirsts, ArmsHaveFirsts, StatesHaveFirsts}
use Rattle.hp_circuit.specs.declared.circuit.Shape.TheVariants.{Truth, Cons}
use Rattle.hp_circuit.specs.Forms.{IsShape}
use Rattle.hp_drawing.specs.declared.parts.Place.{Place}
use Rattle.hp_drawing.specs.declared.parts.Rests.{Rests}
use Rattle.hp_drawing.specs.Planned.{count_states}
use Rattle.hp_drawing.specs.Told.{Told, type_shape}
use Rattle.hp_drawing.specs.Sketch as sketch
use Rattle.hp_drawing.specs.Sketch.{Sketch, high}
use Rattle.hp_drawing.specs.Places.{jump_hole, new_lines, numbers_of}
use Rattle.hp_drawing.specs.Scopes.{Scope, Layer, push_values, hide, hide_names, names_of_eqn, enter}
use Rattle.hp_drawing.specs.DrawnExpressions.{Brings, drawn}
use Rattle.hp_drawing.specs.DrawnBlocks.{Words, words_of, rests_of, drawn_block, drawn_eqns, drawn_eqn, drawn_arms, drawn_states, enter_arm, reset_begin, enter_state, state_end, states_begin, automaton_end, join_drawn, leave_hidden}
use Rattle.law_drawing.specs.Carrying.Drawable.{PathsFit, ArmsFit, EqnsDrawable, EqnDrawable, ArmsDrawable, StatesDrawable}
use Rattle.law_drawing.proofs.SteeredLemmas.Joining.{hide-is}
use Rattle.law_drawing.proofs.FormLemmas.Views.{Has, Step, still, onward, has-on, hole-on}
use Rattle.law_drawing.proofs.FormLemmas.Parts.{placed-on}
use Rattle.law_drawing.proofs.FormLemmas.Values.{AreCounted, none_lacks, seen-on, IsAt, at-on}
use Rattle.law_drawing.proofs.FormLemmas.Delays.{said-step}
use Rattle.law_drawing.proofs.FormLemmas.Calls.{AreShapes, AreCalled}
use Rattle.law_drawing.proofs.FormLemmas.Expressions.{expr}
use Rattle.law_drawing.proofs.FormLemmas.Definitions.{or-first, or-further, AreOwned, owned-on, owned-part, definition-step}
use Rattle.law_drawing.proofs.FormLemmas.Entering.{enter-step}
use Rattle.law_drawing.proofs.FormLemmas.Joining.{IsOver, over-on, over-begins, Left, left-on, left-through, left-ends}
use Rattle.law_drawing.proofs.FormLemmas.Jumps.{Jumped, JumpHole, jump-hole-on, jump-hole-step, AreBelow, numbers-below, some-state, AreLines, lines-on, with_lines, new-lines-step}
use Rattle.law_drawing.proofs.FormLemmas.Controls.{enter-arm-step, reset-begin-step, enter-state-step}
use Rattle.law_drawing.proofs.FormLemmas.Bodies.{counted-inside, Blocked, IsInside, inside-step, inside-joined, IsRested, rested-on, rested-through, state-step, automaton-ended}
use Rattle.law_drawing.proofs.FormLemmas.Bodies as bodies

-- types with a first value have values
abbrev pub FirstsFit : List TypeDecl → Told → Type 0
FirstsFit types t = (u : Ty) → HasFirst types u → IsShape (type_shape t u)

pub decls-fit : (types : List TypeDecl) (t : Told) → FirstsFit types t → (ds : List Decl) → DeclsHaveFirsts types ds → AreShapes t ds
decls-fit types t F [] h = tt
decls-fit types t F (d ∷ ds) h = (F d.ty h.0, decls-fit types t F ds h.1)

-- the scope of a control equation is the one around it with the names that it hides
hidden-through : (P : List ℕ) (s : Sketch) (z : Scope) (e : Eqn) (f : Scope → Sketch) → Step P s (f (push_values (hide_names z (names_of_eqn e) []) z)) → Step P s (f (hide z e))
hidden-through P s z e f h = subst (λ y. Step P s (f y)) (sym (hide-is z e)) h

module _ (types : List TypeDecl) (among : List ℕ → Option Node) (t : Told) (brings : Brings) (calls : AreCalled t brings among) (F : FirstsFit types t) where
  abbrev At : TypeScope → Lasts → Scope → List ℕ → Sketch → Place → Type 0
  At ts has_last z P s spot = IsAt t ts has_last none_lacks z P s spot

  abbrev BlockDrawn : Block → Type 0
  BlockDrawn b = bodies.BlockDrawn types among t brings calls b

  abbrev EqnDrawn : Eqn → Type 0
  EqnDrawn e =
      (ts : TypeScope) (has_last : Lasts) (z : Scope) (ds : List Decl) (spot : Place) (P : List ℕ) (s : Sketch) → AreCounted types t ts → EqnSound types among ts has_last e → EqnDrawable ts e → PathsFit ts ds → At ts has_last z P s spot → AreOwned z s (λ x. defines e x)
      → Step P s (drawn_eqn t brings z spot ds e s)

  abbrev ArmsDrawn : Arms → Type 0
  ArmsDrawn arms =
      (e : Eqn) (ts : TypeScope) (has_last : Lasts) (z : Scope) (spot : Place) (w : ℕ) (u : Ty) (h : Layer) (P : List ℕ) (s : Sketch) → AreCounted types t ts → ArmsSound types among e ts has_last arms → ArmsFit ts (Some u) arms → ArmsDrawable ts arms
      → At ts has_last z P s spot → Has s.shapes w (type_shape t u) → IsOver types among t ts has_last z e s h → Left types among t ts has_last z e P s (drawn_arms t brings (push_values h z) spot w arms s)

  abbrev StatesDrawn : States → Type 0
  StatesDrawn ss =
      (e : Eqn) (ts : TypeScope) (has_last : Lasts) (z : Scope) (spot : Place) (words : Words) (n k : ℕ) (h : Layer) (rests : Rests) (P : List ℕ) (s : Sketch) (counted : AreCounted types t ts) → StatesSound types among e ts has_last ss → StatesDrawable ts ss
      → k + count_states ss ≤ n → words.lines.shape ≡ Cons n → AreBelow n words.numbers → At ts has_last z P s spot → AreLines s n words.lines → JumpHole s rests.strong (Cons n) → JumpHole s rests.weak (Cons n) → IsOver types among t ts has_last z e s h
      → IsRested types among t brings calls ts has_last counted z e n P s (drawn_states t brings (push_values h z) spot words k ss rests s)

  -- ---- equations, by what is drawn of their parts

  arms-of : (ts : TypeScope) (e : Expr) (u : Ty) (arms : Arms) → type_of ts e ≡ Some u → ArmsFit ts (type_of ts e) arms → ArmsFit ts (Some u) arms
  arms-of ts e u arms q f = subst (λ o. ArmsFit ts o arms) q f

  switch-drawn : (q : Span) (e : Expr) (arms : Arms) → ArmsDrawn arms → EqnDrawn (switch q e arms)
  switch-drawn q e arms draws ts has_last z ds spot P s counted ok can paths at own =
      let eqn = switch q e arms in
      let u = ok.1.0.0 in
      let c = drawn t brings z spot e s in
      let v = expr types among t brings calls ts has_last counted z e u ok.0 ok.1.0.1.0 spot P s at in
      let h = hide_names z (names_of_eqn eqn) [] in
      let over = over-on types among t ts has_last z eqn P s c.1 h v.0 (over-begins types among t ts has_last z eqn s own) in
      let a = draws eqn ts has_last z spot c.0.wire u h P c.1 counted ok.1.1 (arms-of ts e u arms ok.1.0.1.0 can.0) can.1 (at-on t ts has_last none_lacks z P P s c.1 spot at v.0) v.1.1 over in
      let d = drawn_arms t brings (push_values h z) spot c.0.wire arms c.1 in
      let w = left-ends types among t ts has_last z eqn P c.1 d a in
      hidden-through P s z eqn (λ y. leave_hidden (drawn_arms t brings y spot c.0.wire arms c.1)) (onward P P s c.1 (leave_hidden d) v.0 w)

  reset-drawn : (q : Span) (b : Block) (e : Expr) → BlockDrawn b → EqnDrawn (reset q b e)
  reset-drawn q b e draws ts has_last z ds spot P s counted ok can paths at own =
      let eqn = reset q b e in
      let h = hide_names z (names_of_eqn eqn) [] in
      let out = push_values h z in
      let over = over-begins types among t ts has_last z eqn s own in
      let i = reset_begin out spot s in
      let x = reset-begin-step types among t ts has_last z eqn P h spot s at.formed at.placed over in
      let at1 = at-on t ts has_last none_lacks z P P s i.2 spot at x.0 in
      let over1 = over-on types among t ts has_last z eqn P s i.2 h x.0 over in
      let d = drawn_block t brings out i.1 b i.2 in
      let y = inside-step types among t brings calls ts has_last counted z eqn b draws h i.1 P i.2 ok.1 can (λ x d. inl d) x.0.formed x.2 at1.seen over1 in
      let joined = join_drawn high d in
      let j = inside-joined types among t brings calls ts has_last counted z eqn b h P i.2 d.1 d high ok.1 (λ x d. inl d) y (still P d.1 y.step.formed) x.0.formed.high_is at1.seen over1 in
      let ended = leave_hidden joined in
      let to_joined = onward P P i.2 d.1 joined.1 y.step j.2 in
      let w = left-ends types among t ts has_last z eqn P d.1 joined j in
      let to_ended = onward P P i.2 d.1 ended y.step w in
      let at2 = at-on t ts has_last none_lacks z P P i.2 ended spot at1 to_ended in
      let v = drawn t brings z spot e ended in
      let f = expr types among t brings calls ts has_last counted z e ty.Bool ok.0.0 ok.0.1 spot P ended at2 in
      let to_v = onward P P i.2 ended v.1 to_ended f.0 in
      let last = said-step P i.0 v.0 Truth v.1 f.0.formed (hole-on P i.2 v.1 i.0 Truth to_v x.1) f.1 in
      hidden-through P s z eqn (λ y. let i = reset_begin y spot s in let d = drawn t brings z spot e (leave_hidden (join_drawn high (drawn_block t brings y i.1 b i.2))) in sketch.define i.0 d.0 d.1)
      (onward P P s v.1 (sketch.define i.0 v.0 v.1) (onward P P s i.2 v.1 x.0 to_v) last)

  automaton-drawn : (q : Span) (ss : States) → StatesDrawn ss → (1 ≤ count_states ss) → AreBelow (count_states ss) (numbers_of ss) → EqnDrawn (automaton q ss)
  automaton-drawn q ss draws some below ts has_last z ds spot P s counted ok can paths at own =
      let eqn = automaton q ss in
      let n = count_states ss in
      let h = hide_names z (names_of_eqn eqn) [] in
      let lines = new_lines n spot s in
      let x = new-lines-step P n spot s at.formed at.placed some in
      let Q = with_lines lines.0 P in
      let next = states_begin lines.0 lines.1 in
      let y = subst (λ p. Jumped Q lines.1 (Cons n) (jump_hole p lines.1)) (sym x.1.shape) (jump-hole-step Q (Cons n) lines.1 x.0.formed some) in
      let to_next = onward Q Q s lines.1 next.1 x.0 y.0 in
      let at1 = at-on t ts has_last none_lacks z P Q s next.1 spot at to_next in
      let lines_are = lines-on Q lines.1 next.1 n lines.0 y.0 x.1 in
      let over = over-on types among t ts has_last z eqn Q s next.1 h to_next (over-begins types among t ts has_last z eqn s own) in
      let words = words_of (numbers_of ss) lines.0 in
      let rests = rests_of lines.0.active next.0 in
      let d = drawn_states t brings (push_values h z) spot words 0 ss rests next.1 in
      let r = draws eqn ts has_last z spot words n 0 h rests Q next.1 counted ok can.1 (omega arith) x.1.shape below at1 lines_are lines_are.active y.1 over in
      let e = automaton-ended types among t brings calls ts has_last counted z eqn n lines.0 spot next.0 P next.1 d r lines_are at1.placed y.1 in
      hidden-through P s z eqn (λ y. automaton_end lines.0 spot next.0 (drawn_states t brings y spot words 0 ss rests next.1))
      (onward Q P s next.1 (automaton_end lines.0 spot next.0 d) to_next e)

  -- an arm, and those behind it
  arms-next : (c : tree_cons.Cons) (b : Block) (q : Span) (arms : Arms) → BlockDrawn b → ArmsDrawn arms → ArmsDrawn (more_arms c b q arms)
  arms-next c b q arms draws others e ts has_last z spot w u h P s counted ok fit can at l over =
      let out = push_values h z in
      let n = agreed (Some u) (cons_type ts c) fit.0 in
      let arm = enter_arm t spot w c s in
      let x = enter-arm-step types t ts counted P spot w c u s at.formed at.placed l (n.2 ∙ sym n.1) in
      let at1 = at-on t ts has_last none_lacks z P P s arm.2 spot at x.0 in
      let over1 = over-on types among t ts has_last z e P s arm.2 h x.0 over in
      let d = drawn_block t brings out arm.1 b arm.2 in
      let y = inside-step types among t brings calls ts has_last counted z e b draws h arm.1 P arm.2 ok.1.0 can.0 ok.0 x.0.formed x.2 at1.seen over1 in
      let joined = join_drawn arm.0 d in
      let j = inside-joined types among t brings calls ts has_last counted z e b h P arm.2 d.1 d arm.0 ok.1.0 ok.0 y (still P d.1 y.step.formed) x.1 at1.seen over1 in
      let to_joined = onward P P s arm.2 joined.1 x.0 (onward P P arm.2 d.1 joined.1 y.step j.2) in
      let at2 = at-on t ts has_last none_lacks z P P s joined.1 spot at to_joined in
      let r = others e ts has_last z spot w u j.0 P joined.1 counted ok.1.1 fit.1 can.1 at2 (has-on P s joined.1 w (type_shape t u) to_joined l) j.3 in
      left-through types among t ts has_last z e P d.1 s joined j (λ y. drawn_arms t brings y spot w arms joined.1)
      (left-on types among t ts has_last z e P P s joined.1 (drawn_arms t brings (push_values j.0 z) spot w arms joined.1) to_joined r)

  -- a state, and those behind it
  states-next : (f : List ℕ) (b : Block) (until unless : List Trans) (q : Span) (ss : States) → BlockDrawn b → StatesDrawn ss → StatesDrawn (more_states f b until unless q ss)
  states-next f b until unless q ss draws others e ts has_last z spot words n k h rests P s counted ok can l shape_is below at lines strong weak over =
      let out = push_values h z in
      let x = enter-state-step P n words.lines spot k s at.formed at.placed lines (omega (arith, l)) in
      let entered = enter_state words.lines spot k s in
      let at1 = at-on t ts has_last none_lacks z P P s entered.1 spot at x.0 in
      let i : bodies.IsEntered types among t brings calls ts has_last counted z e words n shape_is below P h spot rests entered.0 entered.1 = record {
        formed = at1.formed;
        seen = at1.seen;
        placed = at1.placed;
        inside = x.2;
        body = x.3;
        taken = x.1;
        lines = lines-on P s entered.1 n words.lines x.0 lines;
        strong = jump-hole-on P s entered.1 rests.strong (Cons n) x.0 strong;
        weak = jump-hole-on P s entered.1 rests.weak (Cons n) x.0 weak;
        over = over-on types among t ts has_last z e P s entered.1 h x.0 over;
      } in
      let d = state_end t brings spot words k until unless entered.0 rests (drawn_block t brings out entered.0.body b entered.1) in
      let y = state-step types among t brings calls ts has_last counted z e words n shape_is below b draws k until unless P h spot rests entered (omega (arith, l)) ok.1.0 can.0 ok.0 ok.1.1.0 ok.1.1.1.0 i in
      let to_d = onward P P s entered.1 d.2 x.0 y.step in
      let at2 = at-on t ts has_last none_lacks z P P s d.2 spot at to_d in
      let r = others e ts has_last z spot words n (k + 1) y.hidden d.0 P d.2 counted ok.1.1.1.1 can.1 (omega (arith, l)) shape_is below at2 (lines-on P s d.2 n words.lines to_d lines) y.strong y.weak y.over in
      rested-through types among t brings calls ts has_last counted z e n P entered.1 s d y (λ i. drawn_states t brings i spot words (k + 1) ss d.0 d.2)
      (rested-on types among t brings calls ts has_last counted z e n P s d.2 (drawn_states t brings (push_values y.hidden z) spot words (k + 1) ss d.0 d.2) to_d r)

  -- ---- blocks

  abbrev EqnsDrawn : Eqns → Type 0
  EqnsDrawn es =
      (ts : TypeScope) (has_last : Lasts) (z : Scope) (ds : List Decl) (spot : Place) (P : List ℕ) (s : Sketch) → AreCounted types t ts → EqnsSound types among ts has_last es → EqnsDrawable ts es → PathsFit ts ds → At ts has_last z P s spot → AreOwned z s (λ x. some_defines es x)
      → Step P s (drawn_eqns t brings z spot ds es s)

  block-next : (ds : List Decl) (es : Eqns) → DeclsHaveFirsts types ds → EqnsDrawn es → BlockDrawn (block ds es)
  block-next ds es first draws ts has_last lacks z spot P s counted ok can given at =
      let d = enter t z spot ds es s in
      let inner = counted-inside types t ts ds counted in
      let e = enter-step types among t ts has_last lacks z ds es P spot s at given inner (decls-fit types t F ds first) ok.0 ok.1.0 in
      let at1 : At (with_variables ts ds) (lasts_in ds has_last) d.0 P d.1 spot = record { formed = e.0.formed; placed = placed-on P s d.1 spot e.0 at.placed; seen = e.1 } in
      let x = draws (with_variables ts ds) (lasts_in ds has_last) d.0 ds spot P d.1 inner ok.1.1 can.1.1 can.1.0 at1 e.2 in
      let s' = drawn_eqns t brings d.0 spot ds es d.1 in
      (onward P P s d.1 s' e.0 x, seen-on t (with_variables ts ds) (lasts_in ds has_last) none_lacks d.0 P d.1 s' x e.1, owned-on P d.1 s' d.0 (λ x. some_defines es x) x e.2)

  eqns-next : (e : Eqn) (es : Eqns) → EqnDrawn e → EqnsDrawn es → EqnsDrawn (more_eqns e es)
  eqns-next e es draws others ts has_last z ds spot P s counted ok can paths at own =
      let s1 = drawn_eqn t brings z spot ds e s in
      let x = draws ts has_last z ds spot P s counted ok.0 can.1.0 paths at (owned-part s z (λ x. some_defines (more_eqns e es) x) (λ x. defines e x) (λ x d. or-first (defines e x) (some_defines es x) d) own) in
      let y = others ts has_last z ds spot P s1 counted ok.1 can.1.1 paths (at-on t ts has_last none_lacks z P P s s1 spot at x)
      (owned-part s1 z (λ x. some_defines (more_eqns e es) x) (λ x. some_defines es x) (λ x d. or-further (defines e x) (some_defines es x) d) (owned-on P s s1 z (λ x. some_defines (more_eqns e es) x) x own)) in
      onward P P s s1 (drawn_eqns t brings z spot ds es s1) x y

  mutual
    pub block-drawn : (b : Block) → IsPlain b → BlockHasFirsts types b → BlockDrawn b
    block-drawn (block ds es) plain first = block-next ds es first.0 (eqns-drawn es plain first.1)

    eqns-drawn : (es : Eqns) → AllPlain es → EqnsHaveFirsts types es → EqnsDrawn es
    eqns-drawn no_eqn plain first = λ ts has_last z ds spot P s counted ok can paths at own. still P s at.formed
    eqns-drawn (more_eqns e es) plain first = eqns-next e es (eqn-drawn e plain.0 first.0) (eqns-drawn es plain.1 first.1)

    eqn-drawn : (e : Eqn) → OnePlain e → EqnHasFirsts types e → EqnDrawn e
    eqn-drawn (define q xs e) plain first = λ ts has_last z ds spot P s counted ok can paths at own. definition-step types among t brings calls ts has_last counted z ds xs e spot P s paths ok at own
    eqn-drawn (switch q e arms) plain first = switch-drawn q e arms (arms-drawn arms plain first)
    eqn-drawn (reset q b e) plain first = reset-drawn q b e (block-drawn b plain first)
    eqn-drawn (automaton q ss) plain first = automaton-drawn q ss (states-drawn ss plain.1 first) (some-state ss plain.0) (numbers-below ss plain.0)

    arms-drawn : (arms : Arms) → ArmsPlain arms → ArmsHaveFirsts types arms → ArmsDrawn arms
    arms-drawn no_arm plain first = λ e ts has_last z spot w u h P s counted ok fit can at l over. (h, refl, still P s at.formed, over)
    arms-drawn (more_arms c b q arms) plain first = arms-next c b q arms (block-drawn b plain.0 first.0) (arms-drawn arms plain.1 first.1)

    states-drawn : (ss : States) → StatesPlain ss → StatesHaveFirsts types ss → StatesDrawn ss
    states-drawn no_state plain first = λ e ts has_last z spot words n k h rests P s counted ok can l shape_is below at lines strong weak over.
        record { hidden = h; scope = refl; step = still P s at.formed; over = over; strong = strong; weak = weak }
    states-drawn (more_states f b until unless q ss) plain first = states-next f b until unless q ss (block-drawn b plain.0 first.0) (states-drawn ss plain.1.1 first.1)
