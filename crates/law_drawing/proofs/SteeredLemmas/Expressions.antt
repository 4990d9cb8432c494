-- What is drawn of an expression, with marks.
use Rattle.std.proofs.Common.{ℕ, ◌+◌, ◌≤◌, List, [], ◌∷◌, length, inl, inr, arith}
use Rattle.hp_tree.specs.Expressions.{Expr, constant, variable, last_of, one, two, choose, pre, fby, arrow, when_is, merge, call, Exprs, no_expr, more_exprs, Parts, no_part, more_parts}
use Rattle.hp_tree.specs.Instant.{First, Second, Third, Args, Instance, Head, Tail, Clock, without}
use Rattle.hp_tree.specs.Programs.{Node}
use Rattle.hp_meaning.specs.Causal.Sources.{Sources, none, both, NameSources, PlaceSources, below}
use Rattle.hp_meaning.specs.Causal.WhatIsRead.{of_expr, of_exprs, of_parts, at_expr, at_exprs, at_parts}
use Rattle.hp_circuit.specs.declared.circuit.Wire.TheVariants as wire
use Rattle.hp_drawing.specs.declared.parts.Callee.{Callee}
use Rattle.hp_drawing.specs.declared.parts.Place.{Place}
use Rattle.hp_drawing.specs.declared.parts.Value.{Value}
use Rattle.hp_drawing.specs.Planned.{shape_in, shape_in_parts}
use Rattle.hp_drawing.specs.Told.{Told, constant_shape, constant_number}
use Rattle.hp_drawing.specs.Sketch.{Sketch, push}
use Rattle.hp_drawing.specs.Scopes.{Scope, value_in, last_in, shapes_in}
use Rattle.hp_drawing.specs.DrawnExpressions.{Brings, drawn, drawn_parts, drawn_args, drawn_constant, compares, merge_begin, merge_end, begin_call, takes_input}
use Rattle.hp_base.specs.declared.ty.Const.{Const}
use Rattle.law_drawing.specs.Steered.Marks.{Steering, Marks, Grows, Has, Leads, AreMarked}
use Rattle.law_drawing.specs.Steered.Placed.{Held, Placed, PartsPlaced, ArgsPlaced}
use Rattle.law_drawing.specs.Steered.Asked.{count_of, CallsFit, CallsInAllFit, CallsInPartsFit, Owes, IsCallee, BringsMarked}
use Rattle.law_drawing.proofs.SteeredLemmas.Steps.{grows-none, grows-both, has-grows, low-grows, low-up, Step, Holed}
use Rattle.law_drawing.proofs.SteeredLemmas.Steps as steps
use Rattle.law_drawing.proofs.SteeredLemmas.Values.{Valued, holed-valued, onward, IsAt, at-behind, Draws, low-in, low-context, draws-one, draws-two, draws-choice}
use Rattle.law_drawing.proofs.SteeredLemmas.Delays.{draws-pre, draws-fby, draws-arrow, draws-sampled}
use Rattle.law_drawing.proofs.SteeredLemmas.Calls.{part_of, part-marked, merge-begin-marked, merge-end-marked, callee-grows, call-marked, input-marked, output-low}

module _ (steers : Steering) (t : Told) (brings : Brings) (held : Held) (z : Scope) (context : Sources) (names : NameSources) (b : BringsMarked steers t brings held context) where
  abbrev At : Marks → Sketch → Place → Type 0
  At ms s spot = IsAt steers z context names ms s spot

  abbrev Drawing : Place → Sources → (Sketch → Type 0) → (Sketch → Value × Sketch) → Type 0
  Drawing spot m P f = Draws steers z context names spot m P f

  -- where the slots of a part are placed
  abbrev Slots : Place → Expr → PlaceSources → Sketch → Type 0
  Slots spot e k s = Placed steers t brings held z spot e k s

  behind : (ms ms' : Marks) (s s' : Sketch) (spot : Place) → At ms s spot → Grows ms ms' → AreMarked steers s' ms' → At ms' s' spot
  behind ms ms' s s' spot h g a = at-behind steers z context names ms ms' s s' spot h g a

  constant-marked : (c : Const) (s : Sketch) (ms : Marks) (m : Sources) → AreMarked steers s ms → Valued steers ms m (drawn_constant t c s)
  unfolding drawn_constant
  constant-marked c s ms m a =
      holed-valued steers ms m (constant_shape t c) (push (wire.Constant (constant_number t c)) (constant_shape t c) s) (steps.gate steers (wire.Constant (constant_number t c)) (constant_shape t c) s ms m a tt)

  pub from_none : (i n : ℕ) → i ≤ n → 0 + i ≤ n
  from_none i n h = omega (arith, h)

  mutual
    pub expr : (e : Expr) (clock : Clock) (k : PlaceSources) (spot : Place) → CallsFit t e → Owes steers context (at_expr e clock names k) k → Drawing spot (of_expr e names k) (λ s. Slots spot e k s) (λ s. drawn t brings z spot e s)
    expr (constant q c) clock k spot fit o = λ s ms j at. constant-marked c s ms (both context none) at.marks
    expr (variable q x) clock k spot fit o = λ s ms j at. (ms, grows-none ms, at.marks, at.seen.values x)
    expr (last_of q x) clock k spot fit o = λ s ms j at. (ms, grows-none ms, at.marks, low-context steers z context names ms (last_in z x).wire none (at.seen.lasts x))
    expr (one q op a) clock k spot fit o =
        draws-one steers z context names spot op (of_expr a names (below First k)) (λ s. Slots spot a (below First k) s) (λ s. drawn t brings z spot a s) (expr a clock (below First k) spot fit (λ p. o (First ∷ p)))
    expr (two q op a c) clock k spot fit o =
        draws-two steers z context names (compares t z op a) spot op (of_expr a names (below First k)) (of_expr c names (below Second k)) (k []) (λ s. Slots spot a (below First k) s) (λ s. Slots spot c (below Second k) s) (λ s. drawn t brings z spot a s)
        (λ s. drawn t brings z spot c s) (λ l. o [] (elim l [ inl i ↦ inl i | inr i ↦ inr (inr i) ])) (expr a clock (below First k) spot fit.0 (λ p. o (First ∷ p))) (expr c clock (below Second k) spot fit.1 (λ p. o (Second ∷ p)))
    expr (choose q a c d) clock k spot fit o =
        draws-choice steers z context names spot (of_expr a names (below First k)) (of_expr c names (below Second k)) (of_expr d names (below Third k)) (λ s. Slots spot a (below First k) s) (λ s. Slots spot c (below Second k) s) (λ s. Slots spot d (below Third k) s)
        (λ s. drawn t brings z spot a s) (λ s. drawn t brings z spot c s) (λ s. drawn t brings z spot d s) (expr a clock (below First k) spot fit.0 (λ p. o (First ∷ p))) (expr c clock (below Second k) spot fit.1 (λ p. o (Second ∷ p)))
        (expr d clock (below Third k) spot fit.2 (λ p. o (Third ∷ p)))
    expr (pre q a) clock k spot fit o =
        draws-pre steers z context names (shape_in t a (shapes_in z)) spot (of_expr a names (below First k)) (λ s. Slots spot a (below First k) s) (λ s. drawn t brings z spot a s) (expr a clock (below First k) spot fit (λ p. o (First ∷ p)))
    expr (fby q a c) clock k spot fit o =
        draws-fby steers z context names (shape_in t a (shapes_in z)) spot (of_expr a names (below First k)) (of_expr c names (below Second k)) (λ s. Slots spot a (below First k) s) (λ s. Slots spot c (below Second k) s) (λ s. drawn t brings z spot a s)
        (λ s. drawn t brings z spot c s) (expr a clock (below First k) spot fit.0 (λ p. o (First ∷ p))) (expr c clock (below Second k) spot fit.1 (λ p. o (Second ∷ p)))
    expr (arrow q a c) clock k spot fit o =
        draws-arrow steers z context names spot (of_expr a names (below First k)) (of_expr c names (below Second k)) (λ s. Slots spot a (below First k) s) (λ s. Slots spot c (below Second k) s) (λ s. drawn t brings z spot a s) (λ s. drawn t brings z spot c s)
        (expr a clock (below First k) spot fit.0 (λ p. o (First ∷ p))) (expr c clock (below Second k) spot fit.1 (λ p. o (Second ∷ p)))
    expr (when_is q a c x) clock k spot fit o =
        draws-sampled steers z context names spot x (of_expr a names (below First k)) (λ other s. Slots other a (below First k) s) (λ other s. drawn t brings z other a s) (λ other. expr a (without clock) (below First k) other fit (λ p. o (First ∷ p)))
    expr (merge q x ps) clock k spot fit o = λ s ms j at.
        let p = shape_in_parts t ps (shapes_in z) in
        let m = both (names x) (of_parts ps names (below Args k)) in
        let w = merge_begin p (value_in z x).wire s in
        let u = merge-begin-marked steers z context names p spot x m s ms at (λ h. inl h) in
        let v = parts ps x clock (below Args k) spot m fit (λ q. o (Args ∷ q)) (λ h. inl h) (λ h. inr h) w.0 w.1 u.0 j (behind ms u.0 s w.1 spot at u.1 u.2) u.3 in
        let d = drawn_parts t brings z spot x ps w.0 w.1 in
        onward steers ms v.0 (both context m) (merge_end p w.0 d) (grows-both ms u.0 v.0 u.1 v.1)
        (merge-end-marked steers z context names p w.0 d v.0 (both context m) v.2 v.3 (has-grows u.0 v.0 v.1 w.0 (both context m) u.3))
    expr (call q f inlined es) clock k spot fit o = λ s ms j at.
        let m = both context (k []) in
        let n = fit.0.node in
        let c = begin_call t brings spot f s in
        let u = call-marked steers z context names t brings held b spot f n k s ms m j.0 at fit.0.found (λ h. inl h) (λ p l. o (Instance ∷ p) (elim l [ inl i ↦ inl i | inr i ↦ inr (inr i) ])) in
        let v = args es clock (below Args k) spot c.0 n 0 (k []) fit.2 (λ p. o (Args ∷ p)) (λ h. o [] (inr (inr h))) (from_none (count_of es) (length n.inputs) fit.0.inputs) c.1 u.0 j.1 (behind ms u.0 s c.1 spot at u.1 u.2) u.3 in
        let d = drawn_args t brings z spot c.0 0 es c.1 in
        (v.0, grows-both ms u.0 v.0 u.1 v.1, v.2, output-low steers z context names c.0 n d v.0 m (callee-grows steers z context names u.0 v.0 v.1 n c.0 m u.3) fit.1)

    -- the parts of a merge, whose holes have its mark
    parts : (ps : Parts) (x : List ℕ) (clock : Clock) (k : PlaceSources) (spot : Place) (m : Sources) → CallsInPartsFit t ps → Owes steers context (at_parts ps x clock names k) k → (Leads steers (names x) → Leads steers m)
        → (Leads steers (of_parts ps names k) → Leads steers m) → (h : ℕ) (s : Sketch) (ms : Marks) → PartsPlaced steers t brings held z spot x ps k h s → At ms s spot → Has ms h (both context m) → Holed steers ms (both context m) (drawn_parts t brings z spot x ps h s)
    parts no_part x clock k spot m fit o name from h s ms j at has = (ms, grows-none ms, at.marks, has)
    parts (more_parts c e ps) x clock k spot m fit o name from h s ms j at has =
        let u = part-marked steers z context names t spot x c (of_expr e names (below Head k)) m (λ other s. Slots other e (below Head k) s) (λ other s. drawn t brings z other e s) h s ms
        (λ other. expr e ((c, x) ∷ clock) (below Head k) other fit.0 (λ p. o (Head ∷ p))) j.0 at has name (λ l. from (inl l)) in
        let rest = part_of steers z context names t spot x c (λ other s. drawn t brings z other e s) h s in
        let v = parts ps x clock (below Tail k) spot m fit.1 (λ p. o (Tail ∷ p)) name (λ l. from (inr l)) rest.0 rest.1 u.0 j.1 (behind ms u.0 s rest.1 spot at u.1 u.2) u.3 in
        (v.0, grows-both ms u.0 v.0 u.1 v.1, v.2, v.3)

    -- the arguments of a call, from number j on
    pub args : (es : Exprs) (clock : Clock) (k : PlaceSources) (spot : Place) (c : Callee) (n : Node) (j : ℕ) (m : Sources) → CallsInAllFit t es → Owes steers context (at_exprs es clock names k) k → (Leads steers (of_exprs es names k) → Leads steers m)
        → j + count_of es ≤ length n.inputs → (s : Sketch) (ms : Marks) → ArgsPlaced steers t brings held z spot c j es k s → At ms s spot → IsCallee ms n c (both context m) → Step steers ms (drawn_args t brings z spot c j es s)
    args no_expr clock k spot c n j m fit o from fits s ms q at callee = (ms, grows-none ms, at.marks)
    args (more_exprs e es) clock k spot c n j m fit o from fits s ms q at callee =
        let u = expr e clock (below Head k) spot fit.0 (λ p. o (Head ∷ p)) s ms q.0 at in
        let v = drawn t brings z spot e s in
        let there = callee-grows steers z context names ms u.0 u.1 n c (both context m) callee in
        let taken = takes_input c j v.0 v.1 in
        let a = input-marked steers z context names c n j v.0 v.1 u.0 (both context m) u.2 there (omega (arith, fits)) (low-in steers z context names u.0 v.0.wire (of_expr e names (below Head k)) m (λ l. from (inl l)) u.3) in
        let w = args es clock (below Tail k) spot c n (j + 1) m fit.1 (λ p. o (Tail ∷ p)) (λ l. from (inr l)) (omega (arith, fits)) taken u.0 q.1 (behind ms u.0 s taken spot at u.1 a) there in
        (w.0, grows-both ms u.0 w.0 u.1 w.1, w.2)
