-- What is drawn of an expression, with marks.
use Rattle.std.proofs.Common.{◌≡◌, ◌⊎◌, Bool, false, ◌&&◌, IsTrue, if◌then◌else◌, Some, sym, ap, subst, ◌∙◌, ℕ, suc, ◌+◌, ◌≤◌, ◌<◌, max, List, [], ◌∷◌, length, inl, inr, arith}
use Rattle.hp_tree.specs.Expressions.{Expr, constant, variable, last_of, one, two, choose, pre, fby, arrow, when_is, merge, call, Exprs, no_expr, more_exprs, Parts, no_part, more_parts}
use Rattle.hp_tree.specs.Instant.{First, Second, Third, Args, Head, Tail, Clock, without, Place as TreePlace}
use Rattle.hp_tree.specs.Programs.{Node}
use Rattle.hp_meaning.specs.Causal.Sources.{Sources, none, both, also, NameSources, PlaceSources, below}
use Rattle.hp_meaning.specs.Causal.WhatIsRead.{of_clock, of_expr, of_exprs, of_parts, at_expr, at_exprs, at_parts}
use Rattle.std.specs.List.{slice_get}
use Rattle.std.specs.Prelude.{Option}
use Rattle.hp_circuit.specs.declared.circuit.Shape.{Shape}
use Rattle.hp_circuit.specs.declared.circuit.Wire.TheVariants as wire
use Rattle.hp_drawing.specs.declared.parts.Callee.{Callee}
use Rattle.hp_drawing.specs.declared.parts.Place.{Place}
use Rattle.hp_drawing.specs.declared.parts.Value.{Value}
use Rattle.hp_drawing.specs.Planned.{shape_in, shape_in_parts}
use Rattle.hp_drawing.specs.Told.{Told, constant_shape, constant_number}
use Rattle.hp_drawing.specs.Sketch.{Sketch, push}
use Rattle.hp_drawing.specs.Scopes.{Scope, value_in, last_in, shapes_in}
use Rattle.hp_drawing.specs.DrawnExpressions.{Brings, drawn, drawn_parts, drawn_args, drawn_constant, compares, merge_begin, merge_end, begin_call, takes_input}
use Rattle.hp_base.specs.declared.ty.Const.{Const}
use Rattle.hp_base.specs.declared.ty.Ty.{Ty}
use Rattle.hp_base.specs.declared.ty.Ty.TheVariants as ty
use Rattle.hp_tree.specs.Blocks.{Decl}
use Rattle.hp_tree.specs.Operators.{is_comparison}
use Rattle.hp_tree.specs.Programs.{TypeDecl}
use Rattle.hp_base.specs.Known.Known.{lookup}
use Rattle.hp_typing.specs.Types.{type_of, types_in, type_of_one, args_fit, input_type}
use Rattle.law_judged.specs.Typed.Scopes.{Scope as TypeScope}
use Rattle.law_values.specs.Valued.Judged.{Lasts, ExprSound, ExprsSound, PartsSound}
use Rattle.law_values.proofs.ValuedLemmas.Typed.{one_typed, two_typed, if_typed, pair_typed, when_typed, call_typed, merge_typed, PartsHave, arg_typed, some_is}
use Rattle.hp_meaning.specs.Contract.Slots.{is_int}
use Rattle.hp_drawing.specs.Kept.{is_mark}
use Rattle.hp_drawing.specs.Told.{type_shape}
use Rattle.law_drawing.specs.NoCircle.Typed.{AreTyped}
use Rattle.law_drawing.specs.NoCircle.Marks.{Mark, Marks, Grows, Has, Frame, later, AreMarked, top, around}
use Rattle.law_drawing.specs.NoCircle.Asked.{Owes, IsCallee, BringsMarked}
use Rattle.law_drawing.specs.NoCircle.Heights.{height, height_of}
use Rattle.law_drawing.proofs.NoCircleLemmas.Steps.{grows-none, grows-both, has-grows, low-grows, low-up, low-under, Step, Holed}
use Rattle.law_drawing.proofs.NoCircleLemmas.Steps as steps
use Rattle.law_drawing.proofs.NoCircleLemmas.Parts.{Rest}
use Rattle.law_drawing.proofs.NoCircleLemmas.Rows.{RowLate, AreShaped}
use Rattle.law_drawing.proofs.NoCircleLemmas.Carried.{type-whole, two-answer, constant-whole, found-output, whole-of}
use Rattle.law_drawing.proofs.NoCircleLemmas.Values.{Valued, holed-valued, onward, IsAt, at-behind, Draws, bound, low-context, two_whole, draws-one, draws-two, draws-choice}
use Rattle.law_drawing.proofs.NoCircleLemmas.Delays.{draws-pre, draws-fby, draws-arrow, draws-sampled}
use Rattle.law_drawing.proofs.NoCircleLemmas.Calls.{shapes-back, output-shape, part_of, part-marked, merge-begin-marked, merge-end-marked, callee-grows, call-marked, input-marked, output-low}

module _ (rank : TreePlace → ℕ) (types : List TypeDecl) (among : List ℕ → Option Node) (t : Told) (known : (f : List ℕ) (n : Node) → among f ≡ Some n → t.nodes f ≡ Some n) (brings : Brings) (b : BringsMarked t brings) (g : TypeScope) (has_last : Lasts) (z : Scope) (S : AreTyped g has_last z) (context : Mark) (names : NameSources) where
  abbrev At : Frame → Marks → Sketch → Place → Type 0
  At F ms s spot = IsAt rank z context names F ms s spot

  abbrev Drawing : Frame → Place → Sources → ℕ → Bool → (Sketch → Value × Sketch) → Type 0
  Drawing F spot m n whole f = Draws rank z context names F spot m n whole f

  abbrev Bounded : ℕ → Sources → Mark
  Bounded n m = bound rank z context names n m

  behind : {F G : Frame} (ms ms' : Marks) (s s' : Sketch) (spot : Place) → At F ms s spot → Grows ms ms' → AreMarked G s' ms' → At G ms' s' spot
  behind ms ms' s s' spot h g a = at-behind rank z context names ms ms' s s' spot h g a

  constant-marked : {F : Frame} (c : Const) (s : Sketch) (ms : Marks) (m : Mark) → AreMarked F s ms → Valued F ms m (is_mark (constant_shape t c)) (drawn_constant t c s)
  unfolding drawn_constant
  constant-marked c s ms m a =
      holed-valued ms m (constant_shape t c) (push (wire.Constant (constant_number t c)) (constant_shape t c) s) (steps.gate (wire.Constant (constant_number t c)) (constant_shape t c) s ms m a tt)

  -- a call stands above its arguments, and above what stands around
  pub args-below : (own : Sources) (clock : Clock) (es : Exprs) (k : PlaceSources) → max context.0 (top rank (both (also (of_clock clock names)) (of_exprs es names k))) < top rank own → top rank (of_exprs es names k) < top rank own
  args-below own clock es k h = omega (arith, h)

  pub context-below : (own : Sources) (clock : Clock) (es : Exprs) (k : PlaceSources) → max context.0 (top rank (both (also (of_clock clock names)) (of_exprs es names k))) < top rank own → context.0 < top rank own
  context-below own clock es k h = omega (arith, h)

  flagged : (F : Frame) (spot : Place) (m : Sources) (n : ℕ) (p q : Bool) (f : Sketch → Value × Sketch) → p ≡ q → Drawing F spot m n p f → Drawing F spot m n q f
  flagged F spot m n p q f e d = subst (λ w. Drawing F spot m n w f) e d

  -- the first output of a call
  first-output : (n : Node) (u : Ty) (shapes : List Shape) (c : Callee) → input_type n.outputs ≡ Some u → AreShaped t shapes c.outputs n.outputs → (d : Decl) × (d.ty ≡ u) × (0 < length n.outputs) × (slice_get shapes c.outputs ≡ Some (type_shape t d.ty))
  first-output n u shapes c h k = by n.outputs h k
    where
      by : (ds : List Decl) → input_type ds ≡ Some u → AreShaped t shapes c.outputs ds → (d : Decl) × (d.ty ≡ u) × (0 < length ds) × (slice_get shapes c.outputs ≡ Some (type_shape t d.ty))
      by [] h k = absurd cc
      by (d ∷ ds) h k = (d, some_is d.ty u h, omega arith, k.0)

  mutual
    pub expr : (F : Frame) (e : Expr) (u : Ty) (clock : Clock) (k : PlaceSources) (spot : Place) → ExprSound types among g has_last e → type_of g e ≡ Some u → Owes rank context (at_expr e clock names k) k
        → Drawing F spot (of_expr e names k) (height e) (is_int u) (λ s. drawn t brings z spot e s)
    expr F (constant q c) u clock k spot ok h o = λ s ms at. subst (λ w. Valued F ms (Bounded 0 none) w (drawn_constant t c s)) (constant-whole t g c u h) (constant-marked c s ms (Bounded 0 none) at.marks)
    expr F (variable q x) u clock k spot ok h o = λ s ms at.
        (ms, grows-none ms, at.marks, low-up ms (value_in z x).wire (around rank context (names x)) (Bounded 0 (names x)) (inr (omega arith, omega arith)) (at.seen.values x), S.values x u h)
    expr F (last_of q x) u clock k spot ok h o = λ s ms at. (ms, grows-none ms, at.marks, low-context rank z context names ms (last_in z x).wire 0 none (at.seen.lasts x), S.lasts x u ok h)
    expr F (one q op a) u clock k spot ok h o =
        let r = one_typed (type_of_one op) (type_of g a) u h in
        flagged F spot (of_expr a names (below First k)) (suc (height a)) (is_int (type_of_one op)) (is_int u) (λ s. drawn t brings z spot (one q op a) s) (ap is_int r.1)
        (draws-one rank z context names spot op (of_expr a names (below First k)) (height a) (is_int (type_of_one op)) (λ s. drawn t brings z spot a s) (expr F a (type_of_one op) clock (below First k) spot ok r.0 (λ p. o (First ∷ p))))
    expr F (two q op a c) u clock k spot ok h o =
        let r = two_typed op (type_of g a) (type_of g c) u h in
        let flag = compares t z op a in
        flagged F spot (both (of_expr a names (below First k)) (of_expr c names (below Second k))) (suc (suc (max (height a) (height c)))) (if flag then false else two_whole op) (is_int u) (λ s. drawn t brings z spot (two q op a c) s)
        (ap (λ w. if is_comparison op && w then false else two_whole op) (whole-of types among t known g has_last z S a r.0 ok.0 r.2) ∙ two-answer op r.0 r.1 ∙ ap is_int r.4)
        (draws-two rank z context names flag spot op (of_expr a names (below First k)) (of_expr c names (below Second k)) (height a) (height c) (is_int r.0) (is_int r.0) (λ s. drawn t brings z spot a s)
        (λ s. drawn t brings z spot c s) (expr F a r.0 clock (below First k) spot ok.0 r.2 (λ p. o (First ∷ p))) (expr F c r.0 clock (below Second k) spot ok.1 r.3 (λ p. o (Second ∷ p))))
    expr F (choose q a c d) u clock k spot ok h o =
        let r = if_typed (type_of g a) (type_of g c) (type_of g d) u h in
        draws-choice rank z context names spot (of_expr a names (below First k)) (of_expr c names (below Second k)) (of_expr d names (below Third k)) (height a) (height c) (height d) (is_int ty.Bool) (is_int u) (is_int u)
        (λ s. drawn t brings z spot a s) (λ s. drawn t brings z spot c s) (λ s. drawn t brings z spot d s) (expr F a ty.Bool clock (below First k) spot ok.0 r.0 (λ p. o (First ∷ p))) (expr F c u clock (below Second k) spot ok.1.0 r.1 (λ p. o (Second ∷ p)))
        (expr F d u clock (below Third k) spot ok.1.1 r.2 (λ p. o (Third ∷ p)))
    expr F (pre q a) u clock k spot ok h o =
        flagged F spot none 0 (is_mark (shape_in t a (shapes_in z))) (is_int u) (λ s. drawn t brings z spot (pre q a) s) (whole-of types among t known g has_last z S a u ok h)
        (draws-pre rank z context names (shape_in t a (shapes_in z)) spot (of_expr a names (below First k)) (height a) (is_int u) (λ s. drawn t brings z spot a s) (expr F a u clock (below First k) spot ok h (λ p. o (First ∷ p))))
    expr F (fby q a c) u clock k spot ok h o =
        let r = pair_typed (type_of g a) (type_of g c) u h in
        flagged F spot (of_expr a names (below First k)) (suc (height a)) (is_mark (shape_in t a (shapes_in z))) (is_int u) (λ s. drawn t brings z spot (fby q a c) s) (whole-of types among t known g has_last z S a u ok.0 r.0)
        (draws-fby rank z context names (shape_in t a (shapes_in z)) spot (of_expr a names (below First k)) (of_expr c names (below Second k)) (height a) (height c) (is_int u) (is_int u) (λ s. drawn t brings z spot a s)
        (λ s. drawn t brings z spot c s) (expr F a u clock (below First k) spot ok.0 r.0 (λ p. o (First ∷ p))) (expr F c u clock (below Second k) spot ok.1 r.1 (λ p. o (Second ∷ p))))
    expr F (arrow q a c) u clock k spot ok h o =
        let r = pair_typed (type_of g a) (type_of g c) u h in
        draws-arrow rank z context names spot (of_expr a names (below First k)) (of_expr c names (below Second k)) (height a) (height c) (is_int u) (is_int u) (λ s. drawn t brings z spot a s) (λ s. drawn t brings z spot c s)
        (expr F a u clock (below First k) spot ok.0 r.0 (λ p. o (First ∷ p))) (expr F c u clock (below Second k) spot ok.1 r.1 (λ p. o (Second ∷ p)))
    expr F (when_is q a c x) u clock k spot ok h o =
        draws-sampled rank z context names spot x (of_expr a names (below First k)) (height a) (is_int u) (λ other s. drawn t brings z other a s) (λ other. expr F a u (without clock) (below First k) other ok (when_typed _ (type_of g a) u h) (λ p. o (First ∷ p)))
    expr F (merge q x ps) u clock k spot ok h o = λ s ms at.
        let p = shape_in_parts t ps (shapes_in z) in
        let whole : is_mark p ≡ is_int u = whole-of types among t known g has_last z S (merge q x ps) u ok h in
        let m = both (names x) (of_parts ps names (below Args k)) in
        let n = suc (suc (height_of ps)) in
        let w = merge_begin p (value_in z x).wire s in
        let v0 = merge-begin-marked rank z context names F p spot x n m s ms at (omega arith) (omega arith) in
        let v = parts F (is_mark p) ps u x clock (below Args k) spot n m ok.1 (merge_typed g (lookup g.variables x) ps u h) (λ e. whole ∙ e) (λ q. o (Args ∷ q)) (omega arith) (omega arith) (omega arith) (omega arith) w.0 w.1 v0.0 (behind ms v0.0 s w.1 spot at v0.1 v0.2) v0.3 in
        let d = drawn_parts t brings z spot x ps w.0 w.1 in
        subst (λ q. Valued F ms (Bounded n m) q (merge_end p w.0 d)) whole
        (onward ms v.0 (Bounded n m) (is_mark p) (merge_end p w.0 d) (grows-both ms v0.0 v.0 v0.1 v.1)
        (merge-end-marked rank z context names F p w.0 d v.0 (Bounded n m) v.2 v.3 (has-grows v0.0 v.0 v.1 w.0 (Bounded n m) v0.3)))
    expr F (call q f inlined es) u clock k spot ok h o = λ s ms at.
        let r = call_typed (lookup g.nodes f) (types_in g es) u h in
        let m = around rank context (k []) in
        let n = r.0 in
        let c = begin_call t brings spot f s in
        let v0 = call-marked rank z context names F t brings b spot f n s ms m at (known f n (sym ok.0 ∙ r.1)) in
        let G : Frame = record { late = F.late; shapes = v0.0 } in
        let first = first-output n u v0.0 c.0 (found-output types among t known g has_last z S f n u r.1 r.3) v0.3 in
        let v = args G es n.inputs clock (below Args k) spot c.0 n 0 (k []) ok.1 r.2 (λ p. o (Args ∷ p)) (args-below (k []) clock es (below Args k) (o [])) (context-below (k []) clock es (below Args k) (o [])) (omega arith) c.1 v0.4
        (behind ms v0.4 s c.1 spot at v0.5 (subst (λ i. AreMarked (later G (RowLate t i n.inputs)) c.1 v0.4) (let y : c.0.inputs ≡ c.0.inputs + 0 = omega arith in y) v0.6)) v0.7 in
        let d = drawn_args t brings z spot c.0 0 es c.1 in (
          v.0,
          grows-both ms v0.4 v.0 v0.5 v.1,
          shapes-back rank z context names F v0.0 v0.1 d v.0 v0.2 v.2,
          output-low c.0 n 0 d v.0 m (callee-grows v0.4 v.0 v.1 n c.0 m v0.7) first.2,
          ap is_mark (output-shape t G c.0 c.0.outputs 0 first.0 d v.0 v.2 (let y : c.0.outputs + 0 ≡ c.0.outputs = omega arith in y) first.3) ∙ type-whole t first.0.ty ∙ ap is_int first.1,
        )

    -- the parts of a merge, whose holes have its mark
    parts : (F : Frame) (whole : Bool) (ps : Parts) (u : Ty) (x : List ℕ) (clock : Clock) (k : PlaceSources) (spot : Place) (n : ℕ) (m : Sources) → PartsSound types among g has_last ps → PartsHave g u ps → (is_int u ≡ false → whole ≡ false) → Owes rank context (at_parts ps x clock names k) k
        → top rank (names x) ≤ top rank m → top rank (of_parts ps names k) ≤ top rank m → 1 < n → height_of ps < n → (h : ℕ) (s : Sketch) (ms : Marks) → At (later F (Rest whole h)) ms s spot → Has ms h (Bounded n m)
        → Holed (later F (Rest whole (drawn_parts t brings z spot x ps h s).0)) ms (Bounded n m) (drawn_parts t brings z spot x ps h s)
    parts F whole no_part u x clock k spot n m ok have alike o name from more less h s ms at has = (ms, grows-none ms, at.marks, has)
    parts F whole (more_parts c e ps) u x clock k spot n m ok have alike o name from more less h s ms at has =
        let v0 = part-marked rank z context names F t spot x c (of_expr e names (below Head k)) m (height e) n (is_int u) whole (λ other s. drawn t brings z other e s) h s ms alike
        (λ other. expr (later F (Rest whole h)) e u ((c, x) ∷ clock) (below Head k) other ok.0 have.0 (λ p. o (Head ∷ p))) at has name (omega (arith, from)) more (omega (arith, less)) in
        let rest = part_of rank z context names t spot x c (λ other s. drawn t brings z other e s) h s in
        let v = parts F whole ps u x clock (below Tail k) spot n m ok.1 have.1 alike (λ p. o (Tail ∷ p)) name (omega (arith, from)) more (omega (arith, less)) rest.0 rest.1 v0.0 (behind ms v0.0 s rest.1 spot at v0.1 v0.2) v0.3 in
        (v.0, grows-both ms v0.0 v.0 v0.1 v.1, v.2, v.3)

    -- the arguments of a call, from number j on; the inputs that are left may be open
    pub args : (G : Frame) (es : Exprs) (ds : List Decl) (clock : Clock) (k : PlaceSources) (spot : Place) (c : Callee) (n : Node) (j : ℕ) (m : Sources) → ExprsSound types among g has_last es → IsTrue (args_fit ds (types_in g es)) → Owes rank context (at_exprs es clock names k) k
        → top rank (of_exprs es names k) < top rank m → context.0 < top rank m → j + length ds ≤ length n.inputs → (s : Sketch) (ms : Marks) → At (later G (RowLate t (c.inputs + j) ds)) ms s spot → IsCallee ms n c (around rank context m)
        → Step G ms (drawn_args t brings z spot c j es s)
    args G no_expr [] clock k spot c n j m ok fit o from over fits s ms at callee = (ms, grows-none ms, steps.weaken G.late s ms (λ i q. elim q [ inl a ↦ a | inr a ↦ absurd a ]) at.marks)
    args G no_expr (d ∷ ds) clock k spot c n j m ok fit o from over fits s ms at callee = absurd cc
    args G (more_exprs e es) [] clock k spot c n j m ok fit o from over fits s ms at callee = absurd cc
    args G (more_exprs e es) (d ∷ ds) clock k spot c n j m ok fit o from over fits s ms at callee =
        let r = arg_typed d ds (type_of g e) (types_in g es) fit in
        let F = later G (RowLate t (c.inputs + j) (d ∷ ds)) in
        let u = expr F e d.ty clock (below Head k) spot ok.0 r.0 (λ p. o (Head ∷ p)) s ms at in
        let v = drawn t brings z spot e s in
        let there = callee-grows ms u.0 u.1 n c (around rank context m) callee in
        let taken = takes_input c j v.0 v.1 in
        let late : ℕ → Type 0 = λ i. G.late i ⊎ RowLate t (suc (c.inputs + j)) ds i in
        let a = input-marked F late c n j v.0 v.1 u.0 (around rank context m)
        (λ i q. elim q [ inl y ↦ inr (inl y) | inr y ↦ elim y [ inl w ↦ inl (w.1, u.4 ∙ sym (type-whole t d.ty) ∙ w.0) | inr w ↦ inr (inr w) ] ]) u.2 there (omega (arith, fits))
        (low-under u.0 v.0.wire (Bounded (height e) (of_expr e names (below Head k))) (around rank context m) (inl (omega (arith, from, over))) u.3) in
        let w = args G es ds clock (below Tail k) spot c n (j + 1) m ok.1 r.1 (λ p. o (Tail ∷ p)) (omega (arith, from)) over (omega (arith, fits)) taken u.0
        (behind ms u.0 s taken spot at u.1 (subst (λ i. AreMarked (later G (RowLate t i ds)) taken u.0) (let y : suc (c.inputs + j) ≡ c.inputs + (j + 1) = omega arith in y) a)) there in
        (w.0, grows-both ms u.0 w.0 u.1 w.1, w.2)
