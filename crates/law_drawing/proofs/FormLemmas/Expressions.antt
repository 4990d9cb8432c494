-- What is drawn of an expression has a value of its type, whose wire carries the shape of that type.
use Rattle.std.proofs.Common.{◌≡◌, ℕ, ◌+◌, ◌&&◌, List, [], ◌∷◌, Option, Some, refl, sym, ap, subst, ◌∙◌, arith}
use Rattle.std.specs.Prelude.{⊤, IsTrue}
use Rattle.hp_base.specs.declared.ty.Ty.{Ty}
use Rattle.hp_base.specs.declared.ty.Ty.TheVariants as ty
use Rattle.hp_tree.specs.declared.expr.Op2.{Op2}
use Rattle.hp_tree.specs.declared.expr.Op2.TheVariants.{And, Or, Xor, Imp, Eq, Ne, Lt, Le, Gt, Ge, Add, Sub, Mul, Div, Rem}
use Rattle.hp_tree.specs.Blocks.{Decl}
use Rattle.hp_tree.specs.Expressions.{Expr, constant, variable, last_of, one, two, choose, pre, fby, arrow, when_is, merge, call, Exprs, no_expr, more_exprs, Parts, no_part, more_parts}
use Rattle.hp_tree.specs.Operators.{is_comparison}
use Rattle.hp_tree.specs.Programs.{TypeDecl, Node}
use Rattle.hp_base.specs.Known.Known.{lookup}
use Rattle.hp_typing.specs.Types.{type_of, types_in, type_of_one, answer, cons_type, agrees, chooses, args_fit, input_type, merge_type, parts_fit}
use Rattle.law_judged.specs.Typed.Scopes.{Scope as TypeScope}
use Rattle.law_values.specs.Valued.Fitting.{first_output}
use Rattle.law_values.specs.Valued.Judged.{Lasts, ExprSound, ExprsSound, PartsSound}
use Rattle.law_values.proofs.ValuedLemmas.Laws.{and_left, and_right}
use Rattle.law_values.proofs.ValuedLemmas.Typed.{agreed, where_is, some_is, one_typed, two_typed, if_typed, pair_typed, call_typed, PartsHave, merge_typed, arg_typed}
use Rattle.hp_circuit.specs.declared.circuit.Shape.{Shape}
use Rattle.hp_circuit.specs.Forms.{IsShape}
use Rattle.hp_drawing.specs.declared.parts.Callee.{Callee}
use Rattle.hp_drawing.specs.declared.parts.Place.{Place}
use Rattle.hp_drawing.specs.declared.parts.Value.{Value}
use Rattle.hp_drawing.specs.Kept.{is_mark}
use Rattle.hp_drawing.specs.Planned.{two_shape, first_shape, outputs_by, shape_in}
use Rattle.hp_drawing.specs.Told.{Told, type_shape}
use Rattle.hp_drawing.specs.Sketch.{Sketch}
use Rattle.hp_drawing.specs.Places.{on_clock, chain_add}
use Rattle.hp_drawing.specs.Scopes.{Scope, value_in, last_in, shapes_in}
use Rattle.hp_drawing.specs.DrawnExpressions.{Brings, drawn, drawn_parts, drawn_args, drawn_call, has_cons, step_clock, begin_call, takes_input, output, compares}
use Rattle.law_drawing.proofs.FormLemmas.Views.{Has, view_of, IsThere, IsHole, Step, Holed, still, onward, has-on, hole-on, shape-is}
use Rattle.law_drawing.proofs.FormLemmas.Parts.{placed-clock}
use Rattle.law_drawing.proofs.FormLemmas.Values.{Carried, Valued, AreCounted, constant-shape, constant-step, cons-step, clock-step, none_lacks, IsAt, at-on, Draws, draws-one, draws-two, draws-choice}
use Rattle.law_drawing.proofs.FormLemmas.Delays.{chain-step, draws-pre, draws-fby, draws-arrow, draws-sampled, merge_of, draws-merge, pre_of, fby_of}
use Rattle.law_drawing.proofs.FormLemmas.Calls.{AreRow, AreHoles, holes-on, IsCallee, callee-on, AreCalled, call-step, input-step, output-carried}

-- the constructor of each part of a merge is of the type of its name
abbrev PartsAgree : TypeScope → Option Ty → Parts → Type 0
PartsAgree s name no_part = ⊤
PartsAgree s name (more_parts c e ps) = IsTrue (agrees name (cons_type s c)) × PartsAgree s name ps

parts-agree : (s : TypeScope) (name first : Option Ty) (ps : Parts) → IsTrue (parts_fit s name first ps) → PartsAgree s name ps
parts-agree s name first no_part h = tt
parts-agree s name first (more_parts c e ps) h = (and_left _ _ h, parts-agree s name first ps (and_right _ _ (and_right _ _ h)))

merge-agrees : (s : TypeScope) (name : Option Ty) (ps : Parts) (u : Ty) → merge_type s name ps ≡ Some u → PartsAgree s name ps
merge-agrees s name no_part u h = absurd cc
merge-agrees s name (more_parts c e ps) u h =
    let a = where_is (chooses name && (agrees name (cons_type s c) && parts_fit s name (type_of s e) ps)) (type_of s e) u h in
    (and_left _ _ (and_right _ _ a.0), parts-agree s name (type_of s e) ps (and_right _ _ (and_right _ _ a.0)))

merge-name : (s : TypeScope) (name : Option Ty) (ps : Parts) (u : Ty) → merge_type s name ps ≡ Some u → (v : Ty) × (name ≡ Some v)
merge-name s name no_part u h = absurd cc
merge-name s name (more_parts c e ps) u h = let g = merge-agrees s name (more_parts c e ps) u h in let n = agreed name (cons_type s c) g.0 in (n.0, n.1)

two-shape : (t : Told) (o : Op2) → two_shape o ≡ type_shape t (answer o)
two-shape t And = refl
two-shape t Or = refl
two-shape t Xor = refl
two-shape t Imp = refl
two-shape t Eq = refl
two-shape t Ne = refl
two-shape t Lt = refl
two-shape t Le = refl
two-shape t Gt = refl
two-shape t Ge = refl
two-shape t Add = refl
two-shape t Sub = refl
two-shape t Mul = refl
two-shape t Div = refl
two-shape t Rem = refl

module _ (types : List TypeDecl) (among : List ℕ → Option Node) (t : Told) (brings : Brings) (calls : AreCalled t brings among) (ts : TypeScope) (has_last : Lasts) (counted : AreCounted types t ts) (z : Scope) where
  abbrev Sound : Expr → Type 0
  Sound e = ExprSound types among ts has_last e

  abbrev At : List ℕ → Sketch → Place → Type 0
  At P s spot = IsAt t ts has_last none_lacks z P s spot

  abbrev Drawing : Place → Shape → (Sketch → Value × Sketch) → Type 0
  Drawing spot p f = Draws t ts has_last none_lacks z spot p f

  on : (P Q : List ℕ) (s s' : Sketch) (spot : Place) → At P s spot → Step Q s s' → At Q s' spot
  on P Q s s' spot h st = at-on t ts has_last none_lacks z P Q s s' spot h st

  -- ---- the shape of an expression is that of its type

  abbrev ShapesAre : Type 0
  ShapesAre = (x : List ℕ) (u : Ty) → lookup ts.variables x ≡ Some u → shapes_in z x ≡ type_shape t u

  outputs-shape : (ds : List Decl) (u : Ty) → input_type ds ≡ Some u → first_shape t ds ≡ type_shape t u
  outputs-shape [] u h = absurd cc
  outputs-shape (d ∷ ds) u h = ap (type_shape t) (some_is d.ty u h)

  pub shape-of : ShapesAre → (e : Expr) (u : Ty) → Sound e → type_of ts e ≡ Some u → shape_in t e (shapes_in z) ≡ type_shape t u
  shape-of S (constant a c) u ok h = constant-shape types t ts counted c u h
  shape-of S (variable a x) u ok h = S x u h
  shape-of S (last_of a x) u ok h = S x u h
  shape-of S (one a o b) u ok h = let r = one_typed (type_of_one o) (type_of ts b) u h in shape-of S b (type_of_one o) ok r.0 ∙ ap (type_shape t) r.1
  shape-of S (two a o b c) u ok h = let r = two_typed o (type_of ts b) (type_of ts c) u h in two-shape t o ∙ ap (type_shape t) r.4
  shape-of S (choose a b c d) u ok h = let r = if_typed (type_of ts b) (type_of ts c) (type_of ts d) u h in shape-of S c u ok.1.0 r.1
  shape-of S (pre a b) u ok h = shape-of S b u ok h
  shape-of S (fby a b c) u ok h = let r = pair_typed (type_of ts b) (type_of ts c) u h in shape-of S b u ok.0 r.0
  shape-of S (arrow a b c) u ok h = let r = pair_typed (type_of ts b) (type_of ts c) u h in shape-of S b u ok.0 r.0
  shape-of S (when_is a b c x) u ok h = shape-of S b u ok (where_is (agrees (lookup ts.variables x) (cons_type ts c)) (type_of ts b) u h).1
  shape-of S (merge a x no_part) u ok h = absurd cc
  shape-of S (merge a x (more_parts c e ps)) u ok h = let r = merge_typed ts (lookup ts.variables x) (more_parts c e ps) u h in shape-of S e u ok.1.0 r.0
  shape-of S (call a f inl es) u ok h =
      let r = call_typed (lookup ts.nodes f) (types_in ts es) u h in
      ap (λ o. first_shape t (outputs_by o)) (calls.told f r.0 (sym ok.0 ∙ r.1)) ∙ outputs-shape r.0.outputs u (subst (λ o. first_output o ≡ Some u) r.1 r.3)

  -- ---- what is drawn

  name-carried : (x : List ℕ) (u : Ty) (P : List ℕ) (s : Sketch) (spot : Place) → lookup ts.variables x ≡ Some u → At P s spot → Carried s (value_in z x) (type_shape t u)
  name-carried x u P s spot h at = at.seen.values x u h refl

  first-output : (c : Callee) (ds : List Decl) (u : Ty) (s : Sketch) → input_type ds ≡ Some u → AreRow t s c.outputs ds → Carried s (output c 0 s) (type_shape t u)
  first-output c [] u s h r = absurd cc
  first-output c (d ∷ ds) u s h r = output-carried t c 0 (type_shape t u) s (subst (λ w. Has s.shapes w (type_shape t u)) (let e : c.outputs ≡ c.outputs + 0 = omega arith in e) (subst (λ y. Has s.shapes c.outputs (type_shape t y)) (some_is d.ty u h) r.0))

  -- a shape that is carried has values
  shape-behind : (P : List ℕ) (s : Sketch) (p : Shape) (d : Value × Sketch) → Valued P s p d → IsShape p
  shape-behind P s p d v = shape-is P d.1 d.0.wire p v.0.formed v.1.1

  abbrev Called : List ℕ → Sketch → Node → Callee × Sketch → Type 0
  Called P s n d = Step P s d.1 × IsCallee t d.1 n d.0

  -- a call, by its arguments
  called-by : (f : List ℕ) (es : Exprs) (n : Node) → among f ≡ Some n → (spot : Place) (P : List ℕ) (s : Sketch) → At P s spot
      → ((c : Callee) (P : List ℕ) (s : Sketch) → At P s spot → AreHoles t s (c.inputs + 0) n.inputs → IsThere (view_of s) c.reads → Step P s (drawn_args t brings z spot c 0 es s)) → Called P s n (drawn_call t brings z spot f es s)
  called-by f es n e spot P s at args =
      let c = begin_call t brings spot f s in
      let b = call-step t brings among calls P spot f n s e at.formed at.placed in
      let k = args c.0 P c.1 (on P P s c.1 spot at b.0) (subst (λ w. AreHoles t c.1 w n.inputs) (let q : c.0.inputs ≡ c.0.inputs + 0 = omega arith in q) b.1.inputs) b.1.reads in
      let s' = drawn_args t brings z spot c.0 0 es c.1 in
      (onward P P s c.1 s' b.0 k, callee-on t P c.1 s' n c.0 k b.1)

  mutual
    pub expr : (e : Expr) (u : Ty) → Sound e → type_of ts e ≡ Some u → (spot : Place) → Drawing spot (type_shape t u) (λ s. drawn t brings z spot e s)
    expr (constant a c) u ok h spot P s at = constant-step types t ts counted P c u s at.formed h
    expr (variable a x) u ok h spot P s at = (still P s at.formed, name-carried x u P s spot h at)
    expr (last_of a x) u ok h spot P s at = let k = at.seen.lasts x ok in (still P s at.formed, subst (λ y. Carried s (last_in z x) (type_shape t y)) (some_is k.0 u (sym k.1 ∙ h)) k.2)
    expr (one a o b) u ok h spot P s at =
        let r = one_typed (type_of_one o) (type_of ts b) u h in
        subst (λ y. Valued P s (type_shape t y) (drawn t brings z spot (one a o b) s)) r.1 (draws-one t ts has_last none_lacks z spot o (λ s. drawn t brings z spot b s) (expr b (type_of_one o) ok r.0 spot) P s at)
    expr (two a o b c) u ok h spot P s at =
        let r = two_typed o (type_of ts b) (type_of ts c) u h in
        let e = ap (λ p. is_comparison o && is_mark p) (shape-of at.seen.shapes b r.0 ok.0 r.2) in
        subst (λ y. Valued P s (type_shape t y) (drawn t brings z spot (two a o b c) s)) r.4
        (draws-two t ts has_last none_lacks z (compares t z o b) spot o r.0 (λ s. drawn t brings z spot b s) (λ s. drawn t brings z spot c s) (sym e) r.1 (expr b r.0 ok.0 r.2 spot) (expr c r.0 ok.1 r.3 spot) P s at)
    expr (choose a b c d) u ok h spot P s at =
        let r = if_typed (type_of ts b) (type_of ts c) (type_of ts d) u h in
        draws-choice t ts has_last none_lacks z spot (type_shape t u) (λ s. drawn t brings z spot b s) (λ s. drawn t brings z spot c s) (λ s. drawn t brings z spot d s)
        (expr b ty.Bool ok.0 r.0 spot) (expr c u ok.1.0 r.1 spot) (expr d u ok.1.1 r.2 spot) P s at
    expr (pre a b) u ok h spot P s at =
        let e = shape-of at.seen.shapes b u ok h in
        subst (λ p. Valued P s (type_shape t u) (pre_of t ts has_last none_lacks z p spot (λ s. drawn t brings z spot b s) s)) (sym e)
        (draws-pre t ts has_last none_lacks z (type_shape t u) spot (λ s. drawn t brings z spot b s) (shape-behind P s (type_shape t u) (drawn t brings z spot b s) (expr b u ok h spot P s at)) (expr b u ok h spot) P s at)
    expr (fby a b c) u ok h spot P s at =
        let r = pair_typed (type_of ts b) (type_of ts c) u h in
        let e = shape-of at.seen.shapes b u ok.0 r.0 in
        subst (λ p. Valued P s (type_shape t u) (fby_of t ts has_last none_lacks z p spot (λ s. drawn t brings z spot b s) (λ s. drawn t brings z spot c s) s)) (sym e)
        (draws-fby t ts has_last none_lacks z (type_shape t u) spot (λ s. drawn t brings z spot b s) (λ s. drawn t brings z spot c s) (shape-behind P s (type_shape t u) (drawn t brings z spot b s) (expr b u ok.0 r.0 spot P s at)) (expr b u ok.0 r.0 spot) (expr c u ok.1 r.1 spot) P s at)
    expr (arrow a b c) u ok h spot P s at =
        let r = pair_typed (type_of ts b) (type_of ts c) u h in
        draws-arrow t ts has_last none_lacks z (type_shape t u) spot (λ s. drawn t brings z spot b s) (λ s. drawn t brings z spot c s) (expr b u ok.0 r.0 spot) (expr c u ok.1 r.1 spot) P s at
    expr (when_is a b c x) u ok h spot P s at =
        let w = where_is (agrees (lookup ts.variables x) (cons_type ts c)) (type_of ts b) u h in
        let n = agreed (lookup ts.variables x) (cons_type ts c) w.0 in
        draws-sampled t ts has_last none_lacks z spot x (type_shape t u) (type_shape t n.0) (λ other s. drawn t brings z other b s) (λ P s at. (name-carried x n.0 P s spot n.1 at).1) (λ other. expr b u ok w.1 other) P s at
    expr (merge a x ps) u ok h spot P s at =
        let r = merge_typed ts (lookup ts.variables x) ps u h in
        let g = merge-agrees ts (lookup ts.variables x) ps u h in
        let n = merge-name ts (lookup ts.variables x) ps u h in
        let q = shape-of at.seen.shapes (merge a x ps) u ok h in
        subst (λ p. Valued P s (type_shape t u) (merge_of t ts has_last none_lacks z p (value_in z x).wire (λ w s. drawn_parts t brings z spot x ps w s) s)) (sym q)
        (draws-merge t ts has_last none_lacks z spot x (type_shape t u) (type_shape t n.0) (λ w s. drawn_parts t brings z spot x ps w s) (first-part ps (lookup ts.variables x) u ok.1 h spot P s at) (λ P s at. (name-carried x n.0 P s spot n.1 at).1)
        (λ P w s at k. parts ps x u ok.1 r g spot P w s at k) P s at)
    expr (call a f inl es) u ok h spot P s at =
        let r = call_typed (lookup ts.nodes f) (types_in ts es) u h in
        let k = called-by f es r.0 (sym ok.0 ∙ r.1) spot P s at (λ c P s at k l. args es r.0.inputs ok.1 r.2 spot c 0 P s at k l) in
        let d = drawn_call t brings z spot f es s in
        (k.0, first-output d.0 r.0.outputs u d.1 (subst (λ o. first_output o ≡ Some u) r.1 r.3) k.1.outputs)

    -- the type of a merge has values
    first-part : (ps : Parts) (name : Option Ty) (u : Ty) → PartsSound types among ts has_last ps → merge_type ts name ps ≡ Some u → (spot : Place) (P : List ℕ) (s : Sketch) → At P s spot → IsShape (type_shape t u)
    first-part no_part name u ok h spot P s at = absurd cc
    first-part (more_parts c e ps) name u ok h spot P s at = let r = merge_typed ts name (more_parts c e ps) u h in shape-behind P s (type_shape t u) (drawn t brings z spot e s) (expr e u ok.0 r.0 spot P s at)

    -- the parts of a merge, from a hole on
    parts : (ps : Parts) (x : List ℕ) (u : Ty) → PartsSound types among ts has_last ps → PartsHave ts u ps → PartsAgree ts (lookup ts.variables x) ps → (spot : Place) (P : List ℕ) (w : ℕ) (s : Sketch) → At P s spot → IsHole s w (type_shape t u)
        → Holed P s (type_shape t u) (drawn_parts t brings z spot x ps w s)
    parts no_part x u ok h g spot P w s at k = (still P s at.formed, k)
    parts (more_parts c e ps) x u ok h g spot P w s at k =
        let p = type_shape t u in
        let n = agreed (lookup ts.variables x) (cons_type ts c) g.0 in
        let is = has_cons t (value_in z x).wire c s in
        let a = cons-step types t ts counted P (value_in z x).wire c n.0 s at.formed (name-carried x n.0 P s spot n.1 at).1 n.2 in
        let at1 = on P P s is.1 spot at a.0 in
        let inner = step_clock t z spot.clock c x is.1 in
        let b = clock-step types t ts counted P z spot.clock c x n.0 is.1 at1.formed (name-carried x n.0 P is.1 spot n.1 at1) n.2 in
        let at2 = on P P is.1 inner.1 spot at1 b in
        let other = on_clock spot inner.0 in
        let v = drawn t brings z other e inner.1 in
        let d = expr e u ok.0 h.0 other P inner.1 (record { formed = at2.formed; placed = placed-clock inner.1 spot inner.0 at2.placed; seen = at2.seen }) in
        let at3 = on P P inner.1 v.1 spot at2 d.0 in
        let from_is = onward P P is.1 inner.1 v.1 b d.0 in
        let rest = chain_add w is.0 v.0 v.1 in
        let i = chain-step P w is.0 v.0 p v.1 at3.formed (hole-on P is.1 v.1 w p from_is (hole-on P s is.1 w p a.0 k)) (has-on P is.1 v.1 is.0 _ from_is a.1) d.1 in
        let at4 = on P P v.1 rest.1 spot at3 i.0 in
        let more = parts ps x u ok.1 h.1 g.1 spot P rest.0 rest.1 at4 i.1 in
        let s' = (drawn_parts t brings z spot x ps rest.0 rest.1).1 in
        (onward P P s rest.1 s' (onward P P s v.1 rest.1 (onward P P s is.1 v.1 a.0 from_is) i.0) more.0, more.1)

    -- the arguments, from number j on
    args : (es : Exprs) (ds : List Decl) → ExprsSound types among ts has_last es → IsTrue (args_fit ds (types_in ts es)) → (spot : Place) (c : Callee) (j : ℕ) (P : List ℕ) (s : Sketch) → At P s spot → AreHoles t s (c.inputs + j) ds → IsThere (view_of s) c.reads
        → Step P s (drawn_args t brings z spot c j es s)
    args no_expr ds ok fit spot c j P s at k l = still P s at.formed
    args (more_exprs e es) [] ok fit spot c j P s at k l = absurd cc
    args (more_exprs e es) (d ∷ ds) ok fit spot c j P s at k l =
        let r = arg_typed d ds (type_of ts e) (types_in ts es) fit in
        let p = type_shape t d.ty in
        let v = drawn t brings z spot e s in
        let a = expr e d.ty ok.0 r.0 spot P s at in
        let l1 : IsThere (view_of v.1) c.reads = (l.0, has-on P s v.1 c.reads l.0 a.0 l.1) in
        let s1 = takes_input c j v.0 v.1 in
        let b = input-step t P c j v.0 p v.1 a.0.formed l1 (hole-on P s v.1 (c.inputs + j) p a.0 k.0) a.1 in
        let st = onward P P s v.1 s1 a.0 b in
        let m = holes-on t P s s1 _ ds st k.1 in
        let more = args es ds ok.1 r.1 spot c (j + 1) P s1 (on P P s s1 spot at st) (subst (λ w. AreHoles t s1 w ds) (omega arith) m) (l.0, has-on P v.1 s1 c.reads l.0 b l1.1) in
        onward P P s s1 (drawn_args t brings z spot c (j + 1) es s1) st more

  pub called : (f : List ℕ) (es : Exprs) (n : Node) → ExprsSound types among ts has_last es → among f ≡ Some n → IsTrue (args_fit n.inputs (types_in ts es)) → (spot : Place) (P : List ℕ) (s : Sketch) → At P s spot → Called P s n (drawn_call t brings z spot f es s)
  called f es n ok e fit spot P s at = called-by f es n e spot P s at (λ c P s at k l. args es n.inputs ok fit spot c 0 P s at k l)
