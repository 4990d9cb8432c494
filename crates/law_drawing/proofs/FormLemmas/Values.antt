-- What names, constants and operators are carried as: the shapes of their types.
use Rattle.std.proofs.Common.{◌≡◌, ℕ, ◌<◌, Bool, true, false, ◌&&◌, if◌then◌else◌, List, Option, None, Some, refl, sym, ap, subst, ◌∙◌, arith}
use Rattle.hp_base.specs.declared.ty.Const.{Const}
use Rattle.hp_base.specs.declared.ty.Const.TheVariants as const
use Rattle.hp_base.specs.declared.ty.Ty.{Ty}
use Rattle.hp_base.specs.declared.ty.Ty.TheVariants as ty
use Rattle.hp_tree.specs.declared.decl.Cons as tree_cons
use Rattle.hp_tree.specs.declared.decl.Cons.TheVariants as cons
use Rattle.hp_tree.specs.declared.expr.Op1.{Op1}
use Rattle.hp_tree.specs.declared.expr.Op1.TheVariants.{Not, Neg}
use Rattle.hp_tree.specs.declared.expr.Op2.{Op2}
use Rattle.hp_tree.specs.declared.expr.Op2.TheVariants.{And, Or, Xor, Imp, Eq, Ne, Lt, Le, Gt, Ge, Add, Sub, Mul, Div, Rem}
use Rattle.hp_tree.specs.Operators.{constant_of, is_comparison}
use Rattle.hp_tree.specs.Programs.{TypeDecl}
use Rattle.hp_tree.specs.Values.{IsOf}
use Rattle.hp_base.specs.Known.Known.{lookup}
use Rattle.hp_typing.specs.Types.{constant_type, cons_type, enum_of, operand, answer, type_of_one}
use Rattle.law_judged.specs.Typed.Scopes.{Scope as TypeScope}
use Rattle.law_values.specs.Valued.Judged.{Lasts}
use Rattle.law_values.proofs.ValuedLemmas.Typed.{some_is}
use Rattle.hp_circuit.specs.declared.circuit.Role.TheVariants as role
use Rattle.hp_circuit.specs.declared.circuit.Shape.{Shape}
use Rattle.hp_circuit.specs.declared.circuit.Shape.TheVariants.{Truth, Cons, Mark}
use Rattle.hp_circuit.specs.declared.circuit.Wire.TheVariants as wire
use Rattle.hp_circuit.specs.Forms.{IsShape, IsValue}
use Rattle.hp_drawing.specs.declared.parts.Place.{Place}
use Rattle.hp_drawing.specs.declared.parts.Value.{Value}
use Rattle.hp_drawing.specs.Kept.{is_mark}
use Rattle.hp_drawing.specs.Told.{Told, or_none, type_shape, constructor_shape, constructor_number, constant_shape, constant_number}
use Rattle.hp_drawing.specs.Sketch.{Sketch, truth, push, read, mark_of, slot, inner_clock}
use Rattle.hp_drawing.specs.Places.{may_be_early}
use Rattle.hp_drawing.specs.Scopes.{Scope, value_in, last_in, shapes_in}
use Rattle.hp_drawing.specs.DrawnExpressions.{carried, gate, cons_number, has_cons, step_clock, drawn_constant, mark_of_two, mark_of_three, drawn_one, drawn_two, drawn_choice, chosen_as, two_begin, two_end}
use Rattle.law_drawing.proofs.FormLemmas.Views.{Has, view_of, IsThere, IsFormed, Step, Made, onward, has-on, shape-is}
use Rattle.law_drawing.proofs.FormLemmas.Steps as steps
use Rattle.law_drawing.proofs.FormLemmas.Steps.{read-step, mark-of-step, is-step}
use Rattle.law_drawing.proofs.FormLemmas.Parts.{given-slot-step, inner_clock-step, IsPlaced, placed-on}

-- a value of this shape, whose wire carries it
abbrev pub Carried : Sketch → Value → Shape → Type 0
Carried s v p = (v.shape ≡ p) × Has s.shapes v.wire p

abbrev pub Valued : List ℕ → Sketch → Shape → Value × Sketch → Type 0
Valued P s p d = Step P s d.1 × Carried d.1 d.0 p

pub carried-on : (P : List ℕ) (s s' : Sketch) (v : Value) (p : Shape) → Step P s s' → Carried s v p → Carried s' v p
carried-on P s s' v p st h = (h.0, has-on P s s' v.wire p st h.1)

pub made-valued : (P : List ℕ) (s : Sketch) (p : Shape) (d : ℕ × Sketch) → Made P s p d → Valued P s p (carried p d)
made-valued P s p d h = (h.0, (refl, h.1))

pub behind : (P Q : List ℕ) (s s1 : Sketch) (p : Shape) (d : Value × Sketch) → Step P s s1 → Valued Q s1 p d → Valued Q s p d
behind P Q s s1 p d st h = (onward P Q s s1 d.1 st h.0, h.1)

-- ---- constants and constructors

-- Constants of types are values of their shapes, and so are constructors.
pub record AreCounted (types : List TypeDecl) (t : Told) (s : TypeScope) : Type 0 where
  pub constants : (c : Const) (u : Ty) → IsOf types u (constant_of types c) → IsValue (type_shape t u) (constant_number t c)
  pub constructors : (c x : List ℕ) → lookup s.constructors c ≡ Some x → (constructor_shape (t.constructors c) ≡ Cons (or_none (t.counts x))) × (constructor_number (t.constructors c) < or_none (t.counts x))

module _ (types : List TypeDecl) (t : Told) (ts : TypeScope) (K : AreCounted types t ts) where
  enum-value : (c : List ℕ) (o : Option (List ℕ)) (u : Ty) → lookup ts.constructors c ≡ o → enum_of o ≡ Some u → (constructor_shape (t.constructors c) ≡ type_shape t u) × IsValue (type_shape t u) (constructor_number (t.constructors c))
  enum-value c None u e h = absurd cc
  enum-value c (Some x) u e h =
      let k = K.constructors c x e in
      subst (λ v. (constructor_shape (t.constructors c) ≡ type_shape t v) × IsValue (type_shape t v) (constructor_number (t.constructors c))) (some_is (ty.Enum x) u h) k

  pub cons-value : (c : tree_cons.Cons) (u : Ty) → cons_type ts c ≡ Some u → IsValue (type_shape t u) (cons_number t c)
  cons-value cons.False u h = subst (λ v. IsValue (type_shape t v) 0) (some_is ty.Bool u h) (let z : 0 < 2 = omega arith in z)
  cons-value cons.True u h = subst (λ v. IsValue (type_shape t v) 1) (some_is ty.Bool u h) (let z : 1 < 2 = omega arith in z)
  cons-value (cons.Named c) u h = (enum-value c (lookup ts.constructors c) u refl h).1

  truth-value : (b : Bool) → IsValue Truth (if b then 1 else 0)
  truth-value true = omega arith
  truth-value false = omega arith

  -- a shape with a value
  value-shape : (p : Shape) (k : ℕ) → IsValue p k → IsShape p
  value-shape Truth k h = tt
  value-shape (Cons n) k h = omega (arith, h)
  value-shape Mark k h = tt

  constant-value : (c : Const) (u : Ty) → constant_type ts c ≡ Some u → (constant_shape t c ≡ type_shape t u) × IsValue (type_shape t u) (constant_number t c)
  constant-value (const.B b) u h = subst (λ v. (Truth ≡ type_shape t v) × IsValue (type_shape t v) (if b then 1 else 0)) (some_is ty.Bool u h) (refl, truth-value b)
  constant-value (const.I n) u h = subst (λ v. (Mark ≡ type_shape t v) × IsValue (type_shape t v) 0) (some_is ty.Int u h) (refl, refl)
  constant-value (const.E c) u h = enum-value c (lookup ts.constructors c) u refl h

  pub constant-shape : (c : Const) (u : Ty) → constant_type ts c ≡ Some u → constant_shape t c ≡ type_shape t u
  constant-shape c u h = (constant-value c u h).0

  pub constant-step : (P : List ℕ) (c : Const) (u : Ty) (s : Sketch) → IsFormed P s → constant_type ts c ≡ Some u → Valued P s (type_shape t u) (drawn_constant t c s)
  unfolding drawn_constant
  constant-step P c u s a h =
      let k = constant-value c u h in
      let w = wire.Constant (constant_number t c) in
      subst (λ p. Valued P s (type_shape t u) (carried p (push w p s))) (sym k.0)
      (made-valued P s (type_shape t u) (push w (type_shape t u) s) (steps.gate P w (type_shape t u) s a (value-shape (type_shape t u) (constant_number t c) k.1) k.1))

  -- whether a wire has a constructor of its type
  pub cons-step : (P : List ℕ) (w : ℕ) (c : tree_cons.Cons) (u : Ty) (s : Sketch) → IsFormed P s → Has s.shapes w (type_shape t u) → cons_type ts c ≡ Some u → Made P s Truth (has_cons t w c s)
  unfolding has_cons
  cons-step P w c u s a h k = is-step P w (cons_number t c) (type_shape t u) s a h (cons-value c u k)

  pub clock-step : (P : List ℕ) (z : Scope) (clock : ℕ) (c : tree_cons.Cons) (x : List ℕ) (u : Ty) (s : Sketch) → IsFormed P s → Carried s (value_in z x) (type_shape t u) → cons_type ts c ≡ Some u → Step P s (step_clock t z clock c x s).1
  unfolding step_clock
  clock-step P z clock c x u s a h k =
      let is = has_cons t (value_in z x).wire c s in
      let d = cons-step P (value_in z x).wire c u s a h.1 k in
      onward P P s is.1 (inner_clock clock is.0 is.1).1 d.0 (inner_clock-step P clock is.0 is.1 d.0.formed d.1)

-- ---- operators

one-int : (P : List ℕ) (a : Value) (s : Sketch) → IsFormed P s → IsThere (view_of s) a.wire → Valued P s Mark (carried Mark (mark_of a.wire s))
one-int P a s f h = let d = mark-of-step P a.wire s f h in (d.0, (refl, d.1.0))

pub one-step : (t : Told) (P : List ℕ) (o : Op1) (a : Value) (s : Sketch) → IsFormed P s → Carried s a (type_shape t (type_of_one o)) → Valued P s (type_shape t (type_of_one o)) (drawn_one o a s)
unfolding drawn_one
one-step t P Not a s f h = made-valued P s Truth (push (wire.Not a.wire) Truth s) (steps.gate P (wire.Not a.wire) Truth s f tt (refl, h.1))
one-step t P Neg a s f h = one-int P a s f (Mark, h.1)

mark-two-step : (P : List ℕ) (a b : Value) (s : Sketch) → IsFormed P s → IsThere (view_of s) a.wire → IsThere (view_of s) b.wire → Valued P s Mark (mark_of_two a b s)
unfolding mark_of_two
mark-two-step P a b s f h k =
    let m = mark_of a.wire s in
    let d = mark-of-step P a.wire s f h in
    let r = read-step P m.0 b.wire m.1 d.0.formed (Mark, d.1.0) (k.0, has-on P s m.1 b.wire k.0 d.0 k.1) in
    (onward P P s m.1 (read m.0 b.wire m.1) d.0 r, (refl, has-on P m.1 (read m.0 b.wire m.1) m.0 Mark r d.1.0))

mark-three-step : (P : List ℕ) (a b c : Value) (s : Sketch) → IsFormed P s → IsThere (view_of s) a.wire → IsThere (view_of s) b.wire → IsThere (view_of s) c.wire → Valued P s Mark (mark_of_three a b c s)
unfolding mark_of_three
mark-three-step P a b c s f h k j =
    let m = mark_of_two a b s in
    let d = mark-two-step P a b s f h k in
    let r = read-step P m.0.wire c.wire m.1 d.0.formed (Mark, d.1.1) (j.0, has-on P s m.1 c.wire j.0 d.0 j.1) in
    (onward P P s m.1 (read m.0.wire c.wire m.1) d.0 r, (d.1.0, has-on P m.1 (read m.0.wire c.wire m.1) m.0.wire Mark r d.1.1))

-- an operator of truth values
truths : (t : Told) (s : Sketch) (u : Ty) (v : Value) → Some ty.Bool ≡ Some u → Carried s v (type_shape t u) → Has s.shapes v.wire Truth
truths t s u v e h = subst (λ q. Has s.shapes v.wire (type_shape t q)) (sym (some_is ty.Bool u e)) h.1

ints : (t : Told) (P : List ℕ) (a b : Value) (s : Sketch) (u : Ty) → IsFormed P s → Carried s a (type_shape t u) → Carried s b (type_shape t u) → Valued P s Mark (mark_of_two a b s)
ints t P a b s u f h k = mark-two-step P a b s f (type_shape t u, h.1) (type_shape t u, k.1)

not-compared : (t : Told) (u : Ty) → Some ty.Int ≡ Some u → is_mark (type_shape t u) ≡ false → ⊥
not-compared t u e h = let c : true ≡ false = ap (λ q. is_mark (type_shape t q)) (some_is ty.Int u e) ∙ h in cc

-- one that is no comparison of integers
pub two-step : (t : Told) (P : List ℕ) (o : Op2) (u : Ty) (a b : Value) (s : Sketch) → IsFormed P s → operand o (Some u) ≡ Some u → is_comparison o && is_mark (type_shape t u) ≡ false → Carried s a (type_shape t u) → Carried s b (type_shape t u)
    → Valued P s (type_shape t (answer o)) (drawn_two o a b s)
unfolding drawn_two
two-step t P And u a b s f e n h k = made-valued P s Truth (push (wire.And a.wire b.wire) Truth s) (steps.gate P (wire.And a.wire b.wire) Truth s f tt (refl, truths t s u a e h, truths t s u b e k))
two-step t P Or u a b s f e n h k = made-valued P s Truth (push (wire.Or a.wire b.wire) Truth s) (steps.gate P (wire.Or a.wire b.wire) Truth s f tt (refl, truths t s u a e h, truths t s u b e k))
two-step t P Xor u a b s f e n h k = made-valued P s Truth (push (wire.Xor a.wire b.wire) Truth s) (steps.gate P (wire.Xor a.wire b.wire) Truth s f tt (refl, truths t s u a e h, truths t s u b e k))
two-step t P Imp u a b s f e n h k =
    let w = push (wire.Not a.wire) Truth s in
    let d = steps.gate P (wire.Not a.wire) Truth s f tt (refl, truths t s u a e h) in
    behind P P s w.1 Truth (gate (push (wire.Or w.0 b.wire) Truth w.1)) d.0
    (made-valued P w.1 Truth (push (wire.Or w.0 b.wire) Truth w.1) (steps.gate P (wire.Or w.0 b.wire) Truth w.1 d.0.formed tt (refl, d.1, has-on P s w.1 b.wire Truth d.0 (truths t s u b e k))))
two-step t P Eq u a b s f e n h k = made-valued P s Truth (push (wire.Equal a.wire b.wire) Truth s) (steps.gate P (wire.Equal a.wire b.wire) Truth s f tt (refl, type_shape t u, h.1, k.1))
two-step t P Ne u a b s f e n h k =
    let w = push (wire.Equal a.wire b.wire) Truth s in
    let d = steps.gate P (wire.Equal a.wire b.wire) Truth s f tt (refl, type_shape t u, h.1, k.1) in
    behind P P s w.1 Truth (gate (push (wire.Not w.0) Truth w.1)) d.0 (made-valued P w.1 Truth (push (wire.Not w.0) Truth w.1) (steps.gate P (wire.Not w.0) Truth w.1 d.0.formed tt (refl, d.1)))
two-step t P Lt u a b s f e n h k = absurd (not-compared t u e n)
two-step t P Le u a b s f e n h k = absurd (not-compared t u e n)
two-step t P Gt u a b s f e n h k = absurd (not-compared t u e n)
two-step t P Ge u a b s f e n h k = absurd (not-compared t u e n)
two-step t P Add u a b s f e n h k = ints t P a b s u f h k
two-step t P Sub u a b s f e n h k = ints t P a b s u f h k
two-step t P Mul u a b s f e n h k = ints t P a b s u f h k
two-step t P Div u a b s f e n h k = ints t P a b s u f h k
two-step t P Rem u a b s f e n h k = ints t P a b s u f h k

pub choice-step : (P : List ℕ) (c : ℕ) (a b : Value) (p : Shape) (s : Sketch) → IsFormed P s → Has s.shapes c Truth → Carried s a p → Carried s b p → Valued P s p (drawn_choice c a b s)
unfolding drawn_choice
choice-step P c a b p s f l h k = subst (λ q. Valued P s p (chosen_as q c a b s)) (sym h.0) (by p h.1 k.1)
  where
    by : (p : Shape) → Has s.shapes a.wire p → Has s.shapes b.wire p → Valued P s p (chosen_as p c a b s)
    by Mark h k = mark-three-step P (truth c) a b s f (Truth, l) (Mark, h) (Mark, k)
    by Truth h k = made-valued P s Truth (push (wire.If c a.wire b.wire) Truth s) (steps.gate P (wire.If c a.wire b.wire) Truth s f tt (l, h, k))
    by (Cons n) h k = made-valued P s (Cons n) (push (wire.If c a.wire b.wire) (Cons n) s) (steps.gate P (wire.If c a.wire b.wire) (Cons n) s f (shape-is P s a.wire (Cons n) f h) (l, h, k))

-- ---- what is seen

-- Names have values of their types, but for those that lack one; and so have last values.
pub record AreSeen (t : Told) (ts : TypeScope) (has_last : Lasts) (lacks : List ℕ → Bool) (z : Scope) (s : Sketch) : Type 0 where
  pub known : (x : List ℕ) (u : Ty) → lookup ts.variables x ≡ Some u → IsShape (type_shape t u)
  pub shapes : (x : List ℕ) (u : Ty) → lookup ts.variables x ≡ Some u → shapes_in z x ≡ type_shape t u
  pub values : (x : List ℕ) (u : Ty) → lookup ts.variables x ≡ Some u → lacks x ≡ false → Carried s (value_in z x) (type_shape t u)
  pub lasts : (x : List ℕ) → has_last x ≡ true → (u : Ty) × (lookup ts.variables x ≡ Some u) × Carried s (last_in z x) (type_shape t u)

abbrev pub none_lacks : List ℕ → Bool
none_lacks x = false

module _ (t : Told) (ts : TypeScope) (has_last : Lasts) (lacks : List ℕ → Bool) (z : Scope) where
  pub seen-on : (P : List ℕ) (s s' : Sketch) → Step P s s' → AreSeen t ts has_last lacks z s → AreSeen t ts has_last lacks z s'
  seen-on P s s' st h = record {
    known = h.known;
    shapes = h.shapes;
    values = λ x u e l. carried-on P s s' (value_in z x) (type_shape t u) st (h.values x u e l);
    lasts = λ x l. let k = h.lasts x l in (k.0, k.1, carried-on P s s' (last_in z x) (type_shape t k.0) st k.2);
  }

  -- where something is drawn
  pub record IsAt (P : List ℕ) (s : Sketch) (spot : Place) : Type 0 where
    pub formed : IsFormed P s
    pub placed : IsPlaced s spot
    pub seen : AreSeen t ts has_last lacks z s

  -- behind a step, of which other registers may be pending
  pub at-on : (P Q : List ℕ) (s s' : Sketch) (spot : Place) → IsAt P s spot → Step Q s s' → IsAt Q s' spot
  at-on P Q s s' spot h st = record { formed = st.formed; placed = placed-on Q s s' spot st h.placed; seen = seen-on Q s s' st h.seen }

  -- what is drawn at a place has a value of this shape, whatever is pending
  abbrev pub Draws : Place → Shape → (Sketch → Value × Sketch) → Type 0
  Draws spot p f = (P : List ℕ) (s : Sketch) → IsAt P s spot → Valued P s p (f s)

  -- ---- operands

  pub draws-one : (spot : Place) (o : Op1) (f : Sketch → Value × Sketch) → Draws spot (type_shape t (type_of_one o)) f → Draws spot (type_shape t (type_of_one o)) (λ s. drawn_one o (f s).0 (f s).1)
  draws-one spot o f d P s h =
      let v = d P s h in
      behind P P s (f s).1 (type_shape t (type_of_one o)) (drawn_one o (f s).0 (f s).1) v.0 (one-step t P o (f s).0 (f s).1 v.0.formed v.1)

  abbrev pub two_of : Bool → Place → Op2 → (Sketch → Value × Sketch) → (Sketch → Value × Sketch) → Sketch → Value × Sketch
  two_of flag spot o f g s =
      let w = two_begin flag spot s in
      let first = f w.1 in
      let second = g first.1 in
      two_end flag w.0 o first.0 second.0 second.1

  comparison-truth : (o : Op2) (b : Bool) → is_comparison o && b ≡ true → type_shape t (answer o) ≡ Truth
  comparison-truth Eq b e = refl
  comparison-truth Ne b e = refl
  comparison-truth Lt b e = refl
  comparison-truth Le b e = refl
  comparison-truth Gt b e = refl
  comparison-truth Ge b e = refl
  comparison-truth And b e = refl
  comparison-truth Or b e = refl
  comparison-truth Xor b e = refl
  comparison-truth Imp b e = refl
  comparison-truth Add b e = absurd cc
  comparison-truth Sub b e = absurd cc
  comparison-truth Mul b e = absurd cc
  comparison-truth Div b e = absurd cc
  comparison-truth Rem b e = absurd cc

  pub draws-two : (flag : Bool) (spot : Place) (o : Op2) (u : Ty) (f g : Sketch → Value × Sketch) → is_comparison o && is_mark (type_shape t u) ≡ flag → operand o (Some u) ≡ Some u → Draws spot (type_shape t u) f → Draws spot (type_shape t u) g
      → Draws spot (type_shape t (answer o)) (two_of flag spot o f g)
  draws-two false spot o u f g n e d k P s h =
      let p = type_shape t u in
      let first = f s in
      let v = d P s h in
      let second = g first.1 in
      let w = k P first.1 (at-on P P s first.1 spot h v.0) in
      let st = onward P P s first.1 second.1 v.0 w.0 in
      behind P P s second.1 (type_shape t (answer o)) (drawn_two o first.0 second.0 second.1) st (two-step t P o u first.0 second.0 second.1 w.0.formed e n (carried-on P first.1 second.1 first.0 p w.0 v.1) w.1)
  draws-two true spot o u f g n e d k P s h =
      let p = type_shape t u in
      let free = slot (role.Free (may_be_early spot)) Truth s in
      let x = given-slot-step P (role.Free (may_be_early spot)) Truth s h.formed tt tt in
      let at1 = at-on P P s free.1 spot h x.0 in
      let first = f free.1 in
      let v = d P free.1 at1 in
      let second = g first.1 in
      let w = k P first.1 (at-on P P free.1 first.1 spot at1 v.0) in
      let from_free = onward P P free.1 first.1 second.1 v.0 w.0 in
      let has = has-on P free.1 second.1 free.0 Truth from_free x.1 in
      let s1 = read free.0 first.0.wire second.1 in
      let r1 = read-step P free.0 first.0.wire second.1 w.0.formed (Truth, has) (p, has-on P first.1 second.1 first.0.wire p w.0 v.1.1) in
      let s2 = read free.0 second.0.wire s1 in
      let r2 = read-step P free.0 second.0.wire s1 r1.formed (Truth, has-on P second.1 s1 free.0 Truth r1 has) (p, has-on P second.1 s1 second.0.wire p r1 w.1.1) in
      let reads = onward P P second.1 s1 s2 r1 r2 in
      let st = onward P P s free.1 s2 x.0 (onward P P free.1 second.1 s2 from_free reads) in
      subst (λ q. Valued P s q (truth free.0, s2)) (sym (comparison-truth o (is_mark (type_shape t u)) n)) (st, (refl, has-on P second.1 s2 free.0 Truth reads has))

  abbrev pub choice_of : (Sketch → Value × Sketch) → (Sketch → Value × Sketch) → (Sketch → Value × Sketch) → Sketch → Value × Sketch
  choice_of f g e s =
      let condition = f s in
      let first = g condition.1 in
      let second = e first.1 in
      drawn_choice condition.0.wire first.0 second.0 second.1

  pub draws-choice : (spot : Place) (p : Shape) (f g e : Sketch → Value × Sketch) → Draws spot Truth f → Draws spot p g → Draws spot p e → Draws spot p (choice_of f g e)
  draws-choice spot p f g e df dg de P s h =
      let condition = f s in
      let u = df P s h in
      let at1 = at-on P P s condition.1 spot h u.0 in
      let first = g condition.1 in
      let v = dg P condition.1 at1 in
      let at2 = at-on P P condition.1 first.1 spot at1 v.0 in
      let second = e first.1 in
      let w = de P first.1 at2 in
      let from_u = onward P P condition.1 first.1 second.1 v.0 w.0 in
      behind P P s second.1 p (drawn_choice condition.0.wire first.0 second.0 second.1) (onward P P s condition.1 second.1 u.0 from_u)
      (choice-step P condition.0.wire first.0 second.0 p second.1 w.0.formed (has-on P condition.1 second.1 condition.0.wire Truth from_u u.1.1) (carried-on P first.1 second.1 first.0 p w.0 v.1) w.1)
