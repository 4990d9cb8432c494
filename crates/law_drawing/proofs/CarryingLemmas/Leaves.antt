-- What is drawn of operators, constants and choices.
use Rattle.std.proofs.Common.{◌≡◌, ℕ, nat_eq, Bool, true, false, not, ◌&&◌, if◌then◌else◌, List, [], ◌∷◌, Option, None, Some, refl, sym, ap, subst, ◌∙◌}
use Rattle.hp_base.specs.declared.ty.Ty.{Ty}
use Rattle.hp_base.specs.declared.ty.Ty.TheVariants as ty
use Rattle.hp_base.specs.declared.ty.Const.{Const}
use Rattle.hp_base.specs.declared.ty.Const.TheVariants as const
use Rattle.hp_base.specs.declared.value.Value.{Value}
use Rattle.hp_tree.specs.declared.decl.Cons.{Cons as Constructor}
use Rattle.hp_tree.specs.declared.expr.Op1.{Op1}
use Rattle.hp_tree.specs.declared.expr.Op1.TheVariants.{Not, Neg}
use Rattle.hp_tree.specs.declared.expr.Op2.{Op2}
use Rattle.hp_tree.specs.declared.expr.Op2.TheVariants.{And, Or, Xor, Imp, Eq, Ne, Lt, Le, Gt, Ge, Add, Sub, Mul, Div, Rem}
use Rattle.hp_tree.specs.Instant.{Instant, Clock}
use Rattle.hp_tree.specs.Meaning.{Names}
use Rattle.hp_tree.specs.Operators.{constant_of, is_cons, marked, one_marked, two_marked, is_comparison}
use Rattle.hp_tree.specs.Programs.{TypeDecl}
use Rattle.hp_typing.specs.Types.{type_of_one, operand, answer, cons_type, constant_type, enum_of}
use Rattle.hp_base.specs.Known.Known.{lookup}
use Rattle.law_judged.specs.Typed.Scopes.{Scope}
use Rattle.hp_meaning.specs.Causal.Points.{Placed}
use Rattle.hp_meaning.specs.Contract.Memory.{number_in}
use Rattle.hp_meaning.specs.Contract.Slots as slots
use Rattle.hp_meaning.specs.Contract.Slots.{is_int}
use Rattle.hp_circuit.specs.declared.circuit.Shape.{Shape}
use Rattle.hp_circuit.specs.declared.circuit.Shape.TheVariants.{Truth, Cons, Mark}
use Rattle.hp_circuit.specs.declared.circuit.Wire.TheVariants as wire
use Rattle.hp_circuit.specs.Meaning.{truth, holds}
use Rattle.law_games.specs.Wiretyped.Typed.{IsWire}
use Rattle.hp_drawing.specs.declared.parts.Value.{Value as Carried}
use Rattle.hp_drawing.specs.Kept.{is_mark}
use Rattle.hp_drawing.specs.Told.{Told, constant_number, constant_shape, constructor_shape}
use Rattle.hp_drawing.specs.Sketch.{Sketch, truth as truth_value, push, mark_of, is_gate}
use Rattle.hp_drawing.specs.Scopes as scopes
use Rattle.hp_drawing.specs.Scopes.{value_in}
use Rattle.hp_drawing.specs.DrawnExpressions.{drawn_one, drawn_two, drawn_choice, drawn_constant, chosen_as, mark_of_two, mark_of_three, cons_number, has_cons, step_clock}
use Rattle.law_drawing.specs.Carrying.Solving.{Has}
use Rattle.law_drawing.specs.Carrying.Drawing.{IsSolved, IsDrawn, IsClock}
use Rattle.law_drawing.specs.Carrying.Typing.{AreNumbered}
use Rattle.law_drawing.proofs.CarryingLemmas.Steps.{Made, stays, both, gate, read-drawn, mark-of-drawn, on-clock-still}
use Rattle.law_drawing.proofs.CarryingLemmas.Gates.{inner-drawn}
use Rattle.law_drawing.proofs.CarryingLemmas.Values.{one-number, two-number, constant-number, cons-is}

pub mark-is-mark : (p : Shape) → is_mark p ≡ true → p ≡ Mark
mark-is-mark Mark e = refl
mark-is-mark Truth e = absurd cc
mark-is-mark (Cons m) e = absurd cc

shape-of-enum : (o : _) → is_mark (constructor_shape o) ≡ false
shape-of-enum None = refl
shape-of-enum (Some c) = refl

not-int : (o : Option (List ℕ)) (u : Ty) → enum_of o ≡ Some u → is_int u ≡ false
not-int None u e = absurd cc
not-int (Some y) u e = let p : ty.Enum y ≡ u = (cc) in sym (ap is_int p)

pub constant-mark : (told : Told) (sc : Scope) (c : Const) (u : Ty) → constant_type sc c ≡ Some u → is_mark (constant_shape told c) ≡ is_int u
constant-mark told sc (const.B b) u e = let p : ty.Bool ≡ u = (cc) in ap is_int p
constant-mark told sc (const.I n) u e = let p : ty.Int ≡ u = (cc) in ap is_int p
constant-mark told sc (const.E x) u e = shape-of-enum (told.constructors x) ∙ sym (not-int (lookup sc.constructors x) u e)

module _ (slot : ℕ → ℕ) (next : Instant) (supposes owes : Placed → Bool) where
  -- a value with its number, which is a mark where it is an integer
  abbrev pub Valued : Sketch → List ℕ → List slots.Slot → List Placed → ℕ → Bool → Carried × Sketch → Type 0
  Valued s ns ss calls k int d = (ns' : List ℕ) × IsDrawn slot next supposes owes s ns ss calls d.1 ns' × Has ns' d.0.wire k × (is_mark d.0.shape ≡ int)

  mark-two : (a b : Carried) (s : Sketch) (ns : List ℕ) → IsSolved slot s ns → Valued s ns [] [] 0 true (mark_of_two a b s)
  unfolding mark_of_two
  mark-two a b s ns g =
      let m = mark-of-drawn slot next supposes owes a.wire s ns g in
      let d = (mark_of a.wire s).1 in
      (m.0, both slot next supposes owes s ns [] [] d m.0 [] [] (mark_of_two a b s).1 m.0 m.1 (read-drawn slot next supposes owes (mark_of a.wire s).0 b.wire d m.0 m.1.solved), m.2, refl)

  mark-three : (a b c : Carried) (s : Sketch) (ns : List ℕ) → IsSolved slot s ns → Valued s ns [] [] 0 true (mark_of_three a b c s)
  unfolding mark_of_three
  mark-three a b c s ns g =
      let m = mark-two a b s ns g in
      let d = (mark_of_two a b s).1 in
      (m.0, both slot next supposes owes s ns [] [] d m.0 [] [] (mark_of_three a b c s).1 m.0 m.1 (read-drawn slot next supposes owes (mark_of_two a b s).0.wire c.wire d m.0 m.1.solved), m.2, m.3)

  pub choice-drawn : (c : ℕ) (a b : Carried) (z i j : ℕ) (int : Bool) (s : Sketch) (ns : List ℕ) → IsSolved slot s ns → Has ns c z → Has ns a.wire i → Has ns b.wire j → is_mark a.shape ≡ int → (int ≡ true → (if holds z then i else j) ≡ 0)
      → Valued s ns [] [] (if holds z then i else j) int (drawn_choice c a b s)
  unfolding drawn_choice
  choice-drawn c a b z i j int s ns g hc ha hb e f = by a.shape e
    where
      k : ℕ
      k = (if holds z then i else j)

      pushed : (p : Shape) → is_mark p ≡ int → Valued s ns [] [] (if holds z then i else j) int ((record { wire = (push (wire.If c a.wire b.wire) p s).0; shape = p }), (push (wire.If c a.wire b.wire) p s).1)
      pushed p e = let m = gate slot next supposes owes (wire.If c a.wire b.wire) p s ns (if holds z then i else j) g (z, i, j, hc, ha, hb, refl) in (m.0, m.1, m.2, e)

      by : (p : Shape) → is_mark p ≡ int → Valued s ns [] [] (if holds z then i else j) int (chosen_as p c a b s)
      by Mark e =
          let m = mark-three (truth_value c) a b s ns g in
          (m.0, m.1, subst (λ n. Has m.0 (mark_of_three (truth_value c) a b s).0.wire n) (sym (f (sym e))) m.2, m.3 ∙ e)
      by Truth e = pushed Truth e
      by (Cons m) e = pushed (Cons m) e

  module _ (types : List TypeDecl) where
    pub one-drawn : (o : Op1) (a : Carried) (v : Value) (s : Sketch) (ns : List ℕ) → IsSolved slot s ns → Has ns a.wire (number_in v) → IsWire types (type_of_one o) v
        → Valued s ns [] [] (number_in (one_marked o v)) (is_int (type_of_one o)) (drawn_one o a s)
    unfolding drawn_one
    one-drawn Not a v s ns g h t =
        let m = gate slot next supposes owes (wire.Not a.wire) Truth s ns (number_in (one_marked Not v)) g (number_in v, h, one-number types v t) in
        (m.0, m.1, m.2, refl)
    one-drawn Neg a v s ns g h t =
        let m = mark-of-drawn slot next supposes owes a.wire s ns g in
        (m.0, m.1, subst (λ z. Has m.0 (mark_of a.wire s).0 (number_in (one_marked Neg z))) (sym t) m.2, refl)

    module _ (told : Told) (sc : Scope) (N : AreNumbered types told sc) where
      gate-two : (w : _) (k : ℕ) (s : Sketch) (ns : List ℕ) → Made slot next supposes owes s ns [] [] k (push w Truth s) → Valued s ns [] [] k false (record { wire = (push w Truth s).0; shape = Truth }, (push w Truth s).1)
      gate-two w k s ns m = (m.0, m.1, m.2, refl)

      arithmetic : (k : ℕ) (a b : Carried) (s : Sketch) (ns : List ℕ) → IsSolved slot s ns → k ≡ 0 → Valued s ns [] [] k true (mark_of_two a b s)
      arithmetic k a b s ns g e = subst (λ n. Valued s ns [] [] n true (mark_of_two a b s)) (sym e) (mark-two a b s ns g)

      no_order : (o : Op2) (u : Ty) → operand o (Some u) ≡ Some u → is_comparison o && is_int u ≡ false → operand o (Some u) ≡ Some ty.Int → is_comparison o ≡ true → {X : Type 0} → X
      no_order o u e n f c = absurd (let p : Some u ≡ Some ty.Int = sym e ∙ f in let q : u ≡ ty.Int = (cc) in let r : is_comparison o && is_int ty.Int ≡ false = subst (λ v. is_comparison o && is_int v ≡ false) q n in let t : true && true ≡ false = subst (λ d. d && true ≡ false) c r in cc)

      pub two-drawn : (o : Op2) (u : Ty) (f v w : Value) (a b : Carried) (s : Sketch) (ns : List ℕ) → IsSolved slot s ns → Has ns a.wire (number_in v) → Has ns b.wire (number_in w)
          → operand o (Some u) ≡ Some u → is_comparison o && is_int u ≡ false → IsWire types u v → IsWire types u w
          → Valued s ns [] [] (number_in (two_marked o f v w)) (is_int (answer o)) (drawn_two o a b s)
      unfolding drawn_two
      two-drawn And u f v w a b s ns g h k e n p q =
          gate-two (wire.And a.wire b.wire) (number_in (two_marked And f v w)) s ns (gate slot next supposes owes (wire.And a.wire b.wire) Truth s ns (number_in (two_marked And f v w)) g (number_in v, number_in w, h, k, two-number types told sc N And u f v w e n p q))
      two-drawn Or u f v w a b s ns g h k e n p q =
          gate-two (wire.Or a.wire b.wire) (number_in (two_marked Or f v w)) s ns (gate slot next supposes owes (wire.Or a.wire b.wire) Truth s ns (number_in (two_marked Or f v w)) g (number_in v, number_in w, h, k, two-number types told sc N Or u f v w e n p q))
      two-drawn Xor u f v w a b s ns g h k e n p q =
          gate-two (wire.Xor a.wire b.wire) (number_in (two_marked Xor f v w)) s ns (gate slot next supposes owes (wire.Xor a.wire b.wire) Truth s ns (number_in (two_marked Xor f v w)) g (number_in v, number_in w, h, k, two-number types told sc N Xor u f v w e n p q))
      two-drawn Imp u f v w a b s ns g h k e n p q =
          let x = truth (not (holds (number_in v))) in
          let d = push (wire.Not a.wire) Truth s in
          let m = gate slot next supposes owes (wire.Not a.wire) Truth s ns x g (number_in v, h, refl) in
          let l = gate slot next supposes owes (wire.Or d.0 b.wire) Truth d.1 m.0 (number_in (two_marked Imp f v w)) m.1.solved (x, number_in w, m.2, stays slot next supposes owes s ns [] [] d.1 m.0 m.1 b.wire (number_in w) k, two-number types told sc N Imp u f v w e n p q) in
          (l.0, both slot next supposes owes s ns [] [] d.1 m.0 [] [] (push (wire.Or d.0 b.wire) Truth d.1).1 l.0 m.1 l.1, l.2, refl)
      two-drawn Eq u f v w a b s ns g h k e n p q =
          gate-two (wire.Equal a.wire b.wire) (number_in (two_marked Eq f v w)) s ns (gate slot next supposes owes (wire.Equal a.wire b.wire) Truth s ns (number_in (two_marked Eq f v w)) g (number_in v, number_in w, h, k, two-number types told sc N Eq u f v w e n p q))
      two-drawn Ne u f v w a b s ns g h k e n p q =
          let x = truth (nat_eq (number_in v) (number_in w)) in
          let d = push (wire.Equal a.wire b.wire) Truth s in
          let m = gate slot next supposes owes (wire.Equal a.wire b.wire) Truth s ns x g (number_in v, number_in w, h, k, refl) in
          let l = gate slot next supposes owes (wire.Not d.0) Truth d.1 m.0 (number_in (two_marked Ne f v w)) m.1.solved (x, m.2, two-number types told sc N Ne u f v w e n p q) in
          (l.0, both slot next supposes owes s ns [] [] d.1 m.0 [] [] (push (wire.Not d.0) Truth d.1).1 l.0 m.1 l.1, l.2, refl)
      two-drawn Lt u f v w a b s ns g h k e n p q = no_order Lt u e n refl refl
      two-drawn Le u f v w a b s ns g h k e n p q = no_order Le u e n refl refl
      two-drawn Gt u f v w a b s ns g h k e n p q = no_order Gt u e n refl refl
      two-drawn Ge u f v w a b s ns g h k e n p q = no_order Ge u e n refl refl
      two-drawn Add u f v w a b s ns g h k e n p q = arithmetic (number_in (two_marked Add f v w)) a b s ns g (two-number types told sc N Add u f v w e n p q)
      two-drawn Sub u f v w a b s ns g h k e n p q = arithmetic (number_in (two_marked Sub f v w)) a b s ns g (two-number types told sc N Sub u f v w e n p q)
      two-drawn Mul u f v w a b s ns g h k e n p q = arithmetic (number_in (two_marked Mul f v w)) a b s ns g (two-number types told sc N Mul u f v w e n p q)
      two-drawn Div u f v w a b s ns g h k e n p q = arithmetic (number_in (two_marked Div f v w)) a b s ns g (two-number types told sc N Div u f v w e n p q)
      two-drawn Rem u f v w a b s ns g h k e n p q = arithmetic (number_in (two_marked Rem f v w)) a b s ns g (two-number types told sc N Rem u f v w e n p q)

      -- ---- constants and constructors

      pub constant-drawn : (c : Const) (u : Ty) (s : Sketch) (ns : List ℕ) → IsSolved slot s ns → constant_type sc c ≡ Some u → Valued s ns [] [] (number_in (marked (constant_of types c))) (is_int u) (drawn_constant told c s)
      unfolding drawn_constant
      constant-drawn c u s ns g e =
          let m = gate slot next supposes owes (wire.Constant (constant_number told c)) (constant_shape told c) s ns (number_in (marked (constant_of types c))) g (constant-number types told sc N c) in
          (m.0, m.1, m.2, constant-mark told sc c u e)

      -- whether a value has a constructor
      pub cons-drawn : (w : ℕ) (u : Ty) (v : Value) (c : Constructor) (s : Sketch) (ns : List ℕ) → IsSolved slot s ns → Has ns w (number_in v) → cons_type sc c ≡ Some u → IsWire types u v
          → Made slot next supposes owes s ns [] [] (truth (is_cons types v c)) (has_cons told w c s)
      unfolding has_cons is_gate
      cons-drawn w u v c s ns g h e t = gate slot next supposes owes (wire.Is w (cons_number told c)) Truth s ns (truth (is_cons types v c)) g (number_in v, h, ap truth (cons-is types told sc N u v c e t))

      -- a clock with a step more
      pub step-drawn : (names : Names) (z : scopes.Scope) (n : ℕ) (u : Ty) (c : Constructor) (x : List ℕ) (clock : Clock) (s : Sketch) (ns : List ℕ) → IsSolved slot s ns → Has ns (value_in z x).wire (number_in (names x)) → cons_type sc c ≡ Some u → IsWire types u (names x)
          → IsClock types names s.clocks ns n clock
          → (ns' : List ℕ) × IsDrawn slot next supposes owes s ns [] [] (step_clock told z n c x s).1 ns' × IsClock types names (step_clock told z n c x s).1.clocks ns' (step_clock told z n c x s).0 ((c, x) ∷ clock)
      unfolding step_clock
      step-drawn names z n u c x clock s ns g h e t k =
          let is = has_cons told (value_in z x).wire c s in
          let m = cons-drawn (value_in z x).wire u (names x) c s ns g h e t in
          let l = inner-drawn slot next supposes owes types names n is.0 is.1 m.0 (c, x) clock m.1.solved m.2 (on-clock-still slot next supposes owes types names s ns [] [] is.1 m.0 m.1 n clock k) in
          (l.0, both slot next supposes owes s ns [] [] is.1 m.0 [] [] (step_clock told z n c x s).1 l.0 m.1 l.1, l.2)
