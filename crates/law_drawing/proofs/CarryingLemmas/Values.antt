-- Values as numbers: what operators give, where their operands are typed.
use Rattle.std.proofs.Common.{◌≡◌, ℕ, nat_eq, Bool, true, false, not, ◌&&◌, ◌||◌, if◌then◌else◌, List, Option, None, Some, refl, sym, ap, subst, ◌∙◌}
use Rattle.std.proofs.lemmas.Bool.{eq-eqb}
use Rattle.hp_base.specs.declared.ty.Ty.{Ty}
use Rattle.hp_base.specs.declared.ty.Ty.TheVariants as ty
use Rattle.hp_base.specs.declared.ty.Const.{Const}
use Rattle.hp_base.specs.declared.ty.Const.TheVariants as const
use Rattle.hp_base.specs.declared.value.Value.{Value}
use Rattle.hp_base.specs.declared.value.Value.TheVariants.{Absent, Nil, B, E, I, Star}
use Rattle.hp_tree.specs.declared.decl.Cons.{Cons}
use Rattle.hp_tree.specs.declared.decl.Cons.TheVariants as cons
use Rattle.hp_tree.specs.declared.expr.Op1.TheVariants.{Not}
use Rattle.hp_tree.specs.declared.expr.Op2.{Op2}
use Rattle.hp_tree.specs.declared.expr.Op2.TheVariants.{And, Or, Xor, Imp, Eq, Ne, Lt, Le, Gt, Ge, Add, Sub, Mul, Div, Rem}
use Rattle.hp_tree.specs.Programs.{TypeDecl}
use Rattle.hp_tree.specs.Operators.{constructor_from, constant_of, same_bool, same_value, is_cons, marked, one_marked, two_marked, if_of, is_comparison}
use Rattle.hp_tree.specs.Values.{IsOf}
use Rattle.hp_base.specs.Known.Known.{lookup}
use Rattle.hp_typing.specs.Types.{operand, cons_type, enum_of}
use Rattle.law_judged.specs.Typed.Scopes.{Scope}
use Rattle.law_values.proofs.ValuedLemmas.Laws.{is_bool, is_enum}
use Rattle.law_values.proofs.ValuedLemmas.Typed.{some_is}
use Rattle.hp_meaning.specs.Contract.Memory.{number_in}
use Rattle.hp_meaning.specs.Contract.Slots.{is_int}
use Rattle.hp_circuit.specs.Meaning.{truth, holds}
use Rattle.law_games.specs.Wiretyped.Typed.{IsWire}
use Rattle.hp_drawing.specs.Told.{Told, constant_number}
use Rattle.hp_drawing.specs.DrawnExpressions.{cons_number}
use Rattle.law_drawing.specs.Carrying.Typing.{AreNumbered}

-- ---- truth values

pub bool-number : (b : Bool) → number_in (B b) ≡ truth b
bool-number true = refl
bool-number false = refl

pub not-number : (x : Bool) → number_in (B (not x)) ≡ truth (not (holds (number_in (B x))))
not-number true = refl
not-number false = refl

pub and-number : (x y : Bool) → number_in (B (x && y)) ≡ truth (holds (number_in (B x)) && holds (number_in (B y)))
and-number true true = refl
and-number true false = refl
and-number false true = refl
and-number false false = refl

pub or-number : (x y : Bool) → number_in (B (x || y)) ≡ truth (holds (number_in (B x)) || holds (number_in (B y)))
or-number true true = refl
or-number true false = refl
or-number false true = refl
or-number false false = refl

pub xor-number : (x y : Bool) → number_in (B (not (same_bool x y))) ≡ truth (if holds (number_in (B x)) then not (holds (number_in (B y))) else holds (number_in (B y)))
xor-number true true = refl
xor-number true false = refl
xor-number false true = refl
xor-number false false = refl

pub imp-number : (x y : Bool) → number_in (B (not x || y)) ≡ truth (holds (truth (not (holds (number_in (B x))))) || holds (number_in (B y)))
imp-number true true = refl
imp-number true false = refl
imp-number false true = refl
imp-number false false = refl

same-number : (x y : Bool) → nat_eq (number_in (B x)) (number_in (B y)) ≡ same_bool x y
same-number true true = refl
same-number true false = refl
same-number false true = refl
same-number false false = refl

-- ---- types

pub int-is : (t : Ty) → is_int t ≡ true → t ≡ ty.Int
int-is ty.Int h = refl
int-is ty.Bool h = absurd cc
int-is (ty.Enum x) h = absurd cc

module _ (types : List TypeDecl) where
  -- an integer has the number 0
  pub int-zero : (t : Ty) (v : Value) → is_int t ≡ true → IsWire types t v → number_in v ≡ 0
  int-zero t v e h = ap number_in (subst (λ u. IsWire types u v) (int-is t e) h)

  pub one-number : (v : Value) → IsWire types ty.Bool v → number_in (one_marked Not v) ≡ truth (not (holds (number_in v)))
  one-number v h = let b = is_bool types v h in subst (λ z. number_in (one_marked Not z) ≡ truth (not (holds (number_in z)))) (sym b.1) (not-number b.0)

  -- the operands of an operator that is no comparison of integers
  abbrev pub OfTwo : Op2 → Value → Value → Value → Type 0
  OfTwo And g v w = number_in (two_marked And g v w) ≡ truth (holds (number_in v) && holds (number_in w))
  OfTwo Or g v w = number_in (two_marked Or g v w) ≡ truth (holds (number_in v) || holds (number_in w))
  OfTwo Xor g v w = number_in (two_marked Xor g v w) ≡ truth (if holds (number_in v) then not (holds (number_in w)) else holds (number_in w))
  OfTwo Imp g v w = number_in (two_marked Imp g v w) ≡ truth (holds (truth (not (holds (number_in v)))) || holds (number_in w))
  OfTwo Eq g v w = number_in (two_marked Eq g v w) ≡ truth (nat_eq (number_in v) (number_in w))
  OfTwo Ne g v w = number_in (two_marked Ne g v w) ≡ truth (not (holds (truth (nat_eq (number_in v) (number_in w)))))
  OfTwo o g v w = number_in (two_marked o g v w) ≡ 0

  bools : (P : Value → Value → Type 0) (t : Ty) (v w : Value) → Some ty.Bool ≡ Some t → ((x y : Bool) → P (B x) (B y)) → IsWire types t v → IsWire types t w → P v w
  bools P t v w e f h k =
      let p : t ≡ ty.Bool = sym (some_is ty.Bool t e) in
      let x = is_bool types v (subst (λ u. IsWire types u v) p h) in
      let y = is_bool types w (subst (λ u. IsWire types u w) p k) in
      subst (λ a. P a w) (sym x.1) (subst (λ b. P (B x.0) b) (sym y.1) (f x.0 y.0))

  stars : (P : Value → Value → Type 0) (t : Ty) (v w : Value) → Some ty.Int ≡ Some t → P Star Star → IsWire types t v → IsWire types t w → P v w
  stars P t v w e f h k =
      let p : t ≡ ty.Int = sym (some_is ty.Int t e) in
      subst (λ a. P a w) (sym (subst (λ u. IsWire types u v) p h)) (subst (λ b. P Star b) (sym (subst (λ u. IsWire types u w) p k)) f)

  no_int : (t : Ty) → Some ty.Int ≡ Some t → is_int t ≡ false → {X : Type 0} → X
  no_int t e f = absurd (let p : ty.Int ≡ t = some_is ty.Int t e in let q : true ≡ false = ap is_int p ∙ f in cc)

  eq-bools : (x y : Bool) → number_in (B (same_bool x y)) ≡ truth (nat_eq (number_in (B x)) (number_in (B y)))
  eq-bools x y = bool-number (same_bool x y) ∙ ap truth (sym (same-number x y))

  ne-bools : (x y : Bool) → number_in (B (not (same_bool x y))) ≡ truth (not (holds (truth (nat_eq (number_in (B x)) (number_in (B y))))))
  ne-bools x y = subst (λ b. number_in (B (not b)) ≡ truth (not (holds (truth (nat_eq (number_in (B x)) (number_in (B y))))))) (same-number x y) (by (nat_eq (number_in (B x)) (number_in (B y))))
    where
      by : (b : Bool) → number_in (B (not b)) ≡ truth (not (holds (truth b)))
      by true = refl
      by false = refl

  module _ (t : Told) (s : Scope) (N : AreNumbered types t s) where
    eq-self : (n : ℕ) → nat_eq n n ≡ true
    eq-self n = eq-eqb n n refl

    -- two values of one enumeration are the same where their numbers are
    enum-same : (x : List ℕ) (u j v k : ℕ) → IsOf types (ty.Enum x) (E u j) → IsOf types (ty.Enum x) (E v k) → nat_eq u v && nat_eq j k ≡ nat_eq j k
    enum-same x u j v k h g = ap (λ b. b && nat_eq j k) (eq-eqb u v (N.one_type x u j v k h g))

    enums : (P : Value → Value → Type 0) (x : List ℕ) (v w : Value) → ((u j u' j' : ℕ) → IsOf types (ty.Enum x) (E u j) → IsOf types (ty.Enum x) (E u' j') → P (E u j) (E u' j')) → IsWire types (ty.Enum x) v → IsWire types (ty.Enum x) w → P v w
    enums P x v w f h k =
        let a = is_enum types x v h in
        let b = is_enum types x w k in
        subst (λ p. P p w) (sym a.2) (subst (λ q. P (E a.0 a.1) q) (sym b.2) (f a.0 a.1 b.0 b.1 (subst (λ p. IsOf types (ty.Enum x) p) a.2 h) (subst (λ p. IsOf types (ty.Enum x) p) b.2 k)))

    ne-number : (b : Bool) → number_in (B (not b)) ≡ truth (not (holds (truth b)))
    ne-number true = refl
    ne-number false = refl

    pub two-number : (o : Op2) (u : Ty) (g v w : Value) → operand o (Some u) ≡ Some u → is_comparison o && is_int u ≡ false → IsWire types u v → IsWire types u w → OfTwo o g v w
    two-number And u g v w e n h k = bools (OfTwo And g) u v w e and-number h k
    two-number Or u g v w e n h k = bools (OfTwo Or g) u v w e or-number h k
    two-number Xor u g v w e n h k = bools (OfTwo Xor g) u v w e xor-number h k
    two-number Imp u g v w e n h k = bools (OfTwo Imp g) u v w e imp-number h k
    two-number Eq ty.Bool g v w e n h k = bools (OfTwo Eq g) ty.Bool v w refl eq-bools h k
    two-number Eq ty.Int g v w e n h k = absurd cc
    two-number Eq (ty.Enum x) g v w e n h k =
        enums (OfTwo Eq g) x v w (λ a j b l p q. bool-number (nat_eq a b && nat_eq j l) ∙ ap truth (enum-same x a j b l p q)) h k
    two-number Ne ty.Bool g v w e n h k = bools (OfTwo Ne g) ty.Bool v w refl ne-bools h k
    two-number Ne ty.Int g v w e n h k = absurd cc
    two-number Ne (ty.Enum x) g v w e n h k =
        enums (OfTwo Ne g) x v w (λ a j b l p q. ap (λ z. number_in (B (not z))) (enum-same x a j b l p q) ∙ ne-number (nat_eq j l)) h k
    two-number Lt u g v w e n h k = no_int u e n
    two-number Le u g v w e n h k = no_int u e n
    two-number Gt u g v w e n h k = no_int u e n
    two-number Ge u g v w e n h k = no_int u e n
    two-number Add u g v w e n h k = stars (OfTwo Add g) u v w e refl h k
    two-number Sub u g v w e n h k = stars (OfTwo Sub g) u v w e refl h k
    two-number Mul u g v w e n h k = stars (OfTwo Mul g) u v w e refl h k
    two-number Div u g v w e n h k = stars (OfTwo Div g) u v w e refl h k
    two-number Rem u g v w e n h k = stars (OfTwo Rem g) u v w e refl h k

    -- ---- constants and constructors

    pub constant-number : (c : Const) → number_in (marked (constant_of types c)) ≡ constant_number t c
    constant-number (const.B b) = bool-number b
    constant-number (const.I n) = refl
    constant-number (const.E x) = marked-number (constructor_from 0 types x) ∙ N.numbers x
      where
        marked-number : (v : Value) → number_in (marked v) ≡ number_in v
        marked-number (I n) = refl
        marked-number Absent = refl
        marked-number Nil = refl
        marked-number (B b) = refl
        marked-number (E u k) = refl
        marked-number Star = refl

    enum-none : (o : Option (List ℕ)) → enum_of o ≡ Some ty.Bool → {X : Type 0} → X
    enum-none None e = absurd cc
    enum-none (Some x) e = absurd cc

    enum-some : (o : Option (List ℕ)) (x : List ℕ) → enum_of o ≡ Some (ty.Enum x) → o ≡ Some x
    enum-some None x e = absurd cc
    enum-some (Some y) x e = cc

    pub cons-is : (u : Ty) (v : Value) (c : Cons) → cons_type s c ≡ Some u → IsWire types u v → is_cons types v c ≡ nat_eq (number_in v) (cons_number t c)
    cons-is ty.Bool v cons.False e h = let b = is_bool types v h in subst (λ z. is_cons types z cons.False ≡ nat_eq (number_in z) 0) (sym b.1) (by b.0)
      where
        by : (x : Bool) → same_bool x false ≡ nat_eq (number_in (B x)) 0
        by true = refl
        by false = refl
    cons-is ty.Bool v cons.True e h = let b = is_bool types v h in subst (λ z. is_cons types z cons.True ≡ nat_eq (number_in z) 1) (sym b.1) (by b.0)
      where
        by : (x : Bool) → same_bool x true ≡ nat_eq (number_in (B x)) 1
        by true = refl
        by false = refl
    cons-is ty.Bool v (cons.Named x) e h = enum-none (lookup s.constructors x) e
    cons-is ty.Int v cons.False e h = absurd cc
    cons-is ty.Int v cons.True e h = absurd cc
    cons-is ty.Int v (cons.Named x) e h = absurd (int-none (lookup s.constructors x) e)
      where
        int-none : (o : Option (List ℕ)) → enum_of o ≡ Some ty.Int → ⊥
        int-none None e = cc
        int-none (Some y) e = cc
    cons-is (ty.Enum y) v cons.False e h = absurd cc
    cons-is (ty.Enum y) v cons.True e h = absurd cc
    cons-is (ty.Enum y) v (cons.Named x) e h =
        let o = N.of_type x y (enum-some (lookup s.constructors x) y e) in
        let a = is_enum types y v h in
        let b = is_enum types y (constructor_from 0 types x) o in
        subst (λ z. same_value z (constructor_from 0 types x) ≡ nat_eq (number_in z) (cons_number t (cons.Named x))) (sym a.2)
        (ap (same_value (E a.0 a.1)) b.2
        ∙ enum-same y a.0 a.1 b.0 b.1 (subst (λ p. IsOf types (ty.Enum y) p) a.2 h) (subst (λ p. IsOf types (ty.Enum y) p) b.2 o)
        ∙ ap (nat_eq a.1) (sym (ap number_in b.2) ∙ N.numbers x))

  -- ---- a choice

  pub if-number : (u : Ty) (c v w : Value) → IsWire types ty.Bool c → IsWire types u v → IsWire types u w → number_in (if_of c v w) ≡ (if holds (number_in c) then number_in v else number_in w)
  if-number u c v w g h k = let b = is_bool types c g in subst (λ z. number_in (if_of z v w) ≡ (if holds (number_in z) then number_in v else number_in w)) (sym b.1) (by u h k)
    where
      of : (x : Bool) (a b : Value) → if_of (B x) a b ≡ (if x then a else b) → number_in (if_of (B x) a b) ≡ (if holds (number_in (B x)) then number_in a else number_in b)
      of true a b e = ap number_in e
      of false a b e = ap number_in e

      bb : (x p q : Bool) → if_of (B x) (B p) (B q) ≡ (if x then B p else B q)
      bb true p q = refl
      bb false p q = refl

      ee : (x : Bool) (p q p' q' : ℕ) → if_of (B x) (E p q) (E p' q') ≡ (if x then E p q else E p' q')
      ee true p q p' q' = refl
      ee false p q p' q' = refl

      ss : (x : Bool) → if_of (B x) Star Star ≡ (if x then Star else Star)
      ss true = refl
      ss false = refl

      b0 : (b : Bool) × (c ≡ B b)
      b0 = is_bool types c g

      by : (u : Ty) → IsWire types u v → IsWire types u w → number_in (if_of (B b0.0) v w) ≡ (if holds (number_in (B b0.0)) then number_in v else number_in w)
      by ty.Bool h k =
          let p = is_bool types v h in
          let q = is_bool types w k in
          of b0.0 v w (subst (λ a. if_of (B b0.0) a w ≡ (if b0.0 then a else w)) (sym p.1) (subst (λ b. if_of (B b0.0) (B p.0) b ≡ (if b0.0 then B p.0 else b)) (sym q.1) (bb b0.0 p.0 q.0)))
      by ty.Int h k = of b0.0 v w (subst (λ a. if_of (B b0.0) a w ≡ (if b0.0 then a else w)) (sym h) (subst (λ b. if_of (B b0.0) Star b ≡ (if b0.0 then Star else b)) (sym k) (ss b0.0)))
      by (ty.Enum x) h k =
          let p = is_enum types x v h in
          let q = is_enum types x w k in
          of b0.0 v w (subst (λ a. if_of (B b0.0) a w ≡ (if b0.0 then a else w)) (sym p.2) (subst (λ b. if_of (B b0.0) (E p.0 p.1) b ≡ (if b0.0 then E p.0 p.1 else b)) (sym q.2) (ee b0.0 p.0 p.1 q.0 q.1)))
