-- Values that fit, and operators.
use Rattle.std.proofs.Common.{◌≡◌, ℕ, List, [], ◌∷◌, refl, sym, ap, ap₂, subst, ◌∙◌, arith}
use Rattle.std.specs.Prelude.{⊤, ℤ, Bool, true, false, ◌&&◌, ◌||◌, not, nat_eq, IsTrue, IsFalse, if◌then◌else◌, Option, Some}
use Rattle.std.specs.List.{Contains}
use Rattle.std.proofs.lemmas.Slice.Eq.{bytes_eq-Decides}
use Rattle.std.proofs.lemmas.Bool.Decides.{nat_tests}
use Rattle.hp_base.specs.declared.ty.Ty.{Ty}
use Rattle.hp_base.specs.declared.ty.Ty.TheVariants as ty
use Rattle.hp_base.specs.declared.value.Value.{Value}
use Rattle.hp_base.specs.declared.value.Value.TheVariants.{Absent, Nil, B, E, I, Star}
use Rattle.hp_tree.specs.declared.decl.Cons.{Cons}
use Rattle.hp_tree.specs.declared.decl.Cons.TheVariants as cons
use Rattle.hp_tree.specs.declared.expr.Op1.{Op1}
use Rattle.hp_tree.specs.declared.expr.Op1.TheVariants.{Not, Neg}
use Rattle.hp_tree.specs.declared.expr.Op2.{Op2}
use Rattle.hp_tree.specs.declared.expr.Op2.TheVariants.{And, Or, Xor, Imp, Eq, Ne, Lt, Le, Gt, Ge, Add, Sub, Mul, Div, Rem}
use Rattle.hp_tree.specs.Programs.{TypeDecl}
use Rattle.hp_tree.specs.Operators.{is_cons, same_value, same_bool, one_of, two_of, if_of, logic, numbers, arithmetic_of, constructors}
use Rattle.hp_tree.specs.Instant.{Instant, Past, Clock, top, or_else, newest, after, at_first}
use Rattle.hp_typing.specs.Types.{type_of_one, operand, answer}
use Rattle.hp_typing.specs.Definitions.{same_cons}
use Rattle.hp_tree.specs.Values.{constructors_of, IsOf}
use Rattle.law_values.specs.Valued.Judged.{is_named, Covers}
use Rattle.law_values.specs.Valued.Fitting.{HasValue, Fits, Presence, IsPresence}

-- ---- Booleans

pub true_or_false : {X : Type 0} (d : Bool) → (d ≡ true → X) → (d ≡ false → X) → X
true_or_false true f g = f refl
true_or_false false f g = g refl

pub and_left : (a b : Bool) → IsTrue (a && b) → IsTrue a
and_left true b h = refl
and_left false b h = absurd (cc)

pub and_right : (a b : Bool) → IsTrue (a && b) → IsTrue b
and_right true b h = h
and_right false b h = absurd (cc)

pub and_both : (a b : Bool) → IsTrue a → IsTrue b → IsTrue (a && b)
and_both true b h k = k
and_both false b h k = absurd (cc)

pub or_left : (a b : Bool) → IsTrue a → IsTrue (a || b)
or_left true b h = refl
or_left false b h = absurd (cc)

pub or_right : (a b : Bool) → IsTrue b → IsTrue (a || b)
or_right true b h = refl
or_right false b h = h

pub or_either : {X : Type 0} (a b : Bool) → IsTrue (a || b) → (IsTrue a → X) → (IsTrue b → X) → X
or_either true b h f g = f refl
or_either false b h f g = g h

pub not_both : {X : Type 0} (a : Bool) → IsTrue a → IsFalse a → X
not_both a h k = absurd (cc)

-- ---- the past

-- Each instant of a past, with the clocks that are there.
abbrev pub Along : (Presence → Instant → Type 0) → List Presence → Past → Type 0
Along P [] [] = ⊤
Along P (w ∷ ws) (i ∷ past) = P w i × Along P ws past
Along P ws past = ⊥

-- a clock was there in none of them
abbrev pub none_held : List Presence → Clock → Bool
none_held [] clock = true
none_held (w ∷ ws) clock = not (w clock) && none_held ws clock

abbrev pub EachPresence : List Presence → Type 0
EachPresence [] = ⊤
EachPresence (w ∷ ws) = IsPresence w × EachPresence ws

-- ---- values

module _ (types : List TypeDecl) where
  pub value_of : (t : Ty) (d : Bool) (v : Value) → IsOf types t v → HasValue types t d v
  value_of ty.Bool d (B b) h = h
  value_of ty.Int d (I n) h = h
  value_of (ty.Enum t) d (E u k) h = h
  value_of ty.Bool d Nil h = absurd h
  value_of ty.Int d Nil h = absurd h
  value_of (ty.Enum t) d Nil h = absurd h
  value_of t d Absent h = h
  value_of t d (B b) h = h
  value_of t d (E u k) h = h
  value_of t d (I n) h = h
  value_of t d Star h = h

  -- a value is Nil, or of the type
  pub value_cases : {X : Type 0} (t : Ty) (d : Bool) (v : Value) → HasValue types t d v → (v ≡ Nil → IsTrue d → X) → (IsOf types t v → X) → X
  value_cases t d Nil h f g = f refl h
  value_cases t d Absent h f g = g h
  value_cases t d (B b) h f g = g h
  value_cases t d (E u k) h f g = g h
  value_cases t d (I n) h f g = g h
  value_cases t d Star h f g = g h

  pub never_nil : (t : Ty) (d : Bool) (v : Value) → IsFalse d → HasValue types t d v → IsOf types t v
  never_nil t d v e h = value_cases t d v h (λ u k. not_both d k e) (λ k. k)

  pub weaker : (t : Ty) (d e : Bool) (v : Value) → (IsTrue d → IsTrue e) → HasValue types t d v → HasValue types t e v
  weaker t d e v f h = value_cases t d v h (λ u k. subst (λ z. HasValue types t e z) (sym u) (f k)) (value_of t e v)

  pub is_bool : (v : Value) → IsOf types ty.Bool v → (b : Bool) × (v ≡ B b)
  is_bool (B b) h = (b, refl)
  is_bool Absent h = absurd h
  is_bool Nil h = absurd h
  is_bool (E u k) h = absurd h
  is_bool (I n) h = absurd h
  is_bool Star h = absurd h

  pub is_int : (v : Value) → IsOf types ty.Int v → (n : ℤ) × (v ≡ I n)
  is_int (I n) h = (n, refl)
  is_int Absent h = absurd h
  is_int Nil h = absurd h
  is_int (E u k) h = absurd h
  is_int (B n) h = absurd h
  is_int Star h = absurd h

  pub is_enum : (t : List ℕ) (v : Value) → IsOf types (ty.Enum t) v → (u : ℕ) × (k : ℕ) × (v ≡ E u k)
  is_enum t (E u k) h = (u, k, refl)
  is_enum t Absent h = absurd h
  is_enum t Nil h = absurd h
  is_enum t (I n) h = absurd h
  is_enum t (B n) h = absurd h
  is_enum t Star h = absurd h

  pub not_absent : (t : Ty) (v : Value) → IsOf types t v → v ≡ Absent → ⊥
  not_absent ty.Bool v h e = let w = is_bool v h in absurd (let z = w.1 in cc)
  not_absent ty.Int v h e = let w = is_int v h in absurd (let z = w.1 in cc)
  not_absent (ty.Enum t) v h e = let w = is_enum t v h in absurd (let z = w.2 in cc)

  -- ---- operators

  pub one_value : (o : Op1) (d e : Bool) (v : Value) → (IsTrue d → IsTrue e) → HasValue types (type_of_one o) d v → HasValue types (type_of_one o) e (one_of o v)
  one_value Not d e v f h =
      value_cases ty.Bool d v h (λ u k. subst (λ z. HasValue types ty.Bool e (one_of Not z)) (sym u) (f k))
      (λ k. let w = is_bool v k in subst (λ z. HasValue types ty.Bool e (one_of Not z)) (sym w.1) tt)
  one_value Neg d e v f h =
      value_cases ty.Int d v h (λ u k. subst (λ z. HasValue types ty.Int e (one_of Neg z)) (sym u) (f k))
      (λ k. let w = is_int v k in subst (λ z. HasValue types ty.Int e (one_of Neg z)) (sym w.1) tt)

  pub one_absent : (o : Op1) → one_of o Absent ≡ Absent
  one_absent Not = refl
  one_absent Neg = refl

  of_logic : (o : Op2) (e : Bool) (a b : Bool) → operand o (Some ty.Bool) ≡ Some ty.Bool → HasValue types (answer o) e (logic o a b)
  of_logic And e a b h = tt
  of_logic Or e a b h = tt
  of_logic Xor e a b h = tt
  of_logic Imp e a b h = tt
  of_logic Eq e a b h = tt
  of_logic Ne e a b h = tt
  of_logic Lt e a b h = absurd (cc)
  of_logic Le e a b h = absurd (cc)
  of_logic Gt e a b h = absurd (cc)
  of_logic Ge e a b h = absurd (cc)
  of_logic Add e a b h = absurd (cc)
  of_logic Sub e a b h = absurd (cc)
  of_logic Mul e a b h = absurd (cc)
  of_logic Div e a b h = absurd (cc)
  of_logic Rem e a b h = absurd (cc)

  of_numbers : (o : Op2) (e : Bool) (a b : ℤ) → operand o (Some ty.Int) ≡ Some ty.Int → HasValue types (answer o) e (numbers arithmetic_of o a b)
  of_numbers And e a b h = absurd (cc)
  of_numbers Or e a b h = absurd (cc)
  of_numbers Xor e a b h = absurd (cc)
  of_numbers Imp e a b h = absurd (cc)
  of_numbers Eq e a b h = tt
  of_numbers Ne e a b h = tt
  of_numbers Lt e a b h = tt
  of_numbers Le e a b h = tt
  of_numbers Gt e a b h = tt
  of_numbers Ge e a b h = tt
  of_numbers Add e a b h = tt
  of_numbers Sub e a b h = tt
  of_numbers Mul e a b h = tt
  of_numbers Div e a b h = tt
  of_numbers Rem e a b h = tt

  of_constructors : (o : Op2) (e d : Bool) (t : List ℕ) → operand o (Some (ty.Enum t)) ≡ Some (ty.Enum t) → HasValue types (answer o) e (constructors o d)
  of_constructors And e d t h = absurd (cc)
  of_constructors Or e d t h = absurd (cc)
  of_constructors Xor e d t h = absurd (cc)
  of_constructors Imp e d t h = absurd (cc)
  of_constructors Eq e d t h = tt
  of_constructors Ne e d t h = tt
  of_constructors Lt e d t h = absurd (cc)
  of_constructors Le e d t h = absurd (cc)
  of_constructors Gt e d t h = absurd (cc)
  of_constructors Ge e d t h = absurd (cc)
  of_constructors Add e d t h = absurd (cc)
  of_constructors Sub e d t h = absurd (cc)
  of_constructors Mul e d t h = absurd (cc)
  of_constructors Div e d t h = absurd (cc)
  of_constructors Rem e d t h = absurd (cc)

  nil_right : (o : Op2) (v : Value) → two_of o v Nil ≡ Nil
  nil_right o Absent = refl
  nil_right o Nil = refl
  nil_right o (B b) = refl
  nil_right o (E s t) = refl
  nil_right o (I n) = refl
  nil_right o Star = refl

  of_two : (o : Op2) (t : Ty) (e : Bool) (v w : Value) → operand o (Some t) ≡ Some t → IsOf types t v → IsOf types t w → HasValue types (answer o) e (two_of o v w)
  of_two o ty.Bool e v w g h k =
      let a = is_bool v h in
      let b = is_bool w k in
      subst (λ z. HasValue types (answer o) e z) (sym (ap₂ (two_of o) a.1 b.1)) (of_logic o e a.0 b.0 g)
  of_two o ty.Int e v w g h k =
      let a = is_int v h in
      let b = is_int w k in
      subst (λ z. HasValue types (answer o) e z) (sym (ap₂ (two_of o) a.1 b.1)) (of_numbers o e a.0 b.0 g)
  of_two o (ty.Enum t) e v w g h k =
      let a = is_enum t v h in
      let b = is_enum t w k in
      subst (λ z. HasValue types (answer o) e z) (sym (ap₂ (two_of o) a.2 b.2)) (of_constructors o e (nat_eq a.0 b.0 && nat_eq a.1 b.1) t g)

  pub two_value : (o : Op2) (t : Ty) (c d e : Bool) (v w : Value) → operand o (Some t) ≡ Some t → (IsTrue c → IsTrue e) → (IsTrue d → IsTrue e) → HasValue types t c v → HasValue types t d w → HasValue types (answer o) e (two_of o v w)
  two_value o t c d e v w g f1 f2 h k =
      value_cases t c v h (λ u x. subst (λ z. HasValue types (answer o) e (two_of o z w)) (sym u) (f1 x))
      (λ hv. value_cases t d w k (λ u x. subst (λ z. HasValue types (answer o) e z) (sym (ap (two_of o v) u ∙ nil_right o v)) (f2 x))
      (λ kw. of_two o t e v w g hv kw))

  nil_third : (c : Bool) (v : Value) → if_of (B c) v Nil ≡ Nil
  nil_third c Absent = refl
  nil_third c Nil = refl
  nil_third c (B b) = refl
  nil_third c (E s t) = refl
  nil_third c (I n) = refl
  nil_third c Star = refl

  of_if : (t : Ty) (c e : Bool) (v w : Value) → IsOf types t v → IsOf types t w → HasValue types t e (if_of (B c) v w)
  of_if ty.Bool true e v w h k = let a = is_bool v h in let b = is_bool w k in subst (λ z. HasValue types ty.Bool e z) (sym (ap₂ (if_of (B true)) a.1 b.1)) tt
  of_if ty.Bool false e v w h k = let a = is_bool v h in let b = is_bool w k in subst (λ z. HasValue types ty.Bool e z) (sym (ap₂ (if_of (B false)) a.1 b.1)) tt
  of_if ty.Int true e v w h k = let a = is_int v h in let b = is_int w k in subst (λ z. HasValue types ty.Int e z) (sym (ap₂ (if_of (B true)) a.1 b.1)) tt
  of_if ty.Int false e v w h k = let a = is_int v h in let b = is_int w k in subst (λ z. HasValue types ty.Int e z) (sym (ap₂ (if_of (B false)) a.1 b.1)) tt
  of_if (ty.Enum t) true e v w h k =
      let a = is_enum t v h in
      let b = is_enum t w k in
      subst (λ z. HasValue types (ty.Enum t) e z) (sym (ap₂ (if_of (B true)) a.2 b.2)) (subst (λ z. IsOf types (ty.Enum t) z) a.2 h)
  of_if (ty.Enum t) false e v w h k =
      let a = is_enum t v h in
      let b = is_enum t w k in
      subst (λ z. HasValue types (ty.Enum t) e z) (sym (ap₂ (if_of (B false)) a.2 b.2)) (subst (λ z. IsOf types (ty.Enum t) z) b.2 k)

  nil_test : (e : Bool) (t : Ty) (u v w : Value) → IsTrue e → u ≡ Nil → HasValue types t e (if_of u v w)
  nil_test e t u v w h k = subst (λ z. HasValue types t e (if_of z v w)) (sym k) h

  nil_branch : (c : Bool) (w : Value) → if_of (B c) Nil w ≡ Nil
  nil_branch c w = refl

  pub if_value : (t : Ty) (c d e f : Bool) (u v w : Value) → (IsTrue c → IsTrue f) → (IsTrue d → IsTrue f) → (IsTrue e → IsTrue f) → HasValue types ty.Bool c u → HasValue types t d v → HasValue types t e w → HasValue types t f (if_of u v w)
  if_value t c d e f u v w f1 f2 f3 hu hv hw =
      value_cases ty.Bool c u hu (λ q x. nil_test f t u v w (f1 x) q)
      (λ ku. let b = is_bool u ku in
      subst (λ z. HasValue types t f (if_of z v w)) (sym b.1)
      (value_cases t d v hv (λ q x. subst (λ z. HasValue types t f z) (sym (ap (λ z. if_of (B b.0) z w) q ∙ nil_branch b.0 w)) (f2 x))
      (λ kv. value_cases t e w hw (λ q x. subst (λ z. HasValue types t f z) (sym (ap (if_of (B b.0) v) q ∙ nil_third b.0 v)) (f3 x))
      (λ kw. of_if t b.0 f v w kv kw))))

  -- ---- constructors

  same_row : (n : ℕ) → nat_eq n n ≡ true
  same_row n = grind (arith, nat_tests)

  same_bool_self : (b : Bool) → same_bool b b ≡ true
  same_bool_self true = refl
  same_bool_self false = refl

  same_cons_is : (c d : Cons) → IsTrue (same_cons c d) → c ≡ d
  same_cons_is cons.False cons.False h = refl
  same_cons_is cons.True cons.True h = refl
  same_cons_is (cons.Named c) (cons.Named d) h = ap cons.Named ((bytes_eq-Decides c d).0 h)
  same_cons_is cons.False cons.True h = absurd (cc)
  same_cons_is cons.True cons.False h = absurd (cc)
  same_cons_is cons.False (cons.Named d) h = absurd (cc)
  same_cons_is cons.True (cons.Named d) h = absurd (cc)
  same_cons_is (cons.Named c) cons.False h = absurd (cc)
  same_cons_is (cons.Named c) cons.True h = absurd (cc)

  -- a value is of one of some constructors
  abbrev pub is_one : List Cons → Value → Bool
  is_one [] v = false
  is_one (c ∷ cs) v = is_cons types v c || is_one cs v

  is_one_of : (given : List Cons) (c : Cons) (v : Value) → IsTrue (is_named given c) → IsTrue (is_cons types v c) → IsTrue (is_one given v)
  is_one_of [] c v h k = absurd (cc)
  is_one_of (d ∷ given) c v h k =
      or_either (same_cons c d) (is_named given c) h
      (λ e. or_left (is_cons types v d) (is_one given v) (subst (λ z. IsTrue (is_cons types v z)) (same_cons_is c d e) k))
      (λ e. or_right (is_cons types v d) (is_one given v) (is_one_of given c v e k))

  enum_self : (v : Value) (u k : ℕ) → v ≡ E u k → IsTrue (same_value v v)
  enum_self v u k e = subst (λ z. IsTrue (same_value z z)) (sym e) (and_both (nat_eq u u) (nat_eq k k) (same_row u) (same_row k))

  enum_is : (u k : ℕ) (t : List ℕ) (given : List Cons) → IsOf types (ty.Enum t) (E u k) → ((c : List ℕ) → Contains (constructors_of types t) c → IsTrue (is_named given (cons.Named c))) → IsTrue (is_one given (E u k))
  enum_is u k t given h g = is_one_of given (cons.Named h.0) (E u k) (g h.0 h.1) (subst (λ z. IsTrue (same_value (E u k) z)) h.2 (enum_self (E u k) u k refl))

  pub covered : (t : Ty) (v : Value) (given : List Cons) → IsOf types t v → Covers types t given → IsTrue (is_one given v)
  covered ty.Bool (B true) given h g = is_one_of given cons.True (B true) g.1 refl
  covered ty.Bool (B false) given h g = is_one_of given cons.False (B false) g.0 refl
  covered ty.Int v given h g = absurd g
  covered (ty.Enum t) v given h g =
      let w = is_enum t v h in
      subst (λ z. IsTrue (is_one given z)) (sym w.2) (enum_is w.0 w.1 t given (subst (λ z. IsOf types (ty.Enum t) z) w.2 h) g)
  covered ty.Bool Absent given h g = absurd h
  covered ty.Bool Nil given h g = absurd h
  covered ty.Bool (E u k) given h g = absurd h
  covered ty.Bool (I n) given h g = absurd h
  covered ty.Bool Star given h g = absurd h

  -- ---- values where a clock is there

  pub fits_true : (d : Bool) (t : Ty) (e : Bool) (v : Value) → IsTrue d → Fits types d (Some t) e v → HasValue types t e v
  fits_true true t e v h k = k
  fits_true false t e v h k = absurd (cc)

  pub true_fits : (d : Bool) (t : Ty) (e : Bool) (v : Value) → IsTrue d → HasValue types t e v → Fits types d (Some t) e v
  true_fits true t e v h k = k
  true_fits false t e v h k = absurd (cc)

  pub fits_false : (d : Bool) (t : Option Ty) (e : Bool) (v : Value) → IsFalse d → Fits types d t e v → v ≡ Absent
  fits_false true t e v h k = absurd (cc)
  fits_false false t e v h k = k

  pub fits_weaker : (d : Bool) (t : Ty) (e f : Bool) (v : Value) → (IsTrue e → IsTrue f) → Fits types d (Some t) e v → Fits types d (Some t) f v
  fits_weaker true t e f v g h = weaker t e f v g h
  fits_weaker false t e f v g h = h

  or_else_there : (t : Ty) (v w : Value) → IsOf types t v → or_else v w ≡ v
  or_else_there t Absent w h = absurd (not_absent t Absent h refl)
  or_else_there t Nil w h = refl
  or_else_there t (B b) w h = refl
  or_else_there t (E u k) w h = refl
  or_else_there t (I n) w h = refl
  or_else_there t Star w h = refl

  after_there : (t : Ty) (d : Bool) (u v w : Value) → HasValue types t d u → after u v w ≡ w
  after_there t d Absent v w h = absurd (not_absent t Absent h refl)
  after_there t d Nil v w h = refl
  after_there t d (B b) v w h = refl
  after_there t d (E u k) v w h = refl
  after_there t d (I n) v w h = refl
  after_there t d Star v w h = refl

  module _ (t : Ty) (clock : Clock) where
    newest_step : (d m n : Bool) (v w : Value) → Fits types d (Some t) false v → HasValue types t (m && n) w → HasValue types t ((not d && m) && n) (or_else v w)
    newest_step true m n v w h k = subst (λ z. HasValue types t (false && n) z) (sym (or_else_there t v w (never_nil t false v refl h))) (value_of t (false && n) v (never_nil t false v refl h))
    newest_step false m n v w h k = subst (λ z. HasValue types t (m && n) (or_else z w)) (sym h) k

    -- the newest value: what is given where there is none
    pub newest_value : (ws : List Presence) (past : Past) (n : Bool) (none : Value) → Along (λ w i. Fits types (w clock) (Some t) false (top i)) ws past → HasValue types t n none → HasValue types t (none_held ws clock && n) (newest none past)
    newest_value [] [] n none a h = h
    newest_value (w ∷ ws) (i ∷ past) n none a h = newest_step (w clock) (none_held ws clock) n (top i) (newest none past) a.0 (newest_value ws past n none a.1 h)
    newest_value [] (i ∷ past) n none a h = absurd a
    newest_value (w ∷ ws) [] n none a h = absurd a

    held_step : (d m : Bool) (v w : Value) → Fits types d (Some t) false v → (IsFalse m → IsOf types t w) → IsFalse (not d && m) → IsOf types t (or_else v w)
    held_step true m v w h k f = subst (λ z. IsOf types t z) (sym (or_else_there t v w (never_nil t false v refl h))) (never_nil t false v refl h)
    held_step false m v w h k f = subst (λ z. IsOf types t (or_else z w)) (sym h) (k f)

    -- where the clock was there, the newest value is one of the type
    pub newest_held : (ws : List Presence) (past : Past) (none : Value) → Along (λ w i. Fits types (w clock) (Some t) false (top i)) ws past → IsFalse (none_held ws clock) → IsOf types t (newest none past)
    newest_held [] [] none a f = absurd (cc)
    newest_held (w ∷ ws) (i ∷ past) none a f = held_step (w clock) (none_held ws clock) (top i) (newest none past) a.0 (newest_held ws past none a.1) f
    newest_held [] (i ∷ past) none a f = absurd a
    newest_held (w ∷ ws) [] none a f = absurd a

    first_step : (d m e : Bool) (u v w x : Value) → Fits types d (Some t) e u → x ≡ (if m then v else w) → after u x w ≡ (if not d && m then v else w)
    first_step true m e u v w x h k = after_there t e u x w h
    first_step false m e u v w x h k = ap (λ z. after z x w) h ∙ k

    -- the first value where the clock was not there, else the second
    pub at_first_is : (ws : List Presence) (past : Past) (e : Bool) (v w : Value) → Along (λ p i. Fits types (p clock) (Some t) e (top i)) ws past → at_first past v w ≡ (if none_held ws clock then v else w)
    at_first_is [] [] e v w a = refl
    at_first_is (p ∷ ws) (i ∷ past) e v w a = first_step (p clock) (none_held ws clock) e (top i) v w (at_first past v w) a.0 (at_first_is ws past e v w a.1)
    at_first_is [] (i ∷ past) e v w a = absurd a
    at_first_is (p ∷ ws) [] e v w a = absurd a

    choice : (m e : Bool) (v w : Value) → HasValue types t e v → (IsFalse m → IsOf types t w) → HasValue types t e (if m then v else w)
    choice true e v w h k = h
    choice false e v w h k = value_of t e w (k refl)

    pub first_value : (ws : List Presence) (past : Past) (d e : Bool) (v w : Value) → Along (λ p i. Fits types (p clock) (Some t) d (top i)) ws past → HasValue types t e v → (IsFalse (none_held ws clock) → IsOf types t w) → HasValue types t e (at_first past v w)
    first_value ws past d e v w a h k = subst (λ z. HasValue types t e z) (sym (at_first_is ws past d v w a)) (choice (none_held ws clock) e v w h k)
