-- Constructors of one type that differ have different numbers.
use Rattle.std.proofs.Common.{◌≡◌, inr, ℕ, Bool, true, false, ◌||◌, ◌&&◌, nat_eq, List, [], ◌∷◌, Option, None, Some, refl, sym, ap, subst, ◌∙◌, arith}
use Rattle.std.specs.Prelude.{IsTrue, IsFalse}
use Rattle.std.proofs.lemmas.Bool.{eq-eqb}
use Rattle.std.proofs.lemmas.Bool.Decides.{nat_tests}
use Rattle.hp_base.specs.declared.ty.Ty.{Ty}
use Rattle.hp_base.specs.declared.ty.Ty.TheVariants as ty
use Rattle.hp_base.specs.declared.value.Value.{Value}
use Rattle.hp_base.specs.declared.value.Value.TheVariants.{Absent, Nil, B, E, I, Star}
use Rattle.hp_tree.specs.declared.decl.Cons.{Cons}
use Rattle.hp_tree.specs.Programs.{TypeDecl}
use Rattle.hp_tree.specs.Operators.{cons_of, same_value}
use Rattle.hp_tree.specs.Values.{IsOf}
use Rattle.hp_typing.specs.Definitions.{same_cons}
use Rattle.law_values.specs.Valued.Judged.{is_named}
use Rattle.law_equations.specs.Meaning.Reactions.{has}
use Rattle.law_equations.specs.Flattened.Numbered.{number_of, IsTold}
use Rattle.law_equations.specs.Made.Making.{Known, cons_number}
use Rattle.law_equations.specs.Made.Standing.{Knows}
use Rattle.law_wellmade.specs.Timely.Tested.{ConstructorsDiffer, AreApart, ConsAre}
use Rattle.law_wellmade.proofs.TimelyLemmas.KindLaws.{cons_told, cons_apart}

-- no number stands twice
abbrev pub NumbersDiffer : List ℕ → Type 0
NumbersDiffer [] = Unit {0}
NumbersDiffer (j ∷ js) = (has js j ≡ false) × NumbersDiffer js

abbrev pub numbers : Known → List Cons → List ℕ
numbers k [] = []
numbers k (c ∷ cs) = cons_number k c ∷ numbers k cs

-- a number that is among others differs from one that is not
pub other-number : (js : List ℕ) (i j : ℕ) → has js i ≡ false → has js j ≡ true → nat_eq i j ≡ false
other-number js i j h g = by (nat_eq i j) refl
  where
    by : (b : Bool) → nat_eq i j ≡ b → b ≡ false
    by true e = let is : i ≡ j = grind (arith, nat_tests, e) in let there : has js i ≡ true = ap (has js) is ∙ g in absurd cc
    by false e = refl

same_self : (v : Value) → IsTold v v → IsTrue (same_value v v)
same_self (B true) h = refl
same_self (B false) h = refl
same_self (E t c) h = both (nat_eq t t) (nat_eq c c) (eq-eqb t t refl) (eq-eqb c c refl)
  where
    both : (a b : Bool) → a ≡ true → b ≡ true → IsTrue (a && b)
    both true true e f = refl
    both true false e f = absurd cc
    both false b e f = absurd cc
same_self (I n) h = absurd h
same_self Absent h = absurd h
same_self Nil h = absurd h
same_self Star h = absurd h

-- told values with one number are the same
told_apart : (v w : Value) → IsTold v w → (w ≡ Absent → ⊥) → IsFalse (same_value v w) → number_of v ≡ number_of w → ⊥
told_apart (B true) (B true) t n f e = absurd cc
told_apart (B false) (B false) t n f e = absurd cc
told_apart (B true) (B false) t n f e = absurd (omega (arith, e))
told_apart (B false) (B true) t n f e = absurd (omega (arith, e))
told_apart (B b) Absent t n f e = n refl
told_apart (E a c) Absent t n f e = n refl
told_apart (E a c) (E b d) t n f e = absurd (by (nat_eq a b) (nat_eq c d) (eq-eqb a b t) (eq-eqb c d e) f)
  where
    by : (p q : Bool) → p ≡ true → q ≡ true → IsFalse (p && q) → ⊥
    by true true g h k = absurd cc
    by true false g h k = absurd cc
    by false q g h k = absurd cc
told_apart v w t n f e = absurd t

never_absent : (types : List TypeDecl) (t : Ty) (v : Value) → IsOf types t v → v ≡ Absent → ⊥
never_absent types t v h e = none t (subst (IsOf types t) e h)
  where
    none : (u : Ty) → IsOf types u Absent → ⊥
    none ty.Bool k = k
    none ty.Int k = k
    none (ty.Enum x) k = k

or_first : (a b : Bool) → IsFalse (a || b) → IsFalse a
or_first true b h = absurd cc
or_first false b h = refl

or_second : (a b : Bool) → IsFalse (a || b) → IsFalse b
or_second true b h = absurd cc
or_second false b h = h

module _ (types : List TypeDecl) (differ : ConstructorsDiffer types) (outputs : List ℕ → List (List ℕ)) (k : Known) (knows : Knows types outputs k) where
  numbers_apart : (t : Ty) (c d : Cons) → IsOf types t (cons_of types c) → IsOf types t (cons_of types d) → IsFalse (same_cons c d) → cons_number k c ≡ cons_number k d → ⊥
  numbers_apart t c d h g apart e =
      let v = cons_of types c in
      let w = cons_of types d in
      let self = same_self v (cons_told types t c v differ h (inr h)) in
      told_apart v w (cons_told types t c w differ h (inr g)) (never_absent types t w g) (cons_apart types t c d v h g apart self) (knows.constructors c ∙ e ∙ sym (knows.constructors d))

  not_among : (t : Ty) (c : Cons) (cs : List Cons) → IsOf types t (cons_of types c) → ConsAre types (Some t) cs → IsFalse (is_named cs c) → has (numbers k cs) (cons_number k c) ≡ false
  not_among t c [] h a n = refl
  not_among t c (d ∷ cs) h a n =
      by (nat_eq (cons_number k d) (cons_number k c)) refl (λ e. numbers_apart t c d h a.0 (or_first (same_cons c d) (is_named cs c) n) (sym e)) (not_among t c cs h a.1 (or_second (same_cons c d) (is_named cs c) n))
    where
      by : (b : Bool) → nat_eq (cons_number k d) (cons_number k c) ≡ b → (cons_number k d ≡ cons_number k c → ⊥) → has (numbers k cs) (cons_number k c) ≡ false → (b || has (numbers k cs) (cons_number k c)) ≡ false
      by true e f rest = let is : cons_number k d ≡ cons_number k c = grind (arith, nat_tests, e) in absurd (f is)
      by false e f rest = rest

  -- the constructors of a type that are named, none of them twice
  pub numbers-differ : (o : Option Ty) (cs : List Cons) → ConsAre types o cs → AreApart cs → NumbersDiffer (numbers k cs)
  numbers-differ o [] a n = tt
  numbers-differ None (c ∷ cs) a n = absurd a.0
  numbers-differ (Some t) (c ∷ cs) a n = (not_among t c cs a.0 a.1 n.0, numbers-differ (Some t) cs a.1 n.1)
