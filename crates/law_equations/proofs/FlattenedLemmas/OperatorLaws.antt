-- Operators on values of the tree give what those of machines give.
use Rattle.std.proofs.Common.{◌≡◌, ◌-ℤ◌, ◌&&◌, ℕ, zero, suc, Bool, true, false, not, nat_eq, ℤ, pos, negsuc, neg_ℤ, int_lt, int_le, arith, [], ◌∷◌, refl, ap, subst, ◌∙◌}
use Rattle.std.proofs.lemmas.Int.{ints}
use Rattle.std.proofs.lemmas.Bool.Decides.{nat_tests}
use Rattle.hp_base.specs.Arithmetic.{wrapped}
use Rattle.hp_base.specs.declared.value.Value.{Value}
use Rattle.hp_base.specs.declared.value.Value.TheVariants.{Absent, Nil, B, E, I, Star}
use Rattle.hp_obc.specs.Values.{unary, binary, operated, same_bool as obc_same_bool}
use Rattle.hp_tree.specs.declared.expr.Op1.{Op1}
use Rattle.hp_tree.specs.declared.expr.Op1.TheVariants.{Not, Neg}
use Rattle.hp_tree.specs.declared.expr.Op2.{Op2}
use Rattle.hp_tree.specs.declared.expr.Op2.TheVariants.{And, Or, Xor, Imp, Eq, Ne, Lt, Le, Gt, Ge, Add, Sub, Mul, Div, Rem}
use Rattle.hp_tree.specs.Operators.{same_bool, one_of, two_of, logic, numbers, arithmetic_of, constructors}
use Rattle.law_equations.specs.Flattened.Flatten.{obc_one, obc_two}
use Rattle.law_equations.specs.Flattened.Timely.{IsValue}

turned : (n : ℤ) → pos 0 -ℤ n ≡ neg_ℤ n
turned (pos zero) = refl
turned (pos (suc k)) = omega (arith, ints)
turned (negsuc k) = omega (arith, ints)

one_operated : (o : Op1) (v : Value) → IsValue (one_of o v) → one_of o v ≡ unary (obc_one o) v
one_operated Not (B b) h = refl
one_operated Not Nil h = absurd h
one_operated Not Absent h = absurd h
one_operated Not Star h = absurd h
one_operated Not (I n) h = absurd h
one_operated Not (E t c) h = absurd h
one_operated Neg (I n) h = ap (λ m. I (wrapped m)) (turned n)
one_operated Neg Nil h = absurd h
one_operated Neg Absent h = absurd h
one_operated Neg Star h = absurd h
one_operated Neg (B b) h = absurd h
one_operated Neg (E t c) h = absurd h

same_bools : (a b : Bool) → same_bool a b ≡ obc_same_bool a b
same_bools true b = refl
same_bools false b = refl

not_less : (a b : ℤ) → not (int_lt b a) ≡ int_le a b
not_less a b = grind (arith, ints, nat_tests)

logic_operated : (o : Op2) (a b : Bool) → IsValue (logic o a b) → logic o a b ≡ binary (obc_two o) (B a) (B b)
logic_operated And a b h = refl
logic_operated Or a b h = refl
logic_operated Xor a b h = ap (λ d. B (not d)) (same_bools a b)
logic_operated Imp a b h = refl
logic_operated Eq a b h = ap B (same_bools a b)
logic_operated Ne a b h = ap (λ d. B (not d)) (same_bools a b)
logic_operated Lt a b h = absurd h
logic_operated Le a b h = absurd h
logic_operated Gt a b h = absurd h
logic_operated Ge a b h = absurd h
logic_operated Add a b h = absurd h
logic_operated Sub a b h = absurd h
logic_operated Mul a b h = absurd h
logic_operated Div a b h = absurd h
logic_operated Rem a b h = absurd h

numbers_operated : (o : Op2) (a b : ℤ) → IsValue (numbers arithmetic_of o a b) → numbers arithmetic_of o a b ≡ binary (obc_two o) (I a) (I b)
numbers_operated Eq a b h = refl
numbers_operated Ne a b h = refl
numbers_operated Lt a b h = refl
numbers_operated Le a b h = ap B (not_less a b)
numbers_operated Gt a b h = refl
numbers_operated Ge a b h = ap B (not_less b a)
numbers_operated Add a b h = refl
numbers_operated Sub a b h = refl
numbers_operated Mul a b h = refl
numbers_operated Div a b h = refl
numbers_operated Rem a b h = refl
numbers_operated And a b h = absurd h
numbers_operated Or a b h = absurd h
numbers_operated Xor a b h = absurd h
numbers_operated Imp a b h = absurd h

constructors_operated : (o : Op2) (s a t b : ℕ) → IsValue (constructors o (nat_eq s t && nat_eq a b)) → constructors o (nat_eq s t && nat_eq a b) ≡ binary (obc_two o) (E s a) (E t b)
constructors_operated Eq s a t b h = refl
constructors_operated Ne s a t b h = refl
constructors_operated And s a t b h = absurd h
constructors_operated Or s a t b h = absurd h
constructors_operated Xor s a t b h = absurd h
constructors_operated Imp s a t b h = absurd h
constructors_operated Lt s a t b h = absurd h
constructors_operated Le s a t b h = absurd h
constructors_operated Gt s a t b h = absurd h
constructors_operated Ge s a t b h = absurd h
constructors_operated Add s a t b h = absurd h
constructors_operated Sub s a t b h = absurd h
constructors_operated Mul s a t b h = absurd h
constructors_operated Div s a t b h = absurd h
constructors_operated Rem s a t b h = absurd h

two_operated : (o : Op2) (v w : Value) → IsValue (two_of o v w) → two_of o v w ≡ binary (obc_two o) v w
two_operated o (B a) (B b) h = logic_operated o a b h
two_operated o (I a) (I b) h = numbers_operated o a b h
two_operated o (E s a) (E t b) h = constructors_operated o s a t b h
two_operated o (B a) (I b) h = absurd h
two_operated o (B a) (E t b) h = absurd h
two_operated o (B a) Absent h = absurd h
two_operated o (B a) Star h = absurd h
two_operated o (B a) Nil h = absurd h
two_operated o (I a) (B b) h = absurd h
two_operated o (I a) (E t b) h = absurd h
two_operated o (I a) Absent h = absurd h
two_operated o (I a) Star h = absurd h
two_operated o (I a) Nil h = absurd h
two_operated o (E s a) (B b) h = absurd h
two_operated o (E s a) (I b) h = absurd h
two_operated o (E s a) Absent h = absurd h
two_operated o (E s a) Star h = absurd h
two_operated o (E s a) Nil h = absurd h
two_operated o Nil w h = absurd h
two_operated o Absent Nil h = absurd h
two_operated o Absent (B b) h = absurd h
two_operated o Absent (I b) h = absurd h
two_operated o Absent (E t b) h = absurd h
two_operated o Absent Absent h = absurd h
two_operated o Absent Star h = absurd h
two_operated o Star Nil h = absurd h
two_operated o Star (B b) h = absurd h
two_operated o Star (I b) h = absurd h
two_operated o Star (E t b) h = absurd h
two_operated o Star Absent h = absurd h
two_operated o Star Star h = absurd h

-- where the tree's operator gives a value, the machine's gives it
pub one_case : (o : Op1) (x v : Value) → x ≡ one_of o v → IsValue x → x ≡ operated (obc_one o) (v ∷ [])
one_case o x v e h = e ∙ one_operated o v (subst IsValue e h)

pub two_case : (o : Op2) (x v w : Value) → x ≡ two_of o v w → IsValue x → x ≡ operated (obc_two o) (v ∷ w ∷ [])
two_case o x v w e h = e ∙ two_operated o v w (subst IsValue e h)
