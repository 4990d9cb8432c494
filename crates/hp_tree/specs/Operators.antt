-- Values: constructors by number, and what operators give.
use Rattle.std.specs.Prelude.{ℕ, suc, ℤ, pos, ◌-ℤ◌, Bool, true, false, ◌&&◌, ◌||◌, not, if◌then◌else◌, List, [], ◌∷◌, Option, None, Some, nat_eq, int_lt}
use Rattle.std.specs.Ordering.{int_eq}
use Rattle.std.specs.Str.{bytes_eq}
use Rattle.hp_base.specs.Arithmetic.{arithmetic, wrapped}
use Rattle.hp_base.specs.declared.op.Op.TheVariants as op
use Rattle.hp_base.specs.declared.value.Value.{Value}
use Rattle.hp_base.specs.declared.value.Value.TheVariants.{Absent, Nil, B, E, I, Star}
use Rattle.hp_base.specs.declared.ty.Const.{Const}
use Rattle.hp_base.specs.declared.ty.Const.TheVariants as const
use Rattle.hp_tree.specs.declared.decl.Cons.{Cons}
use Rattle.hp_tree.specs.declared.decl.Cons.TheVariants as cons
use Rattle.hp_tree.specs.declared.expr.Op1.{Op1}
use Rattle.hp_tree.specs.declared.expr.Op1.TheVariants.{Not, Neg}
use Rattle.hp_tree.specs.declared.expr.Op2.{Op2}
use Rattle.hp_tree.specs.declared.expr.Op2.TheVariants.{And, Or, Xor, Imp, Eq, Ne, Lt, Le, Gt, Ge, Add, Sub, Mul, Div, Rem}
use Rattle.hp_tree.specs.Programs.{TypeDecl}

-- ---- constructors

-- where a name stands among some
abbrev pub place_in : ℕ → List (List ℕ) → List ℕ → Option ℕ
place_in k [] x = None
place_in k (y ∷ ys) x = if bytes_eq y x then Some k else place_in (suc k) ys x

abbrev pub or_later : ℕ → Option ℕ → Value → Value
or_later t (Some c) v = E t c
or_later t None v = v

-- the value of a constructor: the number of its type and its own, in declared order, where the first type is number t
abbrev pub constructor_from : ℕ → List TypeDecl → List ℕ → Value
constructor_from t [] x = Absent
constructor_from t (d ∷ ds) x = or_later t (place_in 0 d.cons x) (constructor_from (suc t) ds x)

abbrev pub constant_of : List TypeDecl → Const → Value
constant_of types (const.B b) = B b
constant_of types (const.I n) = I n
constant_of types (const.E x) = constructor_from 0 types x

abbrev pub cons_of : List TypeDecl → Cons → Value
cons_of types cons.False = B false
cons_of types cons.True = B true
cons_of types (cons.Named x) = constructor_from 0 types x

abbrev pub same_bool : Bool → Bool → Bool
same_bool true b = b
same_bool false b = not b

-- Two values are the same; Absent and Nil are the same as none.
abbrev pub same_value : Value → Value → Bool
same_value (B a) (B b) = same_bool a b
same_value (E s a) (E t b) = nat_eq s t && nat_eq a b
same_value (I a) (I b) = int_eq a b
same_value v w = false

-- A value is of a constructor.
abbrev pub is_cons : List TypeDecl → Value → Cons → Bool
is_cons types v c = same_value v (cons_of types c)

abbrev pub is_true : Value → Bool
is_true (B b) = b
is_true v = false

abbrev pub is_there : Value → Bool
is_there Absent = false
is_there v = true

-- ---- operators: Nil where an operand is Nil

abbrev pub one_of : Op1 → Value → Value
one_of Not (B b) = B (not b)
one_of Neg (I n) = I (wrapped (pos 0 -ℤ n))
one_of o Nil = Nil
one_of o v = Absent

abbrev pub logic : Op2 → Bool → Bool → Value
logic And a b = B (a && b)
logic Or a b = B (a || b)
logic Xor a b = B (not (same_bool a b))
logic Imp a b = B (not a || b)
logic Eq a b = B (same_bool a b)
logic Ne a b = B (not (same_bool a b))
logic o a b = Absent

-- the arithmetic of two integers, which a comparison is not
abbrev pub arithmetic_of : Op2 → ℤ → ℤ → Value
arithmetic_of Add a b = I (arithmetic op.Add a b)
arithmetic_of Sub a b = I (arithmetic op.Sub a b)
arithmetic_of Mul a b = I (arithmetic op.Mul a b)
arithmetic_of Div a b = I (arithmetic op.Div a b)
arithmetic_of Rem a b = I (arithmetic op.Rem a b)
arithmetic_of o a b = Absent

abbrev pub numbers : (Op2 → ℤ → ℤ → Value) → Op2 → ℤ → ℤ → Value
numbers f Eq a b = B (int_eq a b)
numbers f Ne a b = B (not (int_eq a b))
numbers f Lt a b = B (int_lt a b)
numbers f Le a b = B (not (int_lt b a))
numbers f Gt a b = B (int_lt b a)
numbers f Ge a b = B (not (int_lt a b))
numbers f o a b = f o a b

abbrev pub constructors : Op2 → Bool → Value
constructors Eq same = B same
constructors Ne same = B (not same)
constructors o same = Absent

-- an operator over a given arithmetic
abbrev pub two_over : (Op2 → ℤ → ℤ → Value) → Op2 → Value → Value → Value
two_over f o (B a) (B b) = logic o a b
two_over f o (I a) (I b) = numbers f o a b
two_over f o (E s a) (E t b) = constructors o (nat_eq s t && nat_eq a b)
two_over f o Nil w = Nil
two_over f o v Nil = Nil
two_over f o v w = Absent

abbrev pub two_of : Op2 → Value → Value → Value
two_of o v w = two_over arithmetic_of o v w

abbrev pub if_of : Value → Value → Value → Value
if_of (B c) Nil w = Nil
if_of (B c) v Nil = Nil
if_of (B true) v w = v
if_of (B false) v w = w
if_of Nil v w = Nil
if_of c v w = Absent

-- ---- the Boolean abstraction: an integer is one mark, and a comparison of integers has a value that is given

abbrev pub marked : Value → Value
marked (I n) = Star
marked v = v

abbrev pub one_marked : Op1 → Value → Value
one_marked Neg Star = Star
one_marked o v = one_of o v

abbrev pub is_comparison : Op2 → Bool
is_comparison Eq = true
is_comparison Ne = true
is_comparison Lt = true
is_comparison Le = true
is_comparison Gt = true
is_comparison Ge = true
is_comparison o = false

abbrev pub two_marked : Op2 → Value → Value → Value → Value
two_marked o given Star Star = if is_comparison o then given else Star
two_marked o given v w = two_of o v w

-- how constants and operators are read, what `pre` gives without a past, and what an instance's output is
pub record Reading : Type 0 where
  pub constant : Value → Value
  pub one : Op1 → Value → Value
  pub two : Op2 → Value → Value → Value → Value
  pub undefined : Value → Value

-- the language itself
abbrev pub real : Reading
real = record { constant = λ v. v; one = one_of; two = λ o given v w. two_of o v w; undefined = λ given. Nil }

-- the same, where each `pre` without a past gives the value that is given at its place; the filled form gives the first value of the type there
abbrev pub filled : Reading
filled = record real { undefined = λ given. given }

-- its Boolean abstraction
abbrev pub abstraction : Reading
abstraction = record { constant = marked; one = one_marked; two = two_marked; undefined = λ given. Nil }
