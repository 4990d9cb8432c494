-- The values of types, constants and operators.
use Rattle.std.specs.Prelude.{ℕ, suc, ℤ, pos, neg_ℤ, Bool, true, false, ◌&&◌, ◌||◌, not, ◌==◌, List, [], ◌∷◌, Option, None, Some, option_map, if◌then◌else◌}
use Rattle.std.specs.List.{position}
use Rattle.std.specs.Str.{bytes_eq}
use Rattle.std.specs.Ordering.{int_eq}
use Rattle.std.specs.Int.RustNames.{int_lt, int_le}
use Rattle.hp_base.specs.Arithmetic.{wrapped, arithmetic}
use Rattle.hp_base.specs.Kinds.{KindData, Bools, Ints, Constructors}
use Rattle.hp_base.specs.declared.op.Op.TheVariants.{Add as Plus, Sub as Minus, Mul as Times, Div as Over, Rem as Rest}
use Rattle.hp_base.specs.declared.value.Value.{Value}
use Rattle.hp_base.specs.declared.value.Value.TheVariants.{Absent, B, E, I}
use Rattle.hp_base.specs.declared.ty.Ty.{Ty}
use Rattle.hp_base.specs.declared.ty.Ty.TheVariants.{Bool as BoolTy, Int as IntTy, Enum as EnumTy}
use Rattle.hp_base.specs.declared.ty.Const.{Const}
use Rattle.hp_base.specs.declared.ty.Const.TheVariants.{B as BoolConst, I as IntConst, E as EnumConst}
use Rattle.hp_obc.specs.declared.command.ObcOp.{ObcOp}
use Rattle.hp_obc.specs.declared.command.ObcOp.TheVariants.{Copy, Not, Neg, Mux, And, Or, Xor, Imp, Eq, Ne, Lt, Le, Gt, Ge, Add, Sub, Mul, Div, Rem}
use Rattle.hp_obc.specs.Machines.{ObcType}

-- the kind that a type has, where the first of the types has the number n; none where it is not declared
abbrev pub enum_from : ℕ → List ObcType → List ℕ → Option KindData
enum_from n [] x = None
enum_from n (t ∷ types) x = if bytes_eq t.name x then Some (Constructors n t.cons) else enum_from (suc n) types x

abbrev pub kind_of : List ObcType → Ty → Option KindData
kind_of types BoolTy = Some Bools
kind_of types IntTy = Some Ints
kind_of types (EnumTy x) = enum_from 0 types x

-- the value that a constructor is, where the first of the types has the number n; none where no type has it
abbrev pub constructor_from : ℕ → List ObcType → List ℕ → Option Value
constructor_from n [] x = None
constructor_from n (t ∷ types) x = elim (position (bytes_eq x) t.cons) [ Some c ↦ Some (E n c) | None ↦ constructor_from (suc n) types x ]

-- the value of a constant
abbrev pub constant_of : List ObcType → Const → Option Value
constant_of types (BoolConst b) = Some (B b)
constant_of types (IntConst n) = Some (I n)
constant_of types (EnumConst x) = constructor_from 0 types x

-- the value that stands for none
abbrev pub or_absent : Option Value → Value
or_absent None = Absent
or_absent (Some v) = v

-- what outputs and variables hold before the commands of a step: `false`, 0, or the first constructor
abbrev pub first_of_kind : KindData → Value
first_of_kind Bools = B false
first_of_kind Ints = I (pos 0)
first_of_kind (Constructors n names) = E n 0

abbrev pub first_value : List ObcType → Ty → Value
first_value types ty = or_absent (option_map first_of_kind (kind_of types ty))

-- two values of one kind are the same
abbrev pub same_bool : Bool → Bool → Bool
same_bool true b = b
same_bool false b = not b

abbrev pub same_value : Value → Value → Bool
same_value (B a) (B b) = same_bool a b
same_value (I m) (I n) = int_eq m n
same_value (E t c) (E u d) = t == u && c == d
same_value v w = false

-- what two truth values, or two integers, give; other values give none
abbrev pub on_bools : (Bool → Bool → Bool) → Value → Value → Value
on_bools f (B a) (B b) = B (f a b)
on_bools f v w = Absent

abbrev pub on_ints : (ℤ → ℤ → Value) → Value → Value → Value
on_ints f (I m) (I n) = f m n
on_ints f v w = Absent

-- what an operator gives on one argument, on two and on three
abbrev pub unary : ObcOp → Value → Value
unary Copy v = v
unary Not (B b) = B (not b)
unary Neg (I n) = I (wrapped (neg_ℤ n))
unary op v = Absent

abbrev pub binary : ObcOp → Value → Value → Value
binary And v w = on_bools (λ a b. a && b) v w
binary Or v w = on_bools (λ a b. a || b) v w
binary Xor v w = on_bools (λ a b. not (same_bool a b)) v w
binary Imp v w = on_bools (λ a b. not a || b) v w
binary Eq v w = B (same_value v w)
binary Ne v w = B (not (same_value v w))
binary Lt v w = on_ints (λ m n. B (int_lt m n)) v w
binary Le v w = on_ints (λ m n. B (int_le m n)) v w
binary Gt v w = on_ints (λ m n. B (int_lt n m)) v w
binary Ge v w = on_ints (λ m n. B (int_le n m)) v w
binary Add v w = on_ints (λ m n. I (arithmetic Plus m n)) v w
binary Sub v w = on_ints (λ m n. I (arithmetic Minus m n)) v w
binary Mul v w = on_ints (λ m n. I (arithmetic Times m n)) v w
binary Div v w = on_ints (λ m n. I (arithmetic Over m n)) v w
binary Rem v w = on_ints (λ m n. I (arithmetic Rest m n)) v w
binary op v w = Absent

abbrev pub ternary : ObcOp → Value → Value → Value → Value
ternary Mux (B b) v w = if b then v else w
ternary op u v w = Absent

-- what an operator gives on the arguments that it takes
abbrev pub operated : ObcOp → List Value → Value
operated op (v ∷ []) = unary op v
operated op (v ∷ w ∷ []) = binary op v w
operated op (u ∷ v ∷ w ∷ []) = ternary op u v w
operated op values = Absent
