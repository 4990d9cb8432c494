-- Arithmetic of 32 bits over the integers, as it is usual in two's complement.
use Rattle.std.specs.Prelude.{ℤ, pos, ◌+ℤ◌, ◌-ℤ◌, ◌*ℤ◌, if◌then◌else◌}
use Rattle.std.specs.Int.{int_wrap, w32}
use Rattle.std.specs.Ordering.{int_eq}
use Rattle.std.specs.Int.RustNames.{int_div, int_rem}
use Rattle.hp_base.specs.declared.op.Op.{Op}
use Rattle.hp_base.specs.declared.op.Op.TheVariants.{Add, Sub, Mul, Div, Rem}

-- the number of 32 bits that differs from an integer by a multiple of 2^32
abbrev pub wrapped : ℤ → ℤ
wrapped n = int_wrap w32 n

-- what an operator gives: a quotient is truncated towards zero; one by 0 is 0, and a remainder by 0 is the dividend
abbrev pub arithmetic : Op → ℤ → ℤ → ℤ
arithmetic Add a b = wrapped (a +ℤ b)
arithmetic Sub a b = wrapped (a -ℤ b)
arithmetic Mul a b = wrapped (a *ℤ b)
arithmetic Div a b = if int_eq b (pos 0) then pos 0 else wrapped (int_div a b)
arithmetic Rem a b = if int_eq b (pos 0) then a else int_rem a b
