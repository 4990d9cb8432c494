-- A quotient of two numbers of 32 bits wraps as its bits do.
use Rattle.std.proofs.Common.{◌≡◌, ℕ, zero, suc, ◌+◌, ◌-◌, ◌*◌, ◌/◌, ◌%◌, ◌^◌, ◌<◌, ◌≤◌, ℤ, pos, negsuc, neg_ℤ, refl, sym, ap, ◌∙◌, subst, arith}
use Rattle.std.proofs.Math.Nat.{div-le_self}
use Rattle.std.specs.Int.{w32, int_wrap, cast_signed, cast_unsigned}
use Rattle.std.specs.Int.Signed.{mag, nat_abs-le}
use Rattle.std.specs.Int.RustNames.{FitsSigned, int_div, unsigned_abs}

abs_neg : (m : ℕ) → unsigned_abs (neg_ℤ (pos m)) ≡ m
abs_neg zero = refl
abs_neg (suc m) = refl

quotient_is_less : (a b : ℤ) → unsigned_abs (int_div a b) ≤ unsigned_abs a
quotient_is_less (pos a) (pos b) = div-le_self a b
quotient_is_less (pos a) (negsuc b) = subst (λ m. m ≤ a) (sym (abs_neg (a / suc b))) (div-le_self a (suc b))
quotient_is_less (negsuc a) (pos b) = subst (λ m. m ≤ suc a) (sym (abs_neg (suc a / b))) (div-le_self (suc a) b)
quotient_is_less (negsuc a) (negsuc b) = div-le_self (suc a) (suc b)

small_rest : (n : ℕ) → n < 4294967296 → n % 4294967296 ≡ n
small_rest n h = grind arith

bits_wrap : (k : ℤ) → unsigned_abs k ≤ 2147483648 → cast_signed w32 (cast_unsigned w32 k) ≡ int_wrap w32 k
unfolding int_wrap
bits_wrap (pos n) h = ap (cast_signed w32) (sym (small_rest n (omega (arith, h))))
bits_wrap (negsuc n) h = ap (cast_signed w32) (let e = small_rest n (omega (arith, h)) in omega (arith, e))

pub quotient_wraps : (a b : ℤ) → FitsSigned w32 a → cast_signed w32 (cast_unsigned w32 (int_div a b)) ≡ int_wrap w32 (int_div a b)
quotient_wraps a b f =
    let small : unsigned_abs a ≤ 2147483648 = nat_abs-le a f.sfits in
    bits_wrap (int_div a b) (omega (arith, quotient_is_less a b, small))
