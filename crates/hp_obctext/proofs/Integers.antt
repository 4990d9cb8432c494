-- An integer of 32 bits is one.
use Rattle.std.proofs.Common.{◌≡◌, true, if◌then◌else◌, ℤ, pos, negsuc, None, Some, sym, ap, arith}
use Rattle.std.specs.Int.{w32}
use Rattle.std.specs.Int.RustNames.{FitsSigned}
use Rattle.std.proofs.lemmas.Bool.Decides.{nat_tests}
use Rattle.hp_base.specs.declared.ty.Ty.TheVariants as ty
use Rattle.hp_obc.specs.Form.{is_short}

pub fits_short : (n : ℤ) → FitsSigned w32 n → is_short n ≡ true
fits_short (pos n) h = let k = h.sfits in grind (arith, nat_tests)
fits_short (negsuc n) h = let k = h.sfits in grind (arith, nat_tests)

-- the type of an integer
pub integer_typed : (n : ℤ) → FitsSigned w32 n → Some ty.Int ≡ (if is_short n then Some ty.Int else None)
integer_typed n h = sym (ap (λ d. if d then Some ty.Int else None) (fits_short n h))
