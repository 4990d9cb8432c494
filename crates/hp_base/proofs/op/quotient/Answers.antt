use Rattle.std.proofs.Common.{◌≡◌, false, pos, int_eq, if◌then◌else◌, sym, ap, ◌∙◌, arith, rules}
use Rattle.std.specs.Int.{w32, int_wrapping_div, cast_signed, cast_unsigned}
use Rattle.std.specs.Int.RustNames.{FitsSigned, int_div}
use Rattle.std.proofs.lemmas.Int.{ints, to_z-of_z}
use Rattle.hp_base.specs.Arithmetic.{wrapped}
use Rattle.hp_base.proofs.Quotients.{quotient_wraps}
use Rattle.hp_base.proofs.op.quotient.Goals as goal

pub returns-else-b-eq0 : goal.returns-else-b-eq0
returns-else-b-eq0 c =
    let a = c.args.a in
    let b = c.args.b in
    let fits : FitsSigned w32 c.wrapping_div.result = search rules in
    let test : int_eq b (pos 0) ≡ false = search rules in
    to_z-of_z w32 _ fits
    ∙ c.wrapping_div.ensures
    ∙ ap (λ z. int_wrapping_div w32 z (cast_signed w32 (cast_unsigned w32 b))) (to_z-of_z w32 a c.ranges.a)
    ∙ ap (int_wrapping_div w32 a) (to_z-of_z w32 b c.ranges.b)
    ∙ quotient_wraps a b c.ranges.a
    ∙ sym (ap (λ d. if d then pos 0 else wrapped (int_div a b)) test)
