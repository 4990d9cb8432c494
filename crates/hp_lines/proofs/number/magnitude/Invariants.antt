use Rattle.std.proofs.Common.{◌≡◌, min, take, drop}
use Rattle.std.specs.List.{list_all}
use Rattle.hp_base.specs.Bytes.{is_digit}
use Rattle.hp_lines.specs.Numbers.{digits_number}
use Rattle.hp_lines.proofs.number.magnitude.Given as goal

abbrev pub invariant-loop-digit : goal.invariant-loop-digit
invariant-loop-digit l =
    (l.number ≡ min 2147483649 (digits_number (take l.digit-index l.digits))) × (list_all is_digit (drop l.digit-index l.digits) ≡ list_all is_digit l.digits)
