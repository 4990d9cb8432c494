use Rattle.std.proofs.Common.{◌≡◌, min, take, drop}
use Rattle.std.specs.List.{list_all}
use Rattle.hp_base.specs.Bytes.{is_digit}
use Rattle.hp_lines.specs.Numbers.{digits_number}
use Rattle.hp_cert.proofs.certtext.spelling.natural.Given as goal

abbrev pub invariant-loop-digit : goal.invariant-loop-digit
invariant-loop-digit l =
    (l.number ≡ min 18446744073709551615 (digits_number (take l.digit-index l.digits))) × (list_all is_digit (drop l.digit-index l.digits) ≡ list_all is_digit l.digits)
