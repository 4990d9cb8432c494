use Rattle.std.proofs.Common.{◌≡◌, min, take}
use Rattle.hp_lexer.specs.Spelling.{value_of}
use Rattle.hp_lexer.proofs.numbers.number.Given as goal

abbrev pub invariant-loop-digit : goal.invariant-loop-digit
invariant-loop-digit l = l.value ≡ min 2147483648 (value_of (take l.digit-index l.digits))
