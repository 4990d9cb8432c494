use Rattle.std.proofs.Common.{◌≡◌, take}
use Rattle.hp_lexer.specs.Reading.{place_behind}
use Rattle.hp_lexer.proofs.lexer.end_place.Given as goal

abbrev pub invariant-loop-byte : goal.invariant-loop-byte
invariant-loop-byte l = l.place ≡ place_behind (take l.byte-index l.text)
