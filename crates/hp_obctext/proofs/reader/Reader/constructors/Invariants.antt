use Rattle.std.proofs.Common.{◌≡◌, codes, length}
use Rattle.hp_obctext.specs.Reading.{many, is_this, next_constructor, constructors}
use Rattle.hp_obctext.proofs.reader.Reader.constructors.Given as goal

abbrev pub invariant-loop-constructors : goal.invariant-loop-constructors
invariant-loop-constructors l = many (is_this (codes "|")) next_constructor l.constructors.items l.self ≡ constructors l.fn.self

abbrev pub decreases-loop-constructors : goal.decreases-loop-constructors
decreases-loop-constructors l = length l.self
