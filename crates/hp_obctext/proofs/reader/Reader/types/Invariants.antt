use Rattle.std.proofs.Common.{◌≡◌, [], codes, length}
use Rattle.hp_obctext.specs.Reading.{many, is_this, type_declaration}
use Rattle.hp_obctext.proofs.reader.Reader.types.Given as goal

abbrev pub invariant-loop-types : goal.invariant-loop-types
invariant-loop-types l = many (is_this (codes "type")) type_declaration l.types.items l.self ≡ many (is_this (codes "type")) type_declaration [] l.fn.self

abbrev pub decreases-loop-types : goal.decreases-loop-types
decreases-loop-types l = length l.self
