use Rattle.std.proofs.Common.{◌≡◌, [], length}
use Rattle.hp_obctext.specs.Reading.{many, is_open, one}
use Rattle.hp_obctext.specs.Spelling.{name_of}
use Rattle.hp_obctext.proofs.reader.Reader.names.Given as goal

abbrev pub invariant-loop-names : goal.invariant-loop-names
invariant-loop-names l = many is_open (one name_of) l.names.items l.self ≡ many is_open (one name_of) [] l.fn.self

abbrev pub decreases-loop-names : goal.decreases-loop-names
decreases-loop-names l = length l.self
