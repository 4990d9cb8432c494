use Rattle.std.proofs.Common.{◌≡◌, [], length}
use Rattle.hp_obctext.specs.Reading.{many, is_open, one}
use Rattle.hp_obctext.specs.Spelling.{arg_of}
use Rattle.hp_obctext.proofs.reader.Reader.args.Given as goal

abbrev pub invariant-loop-args : goal.invariant-loop-args
invariant-loop-args l = many is_open (one arg_of) l.args.items l.self ≡ many is_open (one arg_of) [] l.fn.self

abbrev pub decreases-loop-args : goal.decreases-loop-args
decreases-loop-args l = length l.self
