use Rattle.std.proofs.Common.{◌≡◌, []}
use Rattle.hp_obctext.specs.Reading.{args_behind}
use Rattle.hp_obctext.proofs.reader.Reader.args_for.Given as goal

abbrev pub invariant-loop-left : goal.invariant-loop-left
invariant-loop-left l = args_behind l.left l.args.items l.self ≡ args_behind l.fn.count [] l.fn.self

abbrev pub decreases-loop-left : goal.decreases-loop-left
decreases-loop-left l = l.left
