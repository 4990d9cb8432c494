use Rattle.std.proofs.Common.{◌≡◌, take}
use Rattle.hp_obctext.proofs.convert.arg_copies.Given as goal

abbrev pub invariant-loop-arg : goal.invariant-loop-arg
invariant-loop-arg l = l.copies.items ≡ take l.arg-index l.args
