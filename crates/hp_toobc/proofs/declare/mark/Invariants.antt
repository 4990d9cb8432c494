use Rattle.std.proofs.Common.{◌≡◌, drop}
use Rattle.hp_toobc.specs.Flags.{marked}
use Rattle.hp_toobc.proofs.declare.mark.Given as goal

abbrev pub invariant-loop-number : goal.invariant-loop-number
invariant-loop-number l = marked l.value (drop l.number-index l.numbers) l.flags ≡ marked l.value l.numbers l.initial.flags
