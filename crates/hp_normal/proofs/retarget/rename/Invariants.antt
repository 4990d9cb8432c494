use Rattle.std.proofs.Common.{◌≡◌, ◌++◌, take, drop, map}
use Rattle.hp_normal.specs.Tables.{ends_at}
use Rattle.hp_normal.proofs.retarget.rename.Given as goal

abbrev pub invariant-loop-number : goal.invariant-loop-number
invariant-loop-number l = l.numbers ≡ map (ends_at l.table) (take l.number-index l.initial.numbers) ++ drop l.number-index l.initial.numbers
