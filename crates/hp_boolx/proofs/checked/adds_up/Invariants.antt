use Rattle.std.proofs.Common.{◌≡◌, ◌+◌, take, sum}
use Rattle.hp_boolx.proofs.checked.adds_up.Given as goal

abbrev pub invariant-loop-i : goal.invariant-loop-i
invariant-loop-i l = sum (take l.i l.numbers) + l.left ≡ l.count
