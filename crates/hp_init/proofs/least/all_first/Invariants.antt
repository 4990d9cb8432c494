use Rattle.std.proofs.Common.{◌≡◌, false, replicate}
use Rattle.hp_init.proofs.least.all_first.Given as goal

abbrev pub invariant-loop : goal.invariant-loop
invariant-loop l = l.second.items ≡ replicate l.counter false
