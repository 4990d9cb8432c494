use Rattle.std.proofs.Common.{◌≡◌, [], replicate}
use Rattle.hp_init.specs.Spreading.{lists}
use Rattle.hp_init.proofs.least.no_followers.Given as goal

abbrev pub invariant-loop : goal.invariant-loop
invariant-loop l = lists l.followers.items ≡ replicate l.counter []
