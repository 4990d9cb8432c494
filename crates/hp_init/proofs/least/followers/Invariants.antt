use Rattle.std.proofs.Common.{◌≡◌, [], drop, replicate}
use Rattle.hp_init.specs.Spreading.{lists, all_noted}
use Rattle.hp_init.proofs.least.followers.Given as goal

abbrev pub invariant-loop-ask : goal.invariant-loop-ask
invariant-loop-ask l = all_noted (drop l.ask-index l.asks) (lists l.followers.items) ≡ all_noted l.asks (replicate l.count [])
