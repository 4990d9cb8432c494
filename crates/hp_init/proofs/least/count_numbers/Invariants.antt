use Rattle.std.proofs.Common.{◌≡◌, drop}
use Rattle.hp_init.specs.Spreading.{greatest}
use Rattle.hp_init.proofs.least.count_numbers.Given as goal

abbrev pub invariant-loop-ask : goal.invariant-loop-ask
invariant-loop-ask l = greatest l.greatest (drop l.ask-index l.asks) ≡ greatest 0 l.asks
