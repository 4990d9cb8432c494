use Rattle.std.proofs.Common.{◌≡◌, drop}
use Rattle.hp_init.specs.Asks.{unmet}
use Rattle.hp_init.specs.Spreading.{valued}
use Rattle.hp_init.proofs.first_unmet.Given as goal

abbrev pub invariant-loop-ask : goal.invariant-loop-ask
invariant-loop-ask l = unmet (valued l.second) (drop l.ask-index l.asks) ≡ unmet (valued l.second) l.asks
