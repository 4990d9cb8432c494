use Rattle.std.proofs.Common.{◌≡◌, drop}
use Rattle.hp_tables.specs.Defining.Layers.{sight}
use Rattle.hp_init.specs.Asks.{of_tests}
use Rattle.hp_init.specs.Goals.{with_more}
use Rattle.hp_init.proofs.expression.gather_tests.Given as goal

abbrev pub invariant-loop-transition : goal.invariant-loop-transition
invariant-loop-transition l = with_more l.asks.items (of_tests (sight l.layers) (drop l.transition-index l.transitions)) ≡ with_more l.initial.asks.items (of_tests (sight l.layers) l.transitions)
