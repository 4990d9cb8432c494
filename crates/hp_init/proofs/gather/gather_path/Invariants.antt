use Rattle.std.proofs.Common.{◌≡◌, drop}
use Rattle.hp_tables.specs.Defining.Layers.{sight}
use Rattle.hp_init.specs.Asks.{of_path}
use Rattle.hp_init.specs.Goals.{with_more}
use Rattle.hp_init.proofs.gather.gather_path.Given as goal

abbrev pub invariant-loop-name : goal.invariant-loop-name
invariant-loop-name l = with_more l.asks.items (of_path (sight l.values) l.unit (drop l.name-index l.path)) ≡ with_more l.initial.asks.items (of_path (sight l.values) l.unit l.path)
