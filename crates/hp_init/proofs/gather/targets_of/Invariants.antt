use Rattle.std.proofs.Common.{◌≡◌, drop}
use Rattle.hp_tables.specs.Defining.Layers.{sight}
use Rattle.hp_init.specs.Asks.{targets_of}
use Rattle.hp_init.specs.Goals.{with_more}
use Rattle.hp_init.proofs.gather.targets_of.Given as goal

abbrev pub invariant-loop-name : goal.invariant-loop-name
invariant-loop-name l = with_more l.targets.items (targets_of (sight l.variables) (drop l.name-index l.names)) ≡ targets_of (sight l.variables) l.names
