use Rattle.std.proofs.Common.{◌≡◌, map, drop}
use Rattle.hp_init.specs.declared.ask.Ask.TheVariants.{Follows}
use Rattle.hp_init.specs.Goals.{with_more}
use Rattle.hp_init.proofs.expression.tell_targets.Given as goal

abbrev pub invariant-loop-target : goal.invariant-loop-target
invariant-loop-target l = with_more l.asks.items (map (Follows l.source) (drop l.target-index l.targets)) ≡ with_more l.initial.asks.items (map (Follows l.source) l.targets)
