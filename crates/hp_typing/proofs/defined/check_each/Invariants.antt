use Rattle.std.proofs.Common.{◌≡◌, drop, None}
use Rattle.hp_typing.specs.Breaches.{found_after}
use Rattle.hp_typing.specs.Definedness.{in_items}
use Rattle.hp_typing.proofs.defined.check_each.Given as goal

abbrev pub invariant-loop-item : goal.invariant-loop-item
invariant-loop-item l = found_after l.found (in_items l.scope (drop l.item-index l.items)) ≡ found_after None (in_items l.initial.scope l.items)
