use Rattle.std.proofs.Common.{◌≡◌, drop}
use Rattle.hp_names.specs.Breaches.{found_after}
use Rattle.hp_names.specs.Claims.{in_left}
use Rattle.hp_names.proofs.blocks.check_left.Given as goal

abbrev pub invariant-loop-name : goal.invariant-loop-name
invariant-loop-name l = found_after l.found (in_left l.scope (drop l.name-index l.names)) ≡ found_after l.initial.found (in_left l.scope l.names)
