use Rattle.std.proofs.Common.{◌≡◌, drop}
use Rattle.hp_typing.specs.Breaches.{found_after}
use Rattle.hp_typing.specs.Claims.{in_names}
use Rattle.hp_typing.proofs.blocks.check_names.Given as goal

abbrev pub invariant-loop-i : goal.invariant-loop-i
invariant-loop-i l = found_after l.found (in_names l.scope l.at (drop l.i l.names) (drop l.i l.outputs)) ≡ found_after l.initial.found (in_names l.scope l.at l.names l.outputs)
