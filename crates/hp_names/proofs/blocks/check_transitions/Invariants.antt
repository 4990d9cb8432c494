use Rattle.std.proofs.Common.{◌≡◌, drop}
use Rattle.hp_names.specs.Breaches.{found_after}
use Rattle.hp_names.specs.Claims.{in_transitions}
use Rattle.hp_names.proofs.blocks.check_transitions.Given as goal

abbrev pub invariant-loop-transition : goal.invariant-loop-transition
invariant-loop-transition l =
    found_after l.found (in_transitions l.scope l.states (drop l.transition-index l.transitions)) ≡ found_after l.initial.found (in_transitions l.scope l.states l.transitions)
