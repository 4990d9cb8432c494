use Rattle.std.proofs.Common.{◌≡◌, drop}
use Rattle.hp_typing.specs.Breaches.{found_after}
use Rattle.hp_typing.specs.Definedness.{in_transitions}
use Rattle.hp_typing.proofs.merges.check_transitions.Given as goal

abbrev pub invariant-loop-transition : goal.invariant-loop-transition
invariant-loop-transition l = found_after l.found (in_transitions l.scope (drop l.transition-index l.transitions)) ≡ found_after l.initial.found (in_transitions l.scope l.transitions)
