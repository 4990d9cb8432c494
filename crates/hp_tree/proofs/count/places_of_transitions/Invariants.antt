use Rattle.std.proofs.Common.{◌≡◌, take}
use Rattle.hp_tree.specs.Counting.{up_to_limit, places_of_transitions}
use Rattle.hp_tree.proofs.count.places_of_transitions.Given as goal

abbrev pub invariant-loop-transition : goal.invariant-loop-transition
invariant-loop-transition l = l.all ≡ up_to_limit (places_of_transitions (take l.transition-index l.transitions))
