use Rattle.std.proofs.Common.{◌≡◌, take}
use Rattle.hp_expand.specs.Capped.{cap}
use Rattle.hp_expand.specs.Sizes.{in_transitions}
use Rattle.hp_expand.specs.Tables.{size_in}
use Rattle.hp_expand.proofs.sizes.size_of_transitions.Given as goal

abbrev pub invariant-loop-transition : goal.invariant-loop-transition
invariant-loop-transition l = l.all ≡ cap (in_transitions (size_in l.known) (take l.transition-index l.transitions))
