use Rattle.std.proofs.Common.{◌≡◌, length}
use Rattle.hp_past.specs.Names.{free_within}
use Rattle.hp_past.proofs.additions.free.Given as goal

abbrev pub invariant-loop-left : goal.invariant-loop-left
invariant-loop-left l = free_within l.left l.names l.number ≡ free_within (length l.names) l.names l.first

abbrev pub decreases-loop-left : goal.decreases-loop-left
decreases-loop-left l = l.left
