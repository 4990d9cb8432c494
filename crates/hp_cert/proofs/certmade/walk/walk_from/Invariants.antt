use Rattle.std.proofs.Common.{ℕ, List, All}
use Rattle.hp_cert.specs.Certmade.Tasks.{DoesAll, IsTask, weights}
use Rattle.hp_cert.specs.Certmade.Walks.{Walks}
use Rattle.hp_cert.proofs.certmade.walk.walk_from.Given as goal

abbrev pub invariant-loop-task : goal.invariant-loop-task
invariant-loop-task l =
    All (IsTask l.t) l.stack.items
    × ((after : List ℕ) → DoesAll l.t l.stack.items l.nodes.keys after → Walks l.t l.initial.nodes.keys l.fn.root after)

abbrev pub decreases-loop-task : goal.decreases-loop-task
decreases-loop-task l = weights l.stack.items
