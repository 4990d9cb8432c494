use Rattle.std.proofs.Common.{◌≡◌, ◌≤◌, length, take}
use Rattle.hp_drawing.specs.Scopes.{found}
use Rattle.hp_abstract.specs.Seen.{inner_first}
use Rattle.hp_abstract.proofs.scope.found.Given as goal

abbrev pub invariant-loop-i : goal.invariant-loop-i
invariant-loop-i l =
    record {
      within : l.i ≤ length l.layers;
      found : found (inner_first l.layers) l.name ≡ found (inner_first (take l.i l.layers)) l.name;
    }

abbrev pub decreases-loop-i : goal.decreases-loop-i
decreases-loop-i l = l.i
