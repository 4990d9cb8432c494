use Rattle.std.proofs.Common.{◌≡◌, get_or, map, drop}
use Rattle.hp_cause.specs.Told.{with_more}
use Rattle.hp_cause.proofs.edges.ranks_of.Given as goal

abbrev pub invariant-loop-i : goal.invariant-loop-i
invariant-loop-i l = with_more l.found.items (map (λ v. get_or l.ranks v 0) (drop l.i l.vertices)) ≡ map (λ v. get_or l.ranks v 0) l.vertices
