use Rattle.std.proofs.Common.{◌≡◌, drop}
use Rattle.hp_cause.specs.Facts.{vertices_in}
use Rattle.hp_cause.specs.Told.{facts_seen, with_more}
use Rattle.hp_cause.proofs.edges.vertices.Given as goal

abbrev pub invariant-loop-i : goal.invariant-loop-i
invariant-loop-i l = with_more l.vertices.items (vertices_in (facts_seen (drop l.i l.facts))) ≡ vertices_in (facts_seen l.facts)
