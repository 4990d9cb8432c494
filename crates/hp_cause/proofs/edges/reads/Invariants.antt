use Rattle.std.proofs.Common.{◌≡◌, drop}
use Rattle.hp_cause.specs.Facts.{reads_in}
use Rattle.hp_cause.specs.Told.{facts_seen, with_more}
use Rattle.hp_cause.proofs.edges.reads.Given as goal

abbrev pub invariant-loop-i : goal.invariant-loop-i
invariant-loop-i l = with_more l.edges.items (reads_in (facts_seen (drop l.i l.facts))) ≡ reads_in (facts_seen l.facts)
