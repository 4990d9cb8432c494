use Rattle.std.proofs.Common.{◌≡◌, drop}
use Rattle.hp_cause.specs.Facts.{read_by_all}
use Rattle.hp_cause.specs.Told.{facts_seen, with_more}
use Rattle.hp_cause.proofs.fact.read_by_all.Given as goal

abbrev pub invariant-loop-reader : goal.invariant-loop-reader
invariant-loop-reader l = with_more (facts_seen l.facts.items) (read_by_all (drop l.reader-index l.readers) l.vertex) ≡ with_more (facts_seen l.initial.facts.items) (read_by_all l.readers l.vertex)
