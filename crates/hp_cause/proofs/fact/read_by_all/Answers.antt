use Rattle.std.proofs.Common.{◌+◌, get_or, drop, sym, ap, ◌∙◌}
use Rattle.std.proofs.lemmas.List.{get_or_default}
use Rattle.hp_cause.specs.Facts.{read_by_all}
use Rattle.hp_cause.specs.Told.{facts_seen, with_more}
use Rattle.hp_cause.proofs.GrowLaws.{next-reader}
use Rattle.hp_cause.proofs.fact.read_by_all.Goals as goal

pub loop-reader-preserved : goal.loop-reader-preserved
loop-reader-preserved c =
    let i = c.loop-reader.reader-index in
    let readers = c.args.readers.now in
    let reader = get_or readers i 0 in
    ap (λ facts. with_more facts (read_by_all (drop (i + 1) readers) c.args.vertex)) c.in_ok-read.ensures
    ∙ sym (next-reader (facts_seen c.loop-reader.facts.items) readers i reader c.args.vertex c.loop-reader-test.true (get_or_default readers i 0 reader c.loop-reader-test.true))
    ∙ c.loop-reader.invariant
