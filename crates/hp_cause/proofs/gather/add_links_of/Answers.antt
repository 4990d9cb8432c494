use Rattle.std.proofs.Common.{◌≡◌, ◌+◌, drop, sym, ap, ◌∙◌}
use Rattle.hp_cause.specs.Facts.{read}
use Rattle.hp_cause.specs.Gathering.{of_links}
use Rattle.hp_tables.specs.Defining.Layers.{own_of, sight}
use Rattle.hp_cause.specs.Told.{facts_seen, names_seen, with_more}
use Rattle.hp_cause.proofs.GrowLaws.{next-link}
use Rattle.hp_cause.proofs.gather.add_links_of.Goals as goal

pub loop-i-preserved : goal.loop-i-preserved
loop-i-preserved c =
    let i = c.loop-i.i in
    let names = c.args.names.now in
    let see = sight c.args.outer.now in
    let own = own_of c.args.own.now in
    let name = c.index-names-i.result in
    let before = facts_seen c.loop-i.facts.items in
    let name_is : c.bytes-name.result.now ≡ name.now = cc in
    ap (λ made. with_more made (of_links see own (names_seen (drop (i + 1) names))))
    (c.in_ok-read.ensures ∙ ap (λ out. with_more before (read out c.number_of.result)) c.sight.ensures ∙ ap (λ o. with_more before (read (see c.bytes-name.result.now) o)) c.number_of.ensures ∙ ap (λ x. with_more before (read (see x) (own x))) name_is)
    ∙ sym (next-link before see own names i name c.loop-i-test.true c.index-names-i.is)
    ∙ c.loop-i.invariant
