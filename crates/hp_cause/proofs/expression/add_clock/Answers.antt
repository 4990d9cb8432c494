use Rattle.std.proofs.Common.{◌+◌, ℕ, List, [], Bor, get_or, drop, sym, ap, ◌∙◌}
use Rattle.std.proofs.lemmas.List.{get_or_default}
use Rattle.hp_cause.specs.Facts.{depend}
use Rattle.hp_cause.specs.Gathering.{on_clock}
use Rattle.hp_tables.specs.Defining.Layers.{sight}
use Rattle.hp_cause.specs.Told.{facts_seen, names_seen, with_more}
use Rattle.hp_cause.proofs.GrowLaws.{next-on_clock}
use Rattle.hp_cause.proofs.expression.add_clock.Goals as goal

pub loop-i-preserved : goal.loop-i-preserved
loop-i-preserved c =
    let i = c.loop-i.i in
    let clock = c.args.clock.now in
    let see = sight c.args.layers.now in
    let name : Bor (List ℕ) = get_or clock i (record { ref_ptr = (0, 0); now = [] }) in
    let before = facts_seen c.loop-i.facts.items in
    let rest = on_clock see (names_seen (drop (i + 1) clock)) c.args.vertex in
    ap (λ made. with_more made rest) (c.in_ok-depend.ensures ∙ ap (λ on. with_more before (depend c.args.vertex on)) c.sight.ensures)
    ∙ sym (next-on_clock before see clock i name c.args.vertex c.loop-i-test.true (get_or_default clock i (record { ref_ptr = (0, 0); now = [] }) name c.loop-i-test.true))
    ∙ c.loop-i.invariant
