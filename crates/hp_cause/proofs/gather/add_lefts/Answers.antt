use Rattle.std.proofs.Common.{◌≡◌, ◌+◌, drop, sym, ap, ◌∙◌}
use Rattle.hp_cause.specs.Gathering.{of_left, of_lefts}
use Rattle.hp_tables.specs.Defining.Layers.{sight}
use Rattle.hp_cause.specs.Told.{facts_seen, names_seen, with_more}
use Rattle.hp_cause.proofs.GrowLaws.{next-left}
use Rattle.hp_cause.proofs.gather.add_lefts.Goals as goal

pub loop-name-preserved : goal.loop-name-preserved
loop-name-preserved c =
    let i = c.loop-name.name-index in
    let names = c.args.names.now in
    let item = c.loop-name-item.result in
    let see = sight c.args.layers.now in
    let clock = names_seen c.args.clock.now in
    let before = facts_seen c.loop-name.facts.items in
    let name_is : c.bytes.result.now ≡ item.0 = cc in
    ap (λ facts. with_more facts (of_lefts see c.args.control clock (drop (i + 1) names))) (c.in_ok-add_left.ensures ∙ ap (λ name. with_more before (of_left see c.args.control clock name item.1)) name_is)
    ∙ sym (next-left before see c.args.control clock names i item c.loop-name-test.true c.loop-name-item.is)
    ∙ c.loop-name.invariant
