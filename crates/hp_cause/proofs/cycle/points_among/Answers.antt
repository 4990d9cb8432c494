use Rattle.std.proofs.Common.{◌+◌, drop, sym, ap, ◌∙◌}
use Rattle.hp_cause.specs.Gathering.{in_list}
use Rattle.hp_cause.specs.Naming.{numbers_of}
use Rattle.hp_cause.specs.Told.{with_more}
use Rattle.hp_cause.proofs.TurnLaws.{below-at, next-number}
use Rattle.hp_cause.proofs.cycle.points_among.Goals as goal

pub number_of-requires-clause-within : goal.number_of-requires-clause-within
number_of-requires-clause-within c = below-at _ c.args.cycle.now c.loop-i.i c.requires.within c.loop-i-test.true

pub loop-i-preserved : goal.loop-i-preserved
loop-i-preserved c =
    let i = c.loop-i.i in
    let cycle = c.args.cycle.now in
    let vertices = c.args.vertices.now in
    let before = c.loop-i.numbers.items in
    ap (λ made. with_more made (numbers_of vertices (drop (i + 1) cycle))) (c.in_ok-add_number.ensures ∙ ap (λ o. with_more before (in_list o)) c.number_of.ensures)
    ∙ sym (next-number before vertices cycle i c.loop-i-test.true)
    ∙ c.loop-i.invariant
