use Rattle.std.proofs.Common.{◌+◌, drop, sym, ap, ◌∙◌}
use Rattle.hp_cause.specs.Describing.{points_seen}
use Rattle.hp_cause.specs.Naming.{picked}
use Rattle.hp_cause.specs.Told.{with_more}
use Rattle.hp_cause.proofs.TurnLaws.{next-picked}
use Rattle.hp_cause.proofs.cycle.add_points.Goals as goal

pub loop-i-preserved : goal.loop-i-preserved
loop-i-preserved c =
    let i = c.loop-i.i in
    let numbers = c.args.numbers.now in
    let points = points_seen c.args.points.now in
    ap (λ made. with_more made (picked points (drop (i + 1) numbers))) c.in_ok-add_point.ensures ∙ sym (next-picked c.loop-i.into.items points numbers i c.loop-i-test.true) ∙ c.loop-i.invariant
