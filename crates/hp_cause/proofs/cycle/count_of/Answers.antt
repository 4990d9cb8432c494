use Rattle.std.proofs.Common.{◌<◌, ◌≤◌, get_or, arith}
use Rattle.hp_cause.proofs.TurnLaws.{next-below, all-below}
use Rattle.hp_cause.proofs.cycle.count_of.Goals as goal

pub loop-i-preserved : goal.loop-i-preserved
loop-i-preserved c =
    λ bound h rest. let cycle = c.args.cycle.now in
    let i = c.loop-i.i in
    let more : c.loop-i.count ≤ c.in_ok-count.count = c.in_ok-count.ensures.more in
    let above : get_or cycle i 0 < c.in_ok-count.count = c.in_ok-count.ensures.above in
    let at_most : c.in_ok-count.count ≤ bound = h in
    c.loop-i.invariant bound (omega arith) (next-below bound cycle i c.loop-i-test.true (omega arith) rest)

pub returns : goal.returns
returns c = c.loop-i.invariant c.loop-i.count (omega arith) (all-below c.loop-i.count c.args.cycle.now c.loop-i.i (omega arith))
