use Rattle.std.proofs.Common.{◌≡◌, ◌<◌, ◌+◌, ◌++◌, length, drop, ap, subst, ◌∙◌, rules}
use Rattle.std.specs.List.Sorted.{IsPermutation}
use Rattle.hp_circuit.specs.Levels.{numbered_from}
use Rattle.hp_circuit.proofs.LevelLaws.{numbered_more, numbered_all}
use Rattle.hp_circuit.proofs.OrderLaws.{some_more, by_rank}
use Rattle.hp_circuit.proofs.order.order_of.Goals as goal

pub loop-i-preserved : goal.loop-i-preserved
loop-i-preserved c =
    let ranks = c.args.ranks.now in
    let l : c.loop-i.i < length ranks = search rules in (
      some_more ranks c.loop-i.i c.loop-i.order.items c.push.new.self.items l c.loop-i.invariant.0 c.in_ok-push.ensures.items,
      ap (λ order. order ++ numbered_from (c.loop-i.i + 1) (drop (c.loop-i.i + 1) ranks)) c.in_ok-push.ensures.items ∙ numbered_more ranks c.loop-i.order.items c.loop-i.i l c.loop-i.invariant.1,
    )

pub returns-clause-by_rank : goal.returns-clause-by_rank
returns-clause-by_rank c =
    by_rank c.args.ranks.now c.loop-i.i c.loop-i.order.items c.sort_unstable.new.self.items (search rules) c.loop-i.invariant.0 c.sort_unstable.ensures.permutation c.sort_unstable.ensures.sorted

pub returns-clause-sorted : goal.returns-clause-sorted
returns-clause-sorted c =
    let all : c.loop-i.order.items ≡ numbered_from 0 c.args.ranks.now = numbered_all c.args.ranks.now c.loop-i.order.items c.loop-i.i (search rules) c.loop-i.invariant.1 in
    record { same = subst (λ order. IsPermutation order c.sort_unstable.new.self.items) all c.sort_unstable.ensures.permutation; rising = c.sort_unstable.ensures.sorted }
