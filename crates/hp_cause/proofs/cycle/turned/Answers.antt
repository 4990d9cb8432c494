use Rattle.std.proofs.Common.{◌+◌, ◌-◌, ◌++◌, length, drop, take, ap, ◌∙◌}
use Rattle.hp_cause.specs.Describing.{points_seen}
use Rattle.hp_cause.specs.Naming.{picked}
use Rattle.hp_cause.proofs.TurnLaws.{rest-whole, turned-named}
use Rattle.hp_cause.proofs.cycle.turned.Goals as goal

pub returns : goal.returns
returns c =
    let numbers = c.args.numbers.now in
    let first = c.args.first in
    let points = points_seen c.args.points.now in
    let rest = take (length numbers - first) (drop first numbers) in
    let front = take (first + 1) numbers in
    turned-named points rest front c.new-named.result.items c.add_points.new.into.items c.add_points-2.new.into.items c.new-named.ensures.items c.in_ok-add_points.ensures c.in_ok-add_points-2.ensures
    ∙ ap (λ xs. picked points (xs ++ front)) (rest-whole numbers first)
