use Rattle.std.proofs.Common.{◌≡◌, length, arith}
use Rattle.std.specs.Vec.Iter.{into_iter_items}
use Rattle.hp_controlled.proofs.JoiningLaws.{all_items, nothing_left}
use Rattle.hp_controlled.proofs.joining.put_items.Goals as goal

pub returns-in-None : goal.returns-in-None
returns-in-None c =
    let waiting = into_iter_items c.loop-item.waiting in
    let left = into_iter_items c.next.new.self in
    let none : length left ≡ 0 = omega (arith, c.in-None.ensures.cases.1, c.next.new.self.rest.ok.0) in
    all_items c.args.items.now c.args.own.items c.loop-item.item-index waiting c.loop-item.all.items c.loop-item.invariant c.loop-item-test.false (nothing_left waiting left c.in-None.ensures.items none)
