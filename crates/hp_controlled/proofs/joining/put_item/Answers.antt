use Rattle.std.specs.Vec.Iter.{into_iter_items}
use Rattle.std.proofs.lemmas.Result.{on_ok_weaker}
use Rattle.hp_controlled.proofs.JoiningLaws.{put_one, put_type}
use Rattle.hp_controlled.proofs.joining.put_item.Goals as goal

pub returns-in-TypeItem : goal.returns-in-TypeItem
returns-in-TypeItem c = put_type c.args.item.now c.in-TypeItem.field-0 (into_iter_items c.args.own.now) c.args.all.now.items c.in-TypeItem.is

pub returns-in-NodeItem : goal.returns-in-NodeItem
returns-in-NodeItem c =
    on_ok_weaker c.put_next.result
    (λ put. put_one c.args.item.now c.in-NodeItem.node (into_iter_items c.args.own.now) (into_iter_items c.put_next.new.own) c.args.all.now.items c.put_next.new.all.items c.in-NodeItem.is put)
    c.put_next.ensures
