use Rattle.std.specs.Vec.Iter.{into_iter_items}
use Rattle.std.proofs.lemmas.Result.{on_ok_weaker}
use Rattle.hp_watch.specs.Watching.{observers_seen}
use Rattle.hp_controlled.proofs.CompiledLaws.{put_type, put_node, lacks_type, lacks_node}
use Rattle.hp_controlled.proofs.machines.add_item.Goals as goal

pub returns-in-TypeItem-clause-added : goal.returns-in-TypeItem-clause-added
returns-in-TypeItem-clause-added c =
    put_type c.args.context.program.now c.args.context.types.now (observers_seen c.args.context.observers.now) c.args.item.now c.in-TypeItem.field-0 (into_iter_items c.args.flats.now) c.args.machines.now.items c.in-TypeItem.is

pub returns-in-TypeItem-clause-behind : goal.returns-in-TypeItem-clause-behind
returns-in-TypeItem-clause-behind c =
    lacks_type c.args.context.program.now c.args.context.types.now (observers_seen c.args.context.observers.now) c.args.item.now c.in-TypeItem.field-0 (into_iter_items c.args.flats.now) c.in-TypeItem.is

pub returns-in-NodeItem-clause-added : goal.returns-in-NodeItem-clause-added
returns-in-NodeItem-clause-added c =
    on_ok_weaker c.add_next.result
    (λ put. put_node c.args.context.program.now c.args.context.types.now (observers_seen c.args.context.observers.now) c.args.item.now c.in-NodeItem.node (into_iter_items c.args.flats.now) (into_iter_items c.add_next.new.flats) c.args.machines.now.items c.add_next.new.machines.items
    c.in-NodeItem.is put) c.add_next.ensures.added

pub returns-in-NodeItem-clause-behind : goal.returns-in-NodeItem-clause-behind
returns-in-NodeItem-clause-behind c =
    on_ok_weaker c.add_next.result
    (λ put. lacks_node c.args.context.program.now c.args.context.types.now (observers_seen c.args.context.observers.now) c.args.item.now c.in-NodeItem.node (into_iter_items c.args.flats.now) (into_iter_items c.add_next.new.flats) c.args.machines.now.items c.add_next.new.machines.items
    c.in-NodeItem.is put) c.add_next.ensures.added
