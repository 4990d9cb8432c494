use Rattle.std.proofs.Common.{◌∙◌, length}
use Rattle.hp_clocks.specs.Writing.{ahead}
use Rattle.hp_clocks.proofs.Turned.{plain_ended, at_end}
use Rattle.hp_clocks.proofs.WriteLaws.{item_written, item_left, items_each}
use Rattle.hp_clocks.proofs.write.write_items.Goals as goal

pub returns : goal.returns
returns c =
    plain_ended item_written item_left c.args.items.now (ahead c.args.paths.now) c.loop-item.items c.loop-item.item-index (ahead c.loop-item.paths) c.loop-item.invariant
    (at_end c.loop-item.item-index (length c.loop-item.items) (length c.args.items.now) c.loop-item-test.false c.loop-item.auto.items)
    ∙ items_each c.args.items.now (ahead c.args.paths.now)
