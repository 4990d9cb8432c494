use Rattle.hp_clocks.proofs.Walks.{there_step}
use Rattle.hp_clocks.proofs.ReadLaws.{walk_step, walk_ended}
use Rattle.hp_clocks.proofs.write.steps_of.Goals as goal

pub loop-next-preserved : goal.loop-next-preserved
loop-next-preserved c = (
  there_step c.args.cells.now.cells.items c.requires.are_cells c.loop-next.at c.in-On.under (c.in-On.cons.now, c.in-On.name.now) c.in-On.ensures,
  walk_step c.args.cells.now.cells.items c.args.clock c.requires.are_cells c.loop-next.path.items c.push.new.self.items c.loop-next.at c.in-On.under
      c.in-On.cons.now c.in_ok-copy-in-On.field-0 c.in-On.name.now c.in_ok-copy-in-On-2.field-0 c.in-On.ensures c.in_ok-copy-in-On.ensures c.in_ok-copy-in-On-2.ensures
      c.loop-next.invariant.1 c.in_ok-push-in-On.ensures.items,
)

pub returns-in-Open : goal.returns-in-Open
returns-in-Open c =
    walk_ended c.args.cells.now.cells.items c.args.clock c.loop-next.path.items c.loop-next.at c.cell.result c.cell.ensures c.in-Open.is c.loop-next.invariant.1
