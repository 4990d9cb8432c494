use Rattle.std.proofs.Common.{arith}
use Rattle.hp_clocks.proofs.Walks.{there_same, there_step}
use Rattle.hp_clocks.proofs.LengthRules.{count_same, count_step}
use Rattle.hp_clocks.proofs.length.length.Goals as goal

pub loop-count-preserved-in-Same : goal.loop-count-preserved-in-Same
loop-count-preserved-in-Same c = (
  there_same c.args.cells.now.cells.items c.requires.are_cells c.loop-count.at c.in-Same.next c.in-Same.ensures,
  c.loop-count.invariant.1,
  count_same c.args.cells.now.cells.items c.requires.are_cells c.args.clock c.loop-count.count c.loop-count.at c.in-Same.next c.in-Same.ensures c.loop-count.invariant.2,
)

pub loop-count-preserved : goal.loop-count-preserved
loop-count-preserved c =
    let below = c.loop-count-test.true in (
      there_step c.args.cells.now.cells.items c.requires.are_cells c.loop-count.at c.in-On.under (c.in-On.field-0.now, c.in-On.field-1.now) c.in-On.ensures,
      omega (arith, below),
      count_step c.args.cells.now.cells.items c.requires.are_cells c.args.clock c.loop-count.count c.loop-count.at c.in-On.under (c.in-On.field-0.now, c.in-On.field-1.now) c.in-On.ensures c.loop-count.invariant.2,
    )
