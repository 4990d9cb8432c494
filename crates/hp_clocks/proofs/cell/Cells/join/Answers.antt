use Rattle.std.proofs.Common.{slice_set, sym}
use Rattle.hp_clocks.specs.declared.cell.Cell.TheVariants as cell
use Rattle.hp_clocks.proofs.Unifying.{tells_turned, join_tells}
use Rattle.hp_clocks.proofs.cell.Cells.join.Goals as goal

pub returns-then-a_count-b_count : goal.returns-then-a_count-b_count
returns-then-a_count-b_count c =
    join_tells c.args.self.now.cells.items c.requires.are_cells c.args.a c.args.b c.saturating_add-count.result
    c.requires.a_there c.requires.b_there c.requires.a_open c.requires.b_open c.requires.differ

pub returns-else-a_count-b_count : goal.returns-else-a_count-b_count
returns-else-a_count-b_count c =
    tells_turned c.args.self.now.cells.items
    (slice_set (slice_set c.args.self.now.cells.items c.args.a (cell.Open c.saturating_add-count.result)) c.args.b (cell.Same c.args.a)) c.args.b c.args.a
    (join_tells c.args.self.now.cells.items c.requires.are_cells c.args.b c.args.a c.saturating_add-count.result
    c.requires.b_there c.requires.a_there c.requires.b_open c.requires.a_open (λ q. c.requires.differ (sym q)))
