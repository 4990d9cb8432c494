use Rattle.std.proofs.Common.{sym, ◌∙◌}
use Rattle.hp_clocks.proofs.Arrays.{bind_tells}
use Rattle.hp_clocks.proofs.Unifying.{bound_never}
use Rattle.hp_clocks.proofs.cell.Cells.bind.Goals as goal

pub returns-then-end-bound-clause-clash : goal.returns-then-end-bound-clause-clash
returns-then-end-bound-clause-clash c =
    λ e. bound_never c.args.self.now.cells.items c.requires.are_cells c.args.bound c.args.clock c.requires.bound_open c.requires.apart (sym c.end.ensures.end ∙ c.if-end-bound.true)

pub returns-clause-tells : goal.returns-clause-tells
returns-clause-tells c =
    bind_tells c.args.self.now.cells.items c.requires.are_cells c.args.bound c.args.clock c.requires.bound_there c.requires.clock_there c.requires.bound_open
    (λ q. c.if-end-bound.false (c.end.ensures.end ∙ q))
