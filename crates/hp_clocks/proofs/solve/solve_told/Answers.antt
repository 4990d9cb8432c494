use Rattle.std.proofs.Common.{[], Ok, sym, ap}
use Rattle.hp_clocks.specs.Layers.{sight}
use Rattle.hp_clocks.specs.Units.{told}
use Rattle.hp_clocks.proofs.SolvesLaws.{puts_none, solves_like}
use Rattle.hp_clocks.proofs.solve.solve_told.Goals as goal

pub returns-in-None-clause-solves : goal.returns-in-None-clause-solves
returns-in-None-clause-solves c =
    let old = c.args.solution.now in
    let cs = old.cells.cells.items in
    let see = sight c.args.layers.now in
    solves_like old.variables cs cs [] (told see c.args.expr.now) (Ok tt) (ap (told see) (sym c.in-None.is)) (puts_none old.variables cs c.requires.ready.cells c.requires.ready.floor)
