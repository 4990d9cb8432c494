use Rattle.std.proofs.Common.{ap, ◌∙◌}
use Rattle.hp_meaning.specs.Causal.Points.{span_of}
use Rattle.hp_clocks.specs.Layers.{sight}
use Rattle.hp_clocks.proofs.Seeing.{spanned}
use Rattle.hp_clocks.proofs.UnitLaws.{test_solves}
use Rattle.hp_clocks.proofs.solve.solve_test.Goals as goal

pub returns-clause-solves : goal.returns-clause-solves
returns-clause-solves c =
    let old = c.args.solution.now in
    let see = sight c.args.layers.now in
    test_solves old.variables see c.requires.ready.there old.cells.cells.items c.put_expr.new.cells.cells.items c.requires.ready.cells c.requires.ready.floor c.put_expr.result c.in_unit.result c.args.expr.now c.expr.inside.span
    (spanned c.expr.inside ∙ ap span_of c.expr.view_is) c.put_expr.ensures.grows c.put_expr.ensures.clash c.in_unit.ensures
