use Rattle.std.proofs.Common.{◌≡◌, ◌<◌, ◌≤◌, length, [], ◌∷◌, sym, subst, arith}
use Rattle.hp_clocks.specs.Cells.{AreCells}
use Rattle.hp_clocks.specs.Layers.{sight}
use Rattle.hp_clocks.specs.Units.{equated, left_cells}
use Rattle.hp_clocks.specs.Putting.{Solves}
use Rattle.hp_clocks.proofs.UnitLaws.{basic_solves}
use Rattle.hp_clocks.proofs.solve.solve_basic.Goals as goal

pub returns-clause-solves : goal.returns-clause-solves
returns-clause-solves c =
    let old = c.args.solution.now in
    let see = sight c.args.layers.now in
    let taken = c.take_variables-clock in
    let cells : taken.new.solution.cells.cells.items ≡ old.cells.cells.items = taken.ensures.cells in
    let there : taken.result < old.variables = omega (arith, taken.ensures.first, c.requires.room) in
    subst (λ z. Solves old.variables z c.put_basic.new.cells.cells.items (equated c.args.unit see (left_cells see c.args.names.now) old.next c.args.right.now ∷ []) c.in_unit.result) cells
    (subst (λ i. Solves old.variables taken.new.solution.cells.cells.items c.put_basic.new.cells.cells.items (equated c.args.unit see (left_cells see c.args.names.now) i c.args.right.now ∷ []) c.in_unit.result) taken.ensures.first
    (basic_solves old.variables see c.requires.ready.there taken.new.solution.cells.cells.items c.put_basic.new.cells.cells.items (subst AreCells (sym cells) c.requires.ready.cells)
    (subst (λ z. old.variables ≤ length z) (sym cells) c.requires.ready.floor) c.put_basic.result c.in_unit.result c.args.unit c.args.names.now taken.result c.args.right.now there c.put_basic.ensures.grows c.put_basic.ensures.clash c.in_unit.ensures))
