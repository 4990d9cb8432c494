use Rattle.std.proofs.Common.{Err, ap}
use Rattle.hp_clocks.specs.declared.cell.Failure.TheVariants as Failure
use Rattle.hp_clocks.specs.Layers.{sight}
use Rattle.hp_clocks.proofs.Seeing.{handed_on}
use Rattle.hp_clocks.proofs.UnitLaws.{left_next, left_never, left_end}
use Rattle.hp_clocks.proofs.solve.put_left.Goals as goal

pub loop-name-preserved : goal.loop-name-preserved
loop-name-preserved c =
    left_next (sight c.args.layers.now) c.args.cells.now.cells.items c.loop-name.cells.cells.items c.args.names.now c.loop-name.name-index c.args.clock c.requires.all_there c.requires.there c.loop-name.invariant
    c.put_own.new.cells.cells.items c.loop-name-item.result c.loop-name-test.true c.loop-name-item.is c.in_ok-put_own.ensures.grows

pub returns-in_err-put_own-clause-clash : goal.returns-in_err-put_own-clause-clash
returns-in_err-put_own-clause-clash c =
    λ q.
    left_never (sight c.args.layers.now) c.args.cells.now.cells.items c.loop-name.cells.cells.items c.args.names.now c.loop-name.name-index c.args.clock c.requires.all_there c.requires.there c.loop-name.invariant
    c.loop-name-item.result c.loop-name-test.true c.loop-name-item.is
    (c.in_err-put_own.ensures.clash (ap Err (handed_on c.from_residual.result c.in_err-put_own.field-0.0 Failure.Clash c.from_residual.ensures.1 q)))

pub returns-clause-grows : goal.returns-clause-grows
returns-clause-grows c =
    left_end (sight c.args.layers.now) c.args.cells.now.cells.items c.loop-name.cells.cells.items c.args.names.now c.loop-name.name-index c.args.clock c.requires.all_there c.requires.there c.loop-name.invariant c.loop-name-test.false
