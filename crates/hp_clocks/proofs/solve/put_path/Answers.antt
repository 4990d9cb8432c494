use Rattle.std.proofs.Common.{Err, ap}
use Rattle.hp_clocks.specs.declared.cell.Failure.TheVariants as Failure
use Rattle.hp_clocks.specs.Layers.{sight}
use Rattle.hp_clocks.proofs.NameLaws.{base_there}
use Rattle.hp_clocks.proofs.Seeing.{handed_on}
use Rattle.hp_clocks.proofs.PathLaws.{path_start, told_start, path_next, told_next, path_never, path_end}
use Rattle.hp_clocks.proofs.solve.put_path.Goals as goal

pub loop-cons-init : goal.loop-cons-init
loop-cons-init c =
    let cs = c.args.cells.now.cells.items in
    record {
      there = base_there cs c.requires.are_cells;
      leads = path_start (sight c.args.layers.now) cs c.args.path.now c.requires.are_cells;
      told = told_start (sight c.args.layers.now) cs c.args.path.now c.requires.are_cells;
    }

pub loop-cons-preserved : goal.loop-cons-preserved
loop-cons-preserved c =
    let see = sight c.args.layers.now in
    let cs = c.args.cells.now.cells.items in
    let ds = c.loop-cons.cells.cells.items in
    let es = c.put_name.new.cells.cells.items in
    let fs = c.add_on.new.self.cells.items in
    record {
      there = c.in_ok-clock.ensures.there;
      leads = path_next see cs ds es fs c.args.path.now c.loop-cons.cons-index c.loop-cons.clock c.in_ok-clock.clock c.loop-cons-item.result c.loop-cons-test.true c.loop-cons-item.is c.loop-cons.invariant.leads c.requires.all_there c.loop-cons.invariant.there
          c.in_ok-put_name.ensures.tells c.in_ok-clock.ensures.number c.in_ok-clock.ensures.tells;
      told = told_next see cs ds es fs c.args.path.now c.loop-cons.cons-index c.loop-cons.clock c.in_ok-clock.clock c.loop-cons-item.result c.loop-cons-test.true c.loop-cons-item.is c.loop-cons.invariant.leads c.requires.all_there c.loop-cons.invariant.there
          c.in_ok-put_name.ensures.tells c.in_ok-clock.ensures.number c.in_ok-clock.ensures.tells c.loop-cons.invariant.told;
    }

pub returns-in_err-put_name-clause-clash : goal.returns-in_err-put_name-clause-clash
returns-in_err-put_name-clause-clash c =
    λ q.
    path_never (sight c.args.layers.now) c.args.cells.now.cells.items c.loop-cons.cells.cells.items c.args.path.now c.loop-cons.cons-index c.loop-cons.clock c.loop-cons-item.result c.loop-cons-test.true c.loop-cons-item.is c.loop-cons.invariant.leads
    (c.in_err-put_name.ensures.clash (ap Err (handed_on c.from_residual.result c.in_err-put_name.field-0.0 Failure.Clash c.from_residual.ensures.1 q)))

pub returns-clause-path : goal.returns-clause-path
returns-clause-path c =
    path_end (sight c.args.layers.now) c.args.cells.now.cells.items c.loop-cons.cells.cells.items c.args.path.now c.loop-cons.cons-index c.loop-cons.clock c.loop-cons-test.false c.loop-cons.invariant.there c.loop-cons.invariant.leads c.loop-cons.invariant.told
