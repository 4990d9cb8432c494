use Rattle.hp_clocks.specs.Layers.{sight}
use Rattle.hp_clocks.proofs.Unifying.{ok_map}
use Rattle.hp_clocks.proofs.UnitLaws.{basic_grows, basic_never}
use Rattle.hp_clocks.proofs.solve.put_basic.Goals as goal

pub returns-clause-grows : goal.returns-clause-grows
returns-clause-grows c =
    ok_map c.put_expr.result
    (λ g.
    basic_grows (sight c.args.layers.now) c.args.cells.now.cells.items c.put_left.new.cells.cells.items c.put_expr.new.cells.cells.items c.args.names.now c.args.clock c.args.right.now c.requires.all_there c.requires.there
    c.in_ok-put_left.ensures.grows g)
    c.put_expr.ensures.grows

pub returns-clause-clash : goal.returns-clause-clash
returns-clause-clash c =
    λ q.
    basic_never (sight c.args.layers.now) c.args.cells.now.cells.items c.put_left.new.cells.cells.items c.args.names.now c.args.clock c.args.right.now c.requires.all_there c.requires.there c.in_ok-put_left.ensures.grows
    (c.put_expr.ensures.clash q)
