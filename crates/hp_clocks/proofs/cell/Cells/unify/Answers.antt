use Rattle.std.proofs.Common.{subst}
use Rattle.hp_clocks.specs.Cells.{Meets, Met}
use Rattle.hp_clocks.proofs.Unifying.{equal_tells, tells_alike, ok_map}
use Rattle.hp_clocks.proofs.cell.Cells.unify.Goals as goal

pub returns-in-Equal-clause-tells : goal.returns-in-Equal-clause-tells
returns-in-Equal-clause-tells c =
    equal_tells c.args.self.now.cells.items c.requires.are_cells c.args.a c.args.b
    (subst (Meets c.args.self.now.cells.items c.args.a c.args.b) c.in-Equal.is c.meet.ensures)

pub returns-in-Ends-clause-tells : goal.returns-in-Ends-clause-tells
returns-in-Ends-clause-tells c =
    let m : Met c.args.self.now.cells.items c.args.a c.args.b c.in-Ends.left c.in-Ends.right =
    subst (Meets c.args.self.now.cells.items c.args.a c.args.b) c.in-Ends.is c.meet.ensures in
    ok_map c.unify_ends.result
    (tells_alike c.args.self.now.cells.items c.unify_ends.new.self.cells.items c.args.a c.args.b c.in-Ends.left c.in-Ends.right m.alike)
    c.unify_ends.ensures.tells
