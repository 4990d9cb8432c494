use Rattle.hp_clocks.proofs.Unifying.{tells_turned, ok_map}
use Rattle.hp_clocks.proofs.cell.Cells.unify_ends.Goals as goal

pub returns-in_default-Open-clause-tells : goal.returns-in_default-Open-clause-tells
returns-in_default-Open-clause-tells c =
    ok_map c.bind-in_default-Open.result
    (tells_turned c.args.self.now.cells.items c.bind-in_default-Open.new.self.cells.items c.args.right c.args.left)
    c.bind-in_default-Open.ensures.tells
