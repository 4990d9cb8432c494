use Rattle.std.proofs.Common.{sym, subst}
use Rattle.hp_clocks.specs.Scopes.{AreThere}
use Rattle.hp_clocks.proofs.BoundLaws.{interface_there}
use Rattle.hp_clocks.proofs.solve.solve_body.Goals as goal

pub solve_block-requires-clause-ready : goal.solve_block-requires-clause-ready
solve_block-requires-clause-ready c =
    let n = c.args.solution.now.variables in
    record {
      cells = c.requires.cells;
      floor = c.requires.floor;
      some = c.requires.some;
      there = subst (λ z. AreThere n z) (sym c.in_ok-layers.ensures) (interface_there n c.requires.some c.args.node.now c.args.controls.now);
    }
