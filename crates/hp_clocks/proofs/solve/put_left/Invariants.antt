use Rattle.std.proofs.Common.{drop}
use Rattle.hp_clocks.specs.Layers.{sight}
use Rattle.hp_clocks.specs.Units.{AllAre, left_cells}
use Rattle.hp_clocks.proofs.Leading.{Leads}
use Rattle.hp_clocks.proofs.solve.put_left.Given as goal

abbrev pub invariant-loop-name : goal.invariant-loop-name
invariant-loop-name l =
    Leads l.initial.cells.cells.items l.cells.cells.items (λ at. AllAre at (left_cells (sight l.layers) (drop l.name-index l.names)) (at l.clock)) (λ at. AllAre at (left_cells (sight l.layers) l.names) (at l.clock))
