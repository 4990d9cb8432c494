use Rattle.std.proofs.Common.{◌≡◌, ◌+◌, length}
use Rattle.std.specs.Prelude.{⊤}
use Rattle.hp_clocks.specs.Cells.{Tells}
use Rattle.hp_clocks.proofs.open.open_locals.Given as goal

abbrev pub invariant-loop-left : goal.invariant-loop-left
invariant-loop-left l =
    record {
      tells : Tells l.initial.cells.cells.items l.cells.cells.items (λ at. ⊤);
      many : length l.cells.cells.items + l.left ≡ length l.initial.cells.cells.items + length l.decls;
    }

abbrev pub decreases-loop-left : goal.decreases-loop-left
decreases-loop-left l = l.left
