use Rattle.std.proofs.Common.{◌<◌, length, drop}
use Rattle.hp_clocks.specs.Layers.{sight}
use Rattle.hp_clocks.proofs.Leading.{Leads}
use Rattle.hp_clocks.proofs.PathLaws.{AboveCell, Whole, IsTold}
use Rattle.hp_clocks.proofs.solve.put_path.Given as goal

abbrev pub invariant-loop-cons : goal.invariant-loop-cons
invariant-loop-cons l =
    record {
      there : l.clock < length l.cells.cells.items;
      leads : Leads l.initial.cells.cells.items l.cells.cells.items (AboveCell (sight l.layers) l.clock (drop l.cons-index l.path)) (Whole (sight l.layers) l.path);
      told : IsTold (sight l.layers) l.cells.cells.items l.clock (drop l.cons-index l.path) l.path;
    }
