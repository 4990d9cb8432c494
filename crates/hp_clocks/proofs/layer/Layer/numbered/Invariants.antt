use Rattle.std.proofs.Common.{◌≡◌, ◌+◌, ◌≤◌, length, drop}
use Rattle.hp_clocks.specs.Units.{number_in}
use Rattle.hp_clocks.specs.Layers.{says}
use Rattle.hp_clocks.proofs.layer.Layer.numbered.Given as goal

abbrev pub invariant-loop-i : goal.invariant-loop-i
invariant-loop-i l =
    record {
      within : l.i ≤ length l.decls;
      numbers : says l.layer ≡ number_in (l.first + l.i) (drop l.i l.decls);
    }

abbrev pub decreases-loop-i : goal.decreases-loop-i
decreases-loop-i l = l.i
