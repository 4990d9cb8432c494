use Rattle.std.proofs.Common.{◌≡◌, ◌≤◌, length, drop}
use Rattle.hp_clocks.specs.Layers.{says, says_locals}
use Rattle.hp_clocks.proofs.layer.Layer.of_locals.Given as goal

abbrev pub invariant-loop-i : goal.invariant-loop-i
invariant-loop-i l =
    record {
      within : l.i ≤ length l.decls;
      named : says l.layer ≡ says_locals (says l.controls) (says l.numbers) (drop l.i l.decls);
    }

abbrev pub decreases-loop-i : goal.decreases-loop-i
decreases-loop-i l = l.i
