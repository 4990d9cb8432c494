use Rattle.std.proofs.Common.{◌≡◌, ◌≤◌, ℕ, List, Bor, length, map, drop}
use Rattle.hp_clocks.specs.Layers.{says, says_names}
use Rattle.hp_clocks.proofs.layer.Layer.named.Given as goal

abbrev pub invariant-loop-i : goal.invariant-loop-i
invariant-loop-i l =
    record {
      within : l.i ≤ length l.names;
      named : says l.layer ≡ says_names (map (λ (x : Bor (List ℕ)). x.now) (drop l.i l.names)) (says l.cells);
    }

abbrev pub decreases-loop-i : goal.decreases-loop-i
decreases-loop-i l = l.i
