use Rattle.std.proofs.Common.{◌≡◌, ◌≤◌, ◌<◌, ℕ, length, get_or, drop}
use Rattle.hp_cause.specs.Describing.{first_or}
use Rattle.hp_cause.specs.Naming.{first_at}
use Rattle.hp_cause.proofs.cycle.first_points.Given as goal

abbrev pub invariant-loop-k : goal.invariant-loop-k
invariant-loop-k l =
    record {
      many : length l.firsts.items ≡ l.k;
      each : (v : ℕ) → v < length l.firsts.items → get_or l.firsts.items v 0 ≡ length l.vertices;
    }

abbrev pub invariant-loop-i : goal.invariant-loop-i
invariant-loop-i l =
    record {
      within : l.i ≤ length l.vertices;
      many : length l.firsts.items ≡ l.count;
      firsts : (v : ℕ) → v < length l.firsts.items → get_or l.firsts.items v 0 ≡ first_or (length l.vertices) (first_at l.i (drop l.i l.vertices) v);
    }

abbrev pub decreases-loop-i : goal.decreases-loop-i
decreases-loop-i l = l.i
