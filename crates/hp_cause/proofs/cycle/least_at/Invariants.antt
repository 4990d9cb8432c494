use Rattle.std.proofs.Common.{ℕ, ◌<◌, ◌≤◌, get_or, length}
use Rattle.hp_cause.proofs.cycle.least_at.Given as goal

abbrev pub invariant-loop-i : goal.invariant-loop-i
invariant-loop-i l =
    record {
      within : l.at < length l.numbers;
      least : (j : ℕ) → j < l.i → get_or l.numbers l.at 0 ≤ get_or l.numbers j 0;
    }
