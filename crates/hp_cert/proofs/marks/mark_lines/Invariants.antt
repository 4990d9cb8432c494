use Rattle.std.proofs.Common.{◌≡◌, ◌≤◌, ℕ, List, length}
use Rattle.hp_cert.specs.Marks.{AreSound, AreClosed}
use Rattle.hp_cert.proofs.marks.mark_lines.Given as goal

abbrev pub invariant-loop-i : goal.invariant-loop-i
invariant-loop-i l = record {
  len : length l.marks ≡ length l.lines;
  within : l.i ≤ length l.lines;
  sound : (roots : List ℕ) → AreSound l.lines roots l.initial.marks → AreSound l.lines roots l.marks;
  closed : AreClosed l.lines l.marks l.i;
}

abbrev pub decreases-loop-i : goal.decreases-loop-i
decreases-loop-i l = l.i
