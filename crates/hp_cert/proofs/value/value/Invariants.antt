use Rattle.std.proofs.Common.{◌≡◌, ◌+◌, ◌<◌, length}
use Rattle.hp_cert.specs.Proving.{set_of}
use Rattle.hp_cert.proofs.value.value.Given as goal

abbrev pub invariant-loop-at : goal.invariant-loop-at
invariant-loop-at l = (l.at < length l.lines + 2) × (set_of l.lines l.at l.values ≡ set_of l.lines l.r l.values)

abbrev pub decreases-loop-at : goal.decreases-loop-at
decreases-loop-at l = l.at
