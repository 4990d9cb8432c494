use Rattle.std.proofs.Common.{◌≡◌, ◌+◌, ◌<◌, ◌≤◌, ℕ, Some, None, length, slice_index_or}
use Rattle.hp_diagram.specs.Diagrams.{zero_ref}
use Rattle.hp_synth.specs.Layouts.{place}
use Rattle.hp_synth.proofs.course.next_values.Given as goal

abbrev pub invariant-loop-k : goal.invariant-loop-k
invariant-loop-k l =
    (length l.by.items ≡ l.fn.vars)
    × ((j : ℕ) → j < l.k → slice_index_or l.by.items (place l.layout j) None ≡ Some (slice_index_or l.roots (5 + j) zero_ref))
    × ((j : ℕ) → l.k ≤ j → slice_index_or l.by.items (place l.layout j) None ≡ None)
