use Rattle.std.proofs.Common.{◌≡◌, ◌<◌, ℕ, false, length, slice_index_or}
use Rattle.hp_boolx.specs.Machine.{variables}
use Rattle.hp_synth.specs.Layouts.{place}
use Rattle.hp_synth.proofs.solving.initial.Given as goal

abbrev pub invariant-loop-k : goal.invariant-loop-k
invariant-loop-k l =
    (length l.values.items ≡ variables l.m)
    × ((j : ℕ) → j < l.k → slice_index_or l.values.items (place l.layout j) false ≡ slice_index_or l.m.init j false)
