use Rattle.std.proofs.Common.{◌≡◌, ℕ, ◌<◌, ◌≤◌, slice_index_or, None}
use Rattle.slab.specs.Slab.{get}
use Rattle.hp_quant.proofs.sweeping.write_roots.Given as goal

abbrev pub invariant-loop-key : goal.invariant-loop-key
invariant-loop-key l =
    ((key : ℕ) → key < l.key → get l.roots key ≡ slice_index_or l.moved key None)
    × ((key : ℕ) → l.key ≤ key → get l.roots key ≡ get l.initial.roots key)
