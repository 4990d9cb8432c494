-- A node that passes a limit, or keeps them all.
use Rattle.std.specs.Prelude.{◌≡◌, ℕ, ◌+◌, ◌≤◌, List, None, Some}
use Rattle.hp_base.specs.declared.limit.Limit.{Limit}
use Rattle.hp_expand.specs.Counts.{passed_by}
use Rattle.hp_expand.specs.Sizes.{Size}
use Rattle.hp_expand.specs.declared.limits.Passing.{Passing}

-- what is said of a node that passes a limit
abbrev pub passing_seen : Passing → List ℕ × Limit
passing_seen p = (p.node.now, p.limit)

-- A node with this in it keeps the limits, and the code holds what is in it.
pub record Keeps (total : ℕ) (s held : Size) : Type 0 where
  pub same : held ≡ s
  pub none_passed : passed_by total s ≡ None
  pub within : total + s.places ≤ 1000000

-- It passes this limit first.
pub record Passes (total : ℕ) (s : Size) (limit : Limit) : Type 0 where
  pub is_first : passed_by total s ≡ Some limit
