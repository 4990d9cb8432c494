-- The points that stand in some facts, and ranks that fall along edges.
use Rattle.std.specs.Prelude.{ℕ, ◌<◌, ⊤, List, [], ◌∷◌, Option, None, Some}
use Rattle.hp_meaning.specs.declared.causal.point.Point.{Point}
use Rattle.hp_meaning.specs.Causal.Sources.{Sources, none, only, both, also}
use Rattle.hp_tree.specs.Instant.{Place}
use Rattle.hp_cause.specs.Facts.{Fact, stands, reads, depends}

-- the points that stand in some facts, with their vertices
abbrev pub table_in : List Fact → List (Point × Option ℕ)
table_in [] = []
table_in (stands p v ∷ facts) = (p, Some v) ∷ table_in facts
table_in (reads v u ∷ facts) = table_in facts
table_in (depends v u ∷ facts) = table_in facts

-- Along each read a rank falls, and where `Deps` holds along each other dependence too.
abbrev pub Falls : Type 0 → (ℕ → ℕ) → List Fact → Type 0
Falls Deps r [] = ⊤
Falls Deps r (stands p v ∷ facts) = Falls Deps r facts
Falls Deps r (reads v u ∷ facts) = (r u < r v) × Falls Deps r facts
Falls Deps r (depends v u ∷ facts) = (Deps → r u < r v) × Falls Deps r facts

-- All that is read is in a set, and where `Deps` holds all else that is depended on.
abbrev pub WithinReads : Type 0 → (Place → Type 0) → Sources → Type 0
WithinReads Deps P none = ⊤
WithinReads Deps P (only p) = P p
WithinReads Deps P (both s t) = WithinReads Deps P s × WithinReads Deps P t
WithinReads Deps P (also s) = Deps → WithinReads Deps P s

abbrev pub rank_at : (ℕ → ℕ) → Option ℕ → ℕ
rank_at r None = 0
rank_at r (Some v) = r v
