-- Words for the contracts that name the points of a cycle.
use Rattle.std.specs.Prelude.{ℕ, ◌≡◌, ◌<◌, ⊤, List, [], ◌∷◌, length, get_or, map, Option, None, Some}
use Rattle.hp_meaning.specs.declared.causal.point.Point.{Point}
use Rattle.hp_cause.specs.declared.cycle.Described.{Described}
use Rattle.hp_cause.specs.Facts.{Fact, stands, reads, depends}
use Rattle.hp_cause.specs.Naming.{first_at}

abbrev pub first_or : ℕ → Option ℕ → ℕ
first_or many None = many
first_or many (Some i) = i

-- for each vertex the number of its first point; where it has none, that of points
abbrev pub AreFirsts : List ℕ → List ℕ → Type 0
AreFirsts vs firsts = (v : ℕ) → v < length firsts → get_or firsts v 0 ≡ first_or (length vs) (first_at 0 vs v)

abbrev pub AllBelow : ℕ → List ℕ → Type 0
AllBelow bound [] = ⊤
AllBelow bound (v ∷ vs) = (v < bound) × AllBelow bound vs

abbrev pub one_seen : Described → Point
one_seen d = record { kind = d.kind; name = d.name.now; span = d.span }

abbrev pub points_seen : List Described → List Point
points_seen ds = map one_seen ds

abbrev pub point_in : Fact → List Point
point_in (stands p v) = p ∷ []
point_in (reads v u) = []
point_in (depends v u) = []
