-- The same is given at each place.
use Rattle.std.specs.Prelude.{◌≡◌}
use Rattle.hp_tree.specs.Instant.{Place, Instant}

abbrev pub SameGiven : Instant → Instant → Type 0
SameGiven free other = (p : Place) → other p ≡ free p
