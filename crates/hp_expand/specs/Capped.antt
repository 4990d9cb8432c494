-- Sizes as the code holds them, in 64 bits.
use Rattle.std.specs.Prelude.{ℕ, min}
use Rattle.hp_expand.specs.Sizes.{Size}

-- the most that 64 bits can say
abbrev pub most_held : ℕ
most_held = 18446744073709551615

unfoldable pub cap : Size → Size
cap s = record {
  places = min most_held s.places;
  nest = min most_held s.nest;
  instances = min most_held s.instances;
  cells = min most_held s.cells;
  calls = min most_held s.calls;
}
