-- How names are seen in a block, by the cells of their clocks, and what is said of an expression there.
use Rattle.std.specs.Prelude.{ℕ, ◌<◌, ◌≤◌, ◌≡◌, ⊤, List, Option, None, Some, length}
use Rattle.hp_tree.specs.Instant.{Clock}
use Rattle.hp_meaning.specs.Causal.Clocked.{Standing, base_alone}
use Rattle.hp_clocks.specs.declared.cell.Cell.{Cell}
use Rattle.hp_clocks.specs.declared.layer.Seen.{Seen}
use Rattle.hp_clocks.specs.declared.layer.Seen.TheVariants as seen
use Rattle.hp_clocks.specs.Cells.{Clocks, told_at, Fits, AreCells}

abbrev pub Sight : Type 0
Sight = List ℕ → Seen

-- the clock on which a name is read
abbrev pub seen_clock : Clocks → Seen → Option Clock
seen_clock at seen.Nowhere = None
seen_clock at (seen.Own n) = Some (at n)
seen_clock at (seen.Further n) = base_alone (Some (at n))

abbrev pub standing : Clocks → Sight → Standing
standing at sight x = seen_clock at (sight x)

abbrev pub IsThere : ℕ → Seen → Type 0
IsThere n seen.Nowhere = ⊤
IsThere n (seen.Own i) = i < n
IsThere n (seen.Further i) = i < n

-- The cells of all names are there.
abbrev pub AreThere : ℕ → Sight → Type 0
AreThere n sight = (x : List ℕ) → IsThere n (sight x)

-- The same clocks, of the first cells.
abbrev pub Agree : ℕ → Clocks → Clocks → Type 0
Agree n at more = (i : ℕ) → i < n → more i ≡ at i

-- More is told, with cells of its own: the clocks of the cells before are those for which this holds too.
pub record Grows (before after : List Cell) (P : Clocks → Type 0) : Type 0 where
  pub cells : AreCells after
  pub longer : length before ≤ length after
  pub says : (at : Clocks) → Fits (told_at after) at → Fits (told_at before) at × P at
  pub fits : (at : Clocks) → Fits (told_at before) at → P at → (more : Clocks) × Fits (told_at after) more × Agree (length before) at more

-- Where the name is read, it is on the clock of this cell.
abbrev pub IsClockOf : List Cell → Sight → List ℕ → ℕ → Type 0
IsClockOf cells sight x n = (at : Clocks) → Fits (told_at cells) at → (d : Clock) → standing at sight x ≡ Some d → d ≡ at n

-- The name is not read.
abbrev pub NeverRead : List Cell → Sight → List ℕ → Type 0
NeverRead cells sight x = (at : Clocks) → Fits (told_at cells) at → (d : Clock) → standing at sight x ≡ Some d → ⊥
