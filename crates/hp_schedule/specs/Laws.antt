-- What the order by clock gives.
use Rattle.std.specs.Prelude.{◌≡◌, ℕ, List, map}
use Rattle.hp_flat.specs.Equations.{FlatEqn}
use Rattle.law_equations.specs.Meaning.Scheduling.{IsRanked}
use Rattle.law_equations.specs.Made.Laws.{unplaced}
use Rattle.hp_schedule.specs.ByClock.{IsByClock}

-- In the order by clock each equation stands behind those that it reads.
abbrev pub RankedLaw : Type 0
RankedLaw = (base : ℕ) (es scheduled : List FlatEqn) → IsByClock base es scheduled → IsRanked scheduled

-- Equations that are the same but for their places have one order by clock.
abbrev pub OneOrderLaw : Type 0
OneOrderLaw = (base : ℕ) (es fs scheduled others : List FlatEqn) → map unplaced es ≡ map unplaced fs → IsByClock base es scheduled → IsByClock base fs others → scheduled ≡ others
