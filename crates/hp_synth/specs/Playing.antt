-- Machines whose rounds are over.
-- Source: own.
use Rattle.std.specs.Prelude.{⊤, ◌++◌, ℕ, not}
use Rattle.hp_diagram.specs.Diagrams.{Diagrams, Means}
use Rattle.hp_boolx.specs.Game.{Game}
use Rattle.hp_boolx.specs.Search.{Set}
use Rattle.hp_boolx.specs.Solved.{IsWin, IsLose, ranks_of}
use Rattle.hp_synth.specs.Courses.{IsCourse}
use Rattle.hp_synth.specs.Kept.{AllMean}
use Rattle.hp_synth.specs.Layouts.{place, IsLayout}
use Rattle.hp_synth.specs.Rounds.{IsCounts}
use Rattle.hp_synth.specs.Sought.{base_at, rounds}
use Rattle.hp_synth.specs.Valued.{over, OfState}
use Rattle.hp_synth.specs.declared.played.End.{End}
use Rattle.hp_synth.specs.declared.played.End.TheVariants.{Won, Lost}
use Rattle.hp_synth.specs.declared.played.Played.{Played}

-- The end behind n rounds, in a table where variables stand at places: all others than the states that are lost are safe, or a violation is forced from the first state.
abbrev pub Ends : Game → (ℕ → ℕ) → Diagrams → ℕ → End → Type 0
Ends g place t n (Won lost) = (X : Set) × Means t (over place (OfState g X)) lost × IsWin g (λ r. not (X r))
Ends g place t n Lost = IsLose g (ranks_of g n)

-- The rounds of a game are over: the references are those of its gates and of the sets of the rounds, what was composed on the way is right, and the end is that of the game.
pub record IsPlayed (g : Game) (p : Played) : Type 0 where
  pub layout : IsLayout p.table.vars p.layout
  pub counts : IsCounts g p.layout.counts
  pub count : ℕ
  pub all_mean : AllMean p.table (base_at (place p.layout) g ++ rounds (place p.layout) g count) p.roots.items
  pub course : IsCourse p.table p.layout p.roots.items p.course
  pub ends : Ends g (place p.layout) p.table count p.end

-- the first state is not lost
abbrev pub Wins : End → Type 0
Wins (Won lost) = ⊤
Wins Lost = ⊥
