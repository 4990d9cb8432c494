-- What a checker works on, and the first rank that fails.
use Rattle.std.specs.Prelude.{◌≡◌, ℕ, ◌<◌, List, length, slice_index_or, Option, Some, None}
use Rattle.hp_boolx.specs.Machine.{Machine, game, variables}
use Rattle.hp_cert.specs.Proving.{ForcesNext}
use Rattle.hp_diagram.specs.declared.reference.Ref.{Ref}
use Rattle.hp_diagram.specs.Diagrams.{Diagrams, Means, IsReduced}
use Rattle.hp_quant.specs.declared.line.Line.{Line}
use Rattle.hp_quant.specs.Lines.{line_function, reference_at}
use Rattle.hp_synth.specs.Kept.{AllMean}
use Rattle.hp_synth.specs.declared.layout.Layout.{Layout}
use Rattle.hp_synth.specs.Layouts.{place, IsLayout}
use Rattle.hp_synth.specs.Rounds.{IsCounts}
use Rattle.hp_synth.specs.Sought.{base_at}
use Rattle.hp_synth.specs.Valued.{over}

-- the table, where variables stand at places, has the gates of the machine, and the functions of these references of the lines
pub record IsReady (m : Machine) (lines : List Line) (numbers : List ℕ) (layout : Layout) (t : Diagrams) (roots refs : List Ref) : Type 0 where
  pub placed : IsLayout t.vars layout
  pub counts : IsCounts (game m) layout.counts
  pub vars : t.vars ≡ variables m
  pub reduced : IsReduced t
  pub roots_mean : AllMean t (base_at (place layout) (game m)) roots
  pub len : length refs ≡ length lines
  pub functions : (k : ℕ) → k < length numbers → Means t (over (place layout) (line_function lines (slice_index_or numbers k 0))) (reference_at refs (slice_index_or numbers k 0))

-- the first rank that fails, counted from 0; or none does
abbrev pub FirstFailing : Machine → List Line → List ℕ → Option ℕ → Type 0
FirstFailing m lines ranks None = (k : ℕ) → k < length ranks → ForcesNext m lines ranks k
FirstFailing m lines ranks (Some k) = (k < length ranks) × ((j : ℕ) → j < k → ForcesNext m lines ranks j) × (ForcesNext m lines ranks k → ⊥)
