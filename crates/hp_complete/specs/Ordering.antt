-- Equations that read each other in a circle, and equations but for their places.
use Rattle.std.specs.Prelude.{ℕ, ⊤, List, [], ◌∷◌, All, Contains}
use Rattle.hp_complete.specs.declared.error.FlattenErr.{FlattenErr}
use Rattle.hp_complete.specs.declared.error.FlattenErr.TheVariants.{Cycle, OutOfMemory}
use Rattle.hp_flat.specs.Equations.{FlatEqn}
use Rattle.law_equations.specs.Meaning.Scheduling.{reads}
pub use Rattle.law_equations.specs.Made.Laws.{unplaced}

-- an equation reads, at its own instant, a variable that another one defines
abbrev pub ReadsOf : FlatEqn → FlatEqn → Type 0
ReadsOf e d = (x : ℕ) × Contains (reads e) x × Contains d.targets x

-- an equation and some others each read of the next one, and the last one of the end
abbrev pub ReadOn : FlatEqn → List FlatEqn → FlatEqn → Type 0
ReadOn e [] end = ReadsOf e end
ReadOn e (d ∷ others) end = ReadsOf e d × ReadOn d others end

-- Some of the equations read each other in a circle.
pub record IsCircular (es : List FlatEqn) : Type 0 where
  pub first : FlatEqn
  pub others : List FlatEqn
  pub there : All (Contains es) (first ∷ others)
  pub circle : ReadOn first others first

-- where an error says that there is a circle, there is one
abbrev pub SaysTrue : Type 0 → FlattenErr → Type 0
SaysTrue A Cycle = A
SaysTrue A OutOfMemory = ⊤
