-- What the variables of clocked equations depend on at an instant.
-- Source: own. What an equation reads is that of the order of equations: its clock, its restart list and its arguments, but not the next value of a register.
use Rattle.std.specs.Prelude.{ℕ, List, [], ◌∷◌, Contains}
use Rattle.hp_flat.specs.Equations.{FlatEqn}
use Rattle.law_equations.specs.Meaning.Scheduling.{reads}

-- some equation that defines a variable reads another
abbrev pub IsReadFor : List FlatEqn → ℕ → ℕ → Type 0
IsReadFor es v w = (e : FlatEqn) × Contains es e × Contains e.targets v × Contains (reads e) w

-- a chain of such reads
abbrev pub EquationChain : List FlatEqn → ℕ → List ℕ → ℕ → Type 0
EquationChain es v [] end = IsReadFor es v end
EquationChain es v (w ∷ ws) end = IsReadFor es v w × EquationChain es w ws end

abbrev pub DependsOn : List FlatEqn → ℕ → ℕ → Type 0
DependsOn es v w = (between : List ℕ) × EquationChain es v between w
