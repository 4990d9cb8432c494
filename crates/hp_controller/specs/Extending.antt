-- A node whose last inputs are defined by equations that are added to it.
-- Source: own.
use Rattle.std.specs.Prelude.{◌≡◌, ◌⊎◌, ℕ, ◌+◌, ◌<◌, ◌≤◌, nat_lt, if◌then◌else◌, List, [], ◌∷◌, ◌++◌, length, map}
use Rattle.std.specs.List.{AllByRecursion, range_with_len}
use Rattle.hp_base.specs.declared.value.Value.{Value}
use Rattle.hp_base.specs.declared.value.Value.TheVariants.{Absent}
use Rattle.hp_flat.specs.Equations.{FlatEqn}
use Rattle.hp_flat.specs.Nodes.{FlatNode}
use Rattle.law_equations.specs.Meaning.Instants.{Instant}
use Rattle.law_equations.specs.Meaning.Reactions.{Answers, Reaction}
use Rattle.law_equations.specs.Meaning.Scheduling.{EqnWithin}

-- The other node takes so many inputs less, and has more equations, which define these, and variables that the node does not have.
pub record Extends (n other : FlatNode) (fewer : ℕ) (more : List FlatEqn) : Type 0 where
  pub inputs : n.inputs ≡ other.inputs + fewer
  pub variables : n.inputs ≤ length n.variables
  pub within : AllByRecursion (EqnWithin (length n.variables)) n.eqns
  pub eqns : other.eqns ≡ n.eqns ++ more
  pub targets : AllByRecursion (λ (e : FlatEqn). AllByRecursion (λ x. (x < n.inputs) ⊎ (length n.variables ≤ x)) e.targets) more

-- an instant of the first so many variables alone
abbrev pub cut : ℕ → Instant → Instant
cut count now x = if nat_lt x count then now x else Absent

-- what the node takes, where so many of its inputs stand behind the others
abbrev pub rows_with : ℕ → ℕ → List (List Value) → List Instant → List (List Value)
rows_with from fewer (row ∷ rows) (now ∷ past) = (row ++ map now (range_with_len from fewer)) ∷ rows_with from fewer rows past
rows_with from fewer rows instants = []

-- Each reaction of the other is one of the node, in its own variables, over its inputs and the values that the last ones have.
abbrev pub ExtendedLaw : Type 0
ExtendedLaw =
    (answers : Answers) (n other : FlatNode) (fewer : ℕ) (more : List FlatEqn) → Extends n other fewer more → (rows : List (List Value)) (instants : List Instant) → Reaction answers other rows instants
    → Reaction answers n (rows_with other.inputs fewer rows instants) (map (cut (length n.variables)) instants)
