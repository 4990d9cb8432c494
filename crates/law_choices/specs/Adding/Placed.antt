-- A node whose equations take other places: nothing else of it changes.
-- Source: own.
use Rattle.std.specs.Prelude.{◌≡◌, ℕ, List, map}
use Rattle.hp_base.specs.declared.value.Value.{Value}
use Rattle.hp_obc.specs.Machines.{ObcType}
use Rattle.hp_flat.specs.Equations.{Clock}
use Rattle.hp_flat.specs.Nodes.{FlatNode}
use Rattle.law_equations.specs.Meaning.Instants.{Instant}
use Rattle.law_equations.specs.Meaning.Kinding.{Callees}
use Rattle.law_equations.specs.Meaning.Reactions.{Answers, Reaction}
use Rattle.law_equations.specs.Made.Laws.{unplaced}
use Rattle.law_choices.specs.Adding.Keeping.{IsBased}
use Rattle.law_choices.specs.Answered.Loops.{IsClosed}

-- the other node has the same equations, in the same order, but for their places
pub record IsPlaced (n other : FlatNode) : Type 0 where
  pub name : other.name ≡ n.name
  pub variables : other.variables ≡ n.variables
  pub inputs : other.inputs ≡ n.inputs
  pub outputs : other.outputs ≡ n.outputs
  pub eqns : map unplaced other.eqns ≡ map unplaced n.eqns

-- It is well built as the node is,
abbrev pub PlacedLaw : Type 0
PlacedLaw = (types : List ObcType) (callees : Callees) (clock : ℕ → Clock) (n other : FlatNode) → IsPlaced n other → IsBased types callees clock n → IsBased types callees clock other

-- each of its reactions is one of the node,
abbrev pub PlacedReactionLaw : Type 0
PlacedReactionLaw = (n other : FlatNode) → IsPlaced n other → (answers : Answers) (rows : List (List Value)) (instants : List Instant) → Reaction answers other rows instants → Reaction answers n rows instants

-- and it closes each plant that the node closes.
abbrev pub PlacedLoopLaw : Type 0
PlacedLoopLaw =
    (plant n other : FlatNode) (controls : ℕ) (answers : Answers) → IsPlaced n other → IsClosed answers controls (record { plant = plant; closed = n }) → IsClosed answers controls (record { plant = plant; closed = other })
