-- The variables of the equations that a walk finds stand for the places of their comparisons and calls.
-- Source: own.
use Rattle.std.specs.Prelude.{ℕ, ◌≡◌, List, [], map, slice_get, Some}
use Rattle.hp_tree.specs.Programs.{Node}
use Rattle.hp_flat.specs.Equations.{FlatEqn}
use Rattle.hp_automata.specs.Lowering.{Enumerations, lowered_node}
use Rattle.law_automata.specs.Lowered.Standing.{Along}
use Rattle.law_equations.specs.Flattened.Flatten.{FlatName, ats}
use Rattle.law_equations.specs.Flattened.Lifted.{in_body}
use Rattle.law_equations.specs.Made.Labels.{AreMadeAt, block_labels}
use Rattle.law_equations.specs.Made.Labels as made
use Rattle.law_equations.specs.Made.Making.{Known}
use Rattle.hp_watch.specs.Walk.{events_from, walk_block}
use Rattle.law_choices.specs.Places.Found.{found_in_node}
use Rattle.law_choices.specs.Places.Laws.{AreMadeOf, IsEventOf, KnowsOutputs, places_of}
use Rattle.law_choices.specs.Places.Spots.{Spot}

-- the equation of a comparison or a call, whose variables stand for its places
abbrev pub StandsForSpot : (ℕ → FlatName) → FlatEqn → Spot → Type 0
StandsForSpot means e s = IsEventOf e s × (map means e.targets ≡ ats (places_of s))

-- the number of such an equation
abbrev pub StandsAtNumber : (ℕ → FlatName) → List FlatEqn → ℕ → Spot → Type 0
StandsAtNumber means es i s = (e : FlatEqn) × (slice_get es i ≡ Some e) × StandsForSpot means e s

-- Where the equations that compare or call are those of the labels of a body without automata, so are the numbers that a walk over the node with its automata finds, in the order of slots.
abbrev pub StandingLaw : Type 0
StandingLaw =
    (outputs : List ℕ → List (List ℕ)) (k : Known) (enums : Enumerations) (n : Node) (es : List FlatEqn) (means : ℕ → FlatName) → KnowsOutputs outputs k → AreMadeOf k (lowered_node enums n) es
    → AreMadeAt means (made.events es) (block_labels outputs (lowered_node enums n).body in_body [])
    → Along (StandsAtNumber means es) (walk_block n.body (events_from 0 es)).0 (map (λ (s : Spot × Spot). s.1) (found_in_node outputs n))
