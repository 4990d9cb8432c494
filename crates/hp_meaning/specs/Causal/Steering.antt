-- What the controllable variables of a node cannot change.
use Rattle.std.specs.Prelude.{ℕ, ◌≡◌, List, ◌∷◌, reverse, Some}
use Rattle.hp_base.specs.declared.value.Value.{Value}
use Rattle.hp_tree.specs.declared.program.Item.{Item}
use Rattle.hp_tree.specs.Programs.{Node}
use Rattle.hp_tree.specs.Operators.{Reading}
use Rattle.hp_tree.specs.Instant.{Controls, Place, Instant, Past}
use Rattle.hp_tree.specs.Meaning.{meaning, node_among}
use Rattle.hp_meaning.specs.Causal.Causality.{Chain, DependsBy, IsRanked, sources}
use Rattle.hp_meaning.specs.Causal.Clocked.{ClocksRight}
use Rattle.hp_meaning.specs.Causal.Sources.{IsBeside}
use Rattle.hp_meaning.specs.Causal.Abstract.{abstract_meaning}

-- a place that is no controllable variable, and depends on none
pub record Unsteered (n : Node) (p : Place) : Type 0 where
  pub no_control : (q : Place) → p ≡ Controls ∷ q → ⊥
  pub by_none : (between : List Place) (q : Place) → DependsBy n p between (Controls ∷ q) → ⊥

-- what is given, with these values for the controllable variables
abbrev pub steered_by : Instant → Instant → Instant
steered_by free controls (Controls ∷ p) = controls p
steered_by free controls p = free p

-- Whatever the values of its controllable variables are, an instant of a node has the same value at a place that does not depend on them.
abbrev pub SteeringLaw : Type 0
SteeringLaw = (reading : Reading) (program : List Item) (f : List ℕ) (n : Node) (inputs : List Value) (past : Past) (free controls others : Instant) (now other : Instant) → IsRanked program → node_among (reverse program) f ≡ Some n → ((p : Place) → now p ≡ meaning reading program f inputs (record { past = past; free = steered_by free controls }) now p) → ((p : Place) → other p ≡ meaning reading program f inputs (record { past = past; free = steered_by free others }) other p) → (p : Place) → Unsteered n p → now p ≡ other p

-- the same in the Boolean abstraction
abbrev pub AbstractSteeringLaw : Type 0
AbstractSteeringLaw = (program : List Item) (f : List ℕ) (n : Node) (inputs : List Value) (past : Past) (free controls others : Instant) (now other : Instant) → IsRanked program → node_among (reverse program) f ≡ Some n → ((p : Place) → now p ≡ abstract_meaning program f inputs (record { past = past; free = steered_by free controls }) now p) → ((p : Place) → other p ≡ abstract_meaning program f inputs (record { past = past; free = steered_by free others }) other p) → (p : Place) → Unsteered n p → now p ≡ other p

-- Where clocks are right, a place on the base clock that reads no controllable variable by any chain does not depend on one.
abbrev pub UnsteeredLaw : Type 0
UnsteeredLaw = (n : Node) (p : Place) → ClocksRight n → ((q : Place) → p ≡ Controls ∷ q → ⊥) → ((r : Place) → IsBeside r (sources n p) → ⊥) → ((between : List Place) (q : Place) → Chain n p between (Controls ∷ q) → ⊥) → Unsteered n p
