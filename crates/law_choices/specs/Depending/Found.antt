-- Of the comparisons and calls that a walk over a node finds: what stands for an early one in clocked equations depends on no controllable variable.
-- Source: own.
use Rattle.std.specs.Prelude.{ℕ, ◌≡◌, true, List, [], slice_get, Some}
use Rattle.hp_base.specs.declared.value.Value.{Value}
use Rattle.hp_tree.specs.declared.program.Item.{Item}
use Rattle.hp_tree.specs.Programs.{TypeDecl, Node}
use Rattle.hp_tree.specs.Instant.{Place}
use Rattle.hp_tree.specs.Meaning.{declares, controls_of}
use Rattle.hp_tree.specs.Reaction.{Each}
use Rattle.hp_meaning.specs.Causal.Causality.{Ranked}
use Rattle.hp_meaning.specs.Causal.Clocked.{ClocksRight}
use Rattle.hp_meaning.specs.Causal.Points.{NamesDeclared}
use Rattle.hp_meaning.specs.Contract.FreePlaces.{IsEarly, own_free}
use Rattle.hp_automata.specs.Lowering.{Enumerations, lowered_node}
use Rattle.law_automata.specs.Lowered.OldNames.{IsOld}
use Rattle.law_automata.specs.Lowered.Removable.{NodeOk}
use Rattle.law_automata.specs.Lowered.Standing.{Along}
use Rattle.hp_flat.specs.Equations.{FlatEqn}
use Rattle.hp_flat.specs.Nodes.{FlatNode}
use Rattle.law_equations.specs.Flattened.Flatten.{At, FlatName, Input}
use Rattle.law_equations.specs.Flattened.Lifted.{in_body}
use Rattle.law_equations.specs.Made.Labels.{AreMadeAt, block_labels}
use Rattle.law_equations.specs.Made.Labels as made
use Rattle.law_equations.specs.Made.Making.{Known}
use Rattle.law_equations.specs.Made.Laws.{Stands}
use Rattle.hp_watch.specs.Walk.{events_from, walk_block}
use Rattle.law_choices.specs.Independent.Laws.{IsApart}
use Rattle.law_choices.specs.Depending.Dependence.{DependsOn}
use Rattle.law_choices.specs.Depending.Places.{PlaceDependsOnGiven}
use Rattle.law_choices.specs.Places.Found.{found_in_node}
use Rattle.law_choices.specs.Places.Laws.{events, places_of}
use Rattle.law_choices.specs.Places.Spots.{Spot, spots_of_node}

-- Where a place on the base clock, outside of all blocks, does not depend on what is given under a name, no variable that stands for another place depends on the variable of that.
abbrev pub StaysFree : Node → List ℕ → FlatNode → (ℕ → FlatName) → ℕ → Place → Place → Type 0
StaysFree n x f means w p q = own_free n p ≡ Some [] → (PlaceDependsOnGiven n p x → ⊥) → (v : ℕ) → means v ≡ At q → DependsOn f.eqns v w → ⊥

-- So it is of the place of each comparison that a walk over a node finds, and of those of the outputs of each call, with the place that stands for it without automata.
abbrev pub FoundPlaceLaw : Type 0
FoundPlaceLaw =
    (names : List ℕ → List (List ℕ)) (types : List TypeDecl) (outputs : List ℕ → List (List ℕ)) (k : Known) (fill : Place → Value) (enums : Enumerations) (n : Node) (f : FlatNode) (s : Stands types outputs k fill (lowered_node enums n) f) (x : List ℕ)
    → NodeOk n → NamesDeclared n → ClocksRight n → Ranked n → IsOld x → IsApart n x → (w : ℕ) → s.means w ≡ Input x
    → Each (λ (c : Spot × Spot). Along (StaysFree n x f s.means w) (places_of c.0) (places_of c.1)) (found_in_node names n)

-- Where a place is early, no variable that stands for another place depends on the variable of a controllable variable.
abbrev pub WaitsNot : List Item → Node → FlatNode → (ℕ → FlatName) → ℕ → Place → Place → Type 0
WaitsNot program n f means w p q = IsEarly program n p → (v : ℕ) → means v ≡ At q → DependsOn f.eqns v w → ⊥

-- So it is of what a walk over a node finds, and of each controllable variable.
abbrev pub FoundEarlyLaw : Type 0
FoundEarlyLaw =
    (names : List ℕ → List (List ℕ)) (types : List TypeDecl) (outputs : List ℕ → List (List ℕ)) (k : Known) (fill : Place → Value) (enums : Enumerations) (program : List Item) (n : Node) (f : FlatNode)
    (s : Stands types outputs k fill (lowered_node enums n) f) (x : List ℕ)
    → NodeOk n → NamesDeclared n → ClocksRight n → Ranked n → IsOld x → IsApart n x → declares (controls_of n.contract) x ≡ true → (w : ℕ) → s.means w ≡ Input x
    → Each (λ (c : Spot × Spot). Along (WaitsNot program n f s.means w) (places_of c.0) (places_of c.1)) (found_in_node names n)

-- ---- the equations of comparisons and calls

-- The targets of an equation stand for places.
abbrev pub TargetsMean : (ℕ → FlatName) → FlatEqn → Spot → Type 0
TargetsMean means e s = Along (λ x p. means x ≡ At p) e.targets (places_of s)

-- So it is of the equations that compare or call, in the order of making, where they are made of the labels of a body.
abbrev pub LabelsMeanLaw : Type 0
LabelsMeanLaw =
    (outputs : List ℕ → List (List ℕ)) (n : Node) (es : List FlatEqn) (means : ℕ → FlatName) → AreMadeAt means (made.events es) (block_labels outputs n.body in_body [])
    → Along (TargetsMean means) (events es) (spots_of_node outputs n)

-- An equation of this number has targets that do not depend on the variable of what is given under a name where their places do not, on the base clock and outside of all blocks.
abbrev pub EventStaysFree : Node → List ℕ → FlatNode → ℕ → ℕ → Spot × Spot → Type 0
EventStaysFree n x f w i c = (e : FlatEqn) × (slice_get f.eqns i ≡ Some e) × Along (λ y p. own_free n p ≡ Some [] → (PlaceDependsOnGiven n p x → ⊥) → DependsOn f.eqns y w → ⊥) e.targets (places_of c.0)

-- Where the equations of comparisons and calls have targets that stand for their places, in turn, so it is of the numbers that a walk over a node finds, one by one.
abbrev pub EventPlacesLaw : Type 0
EventPlacesLaw =
    (names : List ℕ → List (List ℕ)) (types : List TypeDecl) (outputs : List ℕ → List (List ℕ)) (k : Known) (fill : Place → Value) (enums : Enumerations) (n : Node) (f : FlatNode) (s : Stands types outputs k fill (lowered_node enums n) f) (x : List ℕ)
    → NodeOk n → NamesDeclared n → ClocksRight n → Ranked n → IsOld x → IsApart n x → (w : ℕ) → s.means w ≡ Input x
    → Along (TargetsMean s.means) (events f.eqns) (spots_of_node names (lowered_node enums n)) → Along (EventStaysFree n x f w) (walk_block n.body (events_from 0 f.eqns)).0 (found_in_node names n)

-- An equation of this number has targets that depend on no such variable where their places are early.
abbrev pub EventWaitsNot : List Item → Node → FlatNode → ℕ → ℕ → Spot × Spot → Type 0
EventWaitsNot program n f w i c = (e : FlatEqn) × (slice_get f.eqns i ≡ Some e) × Along (λ x p. IsEarly program n p → DependsOn f.eqns x w → ⊥) e.targets (places_of c.0)

-- So it is of each controllable variable.
abbrev pub EarlyEventsLaw : Type 0
EarlyEventsLaw =
    (names : List ℕ → List (List ℕ)) (types : List TypeDecl) (outputs : List ℕ → List (List ℕ)) (k : Known) (fill : Place → Value) (enums : Enumerations) (program : List Item) (n : Node) (f : FlatNode)
    (s : Stands types outputs k fill (lowered_node enums n) f) (x : List ℕ)
    → NodeOk n → NamesDeclared n → ClocksRight n → Ranked n → IsOld x → IsApart n x → declares (controls_of n.contract) x ≡ true → (w : ℕ) → s.means w ≡ Input x
    → Along (TargetsMean s.means) (events f.eqns) (spots_of_node names (lowered_node enums n)) → Along (EventWaitsNot program n f w) (walk_block n.body (events_from 0 f.eqns)).0 (found_in_node names n)
