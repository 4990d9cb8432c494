-- In ready programs no pass adds a dependence on what a node is given.
use Rattle.std.specs.Prelude.{ℕ, ◌≡◌, true, List, [], ◌∷◌}
use Rattle.hp_base.specs.declared.value.Value.{Value}
use Rattle.hp_tree.specs.declared.program.Item.{Item}
use Rattle.hp_tree.specs.Programs.{TypeDecl, Node}
use Rattle.hp_tree.specs.Instant.{Controls, Body, Named, Place}
use Rattle.hp_tree.specs.Meaning.{declares, controls_of}
use Rattle.hp_meaning.specs.Causal.Causality.{Chain}
use Rattle.hp_meaning.specs.Causal.Clocked.{own_clock}
use Rattle.hp_meaning.specs.Causal.InputDependence.{DependsOnNone}
use Rattle.hp_meaning.specs.Causal.RanksOfPoints.{AllFall}
use Rattle.hp_meaning.specs.Contract.FreePlaces.{IsEarly}
use Rattle.law_judged.specs.Named.Scoped.{interface, AreFresh, EachNode}
use Rattle.law_values.specs.Accepted.Laws.{IsReady}
use Rattle.hp_automata.specs.Lowering.{Enumerations, enumerations, lowered_node}
use Rattle.law_automata.specs.Lowered.Removable.{IsRemovable}
use Rattle.law_automata.specs.Lowered.Standing.{Along}
use Rattle.hp_flat.specs.Nodes.{FlatNode}
use Rattle.law_equations.specs.Flattened.Flatten.{At, Input}
use Rattle.law_equations.specs.Made.Making.{Known}
use Rattle.law_equations.specs.Made.Laws.{Stands}
use Rattle.hp_watch.specs.Walk.{events_from, walk_block}
use Rattle.law_choices.specs.Independent.Dependence.{DependsOnGiven, IsOwn, IsGiven}
use Rattle.law_choices.specs.Depending.Dependence.{DependsOn}
use Rattle.law_choices.specs.Depending.Found.{EventWaitsNot, TargetsMean}
use Rattle.law_choices.specs.Depending.Places.{PlaceDependsOnGiven, is_outermost}
use Rattle.law_choices.specs.Places.Found.{found_in_node}
use Rattle.law_choices.specs.Places.Laws.{events as all_events}
use Rattle.law_choices.specs.Places.Spots.{spots_of_node}

-- Controllable variables are neither inputs nor outputs.
abbrev pub ControlsApart : Node → Type 0
ControlsApart n = AreFresh (interface n) (controls_of n.contract)

-- So it is in a ready program.
abbrev pub ApartLaw : Type 0
ApartLaw = (program after : List Item) → IsReady program after → EachNode ControlsApart after

-- What no pass disturbs in a node, of an output or a local `y` of its body that is on the base clock:
pub record IsUndisturbed (enums : Enumerations) (n : Node) : Type 0 where
  -- what it does not depend on, of inputs and controllable variables, it does not depend on without automata,
  pub given : (y x : List ℕ) → IsOwn n y → own_clock n.body y ≡ [] → IsGiven n x → (DependsOnGiven n y x → ⊥) → DependsOnGiven (lowered_node enums n) y x → ⊥
  -- and so it is of its variable in clocked equations that stand for the node then;
  pub flat : (y x : List ℕ) → IsOwn n y → own_clock n.body y ≡ [] → IsGiven n x → (DependsOnGiven n y x → ⊥)
      → (types : List TypeDecl) (outputs : List ℕ → List (List ℕ)) (k : Known) (fill : Place → Value) (f : FlatNode) (s : Stands types outputs k fill (lowered_node enums n) f)
      → (v w : ℕ) → s.means v ≡ At (Body ∷ Named y ∷ []) → s.means w ≡ Input x → DependsOn f.eqns v w → ⊥
  -- where it depends on no input at all, or reads no controllable variable by any chain, so it is without automata
  pub inputs : (y : List ℕ) → IsOwn n y → own_clock n.body y ≡ [] → DependsOnNone n y n.inputs → DependsOnNone (lowered_node enums n) y n.inputs
  pub controls : (y : List ℕ) → IsOwn n y → own_clock n.body y ≡ [] → ((between : List Place) (q : Place) → Chain n (Body ∷ Named y ∷ []) between (Controls ∷ q) → ⊥)
      → (between : List Place) (q : Place) → Chain (lowered_node enums n) (Body ∷ Named y ∷ []) between (Controls ∷ q) → ⊥

-- So it is of each node of a ready program whose points have ranks.
abbrev pub ReadyLaw : Type 0
ReadyLaw =
    (program after : List Item) (ranks : List (List ℕ)) → IsReady program after → IsRemovable after → AllFall after ranks
    → EachNode (IsUndisturbed (enumerations [] after)) after

-- Nor does a pass disturb places of a node:
pub record KeepsPlaces (enums : Enumerations) (n : Node) : Type 0 where
  -- what a place of the outermost block does not depend on, of inputs and controllable variables, its variables do not depend on, outside of all blocks and automata in it;
  pub given : (p : Place) (x : List ℕ) → is_outermost n.body p ≡ true → IsGiven n x → (PlaceDependsOnGiven n (Body ∷ p) x → ⊥)
      → (types : List TypeDecl) (outputs : List ℕ → List (List ℕ)) (k : Known) (fill : Place → Value) (f : FlatNode) (s : Stands types outputs k fill (lowered_node enums n) f)
      → (v w : ℕ) → s.means v ≡ At (Body ∷ p) → s.means w ≡ Input x → DependsOn f.eqns v w → ⊥
  -- those of an early place there depend on no controllable variable;
  pub early : (program : List Item) (p : Place) (x : List ℕ) → is_outermost n.body p ≡ true → IsEarly program n (Body ∷ p) → declares (controls_of n.contract) x ≡ true
      → (types : List TypeDecl) (outputs : List ℕ → List (List ℕ)) (k : Known) (fill : Place → Value) (f : FlatNode) (s : Stands types outputs k fill (lowered_node enums n) f)
      → (v w : ℕ) → s.means v ≡ At (Body ∷ p) → s.means w ≡ Input x → DependsOn f.eqns v w → ⊥
  -- and neither do the targets of the equations of comparisons and calls, as a walk over the node finds these, where they stand for early places
  pub events : (names : List ℕ → List (List ℕ)) (program : List Item) (x : List ℕ) → declares (controls_of n.contract) x ≡ true
      → (types : List TypeDecl) (outputs : List ℕ → List (List ℕ)) (k : Known) (fill : Place → Value) (f : FlatNode) (s : Stands types outputs k fill (lowered_node enums n) f)
      → (w : ℕ) → s.means w ≡ Input x → Along (TargetsMean s.means) (all_events f.eqns) (spots_of_node names (lowered_node enums n)) → Along (EventWaitsNot program n f w) (walk_block n.body (events_from 0 f.eqns)).0 (found_in_node names n)

-- So it is of each node of a ready program whose points have ranks.
abbrev pub PlacesLaw : Type 0
PlacesLaw =
    (program after : List Item) (ranks : List (List ℕ)) → IsReady program after → IsRemovable after → AllFall after ranks
    → EachNode (KeepsPlaces (enumerations [] after)) after
