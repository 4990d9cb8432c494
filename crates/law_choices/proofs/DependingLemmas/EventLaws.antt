-- The targets of the equations that a walk over a node finds depend on what is given no more than their places do, and on no controllable variable where these are early.
use Rattle.std.proofs.Common.{◌≡◌, ℕ, List, [], ◌∷◌, map, ap, subst}
use Rattle.std.specs.Prelude.{slice_get, Some}
use Rattle.hp_tree.specs.Programs.{Node}
use Rattle.hp_tree.specs.Instant.{Place}
use Rattle.hp_meaning.specs.Contract.FreePlaces.{IsEarly, own_free}
use Rattle.hp_automata.specs.Lowering.{Enumerations, lowered_node}
use Rattle.law_automata.specs.Lowered.Standing.{Along}
use Rattle.hp_flat.specs.Equations.{FlatEqn}
use Rattle.law_equations.specs.Flattened.Flatten.{At, FlatName}
use Rattle.hp_watch.specs.Walk.{events_from, walk_block}
use Rattle.law_choices.specs.Depending.Dependence.{DependsOn}
use Rattle.law_choices.specs.Depending.Found.{EarlyEventsLaw, EventPlacesLaw, FoundEarlyLaw, FoundPlaceLaw, StaysFree, TargetsMean, WaitsNot}
use Rattle.law_choices.specs.Depending.Places.{PlaceDependsOnGiven}
use Rattle.law_choices.specs.Places.Found.{Both, found_in_node}
use Rattle.law_choices.specs.Places.Laws.{events, places_of, WalkLaw}
use Rattle.law_choices.specs.Places.Spots.{Spot, spots_of_node}
use Rattle.law_choices.proofs.PlacesLemmas.Numbers.{AtNumber, numbered}
use Rattle.law_choices.proofs.PlacesLemmas.Related.{All}
use Rattle.law_choices.proofs.PlacesLemmas.Relating.{block-goes}

-- a relation between places, and what it says of a target that stands for the other place
module _ (names : List ℕ → List (List ℕ)) (es : List FlatEqn) (means : ℕ → FlatName) (W : Place → Place → Type 0) (S : ℕ → Place → Type 0) (told : (x : ℕ) (p q : Place) → means x ≡ At q → W p q → S x p) where
  abbrev Told : ℕ → Spot × Spot → Type 0
  Told i c = (e : FlatEqn) × (slice_get es i ≡ Some e) × Along S e.targets (places_of c.0)

  targets_told : (xs : List ℕ) (ps qs : List Place) → Along (λ x q. means x ≡ At q) xs qs → Along W ps qs → Along S xs ps
  targets_told [] [] [] h k = tt
  targets_told (x ∷ xs) (p ∷ ps) (q ∷ qs) h k = (told x p q h.0 k.0, targets_told xs ps qs h.1 k.1)
  targets_told [] (p ∷ ps) [] h k = absurd k
  targets_told (x ∷ xs) ps [] h k = absurd h
  targets_told [] ps (q ∷ qs) h k = absurd h
  targets_told (x ∷ xs) [] (q ∷ qs) h k = absurd k

  each_told : (is : List ℕ) (fs : Both) → Along (AtNumber (TargetsMean means) es) is (map (λ (s : Spot × Spot). s.1) fs) → All names W fs → Along Told is fs
  each_told [] [] h k = tt
  each_told [] (c ∷ fs) h k = absurd h
  each_told (i ∷ is) [] h k = absurd h
  each_told (i ∷ is) (c ∷ fs) h k =
      let here = h.0 in
      let e = here.0 in
      ((e, here.1, targets_told e.targets (places_of c.0) (places_of c.1) here.2 k.0), each_told is fs h.1 k.1)

  -- the equations of a node without automata, beside a walk over the node
  pub walk_told : WalkLaw → (enums : Enumerations) (n : Node) → Along (TargetsMean means) (events es) (spots_of_node names (lowered_node enums n)) → All names W (found_in_node names n) → Along Told (walk_block n.body (events_from 0 es)).0 (found_in_node names n)
  walk_told walk enums n mean all =
      let spots = spots_of_node names (lowered_node enums n) in
      let beside = block-goes (AtNumber (TargetsMean means) es) n.body (events_from 0 es) spots (numbered (TargetsMean means) [] es spots mean) in
      each_told (walk_block n.body (events_from 0 es)).0 (found_in_node names n)
      (subst (Along (AtNumber (TargetsMean means) es) (walk_block n.body (events_from 0 es)).0) (ap (λ (z : List Spot × List Spot). z.0) (walk names enums n)) beside.0) all

pub event_places_law : FoundPlaceLaw → WalkLaw → EventPlacesLaw
event_places_law law walk names types outputs k fill enums n f s x ok declared right r old apart w ew mean =
    walk_told names f.eqns s.means (StaysFree n x f s.means w) (λ y p. own_free n p ≡ Some [] → (PlaceDependsOnGiven n p x → ⊥) → DependsOn f.eqns y w → ⊥) (λ y p q e free base independent d. free base independent y e d) walk enums n mean
    (law names types outputs k fill enums n f s x ok declared right r old apart w ew)

pub early_events_law : FoundEarlyLaw → WalkLaw → EarlyEventsLaw
early_events_law law walk names types outputs k fill enums program n f s x ok declared right r old apart control w ew mean =
    walk_told names f.eqns s.means (WaitsNot program n f s.means w) (λ y p. IsEarly program n p → DependsOn f.eqns y w → ⊥) (λ y p q e free early d. free early y e d) walk enums n mean
    (law names types outputs k fill enums program n f s x ok declared right r old apart control w ew)
