-- The comparisons that a walk over a contract finds, and the free places of the contract.
-- Source: own; the order is that of slots (`hp_meaning/specs/Contract/Slots`).
use Rattle.std.specs.Prelude.{◌≡◌, ◌⊎◌, ℕ, List, [], ◌∷◌, filter, Some}
use Rattle.hp_base.specs.declared.ty.Ty.TheVariants as ty
use Rattle.hp_tree.specs.Blocks.{Decl}
use Rattle.hp_tree.specs.ExpressionTypes.{Scope}
use Rattle.hp_tree.specs.Instant.{Place, Instant}
use Rattle.hp_tree.specs.Programs.{Contract, Node, TypeDecl}
use Rattle.hp_meaning.specs.Causal.Points.{points_of_contract}
use Rattle.hp_meaning.specs.Contract.FreePlaces.{is_call}
use Rattle.hp_meaning.specs.Contract.Slots.{FreePlace, Slot, free_among, slots_of_contract}
use Rattle.law_automata.specs.Lowered.Standing.{Along}
use Rattle.law_equations.specs.Flattened.Flatten.{Prefix}
use Rattle.hp_watch.specs.Observing.{observer_of}
use Rattle.hp_watch.specs.Walk.{walk_block, walk_contract}
use Rattle.law_choices.specs.Embedded.Observed.{IsObserved}
use Rattle.law_choices.specs.Places.Found.{found_in_node}
use Rattle.law_choices.specs.Places.Groups.{groups_of_contract, in_a_row}
use Rattle.law_choices.specs.Places.Spots.{Spot, compared, called}

-- A contract holds no call.
abbrev pub HoldsNoCall : Contract → Type 0
HoldsNoCall c = filter (λ q. is_call q.point.kind) (points_of_contract (Some c) (λ p. p)) ≡ []

-- A comparison of the observer brings nothing, or the place in the contract, below a prefix, that holds what it holds.
abbrev pub IsSeenBeside : Prefix → Instant → Instant → Spot → List FreePlace → Type 0
IsSeenBeside w now observing (compared o p) g = (g ≡ []) ⊎ ((q : Place) × (g ≡ (w q, ty.Bool) ∷ []) × (now q ≡ observing p))
IsSeenBeside w now observing (called f ps) g = ⊥

-- What a walk over a contract finds are the comparisons of its observer's body, which bring the free places of the contract, in order.
abbrev pub ContractFoundLaw : Type 0
ContractFoundLaw =
    (outputs : List ℕ → List (List ℕ)) (types : List TypeDecl) (outs : List ℕ → List Decl) (callee : List ℕ → Prefix → List Slot) (n : Node) (c : Contract) (names : Scope) (w : Prefix) (now observing : Instant) → HoldsNoCall c → IsObserved c now observing
    → Along (λ (s : Spot × Spot) (g : List FreePlace). IsSeenBeside w now observing s.0 g) (found_in_node outputs (observer_of n c)) (groups_of_contract types outs callee c names w)
    × (in_a_row (groups_of_contract types outs callee c names w) ≡ free_among (slots_of_contract types outs callee (Some c) names w))

-- So a walk over the contract is one over the observer's body.
abbrev pub ContractWalkLaw : Type 0
ContractWalkLaw = (n : Node) (c : Contract) (es : List ℕ) → walk_contract c es ≡ walk_block (observer_of n c).body es
