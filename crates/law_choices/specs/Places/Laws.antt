-- The comparisons and calls that are made of a node are those of its places, in the order of making; and a walk over the tree finds each of them.
-- Source: own.
use Rattle.std.specs.Prelude.{ℕ, ◌≡◌, ◌⊎◌, ◌++◌, List, [], ◌∷◌, length, map, filter, slice_get, Some}
use Rattle.hp_tree.specs.Blocks.{Decl, Block}
use Rattle.hp_tree.specs.Programs.{TypeDecl, Node}
use Rattle.hp_tree.specs.ExpressionTypes.{Scope}
use Rattle.hp_tree.specs.Instant.{Place}
use Rattle.hp_flat.specs.declared.equation.Atom.{Atom}
use Rattle.hp_flat.specs.Equations.{operator, called as call_of, FlatEqn}
use Rattle.hp_meaning.specs.Contract.Slots.{Slot, FreePlace, free_among, slots_of_block}
use Rattle.hp_automata.specs.Lowering.{Enumerations, lowered_node}
use Rattle.law_automata.specs.Lowered.Standing.{Along}
use Rattle.law_equations.specs.Flattened.Flatten.{Prefix, obc_two}
use Rattle.law_equations.specs.Made.Making.{Known, outputs_of, sketch_node}
use Rattle.law_equations.specs.Made.Laws.{unplaced}
use Rattle.hp_watch.specs.Walk.{is_event, events_from, in_block, walk_block}
use Rattle.law_choices.specs.Places.Spots.{Spot, compared, called, spots_of_node}
use Rattle.law_choices.specs.Places.Found.{Both, found_in_block, found_in_node}

-- ---- events

-- the equations of comparisons and calls
abbrev pub events : List FlatEqn → List FlatEqn
events es = filter (λ e. is_event e.right) es

-- the equation of a comparison, with one target, or of a call, with a target for each output
abbrev pub IsEventOf : FlatEqn → Spot → Type 0
IsEventOf e (compared o p) = (a b : Atom) × (x : ℕ) × (e.right ≡ operator (obc_two o) (a ∷ b ∷ [])) × (e.targets ≡ x ∷ [])
IsEventOf e (called f ps) = (args : List Atom) × (e.right ≡ call_of f args) × (length e.targets ≡ length ps)

-- what is known of nodes are the names of their outputs
abbrev pub KnowsOutputs : (List ℕ → List (List ℕ)) → Known → Type 0
KnowsOutputs outputs k = (f : List ℕ) → outputs f ≡ map (λ (d : Decl). d.name) (outputs_of (k.nodes f))

-- equations that are made of a node, whatever their places are
abbrev pub AreMadeOf : Known → Node → List FlatEqn → Type 0
AreMadeOf k n es = map unplaced es ≡ map unplaced (sketch_node k n).eqns

-- The events that are made of a node without automata are those of its comparisons and calls, in turn.
abbrev pub EventsLaw : Type 0
EventsLaw = (outputs : List ℕ → List (List ℕ)) (k : Known) (n : Node) (es : List FlatEqn) → KnowsOutputs outputs k → AreMadeOf k n es → Along IsEventOf (events es) (spots_of_node outputs n)

-- ---- the walk

-- A walk over a node takes what is made of it without automata, leaves nothing, and finds the comparisons and calls of the node in the order of slots, each where it stands there.
abbrev pub WalkLaw : Type 0
WalkLaw = (outputs : List ℕ → List (List ℕ)) (enums : Enumerations) (n : Node) → walk_block n.body (spots_of_node outputs (lowered_node enums n)) ≡ (map (λ (s : Spot × Spot). s.1) (found_in_node outputs n), [])

-- the number of such an equation
abbrev pub IsNumberOf : List FlatEqn → ℕ → Spot → Type 0
IsNumberOf es i s = (e : FlatEqn) × (slice_get es i ≡ Some e) × IsEventOf e s

-- So a walk over a node, beside the numbers of the events that are made of it without automata, finds those of its comparisons and calls in the order of slots, and leaves none.
abbrev pub FoundLaw : Type 0
FoundLaw =
    (outputs : List ℕ → List (List ℕ)) (k : Known) (enums : Enumerations) (n : Node) (es : List FlatEqn) → KnowsOutputs outputs k → AreMadeOf k (lowered_node enums n) es
    → Along (IsNumberOf es) (walk_block n.body (events_from 0 es)).0 (map (λ (s : Spot × Spot). s.1) (found_in_node outputs n)) × ((walk_block n.body (events_from 0 es)).1 ≡ [])

-- There are as many events as the tree tells.
abbrev pub CountLaw : Type 0
CountLaw =
    (outputs : List ℕ → List (List ℕ)) (k : Known) (enums : Enumerations) (n : Node) (es : List FlatEqn) → KnowsOutputs outputs k → AreMadeOf k (lowered_node enums n) es → length (events_from 0 es) ≡ in_block n.body

-- ---- slots

-- the places of a comparison or call
abbrev pub places_of : Spot → List Place
places_of (compared o p) = p ∷ []
places_of (called f ps) = ps

abbrev pub own_places : Both → List Place
own_places [] = []
own_places (s ∷ ss) = places_of s.0 ++ own_places ss

-- some of a list, in its order
abbrev pub IsPartOf : List Place → List Place → Type 0
IsPartOf xs [] = xs ≡ []
IsPartOf xs (y ∷ ys) = IsPartOf xs ys ⊎ ((rest : List Place) × (xs ≡ y ∷ rest) × IsPartOf rest ys)

-- Where the contracts of callees compare no integers, the free places of a block are some of the places of its comparisons and calls, in the order in which a walk finds these.
abbrev pub SlotsLaw : Type 0
SlotsLaw =
    (types : List TypeDecl) (outs : List ℕ → List Decl) (callee : List ℕ → Prefix → List Slot) (b : Block) (names : Scope) (w here : Prefix)
    → ((f : List ℕ) (v : Prefix) → free_among (callee f v) ≡ [])
    → IsPartOf (map (λ (q : FreePlace). q.0) (free_among (slots_of_block types outs callee b names w))) (own_places (found_in_block (λ f. map (λ (d : Decl). d.name) (outs f)) b w here))
