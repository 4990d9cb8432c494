-- What the comparisons of a contract depend on in the clocked equations of its observer: on the input that stands for an output, only where the contract's place depends on that output.
-- Source: own. So an early one depends on no input that stands for an output which depends on a controllable variable.
use Rattle.std.specs.Prelude.{ℕ, ◌≡◌, true, List, [], ◌∷◌, ◌++◌, slice_get, Option, None, Some}
use Rattle.hp_base.specs.declared.value.Value.{Value}
use Rattle.hp_tree.specs.Expressions.{Expr}
use Rattle.hp_tree.specs.Blocks.{Block, Eqns, no_eqn, more_eqns}
use Rattle.hp_tree.specs.declared.program.Item.{Item}
use Rattle.hp_tree.specs.Programs.{TypeDecl, Contract, Node}
use Rattle.hp_tree.specs.Instant.{Body, Observer, Assume, Enforce, Named, Equations, Head, Tail, Right, Place}
use Rattle.hp_tree.specs.Meaning.{declares, controls_of}
use Rattle.hp_meaning.specs.Causal.Causality.{DependsBy}
use Rattle.hp_meaning.specs.Contract.FreePlaces.{IsEarly, own_free}
use Rattle.hp_meaning.specs.Causal.RanksOfPoints.{AllFall}
use Rattle.law_judged.specs.Named.Scoped.{EachNode, equations_of}
use Rattle.law_values.specs.Accepted.Laws.{IsReady}
use Rattle.hp_automata.specs.Lowering.{Enumerations, lowered_node}
use Rattle.law_automata.specs.Lowered.Removable.{IsRemovable}
use Rattle.law_automata.specs.Lowered.Standing.{Along}
use Rattle.hp_flat.specs.Equations.{FlatEqn}
use Rattle.hp_flat.specs.Nodes.{FlatNode}
use Rattle.law_equations.specs.Flattened.Flatten.{FlatName, Input, Prefix}
use Rattle.law_equations.specs.Made.Making.{Known}
use Rattle.law_equations.specs.Made.Laws.{names, Stands}
use Rattle.hp_watch.specs.Observing.{input_name, observer_of}
use Rattle.hp_watch.specs.Walk.{events_from, walk_contract}
use Rattle.law_choices.specs.Depending.Dependence.{DependsOn}
use Rattle.law_choices.specs.Depending.Found.{TargetsMean}
use Rattle.law_choices.specs.Depending.Places.{PlaceDependsOnGiven}
use Rattle.law_choices.specs.Independent.Dependence.{DependsOnGiven}
use Rattle.law_choices.specs.Observed.Contracts.{IsObservable}
use Rattle.law_choices.specs.Places.Found.{Both, found, found_in_block}
use Rattle.law_choices.specs.Places.Laws.{events, places_of}
use Rattle.law_choices.specs.Places.Spots.{Spot, spots_of_node}

-- ---- places of a contract, and of its observer

-- a place behind some equations
abbrev pub behind_all : Eqns → Place → Place
behind_all no_eqn p = p
behind_all (more_eqns e es) p = Tail ∷ behind_all es p

-- Where what is assumed and what is enforced stand in the observer of a contract with this block: in the first equations behind those of the block.
abbrev pub at_assumed : Block → Prefix
at_assumed b p = Body ∷ Equations ∷ behind_all (equations_of b) (Head ∷ Right ∷ p)

abbrev pub at_enforced : Block → Prefix
at_enforced b p = Body ∷ Equations ∷ behind_all (equations_of b) (Tail ∷ Head ∷ Right ∷ p)

-- where a place of the contract stands there
abbrev pub in_observer : Block → Place → Place
in_observer b (Observer ∷ p) = Body ∷ p
in_observer b (Assume ∷ p) = at_assumed b p
in_observer b (Enforce ∷ p) = at_enforced b p
in_observer b p = p

-- it is a place of the contract
abbrev pub IsInContract : Place → Type 0
IsInContract (Observer ∷ p) = Unit {0}
IsInContract (Assume ∷ p) = Unit {0}
IsInContract (Enforce ∷ p) = Unit {0}
IsInContract p = ⊥

-- The comparisons and calls of a contract in the order of slots, each with the place that stands for it in the observer without automata.
module _ (outputs : List ℕ → List (List ℕ)) where
  abbrev pub found_told : Option Expr → Prefix → Prefix → Both
  found_told None w here = []
  found_told (Some e) w here = found outputs e w here

  abbrev pub found_in_contract : Contract → Both
  found_in_contract c = found_in_block outputs c.body (λ p. Observer ∷ p) (λ p. Body ∷ p) ++ (found_told c.assume (λ p. Assume ∷ p) (at_assumed c.body) ++ found_told c.enforce (λ p. Enforce ∷ p) (at_enforced c.body))

-- ---- laws

-- Of a node with a contract: where a free place of that on the base clock, outside of all blocks, depends in the observer on the input that stands for an output of the node, the place depends on the output in the node.
abbrev pub ReadsOutputs : Node → Type 0
ReadsOutputs n =
    (c : Contract) (i : ℕ) (o : List ℕ) (p : Place) → n.contract ≡ Some c → slice_get (names n.outputs) i ≡ Some o → IsInContract p → own_free n p ≡ Some []
    → PlaceDependsOnGiven (observer_of n c) (in_observer c.body p) (input_name i) → (between : List Place) × DependsBy n p between (Body ∷ Named o ∷ [])

-- So it is of each node of a ready program whose contracts can be observed.
abbrev pub ReadsOutputsLaw : Type 0
ReadsOutputsLaw = (program after : List Item) → IsReady program after → EachNode IsObservable after → EachNode ReadsOutputs after

-- An early place of a contract, and what stands for it in clocked equations of the observer: where an output depends on a controllable variable, that depends on no variable of the input which stands for the output.
abbrev pub ReadsNoWaiting : List Item → Node → FlatNode → (ℕ → FlatName) → ℕ → Place → Type 0
ReadsNoWaiting program n f means v p =
    IsEarly program n p → (i : ℕ) (o x : List ℕ) (w : ℕ) → slice_get (names n.outputs) i ≡ Some o → means w ≡ Input (input_name i) → declares (controls_of n.contract) x ≡ true → DependsOnGiven n o x → DependsOn f.eqns v w → ⊥

-- So it is of the targets of the equation with this number, and of the places of a comparison or call.
abbrev pub EventReadsNoWaiting : List Item → Node → FlatNode → (ℕ → FlatName) → ℕ → Spot × Spot → Type 0
EventReadsNoWaiting program n f means i c = (e : FlatEqn) × (slice_get f.eqns i ≡ Some e) × Along (ReadsNoWaiting program n f means) e.targets (places_of c.0)

-- Let clocked equations stand for the observer of a node's contract without automata, and the equations of comparisons and calls have targets that stand for their places. So it is of the numbers that a walk over the contract finds, one by one.
abbrev pub KeepsContract : Enumerations → Node → Type 0
KeepsContract enums n =
    (c : Contract) (outs : List ℕ → List (List ℕ)) (program : List Item) → n.contract ≡ Some c
    → (types : List TypeDecl) (outputs : List ℕ → List (List ℕ)) (k : Known) (fill : Place → Value) (f : FlatNode) (s : Stands types outputs k fill (lowered_node enums (observer_of n c)) f)
    → Along (TargetsMean s.means) (events f.eqns) (spots_of_node outs (lowered_node enums (observer_of n c)))
    → Along (EventReadsNoWaiting program n f s.means) (walk_contract c (events_from 0 f.eqns)).0 (found_in_contract outs c)

-- So it is of each node of a ready program whose contracts can be observed and whose points have ranks.
abbrev pub ContractsLaw : Type 0
ContractsLaw =
    (program after : List Item) (ranks : List (List ℕ)) (enums : Enumerations) → IsReady program after → IsRemovable after → AllFall after ranks → EachNode IsObservable after → EachNode (KeepsContract enums) after
