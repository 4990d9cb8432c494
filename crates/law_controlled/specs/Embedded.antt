-- What the variables of an observer depend on where it is put among the equations of a node.
-- Source: own.
use Rattle.std.specs.Prelude.{◌≡◌, ◌⊎◌, ◌+◌, ◌<◌, ◌≤◌, ℕ, true, List, [], length, slice_get, Some}
use Rattle.std.specs.List.{flat_map}
use Rattle.hp_base.specs.declared.value.Value.{Value}
use Rattle.hp_tree.specs.declared.program.Item.{Item}
use Rattle.hp_tree.specs.Programs.{TypeDecl, Contract, Node}
use Rattle.hp_tree.specs.Instant.{Place}
use Rattle.hp_tree.specs.Meaning.{declares, controls_of}
use Rattle.hp_meaning.specs.Causal.RanksOfPoints.{AllFall}
use Rattle.hp_meaning.specs.Contract.FreePlaces.{IsEarly}
use Rattle.law_judged.specs.Named.Scoped.{EachNode}
use Rattle.law_values.specs.Accepted.Laws.{IsReady}
use Rattle.hp_automata.specs.Lowering.{Enumerations, enumerations, lowered_node}
use Rattle.law_automata.specs.Lowered.Removable.{IsRemovable}
use Rattle.law_automata.specs.Lowered.Standing.{Along}
use Rattle.hp_flat.specs.Equations.{FlatEqn}
use Rattle.hp_flat.specs.declared.equation.Atom.TheVariants.{Variable as Read}
use Rattle.hp_flat.specs.Nodes.{FlatNode}
use Rattle.law_equations.specs.Meaning.Fitting.{atom_variables}
use Rattle.law_equations.specs.Meaning.Scheduling.{AreBelow, DefinesNoInput, IsWithin}
use Rattle.law_equations.specs.Flattened.Flatten.{FlatName, Input}
use Rattle.law_equations.specs.Made.Making.{Known}
use Rattle.law_equations.specs.Made.Laws.{Stands}
use Rattle.hp_watch.specs.Embedding.{embedded, Site}
use Rattle.hp_watch.specs.Observing.{observer_of}
use Rattle.hp_watch.specs.Walk.{events_from, walk_contract}
use Rattle.hp_watch.specs.Watching.{own_site}
use Rattle.law_choices.specs.Depending.Contracts.{found_in_contract}
use Rattle.law_choices.specs.Depending.Dependence.{DependsOn}
use Rattle.law_choices.specs.Depending.Found.{TargetsMean}
use Rattle.law_choices.specs.Observed.Contracts.{IsObservable}
use Rattle.law_choices.specs.Places.Laws.{events, places_of}
use Rattle.law_choices.specs.Places.Spots.{Spot, spots_of_node}

-- What is asked of a node and of an observer, which is put on the base clock, begins nothing anew and has an input for each atom that it is put over: numbers are those of variables, and no input of the observer is defined.
pub record CanStand (n o : FlatNode) (site : Site) : Type 0 where
  pub within : IsWithin n
  pub observer : IsWithin o
  pub no_inputs : DefinesNoInput o
  pub clock : site.clock ≡ []
  pub restart : site.restart ≡ []
  pub inputs : AreBelow (length n.variables) (flat_map atom_variables site.inputs)
  pub few : length site.inputs ≤ o.inputs

-- A variable of the node is another one, or depends on it there.
abbrev pub IsOrDependsOn : FlatNode → ℕ → ℕ → Type 0
IsOrDependsOn n v w = (v ≡ w) ⊎ DependsOn n.eqns v w

-- Where a variable of the observer that is no input depends on a variable of the node, it depends in the observer on an input that stands for this variable, or for one that depends on it.
abbrev pub EmbeddedLaw : Type 0
EmbeddedLaw =
    (n o : FlatNode) (site : Site) → CanStand n o site → (v w : ℕ) → o.inputs ≤ v → w < length n.variables → DependsOn (embedded o site n).eqns (v + length n.variables) w
    → (j a : ℕ) × (slice_get site.inputs j ≡ Some (Read a)) × DependsOn o.eqns v j × IsOrDependsOn n a w

-- The observer of the node's own contract: where this is no input of the node before the controllable variables, it is so by an output.
abbrev pub OwnEmbeddedLaw : Type 0
OwnEmbeddedLaw =
    (n o : FlatNode) (inputs : ℕ) → CanStand n o (own_site inputs n) → DefinesNoInput n → inputs ≤ n.inputs → (v w : ℕ) → o.inputs ≤ v → inputs ≤ w → w < length n.variables
    → DependsOn (embedded o (own_site inputs n) n).eqns (v + length n.variables) w
    → (i a : ℕ) × (slice_get n.outputs i ≡ Some a) × DependsOn o.eqns v (inputs + i) × IsOrDependsOn n a w

-- ---- the node's own contract

-- An early place of the contract of a node, and what stands for it in clocked equations of the observer: where these are put among those of the node, it depends on no controllable variable, which is an input behind those of the tree.
abbrev pub WaitsForNone : List Item → Node → FlatNode → FlatNode → (ℕ → FlatName) → ℕ → Place → Type 0
WaitsForNone program n f g means v p =
    IsEarly program n p → (x : List ℕ) (w : ℕ) → declares (controls_of n.contract) x ≡ true → means w ≡ Input x → length n.inputs ≤ w → w < length f.variables
    → DependsOn (embedded g (own_site (length n.inputs) f) f).eqns (v + length f.variables) w → ⊥

-- So it is of the targets of the equation with this number, and of the places of a comparison or call.
abbrev pub EventWaitsForNone : List Item → Node → FlatNode → FlatNode → (ℕ → FlatName) → ℕ → Spot × Spot → Type 0
EventWaitsForNone program n f g means i c = (e : FlatEqn) × (slice_get g.eqns i ≡ Some e) × Along (WaitsForNone program n f g means) e.targets (places_of c.0)

-- Let clocked equations stand for a node, and others for the observer of its contract, both without automata, and the equations of comparisons and calls of the observer have targets that stand for their places. So it is of the numbers that a walk over the contract finds, one by one.
abbrev pub KeepsOwnContract : Enumerations → Enumerations → Node → Type 0
KeepsOwnContract enums others n =
    (c : Contract) (outs : List ℕ → List (List ℕ)) (program : List Item) → n.contract ≡ Some c
    → (types : List TypeDecl) (outputs : List ℕ → List (List ℕ)) (k : Known) (fill : Place → Value) (f : FlatNode) (s : Stands types outputs k fill (lowered_node enums n) f)
    → (types : List TypeDecl) (outputs : List ℕ → List (List ℕ)) (k : Known) (fill : Place → Value) (g : FlatNode) (t : Stands types outputs k fill (lowered_node others (observer_of n c)) g)
    → CanStand f g (own_site (length n.inputs) f) → DefinesNoInput f → length n.inputs ≤ f.inputs
    → Along (TargetsMean t.means) (events g.eqns) (spots_of_node outs (lowered_node others (observer_of n c)))
    → Along (EventWaitsForNone program n f g s.means) (walk_contract c (events_from 0 g.eqns)).0 (found_in_contract outs c)

-- So it is of each node of a ready program whose contracts can be observed and whose points have ranks.
abbrev pub OwnContractLaw : Type 0
OwnContractLaw =
    (program after : List Item) (ranks : List (List ℕ)) (others : Enumerations) → IsReady program after → IsRemovable after → AllFall after ranks → EachNode IsObservable after
    → EachNode (KeepsOwnContract (enumerations [] after) others) after
