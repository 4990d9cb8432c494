-- What passes over clocked equations keep.
use Rattle.std.specs.Prelude.{◌≡◌, List, map}
use Rattle.std.specs.List.{AllByRecursion}
use Rattle.std.specs.List.Sorted.{IsPermutation}
use Rattle.hp_base.specs.Kinds.{KindData}
use Rattle.hp_base.specs.declared.value.Value.{Value}
use Rattle.hp_obc.specs.Steps.{Names}
use Rattle.hp_flat.specs.Equations.{FlatEqn}
use Rattle.hp_flat.specs.Nodes.{FlatNode}
use Rattle.law_equations.specs.Meaning.Instants.{Instant}
use Rattle.law_equations.specs.Meaning.Reactions.{Answers, Reaction, outputs_at}
use Rattle.law_equations.specs.Meaning.Fitting.{Fits}
use Rattle.law_equations.specs.Meaning.Scheduling.{IsInOrder, IsRanked, IsScheduled, IsWithin, DefinesNoInput}
use Rattle.hp_normal.specs.Normal.{normal}

-- There is a reaction of a node over the same inputs, in which clocks fit, with the same outputs.
pub record Remains (answers : Answers) (takes : Names (List KindData)) (n m : FlatNode) (inputs : List (List Value)) (instants : List Instant) : Type 0 where
  pub others : List Instant
  pub reaction : Reaction answers m inputs others
  pub fit : AllByRecursion (Fits takes m) others
  pub outputs : map (outputs_at m) others ≡ map (outputs_at n) instants

-- Each reaction of the first node in which clocks fit remains in the second.
abbrev pub KeepsReactions : FlatNode → FlatNode → Type 0
KeepsReactions n m =
    (answers : Answers) (takes : Names (List KindData)) (inputs : List (List Value)) (instants : List Instant) → AllByRecursion (Fits takes n) instants → Reaction answers n inputs instants
    → Remains answers takes n m inputs instants

-- ---- order

-- a node with the equations in another order
pub record IsReordered (n m : FlatNode) : Type 0 where
  pub name : m.name ≡ n.name
  pub variables : m.variables ≡ n.variables
  pub inputs : m.inputs ≡ n.inputs
  pub outputs : m.outputs ≡ n.outputs
  pub eqns : IsPermutation n.eqns m.eqns

-- Ranked equations in the order of their ranks are scheduled.
abbrev pub OrderLaw : Type 0
OrderLaw = (es : List FlatEqn) → IsRanked es → IsInOrder es → IsScheduled es

-- In another order a node has the same reactions, and clocks fit at the same instants.
abbrev pub ReorderedLaw : Type 0
ReorderedLaw =
    (n m : FlatNode) → IsReordered n m → (answers : Answers) (takes : Names (List KindData)) (inputs : List (List Value)) (instants : List Instant)
    → AllByRecursion (Fits takes n) instants → Reaction answers n inputs instants → Reaction answers m inputs instants × AllByRecursion (Fits takes m) instants

-- ---- fewer choices, copies and equations

-- equations that are scheduled, that define no input, and whose numbers are those of variables
pub record IsRegular (n : FlatNode) : Type 0 where
  pub within : IsWithin n
  pub no_inputs : DefinesNoInput n
  pub scheduled : IsScheduled n.eqns

-- Without needless choices and copies and what nothing needs each reaction remains, and what was regular is.
abbrev pub NormalLaw : Type 0
NormalLaw = (n : FlatNode) → IsRegular n → IsRegular (normal n) × KeepsReactions n (normal n)
