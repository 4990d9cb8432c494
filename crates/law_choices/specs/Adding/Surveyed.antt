-- Observers are put into a node: its own one, and those of the nodes that it calls, each at its call.
-- Source: own.
use Rattle.std.specs.Prelude.{◌≡◌, ⊤, ℕ, ◌≤◌, List, ◌++◌, slice_get, Option, None, Some}
use Rattle.std.specs.List.{AllByRecursion, range_with_len}
use Rattle.hp_obc.specs.Machines.{ObcType}
use Rattle.hp_flat.specs.Equations.{Clock, FlatEqn}
use Rattle.hp_flat.specs.Nodes.{FlatNode}
use Rattle.law_equations.specs.Meaning.Kinding.{Callees, kinds_at}
use Rattle.law_equations.specs.Meaning.Reactions.{inputs_of}
use Rattle.hp_watch.specs.declared.watching.Free.{Free}
use Rattle.hp_watch.specs.Watching.{Observed, Observing, Surveyed, surveyed}
use Rattle.law_choices.specs.Closed.Clocking.{DefinesOwn, IsCopy}
use Rattle.law_choices.specs.Adding.Keeping.{IsBased, Keeps}
use Rattle.law_choices.specs.Adding.Lifts.{HaveBytes}
use Rattle.law_choices.specs.Adding.Watched.{IsFree}

-- a free place of an observer is defined by one of its equations
abbrev pub HasEqn : Option ℕ → Type 0
HasEqn None = ⊥
HasEqn (Some k) = ⊤

-- An observer suits the nodes of a name: it is well built, takes what they take and give, and its free places are free in it.
pub record Suits (types : List ObcType) (callees : Callees) (f : List ℕ) (o : Observed) : Type 0 where
  pub own : ℕ → Clock
  pub based : IsBased types callees own o.node
  pub takes : kinds_at types o.node (inputs_of o.node) ≡ callees.takes f ++ callees.gives f
  pub free : AllByRecursion (λ (p : Free). IsFree types o.node own p × HasEqn p.eqn) o.free

-- so it is of all observers
abbrev pub AllSuit : List ObcType → Callees → Observing → Type 0
AllSuit types callees observers = (f : List ℕ) (o : Observed) → observers f ≡ Some o → Suits types callees f o

-- an equation of a number is there, and no copy
abbrev pub IsNoCopy : FlatNode → ℕ → Type 0
IsNoCopy n k = (e : FlatEqn) × (slice_get n.eqns k ≡ Some e) × (IsCopy e.right → ⊥)

-- What is asked of the node: so many of its inputs are what calls give it, each equation that is no copy defines variables of its own clock, and such are those of its comparisons and calls.
pub record MayBeSurveyed (types : List ObcType) (callees : Callees) (clock : ℕ → Clock) (inputs : ℕ) (order : List ℕ) (n : FlatNode) : Type 0 where
  pub few : inputs ≤ n.inputs
  pub takes : callees.takes n.name ≡ kinds_at types n (range_with_len 0 inputs)
  pub gives : callees.gives n.name ≡ kinds_at types n n.outputs
  pub own : AllByRecursion (DefinesOwn clock) n.eqns
  pub events : AllByRecursion (IsNoCopy n) order

-- It is well built, and its free places are free in it.
pub record IsSeen (types : List ObcType) (callees : Callees) (clock : ℕ → Clock) (n : FlatNode) (s : Surveyed) : Type 0 where
  pub keeps : Keeps types callees clock n s.node
  pub free : AllByRecursion (IsFree types s.node keeps.clocks) s.free

abbrev pub SurveyedLaw : Type 0
SurveyedLaw =
    (types : List ObcType) (callees : Callees) (clock : ℕ → Clock) (observers : Observing) (own : Observed) (inputs : ℕ) (order : List ℕ) (n : FlatNode) → HaveBytes types → IsBased types callees clock n
    → MayBeSurveyed types callees clock inputs order n → AllSuit types callees observers → observers n.name ≡ Some own → IsSeen types callees clock n (surveyed observers own inputs order n)
