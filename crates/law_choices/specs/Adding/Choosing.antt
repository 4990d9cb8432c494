-- The node that chooses is made of the clocked equations of a node in the way that the compiler goes: it is watched, asks its controller, and is ordered.
-- Source: own.
use Rattle.std.specs.Prelude.{◌≡◌, ℕ, ◌-◌, ◌≤◌, Bool, List, length}
use Rattle.std.specs.List.{AllByRecursion, range_with_len}
use Rattle.hp_boolx.specs.Machine.{Machine}
use Rattle.hp_obc.specs.Machines.{ObcType}
use Rattle.hp_tree.specs.Programs.{Node}
use Rattle.hp_flat.specs.Equations.{Clock}
use Rattle.hp_flat.specs.Nodes.{FlatNode}
use Rattle.law_equations.specs.Meaning.Kinding.{Callees, IsWellMade, kinds_at}
use Rattle.law_equations.specs.Meaning.Reactions.{Answers}
use Rattle.law_equations.specs.Meaning.Scheduling.{IsWithin}
use Rattle.hp_controller.specs.declared.decoding.Control.{Control}
use Rattle.hp_controller.specs.Controlled.{IsControllable}
use Rattle.hp_watch.specs.Watching.{Observing, Watched, IsWatched}
use Rattle.law_choices.specs.Answered.Loops.{IsClosed}
use Rattle.law_choices.specs.Closed.Clocking.{DefinesOwn}
use Rattle.law_choices.specs.Adding.Controls.{IsAskedFor, HaveControlKinds}
use Rattle.law_choices.specs.Adding.Keeping.{IsBased}
use Rattle.law_choices.specs.Adding.Lifts.{HaveBytes}
use Rattle.law_choices.specs.Adding.Surveyed.{AllSuit}
use Rattle.law_choices.specs.Adding.Watched.{HasBits}
use Rattle.law_choices.specs.Adding.Whole.{IsWhole}
use Rattle.law_choices.specs.Closed.Exclusive.{IsParted}

-- What is asked of the clocked equations of a node of a tree: its own inputs, without the control variables, and its outputs are what it takes and gives, and each equation that is no copy defines variables of its own clock.
pub record IsOfNode (types : List ObcType) (callees : Callees) (clock : ℕ → Clock) (node : Node) (n : FlatNode) : Type 0 where
  pub based : IsBased types callees clock n
  pub few : length node.inputs ≤ n.inputs
  pub takes : callees.takes n.name ≡ kinds_at types n (range_with_len 0 (length node.inputs))
  pub gives : callees.gives n.name ≡ kinds_at types n n.outputs
  pub own : AllByRecursion (DefinesOwn clock) n.eqns

-- Where observers suit, the node that is watched is well built, and its bits are truth values on the base clock.
abbrev pub WatchingLaw : Type 0
WatchingLaw =
    (types : List ObcType) (callees : Callees) (clock : ℕ → Clock) (observers : Observing) (node : Node) (is_early : List Bool) (n : FlatNode) (w : Watched) → HaveBytes types → IsOfNode types callees clock node n
    → AllSuit types callees observers → IsWatched types observers node is_early n w → HasBits types callees clock n w

-- So the node that chooses is well made, its numbers are those of its variables, and it closes the node, whatever nodes answer.
abbrev pub ChoosingLaw : Type 0
ChoosingLaw =
    (types : List ObcType) (callees : Callees) (clock : ℕ → Clock) (observers : Observing) (node : Node) (is_early : List Bool) (n : FlatNode) (w : Watched) → HaveBytes types → IsOfNode types callees clock node n
    → AllSuit types callees observers → IsWatched types observers node is_early n w → (m : Machine) (name : List ℕ) (controls : List Control) (other : FlatNode) → IsControllable w.node m w.early controls → IsAskedFor callees m name
    → HaveControlKinds types n.variables (n.inputs - length controls) controls → IsWhole w.node m name w.early w.late controls other
    → IsWellMade types callees other × IsWithin other × ((answers : Answers) → IsClosed answers (length controls) (record { plant = n; closed = other })) × IsParted other
