-- The node that chooses: it is watched, asks its controller, has copies of what is assumed and enforced, and its equations are ordered.
-- Source: own.
use Rattle.std.specs.Prelude.{ℕ, ◌+◌, ◌-◌, ◌<◌, ◌≤◌, List, length}
use Rattle.std.specs.List.{AllByRecursion}
use Rattle.hp_base.specs.Kinds.{Bools}
use Rattle.hp_boolx.specs.Machine.{Machine}
use Rattle.hp_obc.specs.Machines.{ObcType}
use Rattle.hp_flat.specs.Equations.{Clock}
use Rattle.hp_flat.specs.Nodes.{FlatNode}
use Rattle.law_equations.specs.Meaning.Kinding.{Callees, IsWellMade}
use Rattle.law_equations.specs.Meaning.Reactions.{Answers}
use Rattle.law_equations.specs.Meaning.Scheduling.{IsRanked, IsWithin}
use Rattle.hp_controller.specs.declared.decoding.Control.{Control}
use Rattle.hp_controller.specs.Controlled.{bits_added, controlled, IsControllable}
use Rattle.hp_watch.specs.Adding.{with_copy}
use Rattle.law_choices.specs.Answered.Loops.{IsClosed}
use Rattle.law_choices.specs.Adding.Controls.{IsThereAlways, IsAskedFor, HaveControlKinds}
use Rattle.law_choices.specs.Adding.Keeping.{IsBased, Keeps}
use Rattle.law_choices.specs.Adding.Placed.{IsPlaced}
use Rattle.law_choices.specs.Closed.Exclusive.{IsParted}

-- a variable is one of the machine's in the node that asks its controller: a register, a control bit or a gate
abbrev pub IsBit : FlatNode → Machine → ℕ → Type 0
IsBit n m x = (length n.variables ≤ x) × (x < length n.variables + bits_added m)

-- The other node is made of one that is watched, and has ranks.
pub record IsWhole (n : FlatNode) (m : Machine) (name early late : List ℕ) (controls : List Control) (other : FlatNode) : Type 0 where
  pub assume : ℕ
  pub enforce : ℕ
  pub assume_bit : IsBit n m assume
  pub enforce_bit : IsBit n m enforce
  pub placed : IsPlaced (with_copy enforce (with_copy assume (controlled n m name early late controls))) other
  pub ranked : IsRanked other.eqns

-- What is asked of the node that is watched: its last inputs are the control variables of the machine, whose controller is called, and its early and late variables are truth values that are there always.
pub record MayChoose (types : List ObcType) (callees : Callees) (clock : ℕ → Clock) (n : FlatNode) (m : Machine) (name early late : List ℕ) (controls : List Control) : Type 0 where
  pub controllable : IsControllable n m early controls
  pub asked : IsAskedFor callees m name
  pub early_there : AllByRecursion (IsThereAlways types n clock Bools) early
  pub late_there : AllByRecursion (IsThereAlways types n clock Bools) late
  pub kinds : HaveControlKinds types n.variables (n.inputs - length controls) controls

-- So the node that chooses is well made, its numbers are those of its variables, and it closes the node that is watched in it, whatever nodes answer.
abbrev pub WholeLaw : Type 0
WholeLaw =
    (types : List ObcType) (callees : Callees) (clock : ℕ → Clock) (plant n other : FlatNode) (m : Machine) (name early late : List ℕ) (controls : List Control) → IsBased types callees clock plant → (k : Keeps types callees clock plant n)
    → MayChoose types callees k.clocks n m name early late controls → IsWhole n m name early late controls other
    → IsWellMade types callees other × IsWithin other × ((answers : Answers) → IsClosed answers (length controls) (record { plant = plant; closed = other })) × IsParted other
