-- What the early bits of a node that chooses depend on at an instant.
-- Source: own; in a step the early values come first, then the controller is asked, and then all else is computed (Delaval, Marchand and Rutten, LCTES 2010).
use Rattle.std.specs.Prelude.{◌≡◌, ◌⊎◌, ◌-◌, ◌<◌, ◌≤◌, ℕ, List, [], ◌∷◌, length, Contains}
use Rattle.std.specs.List.{AllByRecursion, range_with_len}
use Rattle.hp_flat.specs.Equations.{FlatEqn}
use Rattle.law_equations.specs.Meaning.Scheduling.{AreBelow, DefinesNoInput, IsWithin}
use Rattle.hp_abstract.specs.declared.abstracted.Abstraction.{Abstraction}
use Rattle.hp_watch.specs.Watching.{Watched}
use Rattle.hp_controller.specs.declared.decoding.Control.{Control}
use Rattle.hp_controller.specs.Decoding.{HasBits, total_width}
use Rattle.law_choices.specs.Adding.Worked.{free_machine, free_node, one_control}
use Rattle.law_choices.specs.Depending.Dependence.{DependsOn}
use Rattle.hp_controlled.specs.Choosing.{telling}
use Rattle.hp_controlled.specs.Lacking.{HasCircularEqns}

-- No variable depends on itself.
abbrev pub IsStraight : List FlatEqn → Type 0
IsStraight es = (v : ℕ) → DependsOn es v v → ⊥

-- the controllable variables of the node that is watched: its last inputs
abbrev pub controls_in : Watched → List Control → List ℕ
controls_in w controls = range_with_len (w.node.inputs - length controls) (length controls)

-- An early bit of the node that is watched depends on a controllable variable.
pub record WaitsForChoice (w : Watched) (controls : List Control) : Type 0 where
  pub early : ℕ
  pub bit : Contains w.early early
  pub control : ℕ
  pub chosen : Contains (controls_in w controls) control
  pub waits : DependsOn w.node.eqns early control

-- What is asked of the node that is watched: its numbers are those of its variables, no variable depends on itself, no input is defined, no early bit is one of its last inputs, and these have the bits that the machine chooses.
pub record CanAsk (w : Watched) (a : Abstraction) (controls : List Control) : Type 0 where
  pub within : IsWithin w.node
  pub straight : IsStraight w.node.eqns
  pub no_inputs : DefinesNoInput w.node
  pub early : AreBelow (length w.node.variables) w.early
  pub apart : AllByRecursion (λ x. (x < w.node.inputs - length controls) ⊎ (w.node.inputs ≤ x)) w.early
  pub late : AreBelow (length w.node.variables) w.late
  pub registers : length a.machine.init ≤ a.machine.registers
  pub assume : a.assume < length a.machine.gates
  pub enforce : a.enforce < length a.machine.gates
  pub few : length controls ≤ w.node.inputs
  pub bits : AllByRecursion (λ (c : Control). HasBits c.kind c.width) controls
  pub widths : total_width controls ≡ a.machine.control

-- So where equations of the node that chooses read each other in a circle, an early bit waits for the choice.
abbrev pub CircleLaw : Type 0
CircleLaw = (f : List ℕ) (w : Watched) (a : Abstraction) (controls : List Control) → CanAsk w a controls → HasCircularEqns (telling f w a controls).node → WaitsForChoice w controls

-- ---- a node that gives its controllable variable, where the controller is to know what is given

abbrev pub some_watched : Watched
some_watched = record { node = free_node; early = 1 ∷ []; late = [] }

-- All that is asked of it is met, and the early bit waits for the choice.
abbrev pub SomeWaitsLaw : Type 0
SomeWaitsLaw = (a : Abstraction) → a.machine ≡ free_machine → a.assume ≡ 0 → a.enforce ≡ 0 → CanAsk some_watched a one_control × WaitsForChoice some_watched one_control
