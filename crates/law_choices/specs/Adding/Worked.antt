-- A node whose output is its control variable, and a machine that permits it both values.
-- Source: own.
use Rattle.std.specs.Prelude.{◌≡◌, ◌-◌, codes, ℕ, zero, suc, true, if◌then◌else◌, List, [], ◌∷◌, length, None, Some}
use Rattle.std.specs.List.{AllByRecursion}
use Rattle.std.specs.Str.{bytes_eq}
use Rattle.hp_base.specs.Kinds.{Bools}
use Rattle.hp_base.specs.declared.value.Value.TheVariants.{Absent, B}
use Rattle.hp_base.specs.declared.span.Span.{Span}
use Rattle.hp_boolx.specs.declared.gate.Gate.TheVariants.{Const}
use Rattle.hp_boolx.specs.Machine.{Machine}
use Rattle.hp_obc.specs.declared.command.ObcOp.TheVariants.{Copy}
use Rattle.hp_tree.specs.Blocks.{block, no_eqn}
use Rattle.hp_tree.specs.Programs.{Node}
use Rattle.hp_flat.specs.declared.equation.Atom.TheVariants.{Variable as Read}
use Rattle.hp_flat.specs.declared.node.FlatTy.TheVariants as flat
use Rattle.hp_flat.specs.Equations.{Clock, operator, FlatEqn}
use Rattle.hp_flat.specs.Nodes.{FlatNode}
use Rattle.law_equations.specs.Meaning.Instants.{Instant}
use Rattle.law_equations.specs.Meaning.Kinding.{Callees}
use Rattle.law_equations.specs.Meaning.Reactions.{Answers, Reaction}
use Rattle.hp_controller.specs.declared.decoding.Control.{Control}
use Rattle.hp_controller.specs.declared.decoding.ControlKind.TheVariants.{Truth}
use Rattle.hp_controller.specs.Controlled.{controlled, IsControllable}
use Rattle.hp_watch.specs.Watching.{Observed, Watched, IsWatched}
use Rattle.law_choices.specs.Answered.Loops.{IsClosed}
use Rattle.law_choices.specs.Closed.Clocking.{by_cases}
use Rattle.law_choices.specs.Adding.Called.{SaysSame}
use Rattle.law_choices.specs.Adding.Choosing.{IsOfNode}
use Rattle.law_choices.specs.Adding.Embeds.{FitsSite}
use Rattle.law_choices.specs.Adding.Keeping.{IsBased}
use Rattle.law_choices.specs.Adding.Lifts.{HaveBytes}
use Rattle.law_choices.specs.Adding.Placed.{IsPlaced}
use Rattle.law_choices.specs.Adding.Surveyed.{AllSuit}
use Rattle.law_choices.specs.Adding.Watched.{IsFree}
use Rattle.law_choices.specs.Adding.Whole.{IsWhole}
use Rattle.law_choices.specs.Adding.Controls.{IsAskedFor, HaveControlKinds}

abbrev pub handed_on : FlatEqn
handed_on = record { targets = 1 ∷ []; clock = []; right = operator Copy (Read 0 ∷ []); restart = []; at = 0 }

abbrev pub free_node : FlatNode
free_node = record {
  name = codes "f";
  variables = record { name = codes "c"; ty = flat.Bool } ∷ record { name = codes "y"; ty = flat.Bool } ∷ [];
  inputs = 1;
  outputs = 1 ∷ [];
  eqns = handed_on ∷ [];
}

abbrev pub free_machine : Machine
free_machine = record {
  name = codes "f";
  registers = 0;
  early = 0;
  control = 1;
  late = 0;
  widths = 1 ∷ [];
  prefer = true ∷ [];
  gates = Const true ∷ [];
  init = [];
  next = [];
  valid = 0;
  hyp = 0;
  duty = 0;
}

abbrev pub one_control : List Control
one_control = record { kind = Truth; width = 1 } ∷ []

-- each node that is called takes nothing and gives a truth value
abbrev pub asked_alone : Callees
asked_alone = record { takes = λ f. []; gives = λ f. Bools ∷ [] }

-- It meets what is asked of a node that chooses the value of its control variable itself.
abbrev pub SomeControlledLaw : Type 0
SomeControlledLaw =
    IsBased [] asked_alone (λ x. []) free_node × IsControllable free_node free_machine [] one_control × IsAskedFor asked_alone free_machine (codes "f$ctl") × HaveControlKinds [] free_node.variables 0 one_control

-- There is a node made of it whose equations have ranks.
abbrev pub SomeWholeLaw : Type 0
SomeWholeLaw = (other : FlatNode) × IsWhole free_node free_machine (codes "f$ctl") [] [] one_control other

-- It is put as an observer into a node with two cases, where the input of that is true,
abbrev pub SomeEmbeddedLaw : Type 0
SomeEmbeddedLaw = FitsSite [] asked_alone by_cases (λ x. []) free_node (record { clock = (0, 1) ∷ []; restart = []; inputs = Read 0 ∷ [] })

-- where a variable is a free place.
abbrev pub SomeWatchedLaw : Type 0
SomeWatchedLaw = IsFree [] by_cases (λ x. []) (record { variable = 1; eqn = Some 0 })

-- the observer of a node that has no free place, and a tree whose clocked equations these are
abbrev pub one_observer : Observed
one_observer = record { node = free_node; free = [] }

abbrev pub nowhere : Span
nowhere = record { line = 0; col = 0; end = 0 }

abbrev pub some_tree : Node
some_tree = record { name = codes "f"; span = nowhere; inputs = []; outputs = []; contract = None; body = block [] no_eqn }

-- It is watched, and meets what is asked of it and of its observer.
abbrev pub SomeWatchingLaw : Type 0
SomeWatchingLaw =
    (w : Watched) × IsWatched [] (λ f. Some one_observer) some_tree [] free_node w × IsOfNode [] asked_alone (λ x. []) some_tree free_node × AllSuit [] asked_alone (λ f. Some one_observer)

-- All that is asked of a node that chooses as the compiler makes it is met at once: watched so, it asks the controller of this machine, and a node made of it has ranks.
abbrev pub SomeChoosingLaw : Type 0
SomeChoosingLaw =
    (w : Watched) × (other : FlatNode) × HaveBytes [] × IsOfNode [] asked_alone (λ x. []) some_tree free_node × AllSuit [] asked_alone (λ f. Some one_observer) × IsWatched [] (λ f. Some one_observer) some_tree [] free_node w
    × IsControllable w.node free_machine w.early one_control × IsAskedFor asked_alone free_machine (codes "f$ctl") × HaveControlKinds [] free_node.variables (free_node.inputs - length one_control) one_control
    × IsWhole w.node free_machine (codes "f$ctl") w.early w.late one_control other

-- ---- another place, and other nodes

-- the same equation at another place
abbrev pub later_node : FlatNode
later_node = record free_node { eqns = record handed_on { at = 7 } ∷ [] }

-- its variables are true
abbrev pub both_true : Instant
both_true zero = B true
both_true (suc zero) = B true
both_true (suc (suc x)) = Absent

-- It is the node at another place; it has a reaction, and the node closes itself.
abbrev pub SomePlacedLaw : Type 0
SomePlacedLaw =
    IsPlaced free_node later_node × IsBased [] asked_alone (λ x. []) free_node
    × ((answers : Answers) → Reaction answers later_node ((B true ∷ []) ∷ []) (both_true ∷ []) × IsClosed answers 0 (record { plant = free_node; closed = free_node }))

-- the node that asks its controller
abbrev pub asking_node : FlatNode
asking_node = controlled free_node free_machine (codes "f$ctl") [] [] one_control

-- of the controller the same is said, and of no other node
abbrev pub said_otherwise : Callees
said_otherwise = record { takes = λ f. if bytes_eq f (codes "f$ctl") then [] else Bools ∷ []; gives = λ f. if bytes_eq f (codes "f$ctl") then Bools ∷ [] else [] }

-- It is well built, and calls the controller alone.
abbrev pub SomeCalledLaw : Type 0
SomeCalledLaw = (clock : ℕ → Clock) × IsBased [] asked_alone clock asking_node × AllByRecursion (λ (e : FlatEqn). SaysSame asked_alone said_otherwise e.right) asking_node.eqns × (said_otherwise.gives (codes "g") ≡ [])
