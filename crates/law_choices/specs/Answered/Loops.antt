-- Nodes that define their controllable variables themselves, beside the nodes in which these are inputs: they answer the same, with the values of these variables chosen.
-- Source: own; a plant and its closed loop, after Ramadge and Wonham (The control of discrete event systems, Proceedings of the IEEE, 1989).
use Rattle.std.specs.Prelude.{◌≡◌, ℕ, ◌+◌, ◌≤◌, true, List, [], ◌∷◌, ◌++◌, length, map}
use Rattle.std.specs.List.{AllByRecursion, Contains, range_with_len}
use Rattle.hp_base.specs.Kinds.{KindData, AreOfKinds}
use Rattle.hp_base.specs.declared.value.Value.{Value}
use Rattle.hp_boolx.specs.Machine.{Machine}
use Rattle.hp_obc.specs.Machines.{ObcType}
use Rattle.hp_obc.specs.Steps.{Names}
use Rattle.hp_flat.specs.declared.node.Variable.{Variable}
use Rattle.hp_flat.specs.Equations.{FlatEqn}
use Rattle.hp_flat.specs.Nodes.{FlatNode}
use Rattle.law_equations.specs.Meaning.Instants.{Instant}
use Rattle.law_equations.specs.Meaning.Kinding.{Callees}
use Rattle.law_equations.specs.Meaning.Reactions.{Answers, Reaction, is_set, outputs_at}
use Rattle.law_equations.specs.Meaning.Scheduling.{AreBelow}
use Rattle.hp_controller.specs.declared.decoding.Control.{Control}
use Rattle.hp_controller.specs.Controlled.{controlled, IsControllable}
use Rattle.hp_controller.specs.Extending.{Extends, rows_with}
use Rattle.law_choices.specs.OnClocks.Meaning as plain
use Rattle.law_choices.specs.OnClocks.Meaning.{HasSome, HasOneMeaning}
use Rattle.law_choices.specs.Choosing.Choices.{Choice, Choices}
use Rattle.law_choices.specs.Choosing.Meaning.{AreInTurn, GivesAnswers}

-- ---- one node

-- a node in which controllable variables are the last inputs, and the one made of it that has equations for them
pub record Loop : Type 0 where
  pub plant : FlatNode
  pub closed : FlatNode

-- Both have one name, and the closed node has the variables of the plant and more. The last inputs of the plant, so many, are defined in the closed node at each instant.
pub record IsLoop (controls : ℕ) (l : Loop) : Type 0 where
  pub name : l.closed.name ≡ l.plant.name
  pub inputs : l.plant.inputs ≡ l.closed.inputs + controls
  pub within : l.plant.inputs ≤ length l.plant.variables
  pub variables : (more : List Variable) × (l.closed.variables ≡ l.plant.variables ++ more)
  pub defined : (now : Instant) → AllByRecursion (λ x. is_set l.closed.eqns now x ≡ true) (range_with_len l.closed.inputs controls)

-- The plant has a reaction with the same outputs over the inputs and the values of the controllable variables in a reaction of the closed node.
pub record IsFollowed (answers : Answers) (controls : ℕ) (l : Loop) (rows : List (List Value)) (instants : List Instant) : Type 0 where
  pub followed : List Instant
  pub reaction : Reaction answers l.plant (rows_with l.closed.inputs controls rows instants) followed
  pub outputs : map (outputs_at l.plant) followed ≡ map (outputs_at l.closed) instants

-- So it is of each reaction of the closed node.
pub record IsClosed (answers : Answers) (controls : ℕ) (l : Loop) : Type 0 where
  pub loop : IsLoop controls l
  pub follows : (rows : List (List Value)) (instants : List Instant) → Reaction answers l.closed rows instants → IsFollowed answers controls l rows instants

-- the outputs of both are these variables of the plant
pub record SameOutputs (l : Loop) : Type 0 where
  pub outputs : l.closed.outputs ≡ l.plant.outputs
  pub within : AreBelow (length l.plant.variables) l.plant.outputs

-- So it is where the equations of the plant stay, and those behind them define the controllable variables and new ones, whatever nodes answer.
abbrev pub ExtendedLoopLaw : Type 0
ExtendedLoopLaw = (controls : ℕ) (more : List FlatEqn) (l : Loop) → IsLoop controls l → SameOutputs l → Extends l.plant l.closed controls more → (answers : Answers) → IsClosed answers controls l

-- A node without controllable variables closes itself.
abbrev pub OwnLoopLaw : Type 0
OwnLoopLaw = (n : FlatNode) → n.inputs ≤ length n.variables → (answers : Answers) → IsClosed answers 0 (record { plant = n; closed = n })

-- A node may be extended before it is closed.
abbrev pub ThenLaw : Type 0
ThenLaw =
    (controls : ℕ) (first more : List FlatEqn) (plant middle closed : FlatNode) → IsLoop 0 (record { plant = plant; closed = middle }) → Extends plant middle 0 first → IsLoop controls (record { plant = middle; closed = closed }) → Extends middle closed controls more
    → IsLoop controls (record { plant = plant; closed = closed }) × Extends plant closed controls (first ++ more)

-- The node that asks a controller has equations for its controllable variables.
abbrev pub ControlledLoopLaw : Type 0
ControlledLoopLaw =
    (n : FlatNode) (m : Machine) (name : List ℕ) (early late : List ℕ) (controls : List Control) → IsControllable n m early controls → IsLoop (length controls) (record { plant = n; closed = controlled n m name early late controls })

-- A choice is that of the closed node: at the newest instant of each of its reactions over inputs of the kinds, these are the values of the controllable variables.
abbrev pub IsItsChoice : Answers → List KindData → ℕ → FlatNode → Choice → Type 0
IsItsChoice answers takes controls closed choice =
    (args : List Value) (earlier : List (List Value)) → AreOfKinds takes args → AllByRecursion (AreOfKinds takes) earlier
    → (now : Instant) (past : List Instant) → Reaction answers closed (args ∷ earlier) (now ∷ past) → choice args earlier ≡ map now (range_with_len closed.inputs controls)

-- What the closed node answers, the plant answers under its choice.
abbrev pub LoopLaw : Type 0
LoopLaw =
    (answers : Answers) (takes : Names (List KindData)) (choices : Choices) (controls : ℕ) (l : Loop) → IsClosed answers controls l → IsItsChoice answers (takes l.plant.name) controls l.closed (choices l.plant.name)
    → plain.GivesAnswers answers takes l.closed → GivesAnswers choices answers takes l.plant

-- ---- nodes in turn

abbrev pub plants : List Loop → List FlatNode
plants ls = map (λ (l : Loop). l.plant) ls

-- some nodes have the closed node of each
abbrev pub HaveClosed : List FlatNode → List Loop → Type 0
HaveClosed ns ls = AllByRecursion (λ (l : Loop). Contains ns l.closed) ls

-- each is closed, where so many variables are controllable as have these kinds
abbrev pub AreClosed : Answers → Names (List KindData) → List Loop → Type 0
AreClosed answers controls ls = AllByRecursion (λ (l : Loop). IsClosed answers (length (controls l.plant.name)) l) ls

-- there is a choice for each plant, which is that of its closed node
abbrev pub AreTheirChoices : Answers → Names (List KindData) → Names (List KindData) → Choices → List Loop → Type 0
AreTheirChoices answers takes controls choices ls = AllByRecursion (λ (l : Loop). IsItsChoice answers (takes l.plant.name) (length (controls l.plant.name)) l.closed (choices l.plant.name)) ls

-- The plants answer so under the choices of their closed nodes. These are values of the kinds, whatever the inputs are.
pub record AnswersChosen (takes controls : Names (List KindData)) (answers : Answers) (ls : List Loop) : Type 0 where
  pub choices : Choices
  pub typed : (f : List ℕ) (args : List Value) (earlier : List (List Value)) → AreOfKinds (controls f) (choices f args earlier)
  pub theirs : AreTheirChoices answers takes controls choices ls
  pub gives : AllByRecursion (GivesAnswers choices answers takes) (plants ls)

-- So it is of the one meaning of nodes in turn, among which the closed nodes stand, with their controllers and others.
abbrev pub LoopsLaw : Type 0
LoopsLaw =
    (types : List ObcType) (callees all : Callees) (controls : Names (List KindData)) (ls : List Loop) (ns : List FlatNode) → AreInTurn types callees controls [] (plants ls) → ((f : List ℕ) → AllByRecursion HasSome (controls f))
    → plain.AreInTurn types all [] ns → HaveClosed ns ls → (one : HasOneMeaning all ns) → AreClosed one.answers controls ls → AnswersChosen callees.takes controls one.answers ls
