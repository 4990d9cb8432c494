-- The node that chooses keeps the registers of its machine, and asks the controller at each instant.
-- Source: own.
use Rattle.std.specs.Prelude.{◌≡◌, ℕ, List, length, map}
use Rattle.std.specs.List.{AllByRecursion}
use Rattle.hp_base.specs.Kinds.{KindData}
use Rattle.hp_base.specs.declared.value.Value.{Value}
use Rattle.hp_boolx.specs.Machine.{Machine}
use Rattle.hp_obc.specs.Machines.{ObcType}
use Rattle.hp_obc.specs.Steps.{Names}
use Rattle.hp_flat.specs.Equations.{Clock}
use Rattle.hp_flat.specs.Nodes.{FlatNode}
use Rattle.law_equations.specs.Meaning.Instants.{Instant}
use Rattle.law_equations.specs.Meaning.Kinding.{Callees, IsPossible, kinds_at}
use Rattle.law_equations.specs.Meaning.Reactions.{Answers, Reaction, inputs_of}
use Rattle.law_equations.specs.Meaning.Scheduling.{IsRanked}
use Rattle.hp_controller.specs.declared.decoding.Control.{Control}
use Rattle.hp_controller.specs.Controlled.{IsControlledRun, controlled}
use Rattle.hp_controller.specs.Controlling.{IsController}
use Rattle.hp_controller.specs.Extending.{cut}
use Rattle.hp_controller.specs.Steps.{AnswersAsController, AreBits}
use Rattle.law_choices.specs.Adding.Keeping.{IsBased, Keeps}
use Rattle.law_choices.specs.Adding.Whole.{IsWhole, MayChoose}
use Rattle.law_choices.specs.Coded.Laws.{IsTypedAt}
use Rattle.law_choices.specs.OnClocks.Meaning.{GivesAnswers}

-- early and late variables have truth values at each instant
abbrev pub AlwaysBits : List ℕ → List ℕ → List Instant → Type 0
AlwaysBits early late instants = AllByRecursion (λ (i : Instant). AreBits i early × AreBits i late) instants

-- the instants of the node that chooses, in the variables of the node that asks its controller: what it tells is left out
abbrev pub asking_instants : FlatNode → Machine → List ℕ → List ℕ → List ℕ → List Control → List Instant → List Instant
asking_instants n m name early late controls instants = map (cut (length (controlled n m name early late controls).variables)) instants

-- Each reaction of the node that chooses is a run of the node that is watched under the choices of the controller.
abbrev pub WholeRunLaw : Type 0
WholeRunLaw =
    (types : List ObcType) (callees : Callees) (clock : ℕ → Clock) (plant n other : FlatNode) (m : Machine) (name early late : List ℕ) (controls : List Control) → IsBased types callees clock plant → (k : Keeps types callees clock plant n)
    → MayChoose types callees k.clocks n m name early late controls → IsWhole n m name early late controls other
    → (answers : Answers) → AnswersAsController answers m name → (rows : List (List Value)) (instants : List Instant) → Reaction answers other rows instants → AlwaysBits early late (asking_instants n m name early late controls instants)
    → IsControlledRun answers n m early late controls rows (asking_instants n m name early late controls instants)

-- In a node that is well built and has ranks each variable has a value of its kind where its clock holds.
abbrev pub TypedAtLaw : Type 0
TypedAtLaw = (types : List ObcType) (callees : Callees) (clock : ℕ → Clock) (n : FlatNode) (now : Instant) → IsBased types callees clock n → IsRanked n.eqns → IsPossible types n now → IsTypedAt types n clock now

-- A node that is the controller of a machine, and that answers in the one meaning of nodes in turn, answers as the machine's controller.
abbrev pub ControllerAnswersLaw : Type 0
ControllerAnswersLaw =
    (types : List ObcType) (m : Machine) (node : FlatNode) (answers : Answers) (takes : Names (List KindData)) → IsController m node → takes node.name ≡ kinds_at types node (inputs_of node) → GivesAnswers answers takes node
    → AnswersAsController answers m node.name
