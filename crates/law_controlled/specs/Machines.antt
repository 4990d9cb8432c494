-- The machines of nodes and of parts of nodes answer as the whole nodes do.
-- Source: own.
use Rattle.std.specs.Prelude.{◌≡◌, ⊤, ℕ, List, [], ◌∷◌, reverse}
use Rattle.std.specs.List.{AllByRecursion, IsDistinct}
use Rattle.std.specs.Str.{bytes_eq}
use Rattle.hp_base.specs.Kinds.{KindData, AreOfKinds}
use Rattle.hp_base.specs.declared.value.Value.{Value}
use Rattle.hp_obc.specs.Form.{TypesForm}
use Rattle.hp_obc.specs.Machines.{ObcType, Machine}
use Rattle.hp_obc.specs.Steps.{Names, machine_behaviour, run}
use Rattle.hp_flat.specs.Nodes.{FlatNode}
use Rattle.law_equations.specs.Followed.Premises.{IsOwn, names}
use Rattle.law_equations.specs.Followed.Programs.{Answered, CallsOnly, all_answers, file_of}
use Rattle.law_equations.specs.Meaning.Reactions.{Answers}
use Rattle.law_equations.specs.Meaning.Scheduling.{IsRanked, IsWithin, DefinesNoInput}
use Rattle.hp_machines.specs.Making.{AreMade}
use Rattle.hp_controlled.specs.Parts as compiled
use Rattle.law_equations.specs.Meaning.Kinding.{Callees}
use Rattle.law_choices.specs.OnClocks.Meaning.{AreInTurn, HasOneMeaning}
use Rattle.law_controlled.specs.Parts.{with_outputs}

-- What is asked of a whole node: numbers are those of its variables, equations define no input and have ranks, and names differ and are no names of memories or instances.
pub record HasShape (n : FlatNode) : Type 0 where
  pub within : IsWithin n
  pub no_inputs : DefinesNoInput n
  pub ranked : IsRanked n.eqns
  pub names_differ : IsDistinct bytes_eq (names n.variables)
  pub names_own : AllByRecursion IsOwn (names n.variables)

-- Each has shape, and calls nodes before it.
abbrev pub AreShapedInTurn : List (List ℕ) → List FlatNode → Type 0
AreShapedInTurn earlier [] = ⊤
AreShapedInTurn earlier (n ∷ ns) = HasShape n × CallsOnly earlier n.eqns × AreShapedInTurn (n.name ∷ earlier) ns

-- A node of which a machine is made is a whole one, or the part of one that its outputs read.
pub data IsMadeFrom (whole : FlatNode) : FlatNode → Type 0 where
  itself : IsMadeFrom whole whole
  a_part : (n part : FlatNode) (name outputs : List ℕ) → whole ≡ with_outputs name outputs n → compiled.IsPart n name outputs part → IsMadeFrom whole part

-- so it is one by one
abbrev pub AreMadeFrom : List FlatNode → List FlatNode → Type 0
AreMadeFrom [] [] = ⊤
AreMadeFrom [] (n ∷ ns) = ⊥
AreMadeFrom (w ∷ ws) [] = ⊥
AreMadeFrom (w ∷ ws) (n ∷ ns) = IsMadeFrom w n × AreMadeFrom ws ns

-- The machine of each name gives on inputs of the kinds, oldest first, what the whole node answers by its reactions.
abbrev pub AnswerAsWhole : List ObcType → List Machine → Answers → Names (List KindData) → List FlatNode → Type 0
AnswerAsWhole types machines answers takes ws =
    AllByRecursion (λ (w : FlatNode). (inputs : List (List Value)) → AllByRecursion (AreOfKinds (takes w.name)) inputs
    → run (machine_behaviour (file_of types machines) w.name) (reverse inputs) ≡ reverse (all_answers (answers w.name) inputs)) ws

abbrev pub MadeMachinesLaw : Type 0
MadeMachinesLaw =
    (types : List ObcType) (ws ns : List FlatNode) (machines : List Machine) (answers : Answers) (takes : Names (List KindData)) → TypesForm types → AreShapedInTurn [] ws → AreMadeFrom ws ns → AreMade types ns machines
    → AllByRecursion (Answered answers takes) ws → AnswerAsWhole types machines answers takes ws

-- What is asked of a node that stands in turn, besides: numbers are those of its variables, whose names differ and are no names of memories or instances.
pub record IsWritable (n : FlatNode) : Type 0 where
  pub within : IsWithin n
  pub names_differ : IsDistinct bytes_eq (names n.variables)
  pub names_own : AllByRecursion IsOwn (names n.variables)

-- So the machines of nodes in turn answer as their one meaning.
abbrev pub TurnMachinesLaw : Type 0
TurnMachinesLaw =
    (types : List ObcType) (callees : Callees) (ws ns : List FlatNode) (machines : List Machine) → TypesForm types → AreInTurn types callees [] ws → AllByRecursion IsWritable ws → AreMadeFrom ws ns → AreMade types ns machines
    → (one : HasOneMeaning callees ws) → AnswerAsWhole types machines one.answers callees.takes ws
