-- Nodes in order, and the file of their machines.
use Rattle.std.specs.Prelude.{◌≡◌, ℕ, List, [], ◌∷◌, map, reverse, IsTrue}
use Rattle.std.specs.List.{AllByRecursion}
use Rattle.hp_base.specs.Kinds.{KindData, AreOfKinds}
use Rattle.hp_base.specs.declared.value.Value.{Value}
use Rattle.hp_obc.specs.Form.{has_name}
use Rattle.hp_obc.specs.Machines.{ObcType, Machine, Obc}
use Rattle.hp_obc.specs.Steps.{Names, machine_behaviour, run}
use Rattle.hp_flat.specs.Equations.{Right, called, FlatEqn}
use Rattle.hp_flat.specs.Nodes.{FlatNode}
use Rattle.law_equations.specs.Meaning.Instants.{Instant}
use Rattle.law_equations.specs.Meaning.Reactions.{Answers, Reaction, outputs_at}
use Rattle.law_equations.specs.Meaning.Fitting.{Fits}
use Rattle.hp_toobc.specs.Making.{machine_of}
use Rattle.hp_fuse.specs.Fusing.{fused_machine}
use Rattle.law_equations.specs.Followed.Memories.{AnswersAs}
use Rattle.law_equations.specs.Followed.Premises.{NodeForm}

-- ---- nodes in order

-- the node that is called, if one is, is among some names
abbrev pub CallsAmong : List (List ℕ) → Right → Type 0
CallsAmong names (called f args) = IsTrue (has_name names f)
CallsAmong names right = Unit {0}

-- so it is in all equations
abbrev pub CallsOnly : List (List ℕ) → List FlatEqn → Type 0
CallsOnly names es = AllByRecursion (λ (e : FlatEqn). CallsAmong names e.right) es

-- Each node has what is asked of a node that a machine is made of, and calls nodes before it.
abbrev pub AreInOrder : List ObcType → List (List ℕ) → List FlatNode → Type 0
AreInOrder types earlier [] = Unit {0}
AreInOrder types earlier (n ∷ ns) = NodeForm types n × CallsOnly earlier n.eqns × AreInOrder types (n.name ∷ earlier) ns

-- What is answered on arguments, after those of earlier instants, are the outputs of a reaction in which clocks fit.
pub record IsAnswered (answers : Answers) (takes : Names (List KindData)) (n : FlatNode) (args : List Value) (earlier : List (List Value)) : Type 0 where
  pub now : Instant
  pub past : List Instant
  pub reaction : Reaction answers n (args ∷ earlier) (now ∷ past)
  pub fit : AllByRecursion (Fits takes n) (now ∷ past)
  pub answer : answers n.name args earlier ≡ outputs_at n now

-- so it is on all arguments of the kinds that a node takes
abbrev pub Answered : Answers → Names (List KindData) → FlatNode → Type 0
Answered answers takes n = (args : List Value) (earlier : List (List Value)) → AreOfKinds (takes n.name) args → AllByRecursion (AreOfKinds (takes n.name)) earlier → IsAnswered answers takes n args earlier

-- ---- the machines of a program

abbrev pub machines_of : List ObcType → List FlatNode → List Machine
machines_of types ns = map (machine_of types) ns

abbrev pub file_of : List ObcType → List Machine → Obc
file_of types machines = record { types = types; machines = machines }

-- The machines of nodes in order answer as the nodes do.
abbrev pub ProgramLaw : Type 0
ProgramLaw =
    (types : List ObcType) (ns : List FlatNode) (answers : Answers) (takes : Names (List KindData)) → AreInOrder types [] ns → AllByRecursion (Answered answers takes) ns
    → AllByRecursion (λ (n : FlatNode). AnswersAs answers takes n.name (machine_behaviour (file_of types (machines_of types ns)) n.name)) ns

-- Machines whose neighbouring cases are joined do what they did.
abbrev pub FusedLaw : Type 0
FusedLaw = (types : List ObcType) (machines : List Machine) → machine_behaviour (file_of types (map fused_machine machines)) ≡ machine_behaviour (file_of types machines)

-- what a node answers on each of some arguments, newest first
abbrev pub all_answers : (List Value → List (List Value) → List Value) → List (List Value) → List (List Value)
all_answers answer [] = []
all_answers answer (args ∷ earlier) = answer args earlier ∷ all_answers answer earlier

-- So each run of a joined machine over arguments of the kinds, oldest first, gives what its node answers.
abbrev pub ProgramRunLaw : Type 0
ProgramRunLaw =
    (types : List ObcType) (ns : List FlatNode) (answers : Answers) (takes : Names (List KindData)) → AreInOrder types [] ns → AllByRecursion (Answered answers takes) ns
    → AllByRecursion (λ (n : FlatNode). (inputs : List (List Value)) → AllByRecursion (AreOfKinds (takes n.name)) inputs
    → run (machine_behaviour (file_of types (map fused_machine (machines_of types ns))) n.name) (reverse inputs) ≡ reverse (all_answers (answers n.name) inputs)) ns
