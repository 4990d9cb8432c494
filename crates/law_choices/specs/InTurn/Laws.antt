-- The nodes that are made of a program stand in turn, and have one meaning, which the program allows.
-- Source: own.
use Rattle.std.specs.Prelude.{◌≡◌, ⊤, ℕ, Bool, false, List, [], ◌∷◌, ◌++◌}
use Rattle.std.specs.List.{AllByRecursion}
use Rattle.hp_base.specs.Kinds.{AreOfKinds}
use Rattle.hp_base.specs.declared.value.Value.{Value}
use Rattle.hp_base.specs.declared.value.Value.TheVariants.{B}
use Rattle.hp_obc.specs.Form.{TypesForm}
use Rattle.hp_tree.specs.declared.program.Item.{Item}
use Rattle.hp_tree.specs.Meaning.{types_of}
use Rattle.hp_tree.specs.Programs.{Node}
use Rattle.hp_meaning.specs.Causal.RanksOfPoints.{AllFall}
use Rattle.law_judged.specs.Named.Scoped.{EachNode}
use Rattle.law_values.specs.Accepted.Laws.{IsReady}
use Rattle.hp_automata.specs.Lowering.{lowered_program}
use Rattle.hp_automata.specs.NewNames.{is_new}
use Rattle.law_automata.specs.Lowered.Removable.{IsRemovable}
use Rattle.law_equations.specs.Made.Types.{obc_types, obc_types_of}
use Rattle.law_equations.specs.Meaning.Kinding.{Callees}
use Rattle.law_equations.specs.Meaning.Reactions.{Answers}
use Rattle.law_equations.specs.Meaning.Scheduling.{IsWithin}
use Rattle.hp_complete.specs.Declaring.{known_of}
use Rattle.hp_complete.specs.Made.{AreMadeOf}
use Rattle.law_wellmade.specs.Spelled.Integers.{NodeShort}
use Rattle.hp_watch.specs.Watching.{Observing}
use Rattle.law_choices.specs.OnClocks.Meaning.{AreInTurn, HasOneMeaning}
use Rattle.law_choices.specs.OnClocks.WellMade.{callees_of}
use Rattle.law_choices.specs.Adding.Surveyed.{AllSuit}
use Rattle.law_choices.specs.Answered.Loops.{plants}
use Rattle.law_choices.specs.Answered.Programs.{AnswersAllowed}
use Rattle.law_choices.specs.InTurn.Calling.{CallNothing}
use Rattle.law_choices.specs.InTurn.Nodes.{Contracted, Made, plain, contracted, contract_name, telling, AreAllMade, loops, all_nodes, all_said}

-- what is said of all nodes that are made of a program
abbrev pub said_of : List Item → List Made → Callees
said_of after ms = all_said (obc_types (types_of after)) ms (callees_of after)

-- What is asked of a program and what is made of it: its clocked equations are plants; no name of a node holds the sign; observers suit, and call nothing.
pub record IsChoosing (program after : List Item) (observers : Observing) (ms : List Made) : Type 0 where
  pub ready : IsReady program after
  pub removable : IsRemovable after
  pub form : TypesForm (obc_types_of program)
  pub short : EachNode NodeShort after
  pub names : EachNode (λ (n : Node). is_new n.name ≡ false) after
  pub equations : AreMadeOf (known_of (lowered_program after)) (lowered_program after) (plants (loops ms))
  pub suit : AllSuit (obc_types (types_of after)) (said_of after ms) observers
  pub alone : CallNothing observers
  pub made : AreAllMade (obc_types (types_of after)) observers after ms

-- The nodes stand in turn: each is well made, takes and gives what is said of it, has a new name, and calls those before it alone.
abbrev pub TurnLaw : Type 0
TurnLaw = (program after : List Item) (observers : Observing) (ms : List Made) → IsChoosing program after observers ms → AreInTurn (obc_types (types_of after)) (said_of after ms) [] (all_nodes ms)

-- The numbers in each are those of its variables.
abbrev pub WithinLaw : Type 0
WithinLaw = (program after : List Item) (observers : Observing) (ms : List Made) → IsChoosing program after observers ms → AllByRecursion IsWithin (all_nodes ms)

-- They have one meaning. Each node answers with the outputs of the program's one reaction in which all controllable variables, in each instant and each instance at every depth, have the values
-- that they have in the nodes that choose; these are values of their types.
pub record IsAllowed (after : List Item) (ms : List Made) : Type 0 where
  pub one : HasOneMeaning (said_of after ms) (all_nodes ms)
  pub allowed : AnswersAllowed after one.answers (loops ms)

-- So it is where the points of the program have ranks.
abbrev pub ChoosingProgramLaw : Type 0
ChoosingProgramLaw = (program after : List Item) (ranks : List (List ℕ)) (observers : Observing) (ms : List Made) → AllFall after ranks → IsChoosing program after observers ms → IsAllowed after ms

-- The node that tells a contract stands under a name of its own, and takes what the node takes. What it answers is what the node answers, with two truth values behind: what is assumed, and what is enforced.
pub record TellsContract (said : Callees) (answers : Answers) (c : Contracted) : Type 0 where
  pub named : (telling c.chosen).name ≡ contract_name c.own.name
  pub takes : said.takes (contract_name c.own.name) ≡ said.takes c.own.name
  pub tells :
      (args : List Value) (earlier : List (List Value)) → AreOfKinds (said.takes c.own.name) args → AllByRecursion (AreOfKinds (said.takes c.own.name)) earlier
      → (assumed enforced : Bool) × (answers (contract_name c.own.name) args earlier ≡ answers c.own.name args earlier ++ B assumed ∷ B enforced ∷ [])

-- so it is of what is made of a node with a contract
abbrev pub Tells : Callees → Answers → Made → Type 0
Tells said answers (plain f) = ⊤
Tells said answers (contracted c) = TellsContract said answers c

-- So it is of each node with a contract.
abbrev pub TellingLaw : Type 0
TellingLaw =
    (program after : List Item) (observers : Observing) (ms : List Made) → IsChoosing program after observers ms → (one : HasOneMeaning (said_of after ms) (all_nodes ms)) → AllByRecursion (Tells (said_of after ms) one.answers) ms
