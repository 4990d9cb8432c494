-- What is proved of the clocked equations of a program whose controllable variables have chosen values.
use Rattle.std.specs.Prelude.{◌≡◌, ℕ, List, ◌++◌, reverse, IsTrue, IsFalse}
use Rattle.hp_base.specs.declared.value.Value.{Value}
use Rattle.hp_tree.specs.declared.program.Item.{Item}
use Rattle.hp_tree.specs.Programs.{Node}
use Rattle.hp_tree.specs.Operators.{filled}
use Rattle.hp_tree.specs.Instant.{Place}
use Rattle.hp_tree.specs.Meaning.{types_of}
use Rattle.hp_meaning.specs.Causal.Causality.{IsRanked}
use Rattle.law_judged.specs.Named.Scoped.{EachNode}
use Rattle.law_values.specs.Valued.Values.{Classing, AreAccepted}
use Rattle.hp_flat.specs.Nodes.{FlatNode}
use Rattle.law_equations.specs.Meaning.Reactions.{Answers}
use Rattle.law_equations.specs.Flattened.Lifted.{IsFill}
use Rattle.law_equations.specs.Flattened.Behaves.{Behaves}
use Rattle.law_equations.specs.Flattened.Numbered.{does_of}
use Rattle.law_equations.specs.Made.Making.{Known}
use Rattle.law_equations.specs.Made.Standing.{Knows}
use Rattle.law_equations.specs.Answered.Answering.{filled_nodes, has_node, AreApart}
use Rattle.law_equations.specs.Answered.Laws.{IsMade}
use Rattle.law_wellmade.specs.Timely.Kinds.{takes_among}
use Rattle.law_wellmade.specs.Timely.Laws.{FillsFit}
use Rattle.law_wellmade.specs.Timely.Tested.{ConstructorsDiffer, AreTested}
use Rattle.law_choices.specs.Choosing.Choices.{Choices}
use Rattle.law_choices.specs.Choosing.Meaning.{GivesAnswers}
use Rattle.law_choices.specs.Runs.Chosen.{chosen_nodes}
use Rattle.law_choices.specs.Runs.Laws.{ChoosesValues}
use Rattle.law_choices.specs.Flat.Answering.{AnsweringUnder, ControlsDiffer}

-- The nodes of a ranked program answer with the chosen values.
abbrev pub SomeAnswersLaw : Type 0
SomeAnswersLaw = (choices : Choices) (program : List Item) (fills : List ℕ → Place → Value) → IsRanked program → (answers : Answers) × AnsweringUnder choices program fills answers

-- Each of them behaves so wherever it is called: where it is among those before a caller, and none behind it has its name.
abbrev pub BehaveLaw : Type 0
BehaveLaw =
    (choices : Choices) (program : List Item) (fills : List ℕ → Place → Value) (answers : Answers) → IsRanked program → AnsweringUnder choices program fills answers → (later earlier : List Item) → reverse program ≡ later ++ earlier
    → (f : List ℕ) → IsTrue (has_node earlier f) → IsFalse (has_node later f) → Behaves (chosen_nodes choices (types_of program) filled earlier) (does_of answers) (IsFill (fills f)) f

-- In an accepted program without automata, whose nodes choose values of the types, the clocked equations that are made of a node answer under the same choice as the node does.
abbrev pub EquationsAnswerLaw : Type 0
EquationsAnswerLaw =
    (choices : Choices) (program : List Item) (class : Classing) (fills : List ℕ → Place → Value) (k : Known) → AreAccepted (types_of program) class (reverse program) → IsRanked program → AreApart (reverse program)
    → FillsFit program fills → ConstructorsDiffer (types_of program) → AreTested (types_of program) (reverse program) → Knows (types_of program) (filled_nodes program).outputs k
    → EachNode (ChoosesValues (types_of program) choices) (reverse program) → (answers : Answers) → AnsweringUnder choices program fills answers
    → (later earlier : List Item) (n : Node) (flat : FlatNode) → IsMade program fills later earlier k n flat → flat.name ≡ n.name → ControlsDiffer n
    → GivesAnswers choices answers (takes_among (types_of program) (reverse program)) flat
