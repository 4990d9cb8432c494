-- What nodes answer that define their controllable variables themselves is what the program does: each answer is one that the program allows.
-- Source: own; a controlled program does nothing that the program without its controller could not do, after Ramadge and Wonham (The control of discrete event systems, Proceedings of the IEEE, 1989).
use Rattle.std.specs.Prelude.{ℕ, List, []}
use Rattle.std.specs.List.{AllByRecursion}
use Rattle.hp_base.specs.Kinds.{AreOfKinds}
use Rattle.hp_base.specs.declared.value.Value.{Value}
use Rattle.hp_lexer.specs.Lexing.{AreTokensOf}
use Rattle.hp_lexer.specs.declared.token.Token.{Token}
use Rattle.hp_parser.specs.Lexemes.{lexemes}
use Rattle.hp_parser.specs.Programs.{IsProgram}
use Rattle.hp_obc.specs.Form.{TypesForm}
use Rattle.hp_tree.specs.declared.program.Item.{Item}
use Rattle.hp_tree.specs.Meaning.{types_of}
use Rattle.hp_meaning.specs.Causal.RanksOfPoints.{AllFall}
use Rattle.hp_names.specs.Rules.{WellNamed}
use Rattle.hp_typing.specs.Rules.{WellTyped}
use Rattle.hp_typing.specs.DefinitionRules.{WellDefined}
use Rattle.hp_init.specs.Initialised.{IsInitialised}
use Rattle.hp_clocks.specs.Writing.{AreWritten}
use Rattle.hp_clocks.specs.Answers.{IsClocked}
use Rattle.hp_expand.specs.Refusals.{IsFormed}
use Rattle.hp_expand.specs.Numbering.{replaced}
use Rattle.law_judged.specs.Named.Scoped.{EachNode}
use Rattle.law_values.specs.Accepted.Laws.{IsReady}
use Rattle.hp_automata.specs.Lowering.{lowered_program}
use Rattle.law_automata.specs.Lowered.Removable.{IsRemovable}
use Rattle.hp_flat.specs.Nodes.{FlatNode}
use Rattle.law_equations.specs.Meaning.Kinding.{Callees}
use Rattle.law_equations.specs.Meaning.Reactions.{Answers}
use Rattle.law_equations.specs.Made.Types.{obc_types, obc_types_of}
use Rattle.hp_complete.specs.Declaring.{known_of}
use Rattle.hp_complete.specs.Made.{AreMadeOf}
use Rattle.law_wellmade.specs.Spelled.Integers.{NodeShort}
use Rattle.law_choices.specs.OnClocks.Meaning.{AreInTurn, HasOneMeaning}
use Rattle.law_choices.specs.OnClocks.WellMade.{callees_of}
use Rattle.law_choices.specs.Choosing.Choices.{Choices}
use Rattle.law_choices.specs.Choosing.Meaning.{GivesAnswers}
use Rattle.law_choices.specs.Choosing.Programs.{controls_in}
use Rattle.law_choices.specs.Runs.Laws.{ChoosesValues}
use Rattle.law_choices.specs.Streams.Streams.{AnswersReactions}
use Rattle.law_choices.specs.Answered.Loops.{Loop, AreTheirChoices, plants, HaveClosed, AreClosed}

-- Values of the types of its controllable variables are chosen at each node, and over all inputs of the kinds each node answers with the outputs of the program's one reaction in which
-- these variables have the chosen values, in each instant and in each instance at every depth.
pub record AreAllowed (after : List Item) (choices : Choices) (answers : Answers) : Type 0 where
  pub values : EachNode (ChoosesValues (types_of after) choices) after
  pub reactions : AnswersReactions choices after answers

-- whatever inputs a node has, values of the kinds of its controllable variables are chosen
abbrev pub AlwaysOfKinds : List Item → Choices → Type 0
AlwaysOfKinds after choices = (f : List ℕ) (args : List Value) (earlier : List (List Value)) → AreOfKinds (controls_in after f) (choices f args earlier)

-- So it is of whatever the clocked equations of a ready program answer under a choice.
abbrev pub AllowedLaw : Type 0
AllowedLaw =
    (program after : List Item) (ranks : List (List ℕ)) → IsReady program after → IsRemovable after → AllFall after ranks → TypesForm (obc_types_of program) → EachNode NodeShort after
    → (fs : List FlatNode) → AreMadeOf (known_of (lowered_program after)) (lowered_program after) fs → (choices : Choices) → AlwaysOfKinds after choices
    → (answers : Answers) → AllByRecursion (GivesAnswers choices answers (callees_of after).takes) fs → AreAllowed after choices answers

-- The answers are allowed, and what is chosen are the values that the controllable variables have in the closed nodes: values of their kinds, under which the plants give these answers.
pub record AnswersAllowed (after : List Item) (answers : Answers) (ls : List Loop) : Type 0 where
  pub choices : Choices
  pub typed : AlwaysOfKinds after choices
  pub gives : AllByRecursion (GivesAnswers choices answers (callees_of after).takes) (plants ls)
  pub theirs : AreTheirChoices answers (callees_of after).takes (controls_in after) choices ls
  pub allowed : AreAllowed after choices answers

-- Where the clocked equations of a ready program are plants, it is so of the one meaning of nodes in turn that have the closed node of each.
abbrev pub ClosedProgramLaw : Type 0
ClosedProgramLaw =
    (program after : List Item) (ranks : List (List ℕ)) → IsReady program after → IsRemovable after → AllFall after ranks → TypesForm (obc_types_of program) → EachNode NodeShort after
    → (ls : List Loop) → AreMadeOf (known_of (lowered_program after)) (lowered_program after) (plants ls) → (all : Callees) (ns : List FlatNode) → AreInTurn (obc_types (types_of after)) all [] ns → HaveClosed ns ls
    → (one : HasOneMeaning all ns) → AreClosed one.answers (controls_in after) ls → AnswersAllowed after one.answers ls

-- So it is of the program of a text that the judgements accept, whose points have ranks.
abbrev pub ClosedTextLaw : Type 0
ClosedTextLaw =
    (text : List ℕ) (tokens : List Token) (program after : List Item) (ranks : List (List ℕ)) → AreTokensOf text tokens → IsProgram (lexemes text tokens) program
    → WellNamed program → WellTyped program → WellDefined program → IsFormed program → IsInitialised (replaced program) → AreWritten IsClocked (replaced program) after → AllFall after ranks
    → (ls : List Loop) → AreMadeOf (known_of (lowered_program after)) (lowered_program after) (plants ls) → (all : Callees) (ns : List FlatNode) → AreInTurn (obc_types (types_of after)) all [] ns → HaveClosed ns ls
    → (one : HasOneMeaning all ns) → AreClosed one.answers (controls_in after) ls → AnswersAllowed after one.answers ls
