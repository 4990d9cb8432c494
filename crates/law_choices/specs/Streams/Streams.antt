-- With chosen values, what the clocked equations of a program mean is what the program does.
-- Source: own.
use Rattle.std.specs.Prelude.{◌≡◌, ℕ, List, map, reverse, Some}
use Rattle.std.specs.List.{AllByRecursion}
use Rattle.hp_base.specs.Kinds.{AreOfKinds}
use Rattle.hp_base.specs.declared.value.Value.{Value}
use Rattle.hp_lexer.specs.Lexing.{AreTokensOf}
use Rattle.hp_lexer.specs.declared.token.Token.{Token}
use Rattle.hp_parser.specs.Lexemes.{lexemes}
use Rattle.hp_parser.specs.Programs.{IsProgram}
use Rattle.hp_obc.specs.Form.{TypesForm}
use Rattle.hp_tree.specs.declared.program.Item.{Item}
use Rattle.hp_tree.specs.Programs.{Node}
use Rattle.hp_tree.specs.Meaning.{types_of, node_among}
use Rattle.hp_tree.specs.Reaction.{outputs_at}
use Rattle.hp_meaning.specs.Causal.RanksOfPoints.{AllFall}
use Rattle.hp_names.specs.Rules.{WellNamed}
use Rattle.hp_typing.specs.Rules.{WellTyped}
use Rattle.hp_typing.specs.DefinitionRules.{WellDefined}
use Rattle.hp_init.specs.Initialised.{IsInitialised}
use Rattle.hp_clocks.specs.Writing.{AreWritten}
use Rattle.hp_clocks.specs.Answers.{IsClocked}
use Rattle.hp_expand.specs.Refusals.{IsFormed}
use Rattle.hp_expand.specs.Numbering.{replaced}
use Rattle.law_judged.specs.Named.Scoped.{EachNode}
use Rattle.law_values.specs.Accepted.Laws.{IsReady}
use Rattle.hp_automata.specs.Lowering.{lowered_program}
use Rattle.law_automata.specs.Lowered.Removable.{IsRemovable}
use Rattle.hp_flat.specs.Nodes.{FlatNode}
use Rattle.law_equations.specs.Meaning.Reactions.{Answers}
use Rattle.law_equations.specs.Followed.Programs.{all_answers}
use Rattle.law_equations.specs.Made.Types.{obc_types_of}
use Rattle.hp_complete.specs.Declaring.{known_of}
use Rattle.hp_complete.specs.Made.{AreMadeOf}
use Rattle.law_wellmade.specs.Spelled.Integers.{NodeShort}
use Rattle.law_wellmade.specs.Timely.Kinds.{kinds_of_decls}
use Rattle.law_choices.specs.OnClocks.WellMade.{callees_of}
use Rattle.law_choices.specs.Choosing.Choices.{Choices}
use Rattle.law_choices.specs.Choosing.Meaning.{HasOneMeaningUnder}
use Rattle.law_choices.specs.Choosing.Programs.{AreChoices}
use Rattle.law_choices.specs.Runs.Laws.{ChoosesValues, OneForOne}

-- There is exactly one reaction of a node with the chosen values over inputs, newest first, and its outputs are what is answered on them.
pub record AnswersReaction (choices : Choices) (program : List Item) (answers : Answers) (f : List ℕ) (inputs : List (List Value)) : Type 0 where
  pub one : OneForOne choices program f inputs
  pub outputs : map (outputs_at program f) one.before.past ≡ all_answers (answers f) inputs

-- So it is of each node, over inputs of its kinds.
abbrev pub AnswersReactions : Choices → List Item → Answers → Type 0
AnswersReactions choices program answers =
    (f : List ℕ) (n : Node) (inputs : List (List Value)) → node_among (reverse program) f ≡ Some n → AllByRecursion (AreOfKinds (kinds_of_decls (types_of program) n.inputs)) inputs → AnswersReaction choices program answers f inputs

-- The one meaning of the clocked equations of a ready program under a choice answers with the outputs of the program's one reaction under this choice, where values of the types are chosen.
abbrev pub StreamLaw : Type 0
StreamLaw =
    (program after : List Item) (ranks : List (List ℕ)) → IsReady program after → IsRemovable after → AllFall after ranks → TypesForm (obc_types_of program) → EachNode NodeShort after
    → (choices : Choices) → EachNode (ChoosesValues (types_of after) choices) after → AreChoices after choices
    → (fs : List FlatNode) → AreMadeOf (known_of (lowered_program after)) (lowered_program after) fs → (one : HasOneMeaningUnder choices (callees_of after) fs) → AnswersReactions choices after one.answers

-- So it is of the program of a text that the judgements accept, whose points have ranks: its clocked equations have one meaning under each choice, which answers so.
abbrev pub TextLaw : Type 0
TextLaw =
    (text : List ℕ) (tokens : List Token) (program after : List Item) (ranks : List (List ℕ)) → AreTokensOf text tokens → IsProgram (lexemes text tokens) program
    → WellNamed program → WellTyped program → WellDefined program → IsFormed program → IsInitialised (replaced program) → AreWritten IsClocked (replaced program) after → AllFall after ranks
    → (choices : Choices) → EachNode (ChoosesValues (types_of after) choices) after → AreChoices after choices
    → (fs : List FlatNode) → AreMadeOf (known_of (lowered_program after)) (lowered_program after) fs → (one : HasOneMeaningUnder choices (callees_of after) fs) × AnswersReactions choices after one.answers
