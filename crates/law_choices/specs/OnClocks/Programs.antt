-- What the clocked equations of a program mean: there is one meaning.
-- Source: own.
use Rattle.std.specs.Prelude.{◌≡◌, ℕ, List, reverse, Some}
use Rattle.std.specs.List.{AllByRecursion}
use Rattle.hp_base.specs.Kinds.{AreOfKinds}
use Rattle.hp_base.specs.declared.value.Value.{Value}
use Rattle.hp_lexer.specs.Lexing.{AreTokensOf}
use Rattle.hp_lexer.specs.declared.token.Token.{Token}
use Rattle.hp_parser.specs.Lexemes.{lexemes}
use Rattle.hp_parser.specs.Programs.{IsProgram}
use Rattle.hp_obc.specs.Form.{TypesForm}
use Rattle.hp_obc.specs.Machines.{Obc}
use Rattle.hp_tree.specs.declared.program.Item.{Item}
use Rattle.hp_tree.specs.Meaning.{types_of, node_among}
use Rattle.hp_tree.specs.Programs.{Node}
use Rattle.hp_tree.specs.Reaction.{IsRun}
use Rattle.hp_meaning.specs.Causal.RanksOfPoints.{AllFall}
use Rattle.hp_meaning.specs.Causal.Runs.{NoControls}
use Rattle.hp_names.specs.Rules.{WellNamed}
use Rattle.hp_typing.specs.Rules.{WellTyped}
use Rattle.hp_typing.specs.DefinitionRules.{WellDefined}
use Rattle.hp_init.specs.Initialised.{IsInitialised}
use Rattle.hp_clocks.specs.Writing.{AreWritten}
use Rattle.hp_clocks.specs.Answers.{IsClocked}
use Rattle.hp_expand.specs.Refusals.{IsFormed}
use Rattle.hp_expand.specs.Numbering.{replaced}
use Rattle.law_judged.specs.Named.Scoped.{EachNode}
use Rattle.law_values.specs.Accepted.Laws.{IsReady}
use Rattle.hp_automata.specs.Lowering.{lowered_program}
use Rattle.law_automata.specs.Lowered.Removable.{IsRemovable}
use Rattle.hp_flat.specs.Nodes.{FlatNode}
use Rattle.law_equations.specs.Meaning.Reactions.{Answers}
use Rattle.law_equations.specs.Followed.Programs.{all_answers}
use Rattle.law_wellmade.specs.Timely.Kinds.{kinds_of_decls}
use Rattle.hp_machines.specs.Machined.{AreMachinesOf}
use Rattle.law_equations.specs.Made.Types.{obc_types_of}
use Rattle.hp_complete.specs.Declaring.{known_of}
use Rattle.hp_complete.specs.Made.{AreMadeOf}
use Rattle.law_wellmade.specs.Spelled.Integers.{NodeShort}
use Rattle.law_choices.specs.OnClocks.Meaning.{HasOneMeaning}
use Rattle.law_choices.specs.OnClocks.WellMade.{callees_of}

-- The nodes that are made of a ready program without its automata have one meaning, where none has a controllable variable and the integers that it writes are of 32 bits.
abbrev pub ReadyLaw : Type 0
ReadyLaw =
    (program after : List Item) → IsReady program after → IsRemovable after → TypesForm (obc_types_of program) → EachNode NodeShort after → NoControls after
    → (fs : List FlatNode) → AreMadeOf (known_of (lowered_program after)) (lowered_program after) fs → HasOneMeaning (callees_of after) fs

-- So have those of the program of a text that the judgements accept, which has no controllable variable: its inlined calls are replaced, and its clocks are written.
abbrev pub TextMeaningLaw : Type 0
TextMeaningLaw =
    (text : List ℕ) (tokens : List Token) (program after : List Item) → AreTokensOf text tokens → IsProgram (lexemes text tokens) program
    → WellNamed program → WellTyped program → WellDefined program → IsFormed program → IsInitialised (replaced program) → AreWritten IsClocked (replaced program) after → NoControls program
    → (fs : List FlatNode) → AreMadeOf (known_of (lowered_program after)) (lowered_program after) fs → HasOneMeaning (callees_of after) fs

-- Over inputs of its kinds, oldest first, each node answers with the outputs of the node's one run.
abbrev pub AnswersRuns : List Item → Answers → Type 0
AnswersRuns program answers =
    (f : List ℕ) (n : Node) (inputs : List (List Value)) → node_among (reverse program) f ≡ Some n → AllByRecursion (AreOfKinds (kinds_of_decls (types_of program) n.inputs)) inputs
    → IsRun program f inputs (reverse (all_answers (answers f) (reverse inputs)))

-- So does the one meaning of the clocked equations that the machines of a program are made of, where the program's points have ranks.
abbrev pub StreamLaw : Type 0
StreamLaw =
    (program after : List Item) (ranks : List (List ℕ)) (o : Obc) → IsReady program after → IsRemovable after → AllFall after ranks → TypesForm (obc_types_of program) → NoControls after
    → (machines : AreMachinesOf after o) (one : HasOneMeaning (callees_of after) machines.nodes) → AnswersRuns after one.answers
