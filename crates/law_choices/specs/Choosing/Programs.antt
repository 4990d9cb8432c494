-- What the clocked equations of a program mean, with chosen values for the controllable variables of each node: there is one meaning under each choice.
-- Source: own.
use Rattle.std.specs.Prelude.{ℕ, List, [], Option, None, Some}
use Rattle.hp_base.specs.Kinds.{KindData}
use Rattle.hp_lexer.specs.Lexing.{AreTokensOf}
use Rattle.hp_lexer.specs.declared.token.Token.{Token}
use Rattle.hp_parser.specs.Lexemes.{lexemes}
use Rattle.hp_parser.specs.Programs.{IsProgram}
use Rattle.hp_obc.specs.Form.{TypesForm}
use Rattle.hp_obc.specs.Steps.{Names}
use Rattle.hp_tree.specs.Blocks.{Decl}
use Rattle.hp_tree.specs.Programs.{Node}
use Rattle.hp_tree.specs.declared.program.Item.{Item}
use Rattle.hp_tree.specs.Meaning.{types_of, controls_of}
use Rattle.hp_names.specs.Rules.{WellNamed}
use Rattle.hp_typing.specs.Rules.{WellTyped}
use Rattle.hp_typing.specs.DefinitionRules.{WellDefined}
use Rattle.hp_init.specs.Initialised.{IsInitialised}
use Rattle.hp_clocks.specs.Writing.{AreWritten}
use Rattle.hp_clocks.specs.Answers.{IsClocked}
use Rattle.hp_expand.specs.Refusals.{IsFormed}
use Rattle.hp_expand.specs.Numbering.{replaced}
use Rattle.law_judged.specs.Named.Scoped.{EachNode}
use Rattle.law_values.specs.Accepted.Laws.{IsReady}
use Rattle.hp_automata.specs.Lowering.{lowered_program}
use Rattle.law_automata.specs.Lowered.Removable.{IsRemovable}
use Rattle.hp_flat.specs.Nodes.{FlatNode}
use Rattle.law_equations.specs.Made.Types.{obc_types, obc_types_of}
use Rattle.hp_complete.specs.Declaring.{known_of}
use Rattle.hp_complete.specs.Made.{AreMadeOf}
use Rattle.law_wellmade.specs.Spelled.Integers.{NodeShort}
use Rattle.law_wellmade.specs.Regular.Kinds.{kinds_of_decls}
use Rattle.law_choices.specs.OnClocks.WellMade.{callees_of}
use Rattle.law_choices.specs.Choosing.Choices.{Choices, ChoicesOfKinds}
use Rattle.law_choices.specs.Choosing.Meaning.{HasOneMeaningUnder}

-- the controllable variables of a node; none where there is no node
abbrev pub steered_by : Option Node → List Decl
steered_by None = []
steered_by (Some n) = controls_of n.contract

-- the kinds of the controllable variables of the nodes of a program
abbrev pub controls_in : List Item → Names (List KindData)
controls_in after f = let k = known_of (lowered_program after) in kinds_of_decls (obc_types (types_of after)) k (steered_by (k.nodes f))

-- values of these kinds are chosen, on inputs of the kinds of each node
abbrev pub AreChoices : List Item → Choices → Type 0
AreChoices after choices = ChoicesOfKinds choices (callees_of after) (controls_in after)

-- The nodes that are made of a ready program without its automata have one meaning under each choice, where the integers that it writes are of 32 bits.
abbrev pub ReadyLaw : Type 0
ReadyLaw =
    (program after : List Item) → IsReady program after → IsRemovable after → TypesForm (obc_types_of program) → EachNode NodeShort after → (choices : Choices) → AreChoices after choices
    → (fs : List FlatNode) → AreMadeOf (known_of (lowered_program after)) (lowered_program after) fs → HasOneMeaningUnder choices (callees_of after) fs

-- So have those of the program of a text that the judgements accept: its inlined calls are replaced, and its clocks are written.
abbrev pub TextLaw : Type 0
TextLaw =
    (text : List ℕ) (tokens : List Token) (program after : List Item) → AreTokensOf text tokens → IsProgram (lexemes text tokens) program
    → WellNamed program → WellTyped program → WellDefined program → IsFormed program → IsInitialised (replaced program) → AreWritten IsClocked (replaced program) after → (choices : Choices) → AreChoices after choices
    → (fs : List FlatNode) → AreMadeOf (known_of (lowered_program after)) (lowered_program after) fs → HasOneMeaningUnder choices (callees_of after) fs
