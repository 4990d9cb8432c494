-- The clocked equations that are made of a program are well made, so that each node has exactly one reaction.
-- Source: own.
use Rattle.std.specs.Prelude.{◌≡◌, ℕ, List, [], Option, None, Some}
use Rattle.std.specs.List.{AllByRecursion}
use Rattle.hp_base.specs.declared.value.Value.{Value}
use Rattle.hp_lexer.specs.Lexing.{AreTokensOf}
use Rattle.hp_lexer.specs.declared.token.Token.{Token}
use Rattle.hp_parser.specs.Lexemes.{lexemes}
use Rattle.hp_parser.specs.Programs.{IsProgram}
use Rattle.hp_obc.specs.Form.{TypesForm}
use Rattle.hp_obc.specs.Machines.{ObcType}
use Rattle.hp_tree.specs.Blocks.{Decl}
use Rattle.hp_tree.specs.Programs.{Node}
use Rattle.hp_tree.specs.declared.program.Item.{Item}
use Rattle.hp_tree.specs.Meaning.{types_of}
use Rattle.hp_meaning.specs.Causal.Runs.{NoControls}
use Rattle.hp_names.specs.Rules.{WellNamed}
use Rattle.hp_typing.specs.Rules.{WellTyped}
use Rattle.hp_typing.specs.DefinitionRules.{WellDefined}
use Rattle.hp_init.specs.Initialised.{IsInitialised}
use Rattle.hp_clocks.specs.Writing.{AreWritten}
use Rattle.hp_clocks.specs.Answers.{IsClocked}
use Rattle.hp_expand.specs.Refusals.{IsFormed}
use Rattle.hp_expand.specs.Numbering.{replaced}
use Rattle.law_judged.specs.Named.Scoped.{EachNode}
use Rattle.law_values.specs.Accepted.Laws.{IsReady}
use Rattle.hp_automata.specs.Lowering.{lowered_program}
use Rattle.law_automata.specs.Lowered.Removable.{IsRemovable}
use Rattle.hp_flat.specs.Nodes.{FlatNode}
use Rattle.law_equations.specs.Meaning.Kinding.{Callees, IsWellMade, AnswersOfKinds, AllOfKinds, OneReaction}
use Rattle.law_equations.specs.Meaning.Reactions.{Answers}
use Rattle.law_equations.specs.Made.Making.{Known, outputs_of}
use Rattle.law_equations.specs.Made.Types.{obc_types, obc_types_of}
use Rattle.hp_complete.specs.Declaring.{known_of}
use Rattle.hp_complete.specs.Made.{AreMadeOf}
use Rattle.law_wellmade.specs.Spelled.Integers.{NodeShort}
use Rattle.law_wellmade.specs.Regular.Kinds.{kinds_of_decls, program_callees}

-- what a call gives a node: its inputs; nothing where there is no node
abbrev pub given_to : Option Node → List Decl
given_to None = []
given_to (Some n) = n.inputs

-- the kinds of what calls give the nodes of a program, and of what these give
abbrev pub calls_of : List ObcType → Known → Callees
calls_of types k = record { takes = λ f. kinds_of_decls types k (given_to (k.nodes f)); gives = λ f. kinds_of_decls types k (outputs_of (k.nodes f)) }

abbrev pub callees_of : List Item → Callees
callees_of after = calls_of (obc_types (types_of after)) (known_of (lowered_program after))

-- Where no node has a controllable variable, this is all that nodes take.
abbrev pub CalleesLaw : Type 0
CalleesLaw = (after : List Item) → NoControls after → program_callees (obc_types (types_of after)) (known_of (lowered_program after)) ≡ callees_of after

-- Each node that is made of a ready program without its automata is well made, where the integers that it writes are of 32 bits.
abbrev pub MadeLaw : Type 0
MadeLaw =
    (program after : List Item) → IsReady program after → IsRemovable after → TypesForm (obc_types_of program) → EachNode NodeShort after
    → (fs : List FlatNode) → AreMadeOf (known_of (lowered_program after)) (lowered_program after) fs → AllByRecursion (IsWellMade (obc_types (types_of after)) (callees_of after)) fs

-- So each has exactly one reaction over inputs of its kinds, whatever the nodes that it calls answer of their kinds.
abbrev pub ReactionsLaw : Type 0
ReactionsLaw =
    (program after : List Item) → IsReady program after → IsRemovable after → TypesForm (obc_types_of program) → EachNode NodeShort after
    → (fs : List FlatNode) → AreMadeOf (known_of (lowered_program after)) (lowered_program after) fs → (answers : Answers) → AnswersOfKinds answers (callees_of after)
    → AllByRecursion (λ (f : FlatNode). (inputs : List (List Value)) → AllOfKinds (obc_types (types_of after)) f inputs → OneReaction (obc_types (types_of after)) (callees_of after) answers f inputs) fs

-- So the nodes are well made of the program of a text that the judgements accept: its inlined calls are replaced, and its clocks are written.
abbrev pub TextLaw : Type 0
TextLaw =
    (text : List ℕ) (tokens : List Token) (program after : List Item) → AreTokensOf text tokens → IsProgram (lexemes text tokens) program
    → WellNamed program → WellTyped program → WellDefined program → IsFormed program → IsInitialised (replaced program) → AreWritten IsClocked (replaced program) after
    → (fs : List FlatNode) → AreMadeOf (known_of (lowered_program after)) (lowered_program after) fs → AllByRecursion (IsWellMade (obc_types (types_of after)) (callees_of after)) fs
