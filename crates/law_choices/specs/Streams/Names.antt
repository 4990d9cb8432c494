-- With chosen values, the names of a node's body have their values in the clocked equations of the node, as these mean one thing.
-- Source: own.
use Rattle.std.specs.Prelude.{◌≡◌, ⊤, ℕ, true, List, [], ◌∷◌, reverse, Option, Some}
use Rattle.std.specs.List.{AllByRecursion}
use Rattle.hp_base.specs.Kinds.{AreOfKinds}
use Rattle.hp_base.specs.declared.value.Value.{Value}
use Rattle.hp_lexer.specs.Lexing.{AreTokensOf}
use Rattle.hp_lexer.specs.declared.token.Token.{Token}
use Rattle.hp_parser.specs.Lexemes.{lexemes}
use Rattle.hp_parser.specs.Programs.{IsProgram}
use Rattle.hp_obc.specs.Form.{TypesForm}
use Rattle.hp_tree.specs.declared.program.Item.{Item}
use Rattle.hp_tree.specs.Programs.{Node}
use Rattle.hp_tree.specs.Instant.{Past}
use Rattle.hp_tree.specs.Meaning.{types_of, node_among}
use Rattle.hp_meaning.specs.Causal.RanksOfPoints.{AllFall}
use Rattle.hp_names.specs.Rules.{WellNamed}
use Rattle.hp_typing.specs.Rules.{WellTyped}
use Rattle.hp_typing.specs.DefinitionRules.{WellDefined}
use Rattle.hp_init.specs.Initialised.{IsInitialised}
use Rattle.hp_clocks.specs.Writing.{AreWritten}
use Rattle.hp_clocks.specs.Answers.{IsClocked}
use Rattle.hp_expand.specs.Refusals.{IsFormed}
use Rattle.hp_expand.specs.Numbering.{replaced}
use Rattle.law_judged.specs.Named.Scoped.{EachNode}
use Rattle.law_values.specs.Accepted.Laws.{IsReady}
use Rattle.law_values.specs.Filled.Under.{Under}
use Rattle.hp_automata.specs.Lowering.{enumerations, lowered_node, lowered_program}
use Rattle.law_automata.specs.Lowered.Removable.{IsRemovable}
use Rattle.hp_flat.specs.Nodes.{FlatNode}
use Rattle.law_equations.specs.Meaning.Instants.{Instant}
use Rattle.law_equations.specs.Meaning.Reactions.{Answers}
use Rattle.law_equations.specs.Made.Types.{obc_types_of}
use Rattle.hp_complete.specs.Declaring.{known_of}
use Rattle.hp_complete.specs.Made.{AreMadeOf}
use Rattle.law_wellmade.specs.Spelled.Integers.{NodeShort}
use Rattle.law_wellmade.specs.Timely.Kinds.{kinds_of_decls}
use Rattle.law_choices.specs.OnClocks.WellMade.{callees_of}
use Rattle.law_choices.specs.Choosing.Choices.{Choices, ReactionUnder}
use Rattle.law_choices.specs.Choosing.Meaning.{HasOneMeaningUnder}
use Rattle.law_choices.specs.Choosing.Programs.{AreChoices}
use Rattle.law_choices.specs.Runs.Laws.{ChoosesValues}
use Rattle.law_choices.specs.Flat.Names.{is_body_name, variable_of, values_of, values_at}
use Rattle.law_choices.specs.Streams.Streams.{AnswersReaction}

-- as many values, which are the same wherever the former are not Nil
abbrev pub AreUnder : List Value → List Value → Type 0
AreUnder [] [] = ⊤
AreUnder (v ∷ vs) (w ∷ ws) = Under v w × AreUnder vs ws
AreUnder vs ws = ⊥

-- Instants are the one reaction of clocked equations with the chosen values over inputs, newest first.
pub record IsOnlyReaction (choices : Choices) (answers : Answers) (flat : FlatNode) (inputs : List (List Value)) (instants : List Instant) : Type 0 where
  pub reaction : ReactionUnder choices answers flat inputs instants
  pub only : (others : List Instant) → ReactionUnder choices answers flat inputs others → others ≡ instants

-- the variable of a name of a node, in the clocked equations that are made of it without its automata
abbrev pub variable_in : List Item → Node → List ℕ → Option ℕ
variable_in program n x = variable_of (known_of (lowered_program program)) (lowered_node (enumerations [] program) n) x

-- A name has a variable, which has the value of the name wherever that is not Nil.
pub record HasVariableUnder (program : List Item) (n : Node) (past : Past) (instants : List Instant) (x : List ℕ) : Type 0 where
  pub variable : ℕ
  pub is_its : variable_in program n x ≡ Some variable
  pub under : AreUnder (values_of x past) (values_at variable instants)

-- There is exactly one reaction of a node with the chosen values over inputs, newest first, and exactly one of its clocked equations over what is answered. The outputs of the former are the answers;
-- and each name of the body, an output or a local one, has a variable in the latter.
pub record KeepsNames (choices : Choices) (program : List Item) (answers : Answers) (n : Node) (flat : FlatNode) (inputs : List (List Value)) : Type 0 where
  pub answered : AnswersReaction choices program answers flat.name inputs
  pub instants : List Instant
  pub is_only : IsOnlyReaction choices answers flat inputs instants
  pub names : (x : List ℕ) → is_body_name n x ≡ true → HasVariableUnder program n answered.one.before.past instants x

-- So it is of each node, over inputs of its kinds.
abbrev pub KeepsNamesOf : Choices → List Item → Answers → FlatNode → Type 0
KeepsNamesOf choices program answers flat =
    (n : Node) (inputs : List (List Value)) → node_among (reverse program) flat.name ≡ Some n → AllByRecursion (AreOfKinds (kinds_of_decls (types_of program) n.inputs)) inputs → KeepsNames choices program answers n flat inputs

abbrev pub AllKeepNames : Choices → List Item → Answers → List FlatNode → Type 0
AllKeepNames choices program answers fs = AllByRecursion (KeepsNamesOf choices program answers) fs

-- In the one meaning of the clocked equations of a ready program under a choice the names of each node have their values, where values of the types are chosen.
abbrev pub NamesLaw : Type 0
NamesLaw =
    (program after : List Item) (ranks : List (List ℕ)) → IsReady program after → IsRemovable after → AllFall after ranks → TypesForm (obc_types_of program) → EachNode NodeShort after
    → (choices : Choices) → EachNode (ChoosesValues (types_of after) choices) after → AreChoices after choices
    → (fs : List FlatNode) → AreMadeOf (known_of (lowered_program after)) (lowered_program after) fs → (one : HasOneMeaningUnder choices (callees_of after) fs) → AllKeepNames choices after one.answers fs

-- So it is of the program of a text that the judgements accept, whose points have ranks.
abbrev pub TextNamesLaw : Type 0
TextNamesLaw =
    (text : List ℕ) (tokens : List Token) (program after : List Item) (ranks : List (List ℕ)) → AreTokensOf text tokens → IsProgram (lexemes text tokens) program
    → WellNamed program → WellTyped program → WellDefined program → IsFormed program → IsInitialised (replaced program) → AreWritten IsClocked (replaced program) after → AllFall after ranks
    → (choices : Choices) → EachNode (ChoosesValues (types_of after) choices) after → AreChoices after choices
    → (fs : List FlatNode) → AreMadeOf (known_of (lowered_program after)) (lowered_program after) fs → (one : HasOneMeaningUnder choices (callees_of after) fs) × AllKeepNames choices after one.answers fs
