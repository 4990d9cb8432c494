-- Removing automata keeps nodes sound.
use Rattle.std.specs.Prelude.{◌≡◌, ⊤, ℕ, List, [], ◌∷◌, reverse, IsTrue, Option, None}
use Rattle.hp_base.specs.declared.ty.Const.{Const}
use Rattle.hp_lexer.specs.Lexing.{AreTokensOf}
use Rattle.hp_lexer.specs.declared.token.Token.{Token}
use Rattle.hp_parser.specs.Lexemes.{lexemes}
use Rattle.hp_parser.specs.Programs.{IsProgram}
use Rattle.hp_tree.specs.declared.program.Item.{Item}
use Rattle.hp_tree.specs.declared.program.Item.TheVariants.{TypeItem, NodeItem}
use Rattle.hp_tree.specs.Programs.{TypeDecl, Node}
use Rattle.hp_tree.specs.Meaning.{types_of, node_among, controls_of}
use Rattle.hp_base.specs.Known.Known.{lookup}
use Rattle.hp_names.specs.Rules.{WellNamed}
use Rattle.hp_typing.specs.Rules.{WellTyped}
use Rattle.hp_typing.specs.DefinitionRules.{WellDefined}
use Rattle.law_judged.specs.Typed.Scopes.{Scope}
use Rattle.hp_init.specs.Initialised.{IsInitialised}
use Rattle.hp_clocks.specs.Writing.{AreWritten}
use Rattle.hp_clocks.specs.Answers.{IsClocked}
use Rattle.hp_expand.specs.Refusals.{IsFormed}
use Rattle.hp_expand.specs.Numbering.{replaced}
use Rattle.law_judged.specs.Named.Scoped.{NodeScoped, EachNode, also, interface}
use Rattle.law_values.specs.Valued.Judged.{ConstantIs, NodeSound}
use Rattle.law_values.specs.Valued.Values.{scope_behind}
use Rattle.law_values.specs.Accepted.Laws.{IsReady}
use Rattle.hp_automata.specs.Lowering.{Enumerations, enumerations, lowered_node, lowered_program}
use Rattle.law_automata.specs.Lowered.OldNames.{IsOld}
use Rattle.law_automata.specs.Lowered.Removable.{NodeOk, IsRemovable}
use Rattle.law_automata.specs.Readied.Constants.{HasConstant, NodeTypes}
use Rattle.law_automata.specs.Readied.Laws.{IsWhole}

-- No name around the body is a new one.
abbrev pub AroundOld : Node → Type 0
AroundOld n = (x : List ℕ) → IsTrue (also (interface n) (controls_of n.contract) x) → IsOld x

-- What is known outside of nodes is that of the program: constants are of their types, and nodes those declared before.
abbrev pub IsGround : List TypeDecl → (List ℕ → Option Node) → Scope → Type 0
IsGround types among s = ((c : Const) → ConstantIs types s c) × ((f : List ℕ) → lookup s.nodes f ≡ among f)

-- A node that is sound stays so, where the types of its names have constants, and no name around its body is a new one.
abbrev pub SoundLaw : Type 0
SoundLaw =
    (types : List TypeDecl) (among : List ℕ → Option Node) (enums : Enumerations) (s : Scope) (n : Node) → IsGround types among s → ((x : List ℕ) → lookup s.variables x ≡ None)
    → NodeTypes (HasConstant enums s) n → AroundOld n → NodeScoped n → NodeOk n → NodeSound types among s n → NodeSound types among s (lowered_node enums n)

-- ---- programs, of which these are the items with the last one first

-- each node is sound where it stands
abbrev pub SoundBehind : List TypeDecl → List Item → Type 0
SoundBehind types [] = ⊤
SoundBehind types (TypeItem t ∷ earlier) = SoundBehind types earlier
SoundBehind types (NodeItem n ∷ earlier) = NodeSound types (node_among earlier) (scope_behind earlier) n × SoundBehind types earlier

-- the types of its names have constants
abbrev pub ConstantsBehind : Enumerations → List Item → Type 0
ConstantsBehind enums [] = ⊤
ConstantsBehind enums (TypeItem t ∷ earlier) = ConstantsBehind enums earlier
ConstantsBehind enums (NodeItem n ∷ earlier) = NodeTypes (HasConstant enums (scope_behind earlier)) n × ConstantsBehind enums earlier

-- Each enumeration has a constructor, as the grammar wants.
abbrev pub HasOne : List (List ℕ) → Type 0
HasOne [] = ⊥
HasOne (c ∷ cs) = ⊤

abbrev pub HaveConstructors : List Item → Type 0
HaveConstructors [] = ⊤
HaveConstructors (TypeItem t ∷ items) = HasOne t.cons × HaveConstructors items
HaveConstructors (NodeItem n ∷ items) = HaveConstructors items

-- So the types of the names of a ready program have constants.
abbrev pub ReadyConstantsLaw : Type 0
ReadyConstantsLaw = (program after : List Item) → IsReady program after → HaveConstructors program → ConstantsBehind (enumerations [] after) (reverse after)

-- A ready program is sound without its automata.
abbrev pub ReadySoundLaw : Type 0
ReadySoundLaw = (program after : List Item) → IsReady program after → IsRemovable after → HaveConstructors program → SoundBehind (types_of after) (reverse (lowered_program after))

-- So the program of a text that the judgements accept, and that is arranged, is sound without its automata, and its nodes are whole.
abbrev pub TextLaw : Type 0
TextLaw =
    (text : List ℕ) (tokens : List Token) (program after : List Item) → AreTokensOf text tokens → IsProgram (lexemes text tokens) program
    → WellNamed program → WellTyped program → WellDefined program → IsFormed program → IsInitialised (replaced program) → AreWritten IsClocked (replaced program) after
    → SoundBehind (types_of after) (reverse (lowered_program after)) × EachNode IsWhole (lowered_program after)
