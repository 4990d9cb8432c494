-- What the program of a text has: plain names, parts in each `merge`, and fewer than a million inlined calls in each node.
use Rattle.std.specs.Prelude.{ℕ, ◌<◌, List}
use Rattle.hp_lexer.specs.Lexing.{AreTokensOf}
use Rattle.hp_lexer.specs.declared.token.Token.{Token}
use Rattle.hp_parser.specs.Lexemes.{lexemes}
use Rattle.hp_parser.specs.Programs.{IsProgram}
use Rattle.hp_tree.specs.declared.program.Item.{Item}
use Rattle.hp_print.specs.ReadBack.{IsOfText}
use Rattle.hp_names.specs.Rules.{WellNamed}
use Rattle.hp_typing.specs.Rules.{WellTyped}
use Rattle.hp_typing.specs.DefinitionRules.{WellDefined}
use Rattle.hp_meaning.specs.Causal.Points.{NamesDeclared}
use Rattle.hp_meaning.specs.Clocking.Clocking.{NodeNamed}
use Rattle.hp_expand.specs.Formed.{KeepsLimits}
use Rattle.hp_expand.specs.Numbering.{replaced}
use Rattle.law_judged.specs.Typed.Merges.{MergesHaveParts}
use Rattle.law_judged.specs.Named.Scoped.{NodeScoped, EachNode}
use Rattle.law_judged.specs.Replaced.Fitting.{IsPlain, NodeNames}
use Rattle.law_judged.specs.Replaced.Inlined.{in_node}

-- The names that the program of a text declares are spelled by letters, digits and `_`, and have at most 255 bytes.
abbrev pub PlainNamesLaw : Type 0
PlainNamesLaw = (program : List Item) → IsOfText program → EachNode (NodeNames IsPlain) program

-- Each `merge` of the program that a text's tokens have is one of some parts.
abbrev pub MergesLaw : Type 0
MergesLaw = (text : List ℕ) (tokens : List Token) (program : List Item) → AreTokensOf text tokens → IsProgram (lexemes text tokens) program → MergesHaveParts program

-- The program that a text's tokens have is that of the text.
abbrev pub OfTextLaw : Type 0
OfTextLaw = (text : List ℕ) (tokens : List Token) (program : List Item) → AreTokensOf text tokens → IsProgram (lexemes text tokens) program → IsOfText program

-- No node of the program of a text has a million inlined calls. A text has at most 1,048,576 bytes; each token of it has one, and each
-- inlined call has two tokens of its own at least, the word `inlined` and a name.
abbrev pub FewCallsLaw : Type 0
FewCallsLaw =
    (text : List ℕ) (tokens : List Token) (program : List Item) → AreTokensOf text tokens → IsProgram (lexemes text tokens) program → EachNode (λ n. in_node n < 1000000) program

-- So in the program of a text that the judgements accept, with its inlined calls replaced, names are in their scopes, each local is
-- declared once and has an equation, and what control equations define is declared.
abbrev pub ReplacedTextLaw : Type 0
ReplacedTextLaw =
    (text : List ℕ) (tokens : List Token) (program : List Item) → AreTokensOf text tokens → IsProgram (lexemes text tokens) program
    → WellNamed program → WellTyped program → WellDefined program → KeepsLimits program
    → EachNode (λ n. NodeScoped n × NodeNamed n × NamesDeclared n) (replaced program)
