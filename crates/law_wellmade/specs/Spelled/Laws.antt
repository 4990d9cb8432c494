-- What the program of a text spells.
use Rattle.std.specs.Prelude.{ℕ, List}
use Rattle.hp_lexer.specs.Lexing.{AreTokensOf}
use Rattle.hp_lexer.specs.declared.token.Token.{Token}
use Rattle.hp_parser.specs.Lexemes.{lexemes}
use Rattle.hp_parser.specs.Programs.{IsProgram}
use Rattle.hp_tree.specs.declared.program.Item.{Item}
use Rattle.hp_names.specs.Rules.{WellNamed}
use Rattle.law_judged.specs.Named.Scoped.{EachNode}
use Rattle.hp_expand.specs.Numbering.{replaced}
use Rattle.hp_obc.specs.Form.{TypesForm}
use Rattle.law_equations.specs.Made.Types.{obc_types_of}
use Rattle.hp_tree.specs.Programs.{Node}
use Rattle.law_wellmade.specs.Spelled.Integers.{ContractShort, InputsShort, NodeShort}

-- The integers that the nodes of a text write are of 32 bits.
abbrev pub TextIntegersLaw : Type 0
TextIntegersLaw = (text : List ℕ) (tokens : List Token) (program : List Item) → AreTokensOf text tokens → IsProgram (lexemes text tokens) program → EachNode NodeShort program

-- So they are where inlined calls are replaced. The inputs of a node become variables then, with their first values, if they had any;
abbrev pub ReplacedIntegersLaw : Type 0
ReplacedIntegersLaw = (program : List Item) → EachNode InputsShort program → EachNode NodeShort program → EachNode NodeShort (replaced program)

-- in a text they have none.
abbrev pub ReplacedTextIntegersLaw : Type 0
ReplacedTextIntegersLaw =
    (text : List ℕ) (tokens : List Token) (program : List Item) → AreTokensOf text tokens → IsProgram (lexemes text tokens) program → EachNode NodeShort (replaced program)

-- So are those of its contracts.
abbrev pub ReplacedContractsLaw : Type 0
ReplacedContractsLaw =
    (text : List ℕ) (tokens : List Token) (program : List Item) → AreTokensOf text tokens → IsProgram (lexemes text tokens) program → EachNode (λ (n : Node). ContractShort n.contract) (replaced program)

-- The types of a text whose names are well used have the form of types of machines: there are 1,000 at most, of 1 to 64 constructors each;
-- their names are names of machine texts and differ, and so do all constructors.
abbrev pub TypesLaw : Type 0
TypesLaw = (text : List ℕ) (tokens : List Token) (program : List Item) → AreTokensOf text tokens → IsProgram (lexemes text tokens) program → WellNamed program → TypesForm (obc_types_of program)
