-- What is proved of names: those that become names of machines and of their variables are spelled as machine texts ask for it.
use Rattle.std.specs.Prelude.{ℕ, ◌≤◌, ◌^◌, List, length}
use Rattle.std.specs.List.{AllByRecursion}
use Rattle.hp_lexer.specs.Lexing.{AreTokensOf}
use Rattle.hp_lexer.specs.declared.token.Token.{Token}
use Rattle.hp_parser.specs.Lexemes.{lexemes}
use Rattle.hp_parser.specs.Programs.{IsProgram}
use Rattle.hp_tree.specs.declared.program.Item.{Item}
use Rattle.hp_tree.specs.Programs.{Node}
use Rattle.hp_names.specs.Rules.{WellNamed}
use Rattle.law_judged.specs.Named.Scoped.{EachNode}
use Rattle.hp_expand.specs.Numbering.{replaced}
use Rattle.hp_clocks.specs.Writing.{AreWritten}
use Rattle.hp_clocks.specs.Answers.{IsClocked}
use Rattle.hp_automata.specs.Lowering.{lowered_program}
use Rattle.hp_obc.specs.Form.{TypesForm}
use Rattle.law_equations.specs.Followed.Premises.{names}
use Rattle.law_equations.specs.Made.Making.{Known, outputs_of, sketch_node}
use Rattle.law_equations.specs.Made.Types.{obc_types_of}
use Rattle.hp_complete.specs.Declaring.{known_of}
use Rattle.law_wellmade.specs.Lettered.Names.{DeclsSpelled, NodeSpelled, IsName, IsSourceName}

-- The names that nodes of a text declare or define, and their own, are names of a text.
abbrev pub TextNamesLaw : Type 0
TextNamesLaw = (text : List ℕ) (tokens : List Token) (program : List Item) → AreTokensOf text tokens → IsProgram (lexemes text tokens) program → EachNode (NodeSpelled IsSourceName) program

-- They may be names of machines. So they do where inlined calls are replaced, whose variables have new names,
abbrev pub ReplacedNamesLaw : Type 0
ReplacedNamesLaw = (program : List Item) → EachNode (NodeSpelled IsName) program → EachNode (NodeSpelled IsName) (replaced program)

-- where clocks are written,
abbrev pub ClockedNamesLaw : Type 0
ClockedNamesLaw = (before after : List Item) → AreWritten IsClocked before after → EachNode (NodeSpelled IsName) before → EachNode (NodeSpelled IsName) after

-- and where automata are removed, which have words of their own.
abbrev pub LoweredNamesLaw : Type 0
LoweredNamesLaw = (after : List Item) → EachNode (NodeSpelled IsName) after → EachNode (NodeSpelled IsName) (lowered_program after)

-- The outputs of the nodes that are known are names.
abbrev pub KnownSpelled : Known → Type 0
KnownSpelled k = (f : List ℕ) → DeclsSpelled IsName (outputs_of (k.nodes f))

-- The variables that are made of a node have such names, where they are no more than a machine's words tell apart.
abbrev pub VariablesNamed : Known → Node → Type 0
VariablesNamed k n = length (sketch_node k n).variables ≤ 2 ^ 64 → AllByRecursion IsName (names (sketch_node k n).variables)

abbrev pub MadeNamesLaw : Type 0
MadeNamesLaw = (k : Known) → KnownSpelled k → (n : Node) → NodeSpelled IsName n → VariablesNamed k n

-- a node that has such a name, and whose variables have
abbrev pub NodeLettered : Known → Node → Type 0
NodeLettered k n = IsName n.name × VariablesNamed k n

-- So it is for each node of the program of a text, with its inlined calls replaced, its clocks written and its automata removed.
abbrev pub MachineNamesLaw : Type 0
MachineNamesLaw =
    (text : List ℕ) (tokens : List Token) (program after : List Item) → AreTokensOf text tokens → IsProgram (lexemes text tokens) program → AreWritten IsClocked (replaced program) after
    → EachNode (NodeLettered (known_of (lowered_program after))) (lowered_program after)

-- And its types, which are still those of the text, have the form of types of machines.
abbrev pub MachineTypesLaw : Type 0
MachineTypesLaw =
    (text : List ℕ) (tokens : List Token) (program after : List Item) → AreTokensOf text tokens → IsProgram (lexemes text tokens) program → WellNamed program
    → AreWritten IsClocked (replaced program) after → TypesForm (obc_types_of (lowered_program after))
