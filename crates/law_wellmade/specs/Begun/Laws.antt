-- What is proved of the first values of registers.
use Rattle.std.specs.Prelude.{◌≡◌, ℕ, ◌≤◌, false, IsTrue, List, ◌∷◌, ◌++◌, length, reverse}
use Rattle.hp_base.specs.declared.value.Value.{Value}
use Rattle.hp_lexer.specs.Lexing.{AreTokensOf}
use Rattle.hp_lexer.specs.declared.token.Token.{Token}
use Rattle.hp_parser.specs.Lexemes.{lexemes}
use Rattle.hp_parser.specs.Programs.{IsProgram}
use Rattle.hp_tree.specs.declared.program.Item.{Item}
use Rattle.hp_tree.specs.declared.program.Item.TheVariants.{NodeItem}
use Rattle.hp_tree.specs.Programs.{Node}
use Rattle.hp_tree.specs.Instant.{Place}
use Rattle.hp_tree.specs.Meaning.{types_of}
use Rattle.law_values.specs.Accepted.Laws.{IsReady}
use Rattle.law_values.specs.Filled.Firsts.{TypesHaveConstructors}
use Rattle.hp_automata.specs.Lowering.{lowered_program}
use Rattle.law_automata.specs.Lowered.Removable.{IsRemovable}
use Rattle.law_equations.specs.Flattened.Behaves.{EachCallIn}
use Rattle.law_equations.specs.Flattened.Lifted.{in_body}
use Rattle.law_equations.specs.Made.Making.{Known, Body, base_site, unknown, over}
use Rattle.law_equations.specs.Made.Blocks.{ReadyBlock}
use Rattle.law_equations.specs.Made.Laws.{around_body}
use Rattle.hp_complete.specs.Declaring.{known_of}
use Rattle.law_equations.specs.Answered.Answering.{has_node, IsCalled}
use Rattle.law_values.specs.Valued.Values.{GivenFits}

-- The first value of each register of a node is that of the type of its variable, where these values are given.
abbrev pub BodyReady : Known → (Place → Value) → Node → Type 0
BodyReady k fill n = ReadyBlock k fill Body (over (around_body k n).0 unknown) base_site n.body in_body (around_body k n).1

-- What is given to the node of each name fits.
abbrev pub FillsFit : List Item → (List ℕ → Place → Value) → Type 0
FillsFit program fills = (f : List ℕ) → GivenFits (types_of program) false (λ given. given) (reverse program) f (fills f)

-- What is given to the nodes of a program begins their registers: it fits; at each register it is the first value of its type; and each call of a node before is given that of its node.
pub record Begins (program : List Item) (fills : List ℕ → Place → Value) : Type 0 where
  pub fit : FillsFit program fills
  pub ready : (later earlier : List Item) (n : Node) → reverse program ≡ later ++ NodeItem n ∷ earlier → BodyReady (known_of program) (fills n.name) n
  pub called : (later earlier : List Item) (n : Node) → reverse program ≡ later ++ NodeItem n ∷ earlier → EachCallIn (λ f here. IsTrue (has_node earlier f)) n.body in_body → EachCallIn (IsCalled earlier fills (fills n.name)) n.body in_body

-- Each type has a number of its own, as clocked equations have numbers.
abbrev pub HasFewTypes : List Item → Type 0
HasFewTypes program = length (types_of program) ≤ 65535

-- The program of every text has few types.
abbrev pub FewTypesLaw : Type 0
FewTypesLaw = (text : List ℕ) (tokens : List Token) (program : List Item) → AreTokensOf text tokens → IsProgram (lexemes text tokens) program → HasFewTypes program

-- The registers of a ready program without its automata begin.
abbrev pub BegunLaw : Type 0
BegunLaw =
    (program after : List Item) → IsReady program after → IsRemovable after → TypesHaveConstructors (types_of program) → HasFewTypes program
    → (fills : List ℕ → Place → Value) × Begins (lowered_program after) fills
