-- Readings of types, contracts and nodes within the limits, as the code has them.
use Rattle.std.specs.Prelude.{ℕ, Bool, ◌||◌, ◌&&◌, not, if◌then◌else◌, List, [], ◌∷◌, Option, Some}
use Rattle.hp_base.specs.declared.limit.What.{What}
use Rattle.hp_base.specs.declared.limit.What.TheVariants.{Types}
use Rattle.hp_lexer.specs.declared.token.Keyword.{Keyword}
use Rattle.hp_lexer.specs.declared.token.Keyword.TheVariants as word
use Rattle.hp_lexer.specs.declared.token.Sign.TheVariants as sign
use Rattle.hp_base.specs.declared.limit.What.TheVariants.{Constructors}
use Rattle.hp_tree.specs.declared.program.Item.{Item}
use Rattle.hp_tree.specs.Expressions.{Expr}
use Rattle.hp_tree.specs.Blocks.{Decl, Block}
use Rattle.hp_tree.specs.Programs.{Contract}
use Rattle.hp_parser.specs.declared.fault.Fault.TheVariants.{Limit}
use Rattle.hp_parser.specs.declared.program.Clauses.{Clauses as FoundClauses}
use Rattle.hp_parser.specs.Lexemes.{Lexeme, is_ahead}
use Rattle.hp_parser.specs.Limits.{has_one}
use Rattle.hp_parser.specs.Outcomes.{refused}
use Rattle.hp_parser.specs.Tokens.{keyword, sign_of, capital}
use Rattle.hp_parser.specs.Grammar.{behind, optional, either}
use Rattle.hp_parser.specs.BlockGrammar.{all_or_none, declarations}
use Rattle.hp_parser.specs.ProgramGrammar.{Clauses, type_declaration, parameters, whole_block, clause, controls, clauses, contract, node}
use Rattle.hp_parser.specs.Reading.{Reader, reading, read_token, read_convert, read_both, read_items}
use Rattle.hp_parser.specs.Nesting.{expression_read, nested, last_if}

abbrev pub type_read : Reader Item
type_read = type_declaration reading (Some 1000) (Some 64) (Some 64) (Some 63)

-- `| A`
abbrev pub next_constructor_read : Reader Lexeme
next_constructor_read = behind reading (sign_of sign.Bar) (read_token capital)

-- one more constructor, where so many may be left
abbrev pub constructor_left : ℕ → Reader Lexeme
constructor_left left ts = if has_one (Some left) then next_constructor_read ts else refused (Limit Constructors) ts

abbrev pub constructors_read : Reader (List Lexeme)
constructors_read = read_convert (λ r. r.0 ∷ r.1) (read_both (read_token capital)
    (read_items Constructors (sign_of sign.Bar) (sign_of sign.Bar) (λ t. 1) (λ count. next_constructor_read) (Some 63) []))

abbrev pub maybe_declarations_read : What → Bool → Reader (List Decl)
maybe_declarations_read what may_last =
    either reading (λ k. Rattle.hp_parser.specs.Tokens.small k || last_if may_last k) (declarations reading what (Some 64) (last_if may_last)) (reading.give [])

abbrev pub parameters_read : What → Bool → Reader (List Decl)
parameters_read what may_last = parameters reading (Some 1000) (Some 64) (Some 64) (Some 63) what (Some 64) (last_if may_last)

abbrev pub block_read : Reader Block
block_read = whole_block reading (Some 1000) (Some 64) (Some 64) (Some 63) expression_read (nested 64)

abbrev pub clause_read : Keyword → Reader Expr
clause_read w = clause reading (Some 1000) (Some 64) (Some 64) (Some 63) expression_read (nested 64) (keyword w)

abbrev pub controls_read : Reader (List Decl)
controls_read = controls reading (Some 1000) (Some 64) (Some 64) (Some 63) expression_read (nested 64)

abbrev pub maybe_controls_read : Reader (List Decl)
maybe_controls_read = read_convert all_or_none (optional reading (keyword word.With) controls_read)

abbrev pub clauses_read : Reader Clauses
clauses_read = clauses reading (Some 1000) (Some 64) (Some 64) (Some 63) expression_read (nested 64)

abbrev pub clauses_seen : FoundClauses → Clauses
clauses_seen c = record { assume = c.assume; enforce = c.enforce; controls = c.controls.items }

abbrev pub maybe_block_read : Reader (Option Block)
maybe_block_read = optional reading (λ k. keyword word.Var k || keyword word.Let k) block_read

abbrev pub contract_read : Reader Contract
contract_read = contract reading (Some 1000) (Some 64) (Some 64) (Some 63) expression_read (nested 64)

abbrev pub node_read : Reader Item
node_read = node reading (Some 1000) (Some 64) (Some 64) (Some 63) expression_read (nested 64)

abbrev pub item_read : Reader Item
item_read = either reading (keyword word.Type) type_read node_read

-- one more item, where so many types may be left
abbrev pub item_left : ℕ → Reader Item
item_left left ts = if is_ahead (keyword word.Type) ts && not (has_one (Some left)) then refused (Limit Types) ts else item_read ts
