-- The tokens of types, contracts, nodes and programs.
use Rattle.std.specs.Prelude.{ℕ, Bool, true, false, if◌then◌else◌, List, [], ◌∷◌, ◌++◌, map, Option, None, Some}
use Rattle.hp_lexer.specs.Written.{Written, written_text}
use Rattle.hp_lexer.specs.declared.token.Keyword.{Keyword}
use Rattle.hp_lexer.specs.declared.token.Keyword.TheVariants as key
use Rattle.hp_lexer.specs.declared.token.Sign.TheVariants as mark
use Rattle.hp_print.specs.Tokens.{word, sign, small, capital, joined_by}
use Rattle.hp_print.specs.ExpressionTokens.{expression_tokens}
use Rattle.hp_print.specs.BlockTokens.{parameters_tokens, variables_tokens, equations_tokens}
use Rattle.hp_tree.specs.Expressions.{Expr}
use Rattle.hp_tree.specs.Blocks.{Decl, Block, block, no_eqn, more_eqns}
use Rattle.hp_tree.specs.Programs.{TypeDecl, Contract, Node}
use Rattle.hp_tree.specs.declared.program.Item.{Item}
use Rattle.hp_tree.specs.declared.program.Item.TheVariants.{TypeItem, NodeItem}

abbrev pub constructor_tokens : List ℕ → List Written
constructor_tokens x = capital x ∷ []

abbrev pub type_tokens : TypeDecl → List Written
type_tokens t = word key.Type ∷ (small t.name ∷ (sign mark.Equal ∷ joined_by (sign mark.Bar) (map constructor_tokens t.cons)))

-- the block of a node
abbrev pub whole_block_tokens : Block → List Written
whole_block_tokens (block ds es) = variables_tokens ds ++ (word key.Let ∷ (equations_tokens es ++ (word key.Tel ∷ [])))

-- The block has no declarations and no equations.
abbrev pub is_empty_block : Block → Bool
is_empty_block (block [] no_eqn) = true
is_empty_block (block [] (more_eqns e es)) = false
is_empty_block (block (d ∷ ds) es) = false

-- the block of a contract, which is left out where it is empty
abbrev pub contract_block_tokens : Block → List Written
contract_block_tokens b = if is_empty_block b then [] else whole_block_tokens b

abbrev pub clause_tokens : Keyword → Option Expr → List Written
clause_tokens k None = []
clause_tokens k (Some e) = word k ∷ expression_tokens e

abbrev pub controls_tokens : List Decl → List Written
controls_tokens [] = []
controls_tokens (d ∷ ds) = word key.With ∷ parameters_tokens (d ∷ ds)

abbrev pub contract_tokens : Contract → List Written
contract_tokens c =
    word key.Contract ∷ (contract_block_tokens c.body ++ (clause_tokens key.Assume c.assume ++ (clause_tokens key.Enforce c.enforce ++ controls_tokens c.controls)))

abbrev pub node_contract_tokens : Option Contract → List Written
node_contract_tokens None = []
node_contract_tokens (Some c) = contract_tokens c

abbrev pub node_tokens : Node → List Written
node_tokens n =
    word key.Node ∷ (small n.name ∷ (parameters_tokens n.inputs
    ++ (word key.Returns ∷ (parameters_tokens n.outputs ++ (node_contract_tokens n.contract ++ whole_block_tokens n.body)))))

abbrev pub item_tokens : Item → List Written
item_tokens (TypeItem t) = type_tokens t
item_tokens (NodeItem n) = node_tokens n

abbrev pub program_tokens : List Item → List Written
program_tokens [] = []
program_tokens (item ∷ items) = item_tokens item ++ program_tokens items

-- the canonical text of a program
abbrev pub canonical_text : List Item → List ℕ
canonical_text items = written_text (program_tokens items)
