-- The grammar of types, contracts, nodes and programs.
use Rattle.std.specs.Prelude.{ℕ, false, ◌||◌, List, [], ◌∷◌, map, Option, None, Some}
use Rattle.hp_base.specs.declared.limit.What.{What}
use Rattle.hp_base.specs.declared.limit.What.TheVariants.{Inputs, Outputs, Constructors, Types}
use Rattle.hp_lexer.specs.declared.token.Keyword.TheVariants as word
use Rattle.hp_lexer.specs.declared.token.Sign.TheVariants as sign
use Rattle.hp_tree.specs.declared.program.Item.{Item}
use Rattle.hp_tree.specs.declared.program.Item.TheVariants.{TypeItem, NodeItem}
use Rattle.hp_tree.specs.Expressions.{Expr}
use Rattle.hp_tree.specs.Blocks.{Decl, Block, block, no_eqn, Eqn}
use Rattle.hp_tree.specs.Programs.{Contract}
use Rattle.hp_parser.specs.Lexemes.{Lexeme, Kinds}
use Rattle.hp_parser.specs.Notation.{Notation, Measured}
use Rattle.hp_parser.specs.declared.mode.Mode.{Mode}
use Rattle.hp_parser.specs.declared.mode.Mode.TheVariants.{Whole}
use Rattle.hp_parser.specs.Tokens.{keyword, sign_of, small, capital, begins_item}
use Rattle.hp_parser.specs.Grammar.{behind, before, optional, either}
use Rattle.hp_parser.specs.BlockGrammar.{all_or_none, block_of, declarations, variables}

-- what a contract assumes and enforces, and its controllable variables
pub record Clauses : Type 0 where
  pub assume : Option Expr
  pub enforce : Option Expr
  pub controls : List Decl

-- how many types an item is
abbrev pub types_in : Item → ℕ
types_in (TypeItem t) = 1
types_in (NodeItem n) = 0

abbrev pub block_or_none : Option Block → Block
block_or_none None = block [] no_eqn
block_or_none (Some b) = b

module _ {ℓ} {F : Type 0 → Type ℓ} (N : Notation F) (types inputs outputs more_constructors : N.Count) where
  -- `type t = A | B`
  abbrev pub type_declaration : F Item
  type_declaration = N.convert (λ r. TypeItem (record { name = r.0.bytes; cons = map (λ (t : Lexeme). t.bytes) r.1; span = r.0.span }))
      (behind N (keyword word.Type) (N.both (N.token small) (behind N (sign_of sign.Equal)
      (N.convert (λ r. r.0 ∷ r.1) (N.both (N.token capital)
      (N.many_within Constructors (sign_of sign.Bar) (sign_of sign.Bar) (λ t. 1) more_constructors (behind N (sign_of sign.Bar) (N.token capital))))))))

  -- declarations in parentheses, where some kinds begin one by itself
  abbrev pub parameters : What → N.Count → Kinds → F (List Decl)
  parameters what left begins = behind N (sign_of sign.Open)
      (before N (either N (λ k. small k || begins k) (declarations N what left begins) (N.give [])) (sign_of sign.Close))

  abbrev pub none : Kinds
  none k = false

  module _ (expression : Mode → F Measured) (equations : F (List Eqn)) where
    -- declarations and equations, these from `let` to `tel`
    abbrev pub whole_block : F Block
    whole_block = N.convert (λ r. block_of r.0 r.1) (N.both (variables N) (behind N (keyword word.Let) (before N equations (keyword word.Tel))))

    abbrev pub clause : Kinds → F Expr
    clause kinds = N.convert (λ (m : Measured). m.expr) (behind N kinds (expression Whole))

    abbrev pub controls : F (List Decl)
    controls = behind N (keyword word.With) (behind N (sign_of sign.Open) (before N (declarations N Inputs N.unlimited none) (sign_of sign.Close)))

    -- at least one clause
    abbrev pub clauses : F Clauses
    clauses =
        either N (keyword word.Assume)
        (N.convert (λ r. record { assume = Some r.0; enforce = r.1.0; controls = all_or_none r.1.1 })
        (N.both (clause (keyword word.Assume)) (N.both (optional N (keyword word.Enforce) (clause (keyword word.Enforce))) (optional N (keyword word.With) controls))))
        (either N (keyword word.Enforce)
        (N.convert (λ r. record { assume = None; enforce = Some r.0; controls = all_or_none r.1 })
        (N.both (clause (keyword word.Enforce)) (optional N (keyword word.With) controls)))
        (N.convert (λ cs. record { assume = None; enforce = None; controls = cs }) controls))

    abbrev pub contract : F Contract
    contract = N.convert (λ r. record { body = block_or_none r.1.0; assume = r.1.1.assume; enforce = r.1.1.enforce; controls = r.1.1.controls; span = r.0.span })
        (N.both (N.token (keyword word.Contract)) (N.both (optional N (λ k. keyword word.Var k || keyword word.Let k) whole_block) clauses))

    abbrev pub node : F Item
    node = N.convert (λ r. NodeItem (record { name = r.0.bytes; span = r.0.span; inputs = r.1.0; outputs = r.1.1.0; contract = r.1.1.1.0; body = r.1.1.1.1 }))
        (behind N (keyword word.Node) (N.both (N.token small) (N.both (parameters Inputs inputs none)
        (N.both (behind N (keyword word.Returns) (parameters Outputs outputs (keyword word.Last)))
        (N.both (optional N (keyword word.Contract) contract) whole_block)))))

    abbrev pub program : F (List Item)
    program = N.many_within Types begins_item (keyword word.Type) types_in types (either N (keyword word.Type) type_declaration node)
