-- Programs: what the tokens of a text stand for.
use Rattle.std.specs.Prelude.{ℕ, zero, suc, ◌+◌, List, [], ◌++◌, Option, None, Some}
use Rattle.hp_base.specs.declared.limit.What.{What}
use Rattle.hp_base.specs.declared.limit.What.TheVariants.{Depth, Nest, Types, Inputs, Outputs, Constructors}
use Rattle.hp_tree.specs.declared.program.Item.{Item}
use Rattle.hp_tree.specs.Expressions.{variable}
use Rattle.hp_tree.specs.Blocks.{Eqn}
use Rattle.hp_parser.specs.Lexemes.{Lexeme}
use Rattle.hp_parser.specs.Notation.{Notation, Measured}
use Rattle.hp_parser.specs.declared.mode.Mode.{Mode}
use Rattle.hp_parser.specs.Tokens.{small}
use Rattle.hp_parser.specs.Grammar.{Levels, levels, of_token}
use Rattle.hp_parser.specs.BlockGrammar.{equations}
use Rattle.hp_parser.specs.ProgramGrammar.{program}
use Rattle.hp_parser.specs.Relation.{Phrase, relation}
use Rattle.hp_parser.specs.Reading.{Reader, reading}

module _ {ℓ} {F : Type 0 → Type ℓ} (N : Notation F) where
  -- a name, the lowest expression
  abbrev pub name : F Measured
  name = N.convert (λ t. of_token t (λ s. variable s t.bytes)) (N.token small)

  abbrev pub lowest : Levels F
  lowest = record { expression = name; delayed = name; implication = name; conjunction = name; comparison = name; sum = name; product = name; unary = name }

  -- expressions of at most n levels, where `depth` limits the levels
  abbrev pub expressions : (ℕ → N.Depth) → Mode → ℕ → Levels F
  expressions depth mode zero = lowest
  expressions depth mode (suc n) = levels N mode (depth (suc n)) (expressions depth mode n)

  -- equations whose blocks are at most n in each other
  abbrev pub blocks : (ℕ → N.Depth) → (Mode → F Measured) → ℕ → F (List Eqn)
  blocks nest expression zero = N.give []
  blocks nest expression (suc n) = equations N expression (nest (suc n)) (blocks nest expression n)

  abbrev pub expression_of : (ℕ → N.Depth) → ℕ → Mode → F Measured
  expression_of depth most mode = (expressions depth mode most).expression

  -- programs with expressions and blocks of at most so many levels, where `depth` and `nest` limit the levels
  abbrev pub programs : (depth nest : ℕ → N.Depth) → (types inputs outputs more_constructors : N.Count) → (most nested : ℕ) → F (List Item)
  programs depth nest types inputs outputs more_constructors most nested =
      program N types inputs outputs more_constructors (expression_of depth most) (blocks nest (expression_of depth most) nested)

abbrev pub no_limit : ℕ → Option ℕ
no_limit n = None

-- the programs within the limits of the language: 200 levels of an expression, 64 blocks in each other, 1,000 types, 64 inputs, outputs and constructors
abbrev pub IsProgram : Phrase (List Item)
IsProgram = programs relation Some Some (Some 1000) (Some 64) (Some 64) (Some 63) 200 64

-- the programs without limits, which have any number of levels more
abbrev pub IsLongProgram : Phrase (List Item)
IsLongProgram ts p = (n : ℕ) × programs relation no_limit no_limit None None None None (201 + n) (65 + n) ts p

-- the programs where this one limit is lifted, and all others are kept
abbrev pub IsLongerProgram : What → Phrase (List Item)
IsLongerProgram Depth ts p = (n : ℕ) × programs relation no_limit Some (Some 1000) (Some 64) (Some 64) (Some 63) (201 + n) 64 ts p
IsLongerProgram Nest ts p = (n : ℕ) × programs relation Some no_limit (Some 1000) (Some 64) (Some 64) (Some 63) 200 (65 + n) ts p
IsLongerProgram Types ts p = programs relation Some Some None (Some 64) (Some 64) (Some 63) 200 64 ts p
IsLongerProgram Inputs ts p = programs relation Some Some (Some 1000) None (Some 64) (Some 63) 200 64 ts p
IsLongerProgram Outputs ts p = programs relation Some Some (Some 1000) (Some 64) None (Some 63) 200 64 ts p
IsLongerProgram Constructors ts p = programs relation Some Some (Some 1000) (Some 64) (Some 64) None 200 64 ts p
IsLongerProgram what ts p = IsProgram ts p

-- Tokens begin what some phrase stands for.
abbrev pub Begins : {A : Type 0} → Phrase A → List Lexeme → Type 0
Begins phrase u = (v : List Lexeme) × (a : _) × phrase (u ++ v) a

-- the reading of programs
abbrev pub read_program : Reader (List Item)
read_program = programs reading Some Some (Some 1000) (Some 64) (Some 64) (Some 63) 200 64
