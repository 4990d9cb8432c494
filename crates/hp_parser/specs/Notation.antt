-- The notation in which the grammar is written. It is read in two ways: as a relation between tokens and what they stand for
-- (`Relation`), and as reading from left to right (`Reading`). The grammar is written once, for every reading of the notation.
use Rattle.std.specs.Prelude.{ℕ, List}
use Rattle.hp_base.specs.declared.limit.What.{What}
use Rattle.hp_base.specs.declared.span.Span.{Span}
use Rattle.hp_tree.specs.Expressions.{Expr}
use Rattle.hp_parser.specs.Lexemes.{Lexeme, Kinds}

-- An expression, how many levels stand above its lowest one, its first token, and the offset behind its last one. Parentheses
-- around it count.
pub record Measured : Type 0 where
  pub expr : Expr
  pub height : ℕ
  pub first : Span
  pub end : ℕ

-- what stands between commas and semicolons in a list of declarations: one by itself, or names with what they share
pub data Entry (A B C : Type 0) : Type 0 where
  alone : A → Entry A B C
  together : List B → C → Entry A B C

-- `F A` are the phrases that stand for values of A.
pub record Notation {ℓ} (F : Type 0 → Type ℓ) : Type (1 ⊔ ℓ) where
  -- a limit of levels in each other, and a limit of a number
  pub Depth : Type 0
  pub Count : Type 0
  pub unlimited : Count
  -- whether there may be one more level within
  pub Room : Type 0
  pub always : Room
  pub deeper : Depth → Room
  -- nothing
  pub give : {A : Type 0} → A → F A
  -- one token of these kinds
  pub token : Kinds → F Lexeme
  pub convert : {A B : Type 0} → (A → B) → F A → F B
  -- one phrase and behind it another
  pub both : {A B : Type 0} → F A → F B → F (A × B)
  -- one phrase, which begins with a token of these kinds and wants room by a limit, or another phrase
  pub either_within : {A : Type 0} → What → Room → Kinds → F A → F A → F A
  -- Any number of phrases that begin with tokens of the first kinds. Each takes some of a number; one that begins with a token of
  -- the other kinds wants some of it to be left.
  pub many_within : {A : Type 0} → What → Kinds → Kinds → (A → ℕ) → Count → F A → F (List A)
  -- At least one phrase, and those behind the first begin with tokens of the latter kinds. A token of the former kinds stands
  -- between two, and may end them.
  pub separated : {A : Type 0} → Kinds → Kinds → F A → F (List A)
  -- Entries with semicolons between them, which have at most so many names: a phrase that begins with tokens of these kinds, or
  -- names with commas between them and what they share.
  pub entries : {A B C : Type 0} → What → Count → Kinds → F A → F B → F C → F (List (Entry A B C))
  -- a phrase, and at most one phrase behind it that begins with a token of these kinds; there is one more level then
  pub suffix : {A : Type 0} → Kinds → (Measured → A → Measured) → Depth → F Measured → F A → F Measured
  -- the same with any number of phrases, each grouped with all before it
  pub suffixes : {A : Type 0} → Kinds → (Measured → A → Measured) → Depth → F Measured → F A → F Measured
