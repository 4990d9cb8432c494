-- Tokens that may be written, and are read again.
use Rattle.std.proofs.Common.{◌≡◌, ℕ, ◌≤◌, true, List, [], ◌∷◌, ◌++◌, refl, sym, subst}
use Rattle.std.specs.List.{AllByRecursion}
use Rattle.hp_base.specs.Bytes.{is_blank}
use Rattle.hp_lexer.specs.Spelling.{Spells, IsWithin, value_of, greatest_number}
use Rattle.hp_lexer.specs.Written.{Written, IsWritable}
use Rattle.hp_lexer.specs.declared.token.Keyword.{Keyword}
use Rattle.hp_lexer.specs.declared.token.Keyword.TheVariants as key
use Rattle.hp_lexer.specs.declared.token.Sign.{Sign}
use Rattle.hp_lexer.specs.declared.token.Sign.TheVariants as mark
use Rattle.hp_lexer.specs.declared.token.TokenKind.{TokenKind}
use Rattle.hp_lexer.specs.declared.token.TokenKind.TheVariants as kind
use Rattle.hp_parser.specs.Lexemes.{Lexeme}
use Rattle.hp_parser.specs.Tokens.{small as is_small_name, capital as is_capital_name, number as is_number, constructor as is_constructor, type_name, type_spelled, type_of, constructor_spelled, constructor_of}
use Rattle.hp_print.specs.Tokens.{behind_word, behind_sign, word, sign, small, capital, number, type_token, cons_token}
use Rattle.hp_print.proofs.Every.{IsSpelled}
use Rattle.hp_print.proofs.Numbers.{decimal-spelled}

-- these tokens are read again
abbrev pub Writable : List Written → Type 0
Writable ws = AllByRecursion IsWritable ws

pub writable-append : (a b : List Written) → Writable a → Writable b → Writable (a ++ b)
writable-append [] b h k = k
writable-append (w ∷ a) b h k = (h.0, writable-append a b h.1 k)

word-blank : (k : Keyword) → is_blank (behind_word k) ≡ true
word-blank key.Tel = refl
word-blank k = refl

sign-blank : (s : Sign) → is_blank (behind_sign s) ≡ true
sign-blank mark.Semicolon = refl
sign-blank s = refl

pub word-writable : (k : Keyword) → IsWritable (word k)
word-writable k = record { spelled = refl; limited = tt; blank = word-blank k }

pub sign-writable : (s : Sign) → IsWritable (sign s)
sign-writable s = record { spelled = refl; limited = tt; blank = sign-blank s }

small-by : (k : TokenKind) (b : List ℕ) → Spells k b × IsWithin k b → is_small_name k ≡ true → IsWritable (small b)
small-by kind.Small b s h = record { spelled = s.0; limited = s.1; blank = refl }
small-by k b s h = absurd cc

pub small-writable : (t : Lexeme) → IsSpelled t × (is_small_name t.kind ≡ true) → IsWritable (small t.bytes)
small-writable t h = small-by t.kind t.bytes h.0 h.1

capital-by : (k : TokenKind) (b : List ℕ) → Spells k b × IsWithin k b → is_capital_name k ≡ true → IsWritable (capital b)
capital-by kind.Capital b s h = record { spelled = s.0; limited = s.1; blank = refl }
capital-by k b s h = absurd cc

pub capital-writable : (t : Lexeme) → IsSpelled t × (is_capital_name t.kind ≡ true) → IsWritable (capital t.bytes)
capital-writable t h = capital-by t.kind t.bytes h.0 h.1

pub number-writable : (n : ℕ) → n ≤ greatest_number → IsWritable (number n)
number-writable n l = let d = decimal-spelled n l in record { spelled = d.0; limited = subst (λ m. m ≤ greatest_number) (sym d.1) l; blank = refl }

number-by : (k : TokenKind) (b : List ℕ) → Spells k b × IsWithin k b → is_number k ≡ true → value_of b ≤ greatest_number
number-by kind.Number b s h = s.1
number-by k b s h = absurd cc

pub number-within : (t : Lexeme) → IsSpelled t × (is_number t.kind ≡ true) → value_of t.bytes ≤ greatest_number
number-within t h = number-by t.kind t.bytes h.0 h.1

cons-by : (k : TokenKind) (b : List ℕ) → Spells k b × IsWithin k b → is_constructor k ≡ true → IsWritable (cons_token (constructor_spelled k b))
cons-by kind.Capital b s h = record { spelled = s.0; limited = s.1; blank = refl }
cons-by (kind.Keyword key.True) b s h = word-writable key.True
cons-by (kind.Keyword key.False) b s h = word-writable key.False
cons-by k b s h = absurd cc

pub cons-writable : (t : Lexeme) → IsSpelled t × (is_constructor t.kind ≡ true) → IsWritable (cons_token (constructor_of t))
cons-writable t h = cons-by t.kind t.bytes h.0 h.1

type-by : (k : TokenKind) (b : List ℕ) → Spells k b × IsWithin k b → type_name k ≡ true → IsWritable (type_token (type_spelled k b))
type-by kind.Small b s h = record { spelled = s.0; limited = s.1; blank = refl }
type-by (kind.Keyword key.Bool) b s h = word-writable key.Bool
type-by (kind.Keyword key.Int) b s h = word-writable key.Int
type-by k b s h = absurd cc

pub type-writable : (t : Lexeme) → IsSpelled t × (type_name t.kind ≡ true) → IsWritable (type_token (type_of t))
type-writable t h = type-by t.kind t.bytes h.0 h.1
