-- The tokens of a canonical text, each with the byte behind it: a newline behind `;` and `tel`, a space behind all others.
use Rattle.std.specs.Prelude.{ℕ, ℤ, pos, List, [], ◌∷◌, ◌++◌, unsigned_abs, int_lt, if◌then◌else◌}
use Rattle.std.specs.Fmt.{decimal}
use Rattle.hp_base.specs.declared.ty.Ty.{Ty}
use Rattle.hp_base.specs.declared.ty.Ty.TheVariants as ty
use Rattle.hp_base.specs.declared.ty.Const.{Const}
use Rattle.hp_base.specs.declared.ty.Const.TheVariants as constant
use Rattle.hp_lexer.specs.Spelling.{keyword_text, sign_text}
use Rattle.hp_lexer.specs.Written.{Written, written_text}
use Rattle.hp_lexer.specs.declared.token.Keyword.{Keyword}
use Rattle.hp_lexer.specs.declared.token.Keyword.TheVariants as key
use Rattle.hp_lexer.specs.declared.token.Sign.{Sign}
use Rattle.hp_lexer.specs.declared.token.Sign.TheVariants.{Minus, Semicolon}
use Rattle.hp_lexer.specs.declared.token.TokenKind.TheVariants as kind
use Rattle.hp_tree.specs.declared.decl.Cons.{Cons}
use Rattle.hp_tree.specs.declared.decl.Cons.TheVariants as cons

abbrev pub behind_word : Keyword → ℕ
behind_word key.Tel = 10
behind_word k = 32

abbrev pub behind_sign : Sign → ℕ
behind_sign Semicolon = 10
behind_sign s = 32

abbrev pub word : Keyword → Written
word k = record { kind = kind.Keyword k; bytes = keyword_text k; behind = behind_word k }

abbrev pub sign : Sign → Written
sign s = record { kind = kind.Sign s; bytes = sign_text s; behind = behind_sign s }

-- a name that begins with a small letter, and one that begins with a capital letter
abbrev pub small : List ℕ → Written
small x = record { kind = kind.Small; bytes = x; behind = 32 }

abbrev pub capital : List ℕ → Written
capital x = record { kind = kind.Capital; bytes = x; behind = 32 }

-- a number, in decimal digits
abbrev pub number : ℕ → Written
number n = record { kind = kind.Number; bytes = decimal n; behind = 32 }

abbrev pub type_token : Ty → Written
type_token ty.Bool = word key.Bool
type_token ty.Int = word key.Int
type_token (ty.Enum x) = small x

abbrev pub cons_token : Cons → Written
cons_token cons.False = word key.False
cons_token cons.True = word key.True
cons_token (cons.Named x) = capital x

-- a negative integer has its minus in front
abbrev pub integer_tokens : ℤ → List Written
integer_tokens n = if int_lt n (pos 0) then sign Minus ∷ number (unsigned_abs n) ∷ [] else number (unsigned_abs n) ∷ []

abbrev pub constant_tokens : Const → List Written
constant_tokens (constant.B b) = word (if b then key.True else key.False) ∷ []
constant_tokens (constant.I n) = integer_tokens n
constant_tokens (constant.E x) = capital x ∷ []

-- ---- lists of phrases

-- phrases with a token in front of each
abbrev pub led_by : Written → List (List Written) → List Written
led_by w [] = []
led_by w (phrase ∷ phrases) = w ∷ (phrase ++ led_by w phrases)

-- phrases with a token between each two
abbrev pub joined_by : Written → List (List Written) → List Written
joined_by w [] = []
joined_by w (phrase ∷ phrases) = phrase ++ led_by w phrases

-- phrases with a token behind each
abbrev pub ended_by : Written → List (List Written) → List Written
ended_by w [] = []
ended_by w (phrase ∷ phrases) = phrase ++ (w ∷ ended_by w phrases)

-- a text, and tokens that are written behind it
unfoldable pub written_after : List ℕ → List Written → List ℕ
written_after text tokens = text ++ written_text tokens
