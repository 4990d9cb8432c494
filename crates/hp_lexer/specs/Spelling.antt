-- What bytes spell a token.
use Rattle.std.specs.Prelude.{◌≡◌, ◌≢◌, ◌≤◌, ℕ, ◌+◌, ◌*◌, ◌-◌, Bool, true, List, [], ◌∷◌, length, codes, fold}
use Rattle.std.specs.List.{list_all}
use Rattle.hp_base.specs.Limits.{most}
use Rattle.hp_base.specs.declared.limit.What.TheVariants.{Name}
use Rattle.hp_base.specs.Bytes.{is_small, is_capital, is_digit, is_word_byte}
use Rattle.hp_lexer.specs.declared.token.Keyword.{Keyword}
use Rattle.hp_lexer.specs.declared.token.Keyword.TheVariants.{Assume, Automaton, Bool as BoolWord, Continue, Contract, Do, Else, End, Enforce, Every, False, Fby, If, In, Inlined, Int, Last, Let, Merge, Node, Not, On, Or, Pre, Reset, Returns, State, Switch, Tel, Then, True, «Type» as TypeWord, Unless, Until, Var, When, Whenot, With, Xor}
use Rattle.hp_lexer.specs.declared.token.Sign.{Sign}
use Rattle.hp_lexer.specs.declared.token.Sign.TheVariants.{Open, Close, Comma, Semicolon, Colon, Equal, Unequal, Less, AtMost, Greater, AtLeast, Plus, Minus, Star, Slash, Percent, And, AndAnd, Bar, BarBar, Arrow, Implies}
use Rattle.hp_lexer.specs.declared.token.TokenKind.{TokenKind}
use Rattle.hp_lexer.specs.declared.token.TokenKind.TheVariants.{Small, Capital, Number, Keyword as KeywordKind, Sign as SignKind}

-- the letters of a keyword
abbrev pub keyword_text : Keyword → List ℕ
keyword_text Assume = codes "assume"
keyword_text Automaton = codes "automaton"
keyword_text BoolWord = codes "bool"
keyword_text Continue = codes "continue"
keyword_text Contract = codes "contract"
keyword_text Do = codes "do"
keyword_text Else = codes "else"
keyword_text End = codes "end"
keyword_text Enforce = codes "enforce"
keyword_text Every = codes "every"
keyword_text False = codes "false"
keyword_text Fby = codes "fby"
keyword_text If = codes "if"
keyword_text In = codes "in"
keyword_text Inlined = codes "inlined"
keyword_text Int = codes "int"
keyword_text Last = codes "last"
keyword_text Let = codes "let"
keyword_text Merge = codes "merge"
keyword_text Node = codes "node"
keyword_text Not = codes "not"
keyword_text On = codes "on"
keyword_text Or = codes "or"
keyword_text Pre = codes "pre"
keyword_text Reset = codes "reset"
keyword_text Returns = codes "returns"
keyword_text State = codes "state"
keyword_text Switch = codes "switch"
keyword_text Tel = codes "tel"
keyword_text Then = codes "then"
keyword_text True = codes "true"
keyword_text TypeWord = codes "type"
keyword_text Unless = codes "unless"
keyword_text Until = codes "until"
keyword_text Var = codes "var"
keyword_text When = codes "when"
keyword_text Whenot = codes "whenot"
keyword_text With = codes "with"
keyword_text Xor = codes "xor"

-- the bytes of a sign
abbrev pub sign_text : Sign → List ℕ
sign_text Open = codes "("
sign_text Close = codes ")"
sign_text Comma = codes ","
sign_text Semicolon = codes ";"
sign_text Colon = codes ":"
sign_text Equal = codes "="
sign_text Unequal = codes "<>"
sign_text Less = codes "<"
sign_text AtMost = codes "<="
sign_text Greater = codes ">"
sign_text AtLeast = codes ">="
sign_text Plus = codes "+"
sign_text Minus = codes "-"
sign_text Star = codes "*"
sign_text Slash = codes "/"
sign_text Percent = codes "%"
sign_text And = codes "&"
sign_text AndAnd = codes "&&"
sign_text Bar = codes "|"
sign_text BarBar = codes "||"
sign_text Arrow = codes "->"
sign_text Implies = codes "=>"

-- a letter of one case, then letters, digits and `_`
abbrev pub IsWord : (ℕ → Bool) → List ℕ → Type 0
IsWord is_first [] = ⊥
IsWord is_first (b ∷ w) = (is_first b ≡ true) × (list_all is_word_byte w ≡ true)

-- one or more digits
abbrev pub IsNumeral : List ℕ → Type 0
IsNumeral [] = ⊥
IsNumeral (b ∷ w) = list_all is_digit (b ∷ w) ≡ true

-- the number that decimal digits spell
abbrev pub value_of : List ℕ → ℕ
value_of digits = fold (λ n d. 10 * n + (d - 48)) 0 digits

-- The bytes spell a token of the kind. A small name is no keyword.
abbrev pub Spells : TokenKind → List ℕ → Type 0
Spells Small w = IsWord is_small w × ((k : Keyword) → w ≢ keyword_text k)
Spells Capital w = IsWord is_capital w
Spells Number w = IsNumeral w
Spells (KeywordKind k) w = w ≡ keyword_text k
Spells (SignKind s) w = w ≡ sign_text s

-- the greatest number of a source text, one less than 2 to the 31st
abbrev pub greatest_number : ℕ
greatest_number = 2147483647

-- A name has at most so many bytes, and a number is at most so large.
abbrev pub IsWithin : TokenKind → List ℕ → Type 0
IsWithin Small w = length w ≤ most Name
IsWithin Capital w = length w ≤ most Name
IsWithin Number w = value_of w ≤ greatest_number
IsWithin kind w = Unit {0}

-- small and capital names
abbrev pub IsNameKind : TokenKind → Type 0
IsNameKind Small = Unit {0}
IsNameKind Capital = Unit {0}
IsNameKind kind = ⊥
