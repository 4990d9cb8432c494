-- Where tokens are refused, and why.
use Rattle.std.specs.Prelude.{◌≡◌, ℕ, suc, List, [], ◌∷◌, ◌++◌}
use Rattle.hp_base.specs.Limits.{most}
use Rattle.hp_base.specs.declared.limit.Limit.{Limit}
use Rattle.hp_base.specs.declared.span.Span.{Span}
use Rattle.hp_lexer.specs.Lexing.{span_behind}
use Rattle.hp_parser.specs.declared.parsing.ParseErr.{ParseErr}
use Rattle.hp_parser.specs.declared.parsing.ParseErr.TheVariants.{Bad as BadProgram, Limit as PassedLimit, OutOfMemory}
use Rattle.hp_parser.specs.Lexemes.{Lexeme}
use Rattle.hp_parser.specs.Relation.{Phrase}
use Rattle.hp_parser.specs.Programs.{Begins, IsProgram, IsLongProgram, IsLongerProgram}

-- the place of the token ahead, or the one behind the text
abbrev pub place_of : List ℕ → List Lexeme → Span
place_of text [] = span_behind text 0
place_of text (t ∷ ts) = t.span

-- With the token ahead they begin no phrase; where no token is ahead, they are none.
abbrev pub IsDead : {A : Type 0} → Phrase A → List Lexeme → List Lexeme → Type 0
IsDead phrase before [] = (a : _) → phrase before a → ⊥
IsDead phrase before (x ∷ more) = Begins phrase (before ++ (x ∷ [])) → ⊥

-- The tokens before a place begin a program within the limits, and with the token there they begin no program.
pub record IsBad (text : List ℕ) (ts : List Lexeme) (span : Span) : Type 0 where
  pub before : List Lexeme
  pub rest : List Lexeme
  pub split : ts ≡ before ++ rest
  pub place : span ≡ place_of text rest
  pub begun : Begins IsProgram before
  pub dead : IsDead IsLongProgram before rest

-- The tokens before a token begin a program within the limits. With it they begin none within the limits, but one where this one
-- limit is lifted, and so one without limits.
pub record PassesLimit (ts : List Lexeme) (span : Span) (limit : Limit) : Type 0 where
  pub before : List Lexeme
  pub next : Lexeme
  pub more : List Lexeme
  pub split : ts ≡ before ++ (next ∷ more)
  pub place : span ≡ next.span
  pub found : limit.found ≡ suc (most limit.what)
  pub begun : Begins IsProgram before
  pub dead : Begins IsProgram (before ++ (next ∷ [])) → ⊥
  pub lifted : Begins (IsLongerProgram limit.what) (before ++ (next ∷ []))
  pub long : Begins IsLongProgram (before ++ (next ∷ []))

-- why tokens are refused
abbrev pub IsRefused : List ℕ → List Lexeme → ParseErr → Type 0
IsRefused text ts (BadProgram span) = IsBad text ts span
IsRefused text ts (PassedLimit span limit) = PassesLimit ts span limit
IsRefused text ts OutOfMemory = Unit {0}
