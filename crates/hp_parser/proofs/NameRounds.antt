-- Names, round by round.
use Rattle.std.proofs.Common.{◌≡◌, true, false, List, [], ◌∷◌, ◌++◌, map}
use Rattle.hp_lexer.specs.declared.token.Sign.TheVariants.{Comma}
use Rattle.hp_parser.specs.declared.reader.Word.{Word}
use Rattle.hp_parser.specs.Seen.{word_seen}
use Rattle.hp_parser.specs.Lexemes.{Lexeme, is_ahead}
use Rattle.hp_parser.specs.Outcomes.{done, ◌>>=◌}
use Rattle.hp_parser.specs.BlockGrammar.{names}
use Rattle.hp_parser.specs.Grammar.{behind}
use Rattle.hp_parser.specs.Tokens.{sign_of, small}
use Rattle.hp_parser.specs.Reading.{Reader, reading, read_token, read_both}
use Rattle.hp_parser.proofs.Rounds.{Strict, many_from, many_ends, many_steps, many_pushed, one_and_more, token_strict, strict_falls, both_strict, convert_strict}

abbrev pub next_name : Reader Lexeme
next_name = behind reading (sign_of Comma) (read_token small)

pub next_strict : Strict next_name
next_strict = convert_strict (λ r. r.1) (read_both (read_token (sign_of Comma)) (read_token small))
    (both_strict (read_token (sign_of Comma)) (read_token small) (token_strict (sign_of Comma)) (strict_falls (read_token small) (token_strict small)))

pub names_begin : (ts : List Lexeme) → names reading ts ≡ (read_token small ts >>= λ r. many_from (sign_of Comma) next_name (r.0 ∷ []) r.1)
names_begin ts = one_and_more (sign_of Comma) next_name next_strict (read_token small) ts

pub names_end : (items : List Lexeme) (ts : List Lexeme) → is_ahead (sign_of Comma) ts ≡ false → many_from (sign_of Comma) next_name items ts ≡ done items ts
names_end = many_ends (sign_of Comma) next_name next_strict

pub names_step : (items : List Lexeme) (ts : List Lexeme) → is_ahead (sign_of Comma) ts ≡ true →
    many_from (sign_of Comma) next_name items ts ≡ (next_name ts >>= λ r. many_from (sign_of Comma) next_name (items ++ (r.0 ∷ [])) r.1)
names_step = many_steps (sign_of Comma) next_name next_strict

pub names_pushed : (words : List Word) (w : Word) (ts rest : List Lexeme) → is_ahead (sign_of Comma) ts ≡ true → next_name ts ≡ done (word_seen w) rest →
    many_from (sign_of Comma) next_name (map word_seen (words ++ (w ∷ []))) rest ≡ many_from (sign_of Comma) next_name (map word_seen words) ts
names_pushed = many_pushed (sign_of Comma) next_name next_strict word_seen
