-- The tokens of a text without comments, by computing.
-- Source: own.
use Rattle.std.proofs.Common.{◌≡◌, ℕ, zero, suc, ◌+◌, ◌≤◌, Bool, true, false, List, [], ◌∷◌, ◌++◌, length, take, drop, Option, None, Some, refl, sym, ap, ◌∙◌, subst, arith}
use Rattle.std.specs.Prelude.{⊤, if◌then◌else◌, nat_le, option_map}
use Rattle.std.proofs.lemmas.List.{append-nil, append_assoc, length-append}
use Rattle.std.proofs.lemmas.Bool.Decides.{nat_tests}
use Rattle.hp_base.specs.Bytes.{is_blank}
use Rattle.hp_lexer.specs.Bytes.{begins_comment}
use Rattle.hp_lexer.specs.Lexing.{AreTokensOf, IsToken, Piece, Reads, col_behind, line_behind, span_behind, token_behind}
use Rattle.hp_lexer.specs.Reading.{token_in}
use Rattle.hp_lexer.specs.Spelling.{IsWithin, value_of}
use Rattle.hp_lexer.specs.declared.token.Token.{Token}
use Rattle.hp_lexer.specs.declared.token.TokenKind.{TokenKind}
use Rattle.hp_lexer.specs.declared.token.TokenKind.TheVariants.{Small, Capital, Number, Keyword as KeywordKind, Sign as SignKind}
use Rattle.hp_lexer.proofs.Pieces.{spelling}
use Rattle.hp_lexer.proofs.Unique.{one_list}
use Rattle.hp_lexer.proofs.Words.{IsTokenAt, token_found}

-- ---- what is computed

-- whether bytes that spell a token of the kind are within its limit
abbrev is_within : TokenKind → List ℕ → Bool
is_within Small w = nat_le (length w) 255
is_within Capital w = nat_le (length w) 255
is_within Number w = nat_le (value_of w) 2147483647
is_within (KeywordKind k) w = true
is_within (SignKind s) w = true

-- the token of so many bytes behind these, which are counted already
abbrev token_at : List ℕ → ℕ → TokenKind → ℕ → Token
token_at front start kind n = record { kind = kind; span = record { line = line_behind front; col = col_behind front; end = start + n }; start = start }

-- from one token on that is found in front
module _ (next : List ℕ → List ℕ → ℕ → Option (List Token)) (text front : List ℕ) (start : ℕ) where
  abbrev with_token : TokenKind → ℕ → Option (List Token)
  with_token kind n = option_map (λ ts. token_at front start kind n ∷ ts) (next (drop n text) (front ++ take n text) (start + n))

  abbrev behind_token : Option (TokenKind × ℕ) → Option (List Token)
  behind_token None = None
  behind_token (Some x) = if is_within x.0 (take x.1 text) then with_token x.0 x.1 else None

-- The tokens of what is left of a text behind some bytes, which are counted; none where a comment begins, or what is no token, or behind so many steps.
abbrev tokens_from : ℕ → List ℕ → List ℕ → ℕ → Option (List Token)
tokens_from steps [] front start = Some []
tokens_from zero (b ∷ text) front start = None
tokens_from (suc n) (b ∷ text) front start =
    if is_blank b then tokens_from n text (front ++ b ∷ []) (start + 1)
    else (if begins_comment (b ∷ text) then None else behind_token (tokens_from n) (b ∷ text) front start (token_in (b ∷ text)))

abbrev pub tokens_computed : List ℕ → Option (List Token)
tokens_computed text = tokens_from (length text) text [] 0

-- ---- that they are its tokens

within_by : (kind : TokenKind) (w : List ℕ) → is_within kind w ≡ true → IsWithin kind w
within_by Small w e = grind (arith, nat_tests)
within_by Capital w e = grind (arith, nat_tests)
within_by Number w e = grind (arith, nat_tests)
within_by (KeywordKind k) w e = tt
within_by (SignKind s) w e = tt

same_token : (front : List ℕ) (start : ℕ) (kind : TokenKind) (n : ℕ) (w : List ℕ) → start ≡ length front → n ≡ length w → token_at front start kind n ≡ token_behind front kind w
same_token front start kind n w e f =
    ap (λ k. token_at front k kind n) e ∙ ap (λ k. let t : Token = record { kind = kind; span = span_behind front k; start = length front } in t) f

is_token : (text : List ℕ) (kind : TokenKind) (n : ℕ) (t : IsTokenAt kind n text) → begins_comment text ≡ false → IsToken kind t.w (drop n text)
is_token text kind n t none = record {
  spelled = t.spelled;
  longest = λ other v behind e. t.longest other v behind (t.text_is ∙ e);
  no_comment = ap begins_comment (sym t.text_is) ∙ none;
}

-- behind what was read stand these tokens up to the end
abbrev ReadsOn : List ℕ → List ℕ → List Token → Option (List Token) → Type 0
ReadsOn rest front tokens None = ⊤
ReadsOn rest front tokens (Some next) = Reads (front ++ rest) (tokens ++ next) []

abbrev Onwards : (List ℕ → List ℕ → ℕ → Option (List Token)) → Type 0
Onwards next = (rest front : List ℕ) (start : ℕ) (tokens : List Token) → start ≡ length front → Reads front tokens rest → ReadsOn rest front tokens (next rest front start)

one_more : (front rest : List ℕ) (w : List ℕ) (tokens : List Token) (t : Token) (next : Option (List Token)) → ReadsOn rest (front ++ w) (tokens ++ t ∷ []) next → ReadsOn (w ++ rest) front tokens (option_map (λ ts. t ∷ ts) next)
one_more front rest w tokens t None h = tt
one_more front rest w tokens t (Some ts) h = subst (λ z. Reads (front ++ (w ++ rest)) z []) (append_assoc tokens (t ∷ []) ts) (subst (λ z. Reads z ((tokens ++ t ∷ []) ++ ts) []) (append_assoc front w rest) h)

one_blank : (front rest : List ℕ) (b : ℕ) (tokens : List Token) (next : Option (List Token)) → ReadsOn rest (front ++ b ∷ []) tokens next → ReadsOn (b ∷ rest) front tokens next
one_blank front rest b tokens None h = tt
one_blank front rest b tokens (Some ts) h = subst (λ z. Reads z (tokens ++ ts) []) (append_assoc front (b ∷ []) rest) h

module _ (next : List ℕ → List ℕ → ℕ → Option (List Token)) (onwards : Onwards next) (text front : List ℕ) (start : ℕ) (tokens : List Token) (counted : start ≡ length front) (read : Reads front tokens text) (none : begins_comment text ≡ false) where
  by_token : (kind : TokenKind) (n : ℕ) → IsTokenAt kind n text → IsWithin kind (take n text) → ReadsOn text front tokens (with_token next text front start kind n)
  by_token kind n t within =
      let rest = drop n text in
      let w = take n text in
      let spelled : w ≡ t.w = spelling text kind n t in
      let token = token_at front start kind n in
      let same : token_behind front kind t.w ≡ token = sym (same_token front start kind n t.w counted t.size) in
      let piece : Piece front t.w rest (token_behind front kind t.w ∷ []) = Piece.token_piece kind (is_token text kind n t none) (subst (IsWithin kind) spelled within) in
      let found : Reads (front ++ t.w) (tokens ++ token_behind front kind t.w ∷ []) rest = Reads.more {w = t.w} (subst (Reads front tokens) t.text_is read) piece in
      let here : Reads (front ++ w) (tokens ++ token ∷ []) rest = subst (λ z. Reads (front ++ w) (tokens ++ z ∷ []) rest) same (subst (λ z. Reads (front ++ z) (tokens ++ token_behind front kind t.w ∷ []) rest) (sym spelled) found) in
      let size : n ≡ length w = t.size ∙ ap length (sym spelled) in
      let longer : start + n ≡ length (front ++ w) = omega (arith, length-append front w, size, counted) in
      let whole : w ++ rest ≡ text = ap (λ z. z ++ rest) spelled ∙ sym t.text_is in
      subst (λ z. ReadsOn z front tokens (with_token next text front start kind n)) whole
      (one_more front rest w tokens token (next rest (front ++ w) (start + n)) (onwards rest (front ++ w) (start + n) (tokens ++ token ∷ []) longer here))

  by_kind : (found : Option (TokenKind × ℕ)) → token_in text ≡ found → ReadsOn text front tokens (behind_token next text front start found)
  by_kind None e = tt
  by_kind (Some x) e = by (is_within x.0 (take x.1 text)) refl
    where
      by : (d : Bool) → is_within x.0 (take x.1 text) ≡ d → ReadsOn text front tokens (if d then with_token next text front start x.0 x.1 else None)
      by false f = tt
      by true f = by_token x.0 x.1 (token_found text x.0 x.1 e) (within_by x.0 (take x.1 text) f)

module _ (next : List ℕ → List ℕ → ℕ → Option (List Token)) (onwards : Onwards next) (b : ℕ) (rest front : List ℕ) (start : ℕ) (tokens : List Token) (counted : start ≡ length front) (read : Reads front tokens (b ∷ rest)) where
  by_comment : (d : Bool) → begins_comment (b ∷ rest) ≡ d → ReadsOn (b ∷ rest) front tokens (if d then None else behind_token next (b ∷ rest) front start (token_in (b ∷ rest)))
  by_comment true e = tt
  by_comment false e = by_kind next onwards (b ∷ rest) front start tokens counted read e (token_in (b ∷ rest)) refl

  by_blank : (d : Bool) → is_blank b ≡ d
      → ReadsOn (b ∷ rest) front tokens (if d then next rest (front ++ b ∷ []) (start + 1) else (if begins_comment (b ∷ rest) then None else behind_token next (b ∷ rest) front start (token_in (b ∷ rest))))
  by_blank true e =
      let here : Reads (front ++ b ∷ []) tokens rest = subst (λ z. Reads (front ++ b ∷ []) z rest) (append-nil tokens) (Reads.more {w = b ∷ []} read (Piece.blank_piece b e)) in
      let longer : start + 1 ≡ length (front ++ b ∷ []) = omega (arith, length-append front (b ∷ []), counted) in
      one_blank front rest b tokens (next rest (front ++ b ∷ []) (start + 1)) (onwards rest (front ++ b ∷ []) (start + 1) tokens longer here)
  by_blank false e = by_comment (begins_comment (b ∷ rest)) refl

onwards : (n : ℕ) → Onwards (tokens_from n)
onwards n [] front start tokens counted read = subst (λ z. Reads (front ++ []) z []) (sym (append-nil tokens)) (subst (λ z. Reads z tokens []) (sym (append-nil front)) read)
onwards zero (b ∷ rest) front start tokens counted read = tt
onwards (suc n) (b ∷ rest) front start tokens counted read = by_blank (tokens_from n) (onwards n) b rest front start tokens counted read (is_blank b) refl

-- A text has these tokens alone.
pub tokens_are : (text : List ℕ) (tokens computed : List Token) → AreTokensOf text tokens → tokens_computed text ≡ Some computed → tokens ≡ computed
tokens_are text tokens computed h e =
    one_list text tokens computed h (record { size = h.size; read = subst (ReadsOn text [] []) e (onwards (length text) text [] 0 [] refl Reads.nothing) })
