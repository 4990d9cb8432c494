-- What is known of each token of a text.
use Rattle.std.proofs.Common.{◌≡◌, ◌≤◌, ℕ, ◌+◌, ◌-◌, true, List, [], ◌∷◌, ◌++◌, length, take, drop, refl, sym, ap, ◌∙◌, subst, arith}
use Rattle.std.specs.List.{All, list_all}
use Rattle.std.proofs.lemmas.List.{append-nil, append_assoc, length-append, take_at, drop_at}
use Rattle.std.proofs.lemmas.List.Elements.{All-append, All-push}
use Rattle.hp_base.specs.Limits.{most}
use Rattle.hp_base.specs.declared.limit.What.TheVariants.{Name}
use Rattle.hp_base.specs.Bytes.{is_digit}
use Rattle.hp_lexer.specs.Spelling.{Spells, IsWithin, IsNameKind}
use Rattle.hp_lexer.specs.Lexing.{span_behind, IsToken, token_behind, token_text, Piece, Reads, AreTokensOf, IsTokenIn, AreInOrder}
use Rattle.hp_lexer.specs.declared.token.Token.{Token}
use Rattle.hp_lexer.specs.declared.token.TokenKind.{TokenKind}
use Rattle.hp_lexer.specs.declared.token.TokenKind.TheVariants.{Small, Capital, Number, Keyword as KeywordKind, Sign as SignKind}
use Rattle.hp_lexer.proofs.Pieces.{numeral}
use Rattle.hp_lexer.proofs.Words.{head}

-- ---- each token stands in the text

module _ (front w rest : List ℕ) (kind : TokenKind) where
  abbrev whole : List ℕ
  whole = front ++ (w ++ rest)

  abbrev this : Token
  this = token_behind front kind w

  text_is : token_text whole this ≡ w
  text_is =
      let n : length front + length w - length front ≡ length w = omega arith in
      ap (λ m. take m (drop (length front) whole)) n ∙ ap (take (length w)) (drop_at front (w ++ rest) (length front) refl) ∙ take_at w rest (length w) refl

  place_is : this.span ≡ span_behind (take (length front) whole) (length front + length w - length front)
  place_is =
      let n : length w ≡ length front + length w - length front = omega arith in
      let size : length front + length w ≡ length front + (length front + length w - length front) = omega arith in
      ap (λ m. span_behind front m) n ∙ ap (λ f. span_behind f (length front + length w - length front)) (sym (take_at front (w ++ rest) (length front) refl))

  is_in : IsToken kind w rest → IsWithin kind w → IsTokenIn whole this
  is_in t limited =
      let d = head kind w t.spelled in
      let some : length w ≡ length (d.byte ∷ d.behind) = ap length d.w_is in
      record {
        order = omega arith;
        within = omega (arith, length-append front (w ++ rest), length-append w rest);
        place = place_is;
        spelled = subst (Spells kind) (sym text_is) t.spelled;
        limited = subst (IsWithin kind) (sym text_is) limited;
      }

nothing_in : (P : Token → Type 0) → All P []
nothing_in P k d h = absurd (omega arith)

piece_in : {front w rest : List ℕ} {more : List Token} → Piece front w rest more → All (IsTokenIn (front ++ (w ++ rest))) more
piece_in {front} {w} {rest} (Piece.blank_piece b h) = nothing_in (IsTokenIn (front ++ (w ++ rest)))
piece_in {front} {w} {rest} (Piece.comment_piece i) = nothing_in (IsTokenIn (front ++ (w ++ rest)))
piece_in {front} {w} {rest} (Piece.token_piece kind t l) =
    All-push (IsTokenIn (front ++ (w ++ rest))) [] (token_behind front kind w) (nothing_in (IsTokenIn (front ++ (w ++ rest)))) (is_in front w rest kind t l)

all_in : {front rest : List ℕ} {tokens : List Token} → Reads front tokens rest → All (IsTokenIn (front ++ rest)) tokens
all_in {rest = rest} Reads.nothing = nothing_in (IsTokenIn rest)
all_in (Reads.more {front = front} {w = w} {rest = rest} {tokens = tokens} {next = next} r p) =
    subst (λ z. All (IsTokenIn z) (tokens ++ next)) (sym (append_assoc front w rest)) (All-append (IsTokenIn (front ++ (w ++ rest))) tokens next (all_in r) (piece_in p))

-- each token of a text stands in it: its slice is safe, spells its kind, and is within the limits
pub tokens_in : (text : List ℕ) (tokens : List Token) → AreTokensOf text tokens → All (IsTokenIn text) tokens
tokens_in text tokens a = subst (λ z. All (IsTokenIn z) tokens) (append-nil text) (all_in a.read)

-- ---- in order

-- where the last token ends
end_of : ℕ → List Token → ℕ
end_of start [] = start
end_of start (token ∷ tokens) = end_of token.span.end tokens

order_push : (start : ℕ) (tokens : List Token) (token : Token) → AreInOrder start tokens → end_of start tokens ≤ token.start → AreInOrder start (tokens ++ token ∷ [])
unfolding end_of
order_push start [] token h l = (l, tt)
order_push start (t ∷ tokens) token h l = (h.0, order_push t.span.end tokens token h.1 l)

end_push : (start : ℕ) (tokens : List Token) (token : Token) → end_of start (tokens ++ token ∷ []) ≡ token.span.end
unfolding end_of
end_push start [] token = refl
end_push start (t ∷ tokens) token = end_push t.span.end tokens token

record Ordered (front : List ℕ) (tokens : List Token) : Type 0 where
  pub order : AreInOrder 0 tokens
  pub end : end_of 0 tokens ≤ length front

ordered_by : {front w rest : List ℕ} {more : List Token} (tokens : List Token) → Ordered front tokens → Piece front w rest more → Ordered (front ++ w) (tokens ++ more)
ordered_by {front} {w} tokens o (Piece.blank_piece b h) = subst (Ordered (front ++ w)) (sym (append-nil tokens)) (record { order = o.order; end = omega (arith, length-append front w, o.end) })
ordered_by {front} {w} tokens o (Piece.comment_piece i) = subst (Ordered (front ++ w)) (sym (append-nil tokens)) (record { order = o.order; end = omega (arith, length-append front w, o.end) })
ordered_by {front} {w} tokens o (Piece.token_piece kind t l) = record {
  order = order_push 0 tokens (token_behind front kind w) o.order o.end;
  end = omega (arith, length-append front w, end_push 0 tokens (token_behind front kind w));
}

ordered : {front rest : List ℕ} {tokens : List Token} → Reads front tokens rest → Ordered front tokens
unfolding end_of
ordered Reads.nothing = record { order = tt; end = omega arith }
ordered (Reads.more {tokens = tokens} r p) = ordered_by tokens (ordered r) p

-- each token of a text begins where or behind where the one before it ends
pub in_order : (text : List ℕ) (tokens : List Token) → AreTokensOf text tokens → AreInOrder 0 tokens
in_order text tokens a = (ordered a.read).order

-- ---- names and numbers

-- a name within its limit has at most 255 bytes
pub name_fits : (kind : TokenKind) (w : List ℕ) → IsWithin kind w → IsNameKind kind → length w ≤ most Name
name_fits Small w h i = h
name_fits Capital w h i = h
name_fits Number w h i = absurd i
name_fits (KeywordKind k) w h i = absurd i
name_fits (SignKind s) w h i = absurd i

-- a number is made of digits
pub number_digits : (kind : TokenKind) (w : List ℕ) → Spells kind w → kind ≡ Number → list_all is_digit w ≡ true
number_digits kind w h e = numeral w (subst (λ k. Spells k w) e h)
