-- Every text has tokens or is refused.
use Rattle.std.proofs.Common.{◌≡◌, ◌≤◌, ◌<◌, ℕ, zero, suc, ◌+◌, Bool, true, false, List, [], ◌∷◌, ◌++◌, length, drop, Option, None, Some, ◌⊎◌, inl, inr, refl, sym, ap, ◌∙◌, subst, arith}
use Rattle.std.proofs.lemmas.Bool.{cases_lt}
use Rattle.std.proofs.lemmas.List.{length-append, length-drop}
use Rattle.hp_base.specs.Limits.{most}
use Rattle.hp_base.specs.declared.limit.What.TheVariants.{Name, Size}
use Rattle.hp_base.specs.Bytes.{is_blank}
use Rattle.hp_lexer.specs.Bytes.{begins_blank, begins_comment}
use Rattle.hp_lexer.specs.Spelling.{IsWithin, IsNameKind, value_of}
use Rattle.hp_lexer.specs.Lexing.{Reads, AreTokensOf, Stops, Refuses}
use Rattle.hp_lexer.specs.Reading.{place_behind, next_place, along, comment_end, Stands, StopsIn, token_in}
use Rattle.hp_lexer.specs.declared.lexer.LexErr.{LexErr}
use Rattle.hp_lexer.specs.declared.place.Place.{Place}
use Rattle.hp_lexer.specs.declared.token.Token.{Token}
use Rattle.hp_lexer.specs.declared.token.TokenKind.{TokenKind}
use Rattle.hp_lexer.specs.declared.token.TokenKind.TheVariants.{Small, Capital, Number, Keyword as KeywordKind, Sign as SignKind}
use Rattle.hp_lexer.proofs.Comments.{found}
use Rattle.hp_lexer.proofs.Pieces.{leads_blank, leads_comment, unclosed, adds_token, long_name, too_large, no_token, stops_here, ends, stands_at_start, spelling}
use Rattle.hp_lexer.proofs.Words.{IsTokenAt, token_found, head}

abbrev Ending : List ℕ → Type 0
Ending text = ((tokens : List Token) × Reads text tokens []) ⊎ ((error : LexErr) × StopsIn text error)

-- a name or a number is within its limit or not
limits : (kind : TokenKind) (w : List ℕ) → IsWithin kind w ⊎ (((kind ≡ Number) × (2147483647 < value_of w)) ⊎ (IsNameKind kind × (most Name < length w)))
limits Small w = elim (cases_lt (most Name) (length w)) [ inl h ↦ inr (inr (tt, h)) | inr h ↦ inl h ]
limits Capital w = elim (cases_lt (most Name) (length w)) [ inl h ↦ inr (inr (tt, h)) | inr h ↦ inl h ]
limits Number w = elim (cases_lt 2147483647 (value_of w)) [ inl h ↦ inr (inl (refl, h)) | inr h ↦ inl h ]
limits (KeywordKind k) w = inl tt
limits (SignKind s) w = inl tt

-- from each shorter rest of the text one gets to an end
abbrev Below : List ℕ → ℕ → Type 0
Below text n = (tokens : List Token) (rest : List ℕ) (place : Place) → length rest ≤ n → Stands text tokens rest place → Ending text

some_bytes : (text : List ℕ) (kind : TokenKind) (n : ℕ) → IsTokenAt kind n text → 0 < n
some_bytes text kind n t = let d = head kind t.w t.spelled in let size : length t.w ≡ suc (length d.behind) = ap length d.w_is in let n-is : n ≡ length t.w = t.size in omega arith

module _ (text : List ℕ) (n : ℕ) (below : Below text n) (tokens : List Token) (b : ℕ) (t : List ℕ) (place : Place) (short : length (b ∷ t) ≤ suc n) (s : Stands text tokens (b ∷ t) place) where
  abbrev rest : List ℕ
  rest = b ∷ t

  by_token : begins_comment rest ≡ false → (kind : TokenKind) (m : ℕ) → IsTokenAt kind m rest → Ending text
  by_token no_comment kind m a =
      let some = some_bytes rest kind m a in
      let w-is = spelling rest kind m a in
      elim (limits kind a.w) [
        | inl within ↦ below (tokens ++ (record { kind = kind; span = record { line = place.line; col = place.col; end = place.offset + m }; start = place.offset }) ∷ []) (drop m rest) (along place m) (omega (arith, length-drop m rest)) (adds_token rest place kind m a no_comment within text tokens s)
        | inr x ↦ elim x [
          | inl y ↦ inr (_, too_large rest place kind m a y.0 no_comment (subst (λ w. 2147483647 < value_of w) (sym w-is) y.1) text tokens s)
          | inr y ↦ inr (_, long_name rest place kind m a no_comment y.0 (subst (λ k. most Name < k) (sym a.size) y.1) text tokens s)
        ]
      ]

  by_bytes : begins_blank rest ≡ false → begins_comment rest ≡ false → (o : Option (TokenKind × ℕ)) → token_in rest ≡ o → Ending text
  by_bytes no_blank no_comment None e = inr (_, no_token rest place (λ f. not_nil f) no_blank no_comment e text tokens s)
    where
      not_nil : rest ≡ [] → ⊥
      not_nil f = cc
  by_bytes no_blank no_comment (Some x) e = by_token no_comment x.0 x.1 (token_found rest x.0 x.1 e)

  by_comment : begins_comment rest ≡ true → (o : Option (List ℕ × Place)) → comment_end 1 (drop 2 rest) (along place 2) ≡ o → Ending text
  by_comment e None h = inr (_, stops_here rest place (λ front. Stops.unclosed (unclosed rest (along place 2) e h)) text tokens s)
  by_comment e (Some x) h =
      let f = found 1 (drop 2 rest) (along place 2) x.0 x.1 h in
      let size : length (drop 2 rest) ≡ length f.w + length x.0 = ap length f.text_is ∙ length-append f.w x.0 in
      below tokens x.0 x.1 (omega (arith, length-drop 2 rest)) (leads_comment rest place x.0 x.1 e h text tokens s)

  by_opening : begins_blank rest ≡ false → (d : Bool) → begins_comment rest ≡ d → Ending text
  by_opening no_blank true e = by_comment e (comment_end 1 (drop 2 rest) (along place 2)) refl
  by_opening no_blank false e = by_bytes no_blank e (token_in rest) refl

  by_blank : (d : Bool) → is_blank b ≡ d → Ending text
  by_blank true e = below tokens t (next_place place b) (omega arith) (leads_blank b t place e text tokens s)
  by_blank false e = by_opening e (begins_comment rest) refl

reaches : (text : List ℕ) (n : ℕ) → Below text n
reaches text n tokens [] place short s = inl (tokens, ends place text tokens s)
reaches text zero tokens (b ∷ t) place short s = absurd (omega arith)
reaches text (suc n) tokens (b ∷ t) place short s = by_blank text n (reaches text n) tokens b t place short s (is_blank b) refl

ending : (text : List ℕ) → Ending text
ending text = reaches text (length text) [] text (place_behind []) (omega arith) (stands_at_start text)

-- every text has tokens or is refused
pub tokens_or_refusal : (text : List ℕ) → ((tokens : List Token) × AreTokensOf text tokens) ⊎ ((error : LexErr) × Refuses text error)
tokens_or_refusal text =
    elim (cases_lt (most Size) (length text)) [
      | inl long ↦ inr (_, Refuses.size long)
      | inr short ↦ elim (ending text) [
        | inl x ↦ inl (x.0, record { size = short; read = x.1 })
        | inr x ↦ let e = x.1 in inr (x.0, Refuses.place e.front e.rest e.tokens short e.text_is e.read e.stops)
      ]
    ]
