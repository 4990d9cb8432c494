-- From what was read to what is answered.
use Rattle.std.proofs.Common.{◌≡◌, ◌≢◌, ◌≤◌, ℕ, List, [], Result, Ok, Err, length, ◌⊎◌, inl, inr, refl}
use Rattle.std.specs.Prelude.{IfOk, IfErr, MatchResult, IsErrAnd}
use Rattle.std.specs.List.{All}
use Rattle.hp_base.specs.Limits.{most}
use Rattle.hp_base.specs.declared.limit.What.TheVariants.{Size}
use Rattle.hp_lexer.specs.Lexing.{Reads, AreTokensOf, Refuses, IsTokenIn, AreInOrder}
use Rattle.hp_lexer.specs.Reading.{StopsIn}
use Rattle.hp_lexer.specs.declared.lexer.LexErr.{LexErr}
use Rattle.hp_lexer.specs.declared.lexer.LexErr.TheVariants.{Bad, Limit, OutOfMemory}
use Rattle.hp_lexer.specs.declared.token.Token.{Token}
use Rattle.hp_lexer.proofs.Facts as facts
use Rattle.hp_lexer.proofs.Unique.{one_list, one_refusal, not_both}

module _ {T : Type 0} (items : T → List Token) (text : List ℕ) (short : length text ≤ most Size) where
  abbrev HasRead : Result T LexErr → Type 0
  HasRead r = IfOk r (λ v. Reads text (items v) [])

  abbrev HasStopped : Result T LexErr → Type 0
  HasStopped r = IfErr r (λ e. e ≢ OutOfMemory → StopsIn text e)

  are_tokens : (v : T) → Reads text (items v) [] → AreTokensOf text (items v)
  are_tokens v h = record { size = short; read = h }

  is_refused : (e : LexErr) → StopsIn text e → Refuses text e
  is_refused e s = Refuses.place s.front s.rest s.tokens short s.text_is s.read s.stops

  pub refused : (r : Result T LexErr) → HasStopped r → IfErr r (λ e. e ≢ OutOfMemory → Refuses text e)
  refused (Ok v) h = tt
  refused (Err e) h = λ some. is_refused e (h some)

  pub tokens_given : (r : Result T LexErr) → HasRead r → HasStopped r → (tokens : List Token) → AreTokensOf text tokens → MatchResult r (λ v. items v ≡ tokens) (λ e. e ≡ OutOfMemory)
  tokens_given (Ok v) h k tokens a = one_list text (items v) tokens (are_tokens v h) a
  tokens_given (Err OutOfMemory) h k tokens a = refl
  tokens_given (Err (Bad span)) h k tokens a = absurd (not_both text tokens a (is_refused (Bad span) (k (λ e. cc))))
  tokens_given (Err (Limit span limit)) h k tokens a = absurd (not_both text tokens a (is_refused (Limit span limit) (k (λ e. cc))))

  pub refusal_given : (r : Result T LexErr) → HasRead r → HasStopped r → (error : LexErr) → Refuses text error → IsErrAnd r (λ e. (e ≡ error) ⊎ (e ≡ OutOfMemory))
  refusal_given (Ok v) h k error a = absurd (not_both text (items v) (are_tokens v h) a)
  refusal_given (Err OutOfMemory) h k error a = inr refl
  refusal_given (Err (Bad span)) h k error a = inl (one_refusal text (is_refused (Bad span) (k (λ e. cc))) a)
  refusal_given (Err (Limit span limit)) h k error a = inl (one_refusal text (is_refused (Limit span limit) (k (λ e. cc))) a)

  pub each : (r : Result T LexErr) → HasRead r → IfOk r (λ v. All (IsTokenIn text) (items v))
  each (Ok v) h = facts.tokens_in text (items v) (are_tokens v h)
  each (Err e) h = tt

  pub in_order : (r : Result T LexErr) → HasRead r → IfOk r (λ v. AreInOrder 0 (items v))
  in_order (Ok v) h = facts.in_order text (items v) (are_tokens v h)
  in_order (Err e) h = tt
