use Rattle.std.proofs.Common.{◌≡◌, ◌<◌, ◌≤◌, ℕ, ◌+◌, true, false, Option, None, Some, length, take, subst, sym, ap, ◌∙◌, inl, inr, arith}
use Rattle.std.specs.Prelude.{IfSome, IfNone, is_some}
use Rattle.std.specs.List.{list_all}
use Rattle.hp_base.specs.declared.limit.What.TheVariants.{Name}
use Rattle.hp_base.specs.Bytes.{is_digit}
use Rattle.hp_lexer.specs.Spelling.{IsWithin, IsNameKind, value_of}
use Rattle.hp_lexer.specs.Reading.{IsNext, Fails, span_at}
use Rattle.hp_lexer.specs.declared.lexer.LexErr.TheVariants.{Bad, Limit as Passes}
use Rattle.hp_lexer.proofs.Pieces.{no_token, long_name, too_large, digits, next_is}
use Rattle.hp_lexer.proofs.Words.{token_found}
use Rattle.hp_lexer.proofs.lexer.token.Goals as goal
use Rattle.hp_lexer.proofs.lexer.token.Goals.{in-Small+else-length-most, in-Number+else-is_none, in-Keyword}

at_none : (r : Option ℕ) (P : Type 0) → is_some r ≡ false → IfNone r P → P
at_none None P e h = h
at_none (Some n) P e h = absurd (cc)

at_some : (r : Option ℕ) (value : ℕ) → is_some r ≡ true → IfSome r (λ n. n ≡ value) → IfSome r (λ n. n ≤ 2147483647) → value ≤ 2147483647
at_some None value e h k = absurd (cc)
at_some (Some n) value e h k = omega arith

pub returns-in_default-clause-fails : goal.returns-in_default-clause-fails
returns-in_default-clause-fails c =
    let text = c.args.rest.bytes.now in
    let place = c.args.rest.place in
    subst (λ s. Fails text place (Bad s)) (sym c.span.ensures)
    (no_token text place c.requires.some c.requires.no_blank c.requires.no_comment (sym c.first_token.ensures.token ∙ c.in_default.is))

pub returns-then-length-most-clause-fails : goal.returns-then-length-most-clause-fails
returns-then-length-most-clause-fails c =
    let text = c.args.rest.bytes.now in
    let place = c.args.rest.place in
    let kind = c.in-Some.kind in
    let n = c.in-Some.length in
    let found = token_found text kind n (sym c.first_token.ensures.token ∙ c.in-Some.is) in
    let name : IsNameKind kind = elim c.in-Small.is [ inl e ↦ subst IsNameKind (sym e) tt | inr e ↦ subst IsNameKind (sym e) tt ] in
    subst (λ s. Fails text place (Passes s (record { what = Name; found = c.most-then-length-most.result + 1 }))) (sym c.span-span.ensures)
    (subst (λ m. Fails text place (Passes (span_at place n) (record { what = Name; found = m + 1 }))) (sym c.most-then-length-most.ensures)
    (long_name text place kind n found c.requires.no_comment name (omega arith)))

pub number-requires : goal.number-requires
number-requires c =
    let text = c.args.rest.bytes.now in
    let n = c.in-Some.length in
    let found = token_found text c.in-Some.kind n (sym c.first_token.ensures.token ∙ c.in-Some.is) in
    ap (list_all is_digit) c.split_at.ensures.front ∙ digits text c.in-Some.kind n found c.in-Number.is

pub returns-then-is_none-clause-fails : goal.returns-then-is_none-clause-fails
returns-then-is_none-clause-fails c =
    let text = c.args.rest.bytes.now in
    let place = c.args.rest.place in
    let n = c.in-Some.length in
    let found = token_found text c.in-Some.kind n (sym c.first_token.ensures.token ∙ c.in-Some.is) in
    let large : 2147483647 < value_of c.split_at.result.0.now = at_none c.number.result (2147483647 < value_of c.split_at.result.0.now) c.if-is_none.ensures c.number.ensures.too_large in
    subst (λ s. Fails text place (Bad s)) (sym c.span-then-is_none.ensures)
    (too_large text place c.in-Some.kind n found c.in-Number.is c.requires.no_comment (subst (λ w. 2147483647 < value_of w) c.split_at.ensures.front large))

pub returns-clause-next : goal.returns-clause-next
returns-clause-next c =
    let text = c.args.rest.bytes.now in
    let place = c.args.rest.place in
    let kind = c.in-Some.kind in
    let n = c.in-Some.length in
    let found = token_found text kind n (sym c.first_token.ensures.token ∙ c.in-Some.is) in
    let size : length (take n text) ≡ n = ap length (sym c.split_at.ensures.front) ∙ c.split_at.ensures.front_len in
    let bounds : (0 < n) × (n ≤ length text) = c.in-Some.ensures.within in
    let within : IsWithin kind (take n text) =
    elim c.match-kind.branch [
      | in-Small+else-length-most w ↦ elim w.in-Small.is [ inl e ↦ subst (λ k. IsWithin k (take n text)) (sym e) (omega arith) | inr e ↦ subst (λ k. IsWithin k (take n text)) (sym e) (omega arith) ]
      | in-Number+else-is_none w ↦ subst (λ k. IsWithin k (take n text)) (sym w.in-Number.is) (subst (λ v. value_of v ≤ 2147483647) c.split_at.ensures.front (at_some w.number.result (value_of c.split_at.result.0.now) w.if-is_none.ensures w.number.ensures.value w.number.ensures.within))
      | in-Keyword w ↦ elim w.in-Keyword.is [ inl e ↦ subst (λ k. IsWithin k (take n text)) (sym e.1) tt | inr e ↦ subst (λ k. IsWithin k (take n text)) (sym e.1) tt ]
    ] in
    subst (λ s. IsNext text place (record { kind = kind; span = s; start = place.offset }) c.split_at.result.1.now c.along.result) (sym c.span-span.ensures)
    (subst (IsNext text place (record { kind = kind; span = span_at place n; start = place.offset }) c.split_at.result.1.now) (sym c.along.ensures)
    (next_is text c.split_at.result.1.now place kind n found c.requires.no_comment c.requires.room bounds.0 bounds.1 within c.split_at.ensures.back))
