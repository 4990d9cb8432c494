-- A text has one list of tokens, or one refusal.
use Rattle.std.proofs.Common.{◌≡◌, ◌<◌, ℕ, true, List, [], ◌∷◌, ◌++◌, length, take, drop, ◌⊎◌, inl, inr, refl, sym, ap, ◌∙◌, subst, arith}
use Rattle.std.proofs.Math.Nat.{le_antisymm}
use Rattle.std.proofs.Math.Seq.{take-append_seam, drop-append_seam}
use Rattle.std.proofs.lemmas.Bool.{both_ways}
use Rattle.std.proofs.lemmas.List.{append-nil, append_assoc}
use Rattle.hp_base.specs.Limits.{most}
use Rattle.hp_base.specs.declared.limit.What.TheVariants.{Name}
use Rattle.hp_base.specs.Bytes.{is_blank}
use Rattle.hp_lexer.specs.Bytes.{begins_blank, begins_comment}
use Rattle.hp_lexer.specs.Spelling.{Spells, IsWithin, IsNameKind}
use Rattle.hp_lexer.specs.Lexing.{span_behind, IsComment, IsToken, token_behind, Piece, Reads, AreTokensOf, BeginsNothing, IsUnclosed, Stops, Refuses}
use Rattle.hp_lexer.specs.declared.lexer.LexErr.{LexErr}
use Rattle.hp_lexer.specs.declared.lexer.LexErr.TheVariants.{Bad, Limit as Passes}
use Rattle.hp_lexer.specs.declared.token.Token.{Token}
use Rattle.hp_lexer.specs.declared.token.TokenKind.{TokenKind}
use Rattle.hp_lexer.specs.declared.token.TokenKind.TheVariants.{Small, Capital, Number, Keyword as KeywordKind, Sign as SignKind}
use Rattle.hp_lexer.proofs.Comments.{one_end}
use Rattle.hp_lexer.proofs.Pieces.{opened}
use Rattle.hp_lexer.proofs.Words.{head, no_blank_at, one_kind}

-- ---- one piece stands in front

record Same {A B C : Type 0} (a b : A) (c d : B) (e f : C) : Type 0 where
  pub first : a ≡ b
  pub second : c ≡ d
  pub third : e ≡ f

comment_opens : {w : List ℕ} (rest : List ℕ) → IsComment w → begins_comment (w ++ rest) ≡ true
comment_opens rest (IsComment.comment i) = refl

blank_comment : (b : ℕ) (text rest : List ℕ) {w : List ℕ} → is_blank b ≡ true → IsComment w → b ∷ text ≡ w ++ rest → ⊥
blank_comment b text rest h (IsComment.comment i) e =
    let b-is : b ≡ 40 = cc in
    both_ways (is_blank b) (ap is_blank b-is) h

blank_token : (b : ℕ) (text w rest : List ℕ) (kind : TokenKind) → is_blank b ≡ true → Spells kind w → b ∷ text ≡ w ++ rest → ⊥
blank_token b text w rest kind h k e = both_ways (is_blank b) (ap begins_blank e ∙ no_blank_at kind w rest k) h

comment_token : {v : List ℕ} (rest w behind : List ℕ) (kind : TokenKind) → IsComment v → IsToken kind w behind → v ++ rest ≡ w ++ behind → ⊥
comment_token rest w behind kind i t e = both_ways (begins_comment (w ++ behind)) t.no_comment (ap begins_comment (sym e) ∙ comment_opens rest i)

one_comment : {v w : List ℕ} (s t : List ℕ) → IsComment v → IsComment w → v ++ s ≡ w ++ t → (v ≡ w) × (s ≡ t)
one_comment s t (IsComment.comment {inside = v} i) (IsComment.comment {inside = w} j) e =
    let same = one_end s t i j (tail_tail (v ++ s) (w ++ t) e) in
    (ap (λ z. 40 ∷ 42 ∷ z) same.0, same.1)
  where
    tail_tail : (s t : List ℕ) → 40 ∷ 42 ∷ s ≡ 40 ∷ 42 ∷ t → s ≡ t
    tail_tail s t h = cc

-- two tokens that stand at one place are the same
one_token : (j k : TokenKind) (v s w t : List ℕ) → IsToken j v s → IsToken k w t → v ++ s ≡ w ++ t → Same v w s t j k
one_token j k v s w t a b e =
    let longer = a.longest k w t e b.spelled in
    let shorter = b.longest j v s (sym e) a.spelled in
    let size : length v ≡ length w = le_antisymm shorter longer in
    let same : v ≡ w = sym (take-append_seam v s) ∙ ap (λ n. take n (v ++ s)) size ∙ ap (take (length w)) e ∙ take-append_seam w t in
    record {
      first = same;
      second = sym (drop-append_seam v s) ∙ ap (λ n. drop n (v ++ s)) size ∙ ap (drop (length w)) e ∙ drop-append_seam w t;
      third = one_kind j k w (subst (Spells j) same a.spelled) b.spelled;
    }

one_piece : {front v s w t : List ℕ} {m n : List Token} → Piece front v s m → Piece front w t n → v ++ s ≡ w ++ t → Same v w s t m n
one_piece {front} {v} {s} {w} {t} (Piece.blank_piece b h) (Piece.blank_piece c k) e =
    let same : b ≡ c = cc in
    let rest : s ≡ t = cc in
    record { first = ap (λ z. z ∷ []) same; second = rest; third = refl }
one_piece {front} {v} {s} {w} {t} (Piece.blank_piece b h) (Piece.comment_piece i) e = absurd (blank_comment b s t h i e)
one_piece {front} {v} {s} {w} {t} (Piece.blank_piece b h) (Piece.token_piece kind a l) e = absurd (blank_token b s w t kind h a.spelled e)
one_piece {front} {v} {s} {w} {t} (Piece.comment_piece i) (Piece.blank_piece b h) e = absurd (blank_comment b t s h i (sym e))
one_piece {front} {v} {s} {w} {t} (Piece.comment_piece i) (Piece.comment_piece j) e = let same = one_comment s t i j e in record { first = same.0; second = same.1; third = refl }
one_piece {front} {v} {s} {w} {t} (Piece.comment_piece i) (Piece.token_piece kind a l) e = absurd (comment_token s w t kind i a e)
one_piece {front} {v} {s} {w} {t} (Piece.token_piece kind a l) (Piece.blank_piece b h) e = absurd (blank_token b t v s kind h a.spelled (sym e))
one_piece {front} {v} {s} {w} {t} (Piece.token_piece kind a l) (Piece.comment_piece i) e = absurd (comment_token t v s kind i a (sym e))
one_piece {front} {v} {s} {w} {t} (Piece.token_piece j a l) (Piece.token_piece k b m) e =
    let same = one_token j k v s w t a b e in
    record { first = same.first; second = same.second; third = ap (λ z. token_behind front z v ∷ []) same.third ∙ ap (λ z. token_behind front k z ∷ []) same.first }

-- ---- from the front to the end

data Goes : List ℕ → List Token → List ℕ → List ℕ → List Token → List ℕ → Type 0 where
  stays : {front rest : List ℕ} {tokens : List Token} → Goes front tokens rest front tokens rest
  goes : {front rest w behind front' rest' : List ℕ} {tokens more tokens' : List Token} → rest ≡ w ++ behind → Piece front w behind more →
      Goes (front ++ w) (tokens ++ more) behind front' tokens' rest' → Goes front tokens rest front' tokens' rest'

goes_on : {front rest w behind front' rest' : List ℕ} {tokens more tokens' : List Token} → Goes front tokens rest front' tokens' rest' → rest' ≡ w ++ behind → Piece front' w behind more →
    Goes front tokens rest (front' ++ w) (tokens' ++ more) behind
goes_on Goes.stays e p = Goes.goes e p Goes.stays
goes_on (Goes.goes f q g) e p = Goes.goes f q (goes_on g e p)

from_start : {front rest : List ℕ} {tokens : List Token} → Reads front tokens rest → Goes [] [] (front ++ rest) front tokens rest
from_start Reads.nothing = Goes.stays
from_start (Reads.more {front = front} {w = w} {rest = rest} {tokens = tokens} {next = next} r p) =
    subst (λ z. Goes [] [] z (front ++ w) (tokens ++ next) rest) (sym (append_assoc front w rest)) (goes_on (from_start r) refl p)

-- no piece stands in front
abbrev Stuck : List ℕ → Type 0
Stuck rest = (front w behind : List ℕ) (more : List Token) → rest ≡ w ++ behind → Piece front w behind more → ⊥

one_way : {front rest front' rest' front'' rest'' : List ℕ} {tokens tokens' tokens'' : List Token} → Goes front tokens rest front' tokens' rest' → Goes front tokens rest front'' tokens'' rest'' →
    Stuck rest' → Stuck rest'' → Same front' front'' tokens' tokens'' rest' rest''
one_way Goes.stays Goes.stays a b = record { first = refl; second = refl; third = refl }
one_way Goes.stays (Goes.goes {front = front} {w = w} {behind = behind} {more = more} e p g) a b = absurd (a front w behind more e p)
one_way (Goes.goes {front = front} {w = w} {behind = behind} {more = more} e p g) Goes.stays a b = absurd (b front w behind more e p)
one_way {front'' = front''} {rest'' = rest''} {tokens = tokens} {tokens'' = tokens''} (Goes.goes {front = front} {w = v} {behind = s} {more = m} e p g) (Goes.goes {w = w} {behind = t} {more = n} f q h) a b =
    let same = one_piece p q (sym e ∙ f) in
    one_way g
    (subst (λ z. Goes (front ++ z) (tokens ++ m) s front'' tokens'' rest'') (sym same.first)
    (subst (λ z. Goes (front ++ w) (tokens ++ z) s front'' tokens'' rest'') (sym same.third)
    (subst (λ z. Goes (front ++ w) (tokens ++ n) z front'' tokens'' rest'') (sym same.second) h))) a b

one_reading : (text front rest front' rest' : List ℕ) (tokens tokens' : List Token) → text ≡ front ++ rest → text ≡ front' ++ rest' → Reads front tokens rest → Reads front' tokens' rest' →
    Stuck rest → Stuck rest' → Same front front' tokens tokens' rest rest'
one_reading text front rest front' rest' tokens tokens' e f r q a b =
    one_way (from_start r) (subst (λ z. Goes [] [] z front' tokens' rest') (sym f ∙ e) (from_start q)) a b

-- ---- where no piece stands

some_piece : {front w rest : List ℕ} {more : List Token} → Piece front w rest more → [] ≡ w ++ rest → ⊥
some_piece (Piece.blank_piece b h) e = cc
some_piece (Piece.comment_piece (IsComment.comment i)) e = cc
some_piece {w = w} {rest = rest} (Piece.token_piece kind a l) e =
    let d = head kind w a.spelled in
    let f : [] ≡ d.byte ∷ (d.behind ++ rest) = e ∙ ap (λ z. z ++ rest) d.w_is in
    cc

stuck_end : Stuck []
stuck_end front w behind more e p = some_piece p e

stuck_nothing_by : {front w behind : List ℕ} {more : List Token} (rest : List ℕ) → BeginsNothing rest → rest ≡ w ++ behind → Piece front w behind more → ⊥
stuck_nothing_by rest n e (Piece.blank_piece b h) = both_ways (is_blank b) (ap begins_blank (sym e) ∙ n.no_blank) h
stuck_nothing_by {behind = behind} rest n e (Piece.comment_piece i) = both_ways (begins_comment rest) n.no_comment (ap begins_comment e ∙ comment_opens behind i)
stuck_nothing_by {w = w} {behind = behind} rest n e (Piece.token_piece kind a l) = n.no_token kind w behind e a.spelled

stuck_unclosed_by : {front w behind : List ℕ} {more : List Token} (rest : List ℕ) → IsUnclosed rest → rest ≡ w ++ behind → Piece front w behind more → ⊥
stuck_unclosed_by {behind = behind} rest u e (Piece.blank_piece b h) =
    let f : 40 ∷ 42 ∷ drop 2 rest ≡ b ∷ behind = sym (opened rest u.opened) ∙ e in
    let b-is : b ≡ 40 = cc in
    both_ways (is_blank b) (ap is_blank b-is) h
stuck_unclosed_by {w = w} {behind = behind} rest u e (Piece.comment_piece i) = u.unclosed w behind e i
stuck_unclosed_by {w = w} {behind = behind} rest u e (Piece.token_piece kind a l) = both_ways (begins_comment rest) (ap begins_comment e ∙ a.no_comment) u.opened

stuck_token_by : {front w behind : List ℕ} {more : List Token} (k : TokenKind) (v s : List ℕ) → IsToken k v s → (IsWithin k v → ⊥) → v ++ s ≡ w ++ behind → Piece front w behind more → ⊥
stuck_token_by {behind = behind} k v s a l e (Piece.blank_piece b h) = blank_token b behind v s k h a.spelled (sym e)
stuck_token_by {behind = behind} k v s a l e (Piece.comment_piece i) = comment_token behind v s k i a (sym e)
stuck_token_by {w = w} {behind = behind} k v s a l e (Piece.token_piece kind b m) =
    let same = one_token k kind v s w behind a b e in
    l (subst (λ z. IsWithin z v) (sym same.third) (subst (IsWithin kind) (sym same.first) m))

not_within : (kind : TokenKind) (w : List ℕ) → IsNameKind kind → most Name < length w → IsWithin kind w → ⊥
not_within Small w i h l = omega arith
not_within Capital w i h l = omega arith
not_within Number w i h l = i
not_within (KeywordKind k) w i h l = i
not_within (SignKind s) w i h l = i

stuck : {front rest : List ℕ} {error : LexErr} → Stops front rest error → Stuck rest
stuck {rest = rest} (Stops.no_token n) front w behind more e p = stuck_nothing_by rest n e p
stuck {rest = rest} (Stops.unclosed u) front w behind more e p = stuck_unclosed_by rest u e p
stuck (Stops.too_large {w = v} {rest = s} a h) front w behind more e p = stuck_token_by Number v s a (λ l. omega arith) e p
stuck (Stops.long_name {w = v} {rest = s} kind i a h) front w behind more e p = stuck_token_by kind v s a (not_within kind v i h) e p

some_token : (kind : TokenKind) (w rest : List ℕ) → Spells kind w → w ++ rest ≡ [] → ⊥
some_token kind w rest h e =
    let d = head kind w h in
    let f : [] ≡ d.byte ∷ (d.behind ++ rest) = sym e ∙ ap (λ z. z ++ rest) d.w_is in
    cc

stops_some : {front rest : List ℕ} {error : LexErr} → Stops front rest error → rest ≡ [] → ⊥
stops_some (Stops.no_token n) e = n.some e
stops_some (Stops.unclosed u) e = both_ways _ (ap begins_comment e) u.opened
stops_some (Stops.too_large {w = w} {rest = rest} a h) e = some_token Number w rest a.spelled e
stops_some (Stops.long_name {w = w} {rest = rest} kind i a h) e = some_token kind w rest a.spelled e

-- ---- one cause

record IsLong (front rest : List ℕ) (error : LexErr) : Type 0 where
  pub kind : TokenKind
  pub w : List ℕ
  pub behind : List ℕ
  pub name : IsNameKind kind
  pub rest_is : rest ≡ w ++ behind
  pub token : IsToken kind w behind
  pub error_is : error ≡ Passes (span_behind front (length w)) (record { what = Name; found = 256 })

abbrev NoName : List ℕ → Type 0
NoName rest = (kind : TokenKind) (w behind : List ℕ) → IsNameKind kind → rest ≡ w ++ behind → IsToken kind w behind → ⊥

no_number_name : (kind : TokenKind) → IsNameKind kind → Number ≡ kind → ⊥
no_number_name Small i e = cc
no_number_name Capital i e = cc
no_number_name Number i e = i
no_number_name (KeywordKind k) i e = i
no_number_name (SignKind s) i e = i

cause : {front rest : List ℕ} {error : LexErr} → Stops front rest error → ((error ≡ Bad (span_behind front 1)) × NoName rest) ⊎ IsLong front rest error
cause (Stops.no_token n) = inl (refl, λ kind w behind i e a. n.no_token kind w behind e a.spelled)
cause {rest = rest} (Stops.unclosed u) = inl (refl, λ kind w behind i e a. both_ways (begins_comment rest) (ap begins_comment e ∙ a.no_comment) u.opened)
cause (Stops.too_large {w = v} {rest = s} b h) = inl (refl, λ kind w behind i e a. no_number_name kind i (one_token Number kind v s w behind b a e).third)
cause (Stops.long_name {w = v} {rest = s} kind i a h) = inr (record { kind = kind; w = v; behind = s; name = i; rest_is = refl; token = a; error_is = refl })

one_cause : {front rest : List ℕ} {error other : LexErr} → Stops front rest error → Stops front rest other → error ≡ other
one_cause {front} {rest} {error} {other} a b =
    elim (cause a) [
      | inl x ↦ elim (cause b) [ inl y ↦ x.0 ∙ sym y.0 | inr y ↦ absurd (x.1 y.kind y.w y.behind y.name y.rest_is y.token) ]
      | inr x ↦ elim (cause b) [
        | inl y ↦ absurd (y.1 x.kind x.w x.behind x.name x.rest_is x.token)
        | inr y ↦ x.error_is ∙ ap (λ w. Passes (span_behind front (length w)) (record { what = Name; found = 256 })) (one_token x.kind y.kind x.w x.behind y.w y.behind x.token y.token (sym x.rest_is ∙ y.rest_is)).first ∙ sym y.error_is
      ]
    ]

-- ---- the laws

pub one_list : (text : List ℕ) (tokens others : List Token) → AreTokensOf text tokens → AreTokensOf text others → tokens ≡ others
one_list text tokens others a b = (one_reading text text [] text [] tokens others (sym (append-nil text)) (sym (append-nil text)) a.read b.read stuck_end stuck_end).second

pub not_both : (text : List ℕ) (tokens : List Token) {error : LexErr} → AreTokensOf text tokens → Refuses text error → ⊥
not_both text tokens a (Refuses.size h) = let s = a.size in omega arith
not_both text tokens a (Refuses.place front rest others short e r s) =
    stops_some s (sym (one_reading text text [] front rest tokens others (sym (append-nil text)) e a.read r stuck_end (stuck s)).third)

pub one_refusal : (text : List ℕ) {error other : LexErr} → Refuses text error → Refuses text other → error ≡ other
one_refusal text (Refuses.size h) (Refuses.size k) = refl
one_refusal text (Refuses.size h) (Refuses.place front rest tokens short e r s) = absurd (omega arith)
one_refusal text (Refuses.place front rest tokens short e r s) (Refuses.size h) = absurd (omega arith)
one_refusal text (Refuses.place {error = error} front rest tokens short e r s) (Refuses.place {error = other} front' rest' tokens' short' e' r' s') =
    let same = one_reading text front rest front' rest' tokens tokens' e e' r r' (stuck s) (stuck s') in
    one_cause s (subst (λ z. Stops z rest other) (sym same.first) (subst (λ z. Stops front' z other) (sym same.third) s'))
