-- From one piece of a text to the next.
use Rattle.std.proofs.Common.{◌≡◌, ◌≢◌, ◌≤◌, ◌<◌, ℕ, ◌+◌, ◌-◌, ◌^◌, ◌==◌, true, false, not, List, [], ◌∷◌, ◌++◌, length, get_or, take, drop, Option, None, Some, refl, sym, ap, ◌∙◌, subst, arith}
use Rattle.std.specs.Prelude.{count_by}
use Rattle.std.specs.List.{list_all, suffix_len}
use Rattle.std.proofs.lemmas.Bool.{and_parts, eqb-true}
use Rattle.std.proofs.lemmas.List.{append-nil, append_assoc, take_rest, take_at, length-drop}
use Rattle.std.proofs.lemmas.List.Sums.{count_by-le-length, suffix_len-le-length}
use Rattle.hp_base.specs.Limits.{most}
use Rattle.hp_base.specs.declared.limit.What.TheVariants.{Name}
use Rattle.hp_base.specs.Bytes.{is_blank, is_digit}
use Rattle.hp_lexer.specs.Bytes.{begins_blank, begins_comment}
use Rattle.hp_lexer.specs.Spelling.{Spells, IsNumeral, IsWithin, IsNameKind, value_of}
use Rattle.hp_lexer.specs.Lexing.{span_behind, Inside, IsComment, IsToken, token_behind, Piece, Reads, IsUnclosed, Stops}
use Rattle.hp_lexer.specs.Reading.{HasRoom, place_behind, next_place, along, span_at, comment_end, Stands, Leads, Unended, IsNext, Fails, Ends, token_in}
use Rattle.hp_lexer.specs.declared.lexer.LexErr.{LexErr}
use Rattle.hp_lexer.specs.declared.lexer.LexErr.TheVariants.{Bad, Limit as Passes}
use Rattle.hp_lexer.specs.declared.place.Place.{Place}
use Rattle.hp_lexer.specs.declared.token.Token.{Token}
use Rattle.hp_lexer.specs.declared.token.TokenKind.{TokenKind}
use Rattle.hp_lexer.specs.declared.token.TokenKind.TheVariants.{Number}
use Rattle.hp_lexer.proofs.Comments.{Found, found, read_on, room_next}
use Rattle.hp_lexer.proofs.Places.{place_push, place_along}
use Rattle.hp_lexer.proofs.Words.{IsTokenAt, token_missed, no_newline}

-- ---- room

pub room_behind : (front : List ℕ) (n : ℕ) → length front + n < 2 ^ 31 → HasRoom (place_behind front) n
room_behind front n h =
    let lines : count_by (λ b. b == 10) front ≤ length front = count_by-le-length (λ b. b == 10) front in
    let cols : suffix_len (λ b. not (b == 10)) front ≤ length front = suffix_len-le-length (λ b. not (b == 10)) front in
    record { line = omega arith; col = omega arith; offset = omega arith }

-- ---- blanks and comments

pub leads_blank : (b : ℕ) (rest : List ℕ) (place : Place) → is_blank b ≡ true → Leads (b ∷ rest) place rest (next_place place b)
leads_blank b rest place e text tokens s = record {
  front = s.front ++ b ∷ [];
  text_is = s.text_is ∙ sym (append_assoc s.front (b ∷ []) rest);
  place_is = ap (λ p. next_place p b) s.place_is ∙ sym (place_push s.front b);
  read = subst (λ z. Reads (s.front ++ b ∷ []) z rest) (append-nil tokens) (Reads.more s.read (Piece.blank_piece b e));
}

blank_at : (b : ℕ) (rest tail : List ℕ) (place next : Place) (text : List ℕ) (start : Place) → tail ≡ rest → Leads text start (b ∷ rest) place → HasRoom place (length (b ∷ rest)) → length (b ∷ rest) ≤ length text →
    is_blank b ≡ true → next ≡ next_place place b → Leads text start tail next × HasRoom next (length tail) × (length tail ≤ length text)
blank_at b rest tail place next text start e leads room short blank f =
    let P : Place → List ℕ → Type 0 = λ p t. Leads text start t p × HasRoom p (length t) × (length t ≤ length text) in
    subst (λ p. P p tail) (sym f) (subst (P (next_place place b)) (sym e)
    (λ whole_text tokens s. leads_blank b rest place blank whole_text tokens (leads whole_text tokens s), room_next place b (length rest) room, omega arith))

-- a turn of the loop that skips blanks
pub blank_turn : (rest : List ℕ) (place next : Place) (text : List ℕ) (start : Place) → 0 < length rest → Leads text start rest place → HasRoom place (length rest) → length rest ≤ length text →
    is_blank (get_or rest 0 0) ≡ true → next ≡ next_place place (get_or rest 0 0) →
    Leads text start (take (length rest - 1) (drop 1 rest)) next × HasRoom next (length (take (length rest - 1) (drop 1 rest))) × (length (take (length rest - 1) (drop 1 rest)) ≤ length text)
blank_turn [] place next text start some leads room short blank f = absurd (omega arith)
blank_turn (b ∷ rest) place next text start some leads room short blank f = blank_at b rest (take (length (b ∷ rest) - 1) rest) place next text start (take_rest (b ∷ rest) 1) leads room short blank f

pub opened : (text : List ℕ) → begins_comment text ≡ true → text ≡ 40 ∷ 42 ∷ drop 2 text
opened [] h = absurd (cc)
opened (b ∷ []) h = absurd (cc)
opened (b ∷ c ∷ text) h =
    let parts = and_parts (b == 40) (c == 42) h in
    let b-is : b ≡ 40 = eqb-true b 40 parts.0 in
    let c-is : c ≡ 42 = eqb-true c 42 parts.1 in
    cc

whole : (w inner rest : List ℕ) → w ≡ inner ++ rest → rest ≡ [] → inner ≡ w
whole w inner rest e f = sym (e ∙ ap (λ z. inner ++ z) f ∙ append-nil inner)

leads_comment_by : (text : List ℕ) (place : Place) (rest : List ℕ) (next : Place) → Found 1 text (along place 2) rest next → Leads (40 ∷ 42 ∷ text) place rest next
leads_comment_by text place rest next f whole_text tokens s =
    let one = f.insides in
    let inside : Inside f.w = subst Inside (whole f.w one.0 one.1 one.2 one.4) one.3 in
    let text-is : 40 ∷ 42 ∷ text ≡ (40 ∷ 42 ∷ f.w) ++ rest = ap (λ z. 40 ∷ 42 ∷ z) f.text_is in
    record {
      front = s.front ++ (40 ∷ 42 ∷ f.w);
      text_is = s.text_is ∙ ap (λ z. s.front ++ z) text-is ∙ sym (append_assoc s.front (40 ∷ 42 ∷ f.w) rest);
      place_is =
          f.places (s.front ++ (40 ∷ 42 ∷ [])) (ap (λ z. along z 2) s.place_is ∙ sym (place_along (40 ∷ 42 ∷ []) s.front refl))
          ∙ ap place_behind (append_assoc s.front (40 ∷ 42 ∷ []) f.w);
      read =
          subst (λ z. Reads (s.front ++ (40 ∷ 42 ∷ f.w)) z rest) (append-nil tokens)
          (Reads.more {w = 40 ∷ 42 ∷ f.w} (subst (Reads s.front tokens) text-is s.read) (Piece.comment_piece (IsComment.comment inside)));
    }

pub leads_comment : (text : List ℕ) (place : Place) (rest : List ℕ) (next : Place) → begins_comment text ≡ true → comment_end 1 (drop 2 text) (along place 2) ≡ Some (rest, next) → Leads text place rest next
leads_comment text place rest next e h =
    subst (λ z. Leads z place rest next) (sym (opened text e)) (leads_comment_by (drop 2 text) place rest next (found 1 (drop 2 text) (along place 2) rest next h))

unclosed_by : (text behind : List ℕ) (place : Place) {w : List ℕ} → IsComment w → 40 ∷ 42 ∷ text ≡ w ++ behind → comment_end 1 text place ≡ None → ⊥
unclosed_by text behind place (IsComment.comment {inside = inside} i) e h =
    let same : text ≡ inside ++ behind = cc in
    let end = read_on i 0 behind place in
    let both : ◌≡◌ {A = Option (List ℕ × Place)} None (Some (behind, end.0)) = sym h ∙ ap (λ z. comment_end 1 z place) same ∙ end.1 in
    cc

pub unclosed : (text : List ℕ) (place : Place) → begins_comment text ≡ true → comment_end 1 (drop 2 text) place ≡ None → IsUnclosed text
unclosed text place e h = record {
  opened = e;
  unclosed = λ w behind f comment. unclosed_by (drop 2 text) behind place comment (sym (opened text e) ∙ f) h;
}

-- ---- tokens

same_token : (kind : TokenKind) (p : Place) (n : ℕ) (front w : List ℕ) → p ≡ place_behind front → n ≡ length w →
    (let t : Token = record { kind = kind; span = span_at p n; start = p.offset } in t) ≡ token_behind front kind w
same_token kind p n front w e f =
    ap (λ q. let t : Token = record { kind = kind; span = span_at q n; start = q.offset } in t) e
    ∙ ap (λ m. let t : Token = record { kind = kind; span = span_behind front m; start = length front } in t) f

module _ (text : List ℕ) (place : Place) (kind : TokenKind) (n : ℕ) (t : IsTokenAt kind n text) (no_comment : begins_comment text ≡ false) where
  is_token : IsToken kind t.w (drop n text)
  is_token = record {
    spelled = t.spelled;
    longest = λ other v behind e. t.longest other v behind (t.text_is ∙ e);
    no_comment = ap begins_comment (sym t.text_is) ∙ no_comment;
  }

  pub adds_token : IsWithin kind t.w → (whole : List ℕ) (tokens : List Token) → Stands whole tokens text place →
      Stands whole (tokens ++ (record { kind = kind; span = span_at place n; start = place.offset }) ∷ []) (drop n text) (along place n)
  adds_token within whole_text tokens s = record {
    front = s.front ++ t.w;
    text_is = s.text_is ∙ ap (λ z. s.front ++ z) t.text_is ∙ sym (append_assoc s.front t.w (drop n text));
    place_is = ap (λ z. along z n) s.place_is ∙ ap (along (place_behind s.front)) t.size ∙ sym (place_along t.w s.front (no_newline kind t.w t.spelled));
    read =
        subst (λ z. Reads (s.front ++ t.w) (tokens ++ z ∷ []) (drop n text)) (sym (same_token kind place n s.front t.w s.place_is t.size))
        (Reads.more {w = t.w} (subst (Reads s.front tokens) t.text_is s.read) (Piece.token_piece kind is_token within));
  }

  stops_at : (error : List ℕ → LexErr) → ((front : List ℕ) → Stops front (t.w ++ drop n text) (error front)) → (e : LexErr) → ((front : List ℕ) → place ≡ place_behind front → e ≡ error front) → Fails text place e
  stops_at error f e same whole_text tokens s = record {
    front = s.front;
    rest = text;
    tokens = tokens;
    text_is = s.text_is;
    read = s.read;
    stops = subst (λ z. Stops s.front z e) (sym t.text_is) (subst (Stops s.front (t.w ++ drop n text)) (sym (same s.front s.place_is)) (f s.front));
  }

  pub long_name : IsNameKind kind → most Name < n → Fails text place (Passes (span_at place n) (record { what = Name; found = 256 }))
  long_name is_name long = stops_at
      (λ front. Passes (span_behind front (length t.w)) (record { what = Name; found = 256 }))
      (λ front. Stops.long_name kind is_name is_token (subst (λ m. most Name < m) t.size long))
      (Passes (span_at place n) (record { what = Name; found = 256 }))
      (λ front e. ap (λ p. Passes (span_at p n) (record { what = Name; found = 256 })) e ∙ ap (λ m. Passes (span_behind front m) (record { what = Name; found = 256 })) t.size)

-- the bytes of the token
pub spelling : (text : List ℕ) (kind : TokenKind) (n : ℕ) (t : IsTokenAt kind n text) → take n text ≡ t.w
spelling text kind n t = ap (take n) t.text_is ∙ take_at t.w (drop n text) n (sym t.size)

large_by : (text : List ℕ) (place : Place) (n : ℕ) (t : IsTokenAt Number n text) → begins_comment text ≡ false → 2147483647 < value_of (take n text) → Fails text place (Bad (span_at place 1))
large_by text place n t no_comment large =
    stops_at text place Number n t no_comment (λ front. Bad (span_behind front 1))
    (λ front. Stops.too_large (is_token text place Number n t no_comment) (subst (λ w. 2147483647 < value_of w) (spelling text Number n t) large)) (Bad (span_at place 1))
    (λ front e. ap (λ p. Bad (span_at p 1)) e)

pub too_large : (text : List ℕ) (place : Place) (kind : TokenKind) (n : ℕ) → IsTokenAt kind n text → kind ≡ Number → begins_comment text ≡ false → 2147483647 < value_of (take n text) → Fails text place (Bad (span_at place 1))
too_large text place kind n t e no_comment large = large_by text place n (subst (λ k. IsTokenAt k n text) e t) no_comment large

-- digits, and one at least
pub numeral : (w : List ℕ) → IsNumeral w → list_all is_digit w ≡ true
numeral [] h = absurd h
numeral (b ∷ w) h = h

pub digits : (text : List ℕ) (kind : TokenKind) (n : ℕ) → IsTokenAt kind n text → kind ≡ Number → list_all is_digit (take n text) ≡ true
digits text kind n t e = ap (list_all is_digit) (spelling text kind n t) ∙ numeral t.w (subst (λ k. Spells k t.w) e t.spelled)

-- the token in front is the next one
pub next_is : (text behind : List ℕ) (place : Place) (kind : TokenKind) (n : ℕ) (t : IsTokenAt kind n text) → begins_comment text ≡ false → HasRoom place (length text) → 0 < n → n ≤ length text →
    IsWithin kind (take n text) → behind ≡ drop n text → IsNext text place (record { kind = kind; span = span_at place n; start = place.offset }) behind (along place n)
next_is text behind place kind n t no_comment room some short within e =
    let size = length-drop n text in
    subst (λ b. IsNext text place (record { kind = kind; span = span_at place n; start = place.offset }) b (along place n)) (sym e) (record {
      adds = adds_token text place kind n t no_comment (subst (IsWithin kind) (spelling text kind n t) within);
      room = record { line = omega arith; col = omega arith; offset = omega arith };
      shorter = omega arith;
    })

pub stops_here : (text : List ℕ) (place : Place) → ((front : List ℕ) → Stops front text (Bad (span_behind front 1))) → Fails text place (Bad (span_at place 1))
stops_here text place f whole_text tokens s = record {
  front = s.front;
  rest = text;
  tokens = tokens;
  text_is = s.text_is;
  read = s.read;
  stops = subst (Stops s.front text) (sym (ap (λ p. Bad (span_at p 1)) s.place_is)) (f s.front);
}

pub no_token : (text : List ℕ) (place : Place) → text ≢ [] → begins_blank text ≡ false → begins_comment text ≡ false → token_in text ≡ None → Fails text place (Bad (span_at place 1))
no_token text place some no_blank no_comment h =
    stops_here text place (λ front. Stops.no_token (record { some = some; no_blank = no_blank; no_comment = no_comment; no_token = token_missed text some h }))

pub unended : (text : List ℕ) (place at : Place) → Unended text place at → Fails text place (Bad (span_at at 1))
unended text place at u whole_text tokens s =
    stops_here u.behind at (λ front. Stops.unclosed u.unclosed) whole_text tokens (u.leads whole_text tokens s)

pub ends : (place : Place) → Ends [] place
ends place text tokens s = subst (λ z. Reads z tokens []) (sym (s.text_is ∙ append-nil s.front)) s.read

pub stands_at_start : (text : List ℕ) → Stands text [] text (place_behind [])
stands_at_start text = record { front = []; text_is = refl; place_is = refl; read = Reads.nothing }
