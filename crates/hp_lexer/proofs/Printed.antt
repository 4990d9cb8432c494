-- What is written token by token is read again.
use Rattle.std.proofs.Common.{◌≡◌, ◌≤◌, ℕ, ◌==◌, Bool, true, false, not, List, [], ◌∷◌, ◌++◌, length, refl, sym, ap, ◌∙◌, subst, arith}
use Rattle.std.specs.List.{list_all, AllByRecursion}
use Rattle.std.proofs.lemmas.Bool.{and_parts, and_from, and_left, both_ways}
use Rattle.std.proofs.lemmas.Bool.Decides.{nat_tests}
use Rattle.std.proofs.lemmas.List.{append-nil, append_assoc}
use Rattle.hp_base.specs.Limits.{most}
use Rattle.hp_base.specs.declared.limit.What.TheVariants.{Size}
use Rattle.hp_base.specs.Bytes.{is_digit, is_word_byte, is_blank}
use Rattle.hp_lexer.specs.Bytes.{begins_comment}
use Rattle.hp_lexer.specs.Spelling.{Spells, sign_text, keyword_text}
use Rattle.hp_lexer.specs.Lexing.{IsToken, token_behind, Piece, Reads, AreTokensOf}
use Rattle.hp_lexer.specs.Written.{Written, IsWritable, written_text, written_tokens}
use Rattle.hp_lexer.specs.declared.token.Sign.{Sign}
use Rattle.hp_lexer.specs.declared.token.Sign.TheVariants.{Open, Close, Comma, Semicolon, Colon, Equal, Unequal, Less, AtMost, Greater, AtLeast, Plus, Minus, Star, Slash, Percent, And, AndAnd, Bar, BarBar, Arrow, Implies}
use Rattle.hp_lexer.specs.declared.token.Token.{Token}
use Rattle.hp_lexer.specs.declared.token.TokenKind.{TokenKind}
use Rattle.hp_lexer.specs.declared.token.TokenKind.TheVariants.{Small, Capital, Number, Keyword as KeywordKind, Sign as SignKind}
use Rattle.hp_lexer.proofs.Keywords.{keyword_word}
use Rattle.hp_lexer.proofs.Words.{Head, head, IsWordKind, begins_word, all_by, small_in_word, capital_in_word, digit_in_word, word_no_blank}

-- ---- a token has no blank

abbrev is_dark : ℕ → Bool
is_dark b = not (is_blank b)

word_is_dark : (b : ℕ) → is_word_byte b ≡ true → is_dark b ≡ true
word_is_dark b h = ap not (word_no_blank b h)

sign_is_dark : (s : Sign) → list_all is_dark (sign_text s) ≡ true
sign_is_dark Open = refl
sign_is_dark Close = refl
sign_is_dark Comma = refl
sign_is_dark Semicolon = refl
sign_is_dark Colon = refl
sign_is_dark Equal = refl
sign_is_dark Unequal = refl
sign_is_dark Less = refl
sign_is_dark AtMost = refl
sign_is_dark Greater = refl
sign_is_dark AtLeast = refl
sign_is_dark Plus = refl
sign_is_dark Minus = refl
sign_is_dark Star = refl
sign_is_dark Slash = refl
sign_is_dark Percent = refl
sign_is_dark And = refl
sign_is_dark AndAnd = refl
sign_is_dark Bar = refl
sign_is_dark BarBar = refl
sign_is_dark Arrow = refl
sign_is_dark Implies = refl

all_dark : (kind : TokenKind) (w : List ℕ) → Spells kind w → list_all is_dark w ≡ true
all_dark Small [] h = absurd h.0
all_dark Small (b ∷ w) h = all_by is_word_byte is_dark word_is_dark (b ∷ w) (and_from (is_word_byte b) (list_all is_word_byte w) (small_in_word b h.0.0) h.0.1)
all_dark Capital [] h = absurd h
all_dark Capital (b ∷ w) h = all_by is_word_byte is_dark word_is_dark (b ∷ w) (and_from (is_word_byte b) (list_all is_word_byte w) (capital_in_word b h.0) h.1)
all_dark Number [] h = absurd h
all_dark Number (b ∷ w) h = all_by is_digit is_dark (λ c e. word_is_dark c (digit_in_word c e)) (b ∷ w) h
all_dark (KeywordKind k) w h = ap (list_all is_dark) h ∙ all_by is_word_byte is_dark word_is_dark (keyword_text k) (keyword_word k).0
all_dark (SignKind s) w h = ap (list_all is_dark) h ∙ sign_is_dark s

-- what has no blank ends before the first one
before_blank : (w v rest behind : List ℕ) (b : ℕ) → is_blank b ≡ true → list_all is_dark v ≡ true → w ++ (b ∷ rest) ≡ v ++ behind → length v ≤ length w
before_blank w [] rest behind b h k e = omega arith
before_blank [] (c ∷ v) rest behind b h k e =
    let c-is : c ≡ b = cc in
    let dark : is_dark c ≡ true = (and_parts (is_dark c) (list_all is_dark v) k).0 in
    absurd (both_ways (is_dark c) (ap is_dark c-is ∙ ap not h) dark)
before_blank (x ∷ w) (c ∷ v) rest behind b h k e =
    let tail : w ++ (b ∷ rest) ≡ v ++ behind = cc in
    let less = before_blank w v rest behind b h (and_parts (is_dark c) (list_all is_dark v) k).1 tail in
    omega arith

-- ---- no comment opens

no_star : (b : ℕ) → is_blank b ≡ true → (b == 42) ≡ false
no_star b h = grind (arith, nat_tests)

no_open : (b : ℕ) → is_word_byte b ≡ true → (b == 40) ≡ false
no_open b h = grind (arith, nat_tests)

closed_word : (c : ℕ) (w : List ℕ) (b : ℕ) (rest : List ℕ) → is_word_byte c ≡ true → begins_comment (c ∷ (w ++ (b ∷ rest))) ≡ false
closed_word c [] b rest h = and_left (c == 40) (b == 42) (no_open c h)
closed_word c (d ∷ w) b rest h = and_left (c == 40) (d == 42) (no_open c h)

closed_sign : (s : Sign) (b : ℕ) (rest : List ℕ) → is_blank b ≡ true → begins_comment (sign_text s ++ (b ∷ rest)) ≡ false
closed_sign Open b rest h = no_star b h
closed_sign Close b rest h = refl
closed_sign Comma b rest h = refl
closed_sign Semicolon b rest h = refl
closed_sign Colon b rest h = refl
closed_sign Equal b rest h = refl
closed_sign Unequal b rest h = refl
closed_sign Less b rest h = refl
closed_sign AtMost b rest h = refl
closed_sign Greater b rest h = refl
closed_sign AtLeast b rest h = refl
closed_sign Plus b rest h = refl
closed_sign Minus b rest h = refl
closed_sign Star b rest h = refl
closed_sign Slash b rest h = refl
closed_sign Percent b rest h = refl
closed_sign And b rest h = refl
closed_sign AndAnd b rest h = refl
closed_sign Bar b rest h = refl
closed_sign BarBar b rest h = refl
closed_sign Arrow b rest h = refl
closed_sign Implies b rest h = refl

closed_by : (kind : TokenKind) (w : List ℕ) (b : ℕ) (rest : List ℕ) → IsWordKind kind → Head kind w → begins_comment (w ++ (b ∷ rest)) ≡ false
closed_by kind w b rest i d = ap (λ z. begins_comment (z ++ (b ∷ rest))) d.w_is ∙ closed_word d.byte d.behind b rest (begins_word kind d.byte i d.begins)

closed : (kind : TokenKind) (w : List ℕ) (b : ℕ) (rest : List ℕ) → Spells kind w → is_blank b ≡ true → begins_comment (w ++ (b ∷ rest)) ≡ false
closed Small w b rest h k = closed_by Small w b rest tt (head Small w h)
closed Capital w b rest h k = closed_by Capital w b rest tt (head Capital w h)
closed Number w b rest h k = closed_by Number w b rest tt (head Number w h)
closed (KeywordKind j) w b rest h k = closed_by (KeywordKind j) w b rest tt (head (KeywordKind j) w h)
closed (SignKind s) w b rest h k = ap (λ z. begins_comment (z ++ (b ∷ rest))) h ∙ closed_sign s b rest k

-- bytes that spell a token are one in front of a blank
pub before_a_blank : (kind : TokenKind) (w : List ℕ) (b : ℕ) (rest : List ℕ) → Spells kind w → is_blank b ≡ true → IsToken kind w (b ∷ rest)
before_a_blank kind w b rest h k = record {
  spelled = h;
  longest = λ other v behind e i. before_blank w v rest behind b k (all_dark other v i) e;
  no_comment = closed kind w b rest h k;
}

-- ---- the whole text

one_more : (front : List ℕ) (tokens : List Token) (w : Written) (rest : List ℕ) → IsWritable w → Reads front tokens (w.bytes ++ (w.behind ∷ rest)) →
    Reads (front ++ (w.bytes ++ w.behind ∷ [])) (tokens ++ token_behind front w.kind w.bytes ∷ []) rest
one_more front tokens w rest h r =
    let t = token_behind front w.kind w.bytes in
    let token : Reads (front ++ w.bytes) (tokens ++ t ∷ []) (w.behind ∷ rest) =
    Reads.more {w = w.bytes} r (Piece.token_piece w.kind (before_a_blank w.kind w.bytes w.behind rest h.spelled h.blank) h.limited) in
    let blank : Reads ((front ++ w.bytes) ++ w.behind ∷ []) ((tokens ++ t ∷ []) ++ []) rest =
    Reads.more {w = w.behind ∷ []} token (Piece.blank_piece w.behind h.blank) in
    subst (λ f. Reads f (tokens ++ t ∷ []) rest) (append_assoc front w.bytes (w.behind ∷ []))
    (subst (λ z. Reads ((front ++ w.bytes) ++ w.behind ∷ []) z rest) (append-nil (tokens ++ t ∷ [])) blank)

all_more : (front : List ℕ) (tokens : List Token) (ws : List Written) → AllByRecursion IsWritable ws → Reads front tokens (written_text ws) → Reads (front ++ written_text ws) (tokens ++ written_tokens front ws) []
all_more front tokens [] h r = subst (λ f. Reads f (tokens ++ []) []) (sym (append-nil front)) (subst (λ z. Reads front z []) (sym (append-nil tokens)) r)
all_more front tokens (w ∷ ws) h r =
    let next = front ++ (w.bytes ++ w.behind ∷ []) in
    let t = token_behind front w.kind w.bytes in
    let rest = all_more next (tokens ++ t ∷ []) ws h.1 (one_more front tokens w (written_text ws) h.0 r) in
    let front-is : next ++ written_text ws ≡ front ++ (w.bytes ++ (w.behind ∷ written_text ws)) =
    append_assoc front (w.bytes ++ w.behind ∷ []) (written_text ws) ∙ ap (λ z. front ++ z) (append_assoc w.bytes (w.behind ∷ []) (written_text ws)) in
    subst (λ f. Reads f (tokens ++ (t ∷ written_tokens next ws)) []) front-is
    (subst (λ z. Reads (next ++ written_text ws) z []) (append_assoc tokens (t ∷ []) (written_tokens next ws)) rest)

-- tokens that are written with a blank behind each are read again
pub read_again : (ws : List Written) → AllByRecursion IsWritable ws → length (written_text ws) ≤ most Size → AreTokensOf (written_text ws) (written_tokens [] ws)
read_again ws h short = record { size = short; read = all_more [] [] ws h Reads.nothing }
