-- The pieces of a certificate's text are those that it is written by.
use Rattle.std.proofs.Common.{◌≡◌, ◌<◌, ◌≤◌, ◌+◌, ◌^◌, ℕ, suc, Bool, true, false, not, ◌&&◌, ◌||◌, ◌==◌, nat_le, List, [], ◌∷◌, ◌++◌, length, All, Option, None, Some, if◌then◌else◌, refl, sym, ap, subst, ◌∙◌, append_assoc, arith}
use Rattle.std.specs.Prelude.{codes}
use Rattle.std.specs.Fmt.{decimal}
use Rattle.std.specs.List.{list_all}
use Rattle.std.proofs.lemmas.Bool.Decides.{nat_tests}
use Rattle.std.proofs.lemmas.Fmt.{decimal_nonempty}
use Rattle.std.proofs.lemmas.List.{length-append}
use Rattle.hp_base.specs.Bytes.{is_digit, is_small}
use Rattle.hp_obc.specs.Form.{is_name_byte, is_name, is_reserved}
use Rattle.hp_quant.specs.declared.line.Line.{Line}
use Rattle.hp_cert.specs.Certtext.Certificates.{IsShort, IsRef, AreLines, AreWidths, IsClaim, Claim, win, lose, Certificate, HasForm}
use Rattle.hp_cert.specs.Certtext.Pieces.{Piece, Pieces, is_gap, in_word, begins_word, pieces, joined}
use Rattle.hp_cert.specs.Certtext.Texts as text
use Rattle.hp_cert.specs.Certtext.Texts.{space, newline, spaced, decimals, line, cert_pieces, cert_text}
use Rattle.hp_cert.proofs.CerttextLemmas.Goings.{both_true, decimal_spells}
use Rattle.hp_cert.proofs.CerttextLemmas.WrittenLaws.{joined_append}

-- ---- words

abbrev AreParts : Piece → Type 0
AreParts [] = Unit {0}
AreParts (b ∷ w) = (is_gap b ≡ false) × AreParts w

abbrev IsWord : Piece → Type 0
IsWord [] = ⊥
IsWord (b ∷ w) = (is_gap b ≡ false) × AreParts w

abbrev AreWords : List Piece → Type 0
AreWords [] = Unit {0}
AreWords (w ∷ ws) = IsWord w × AreWords ws

-- they are the pieces of their text
abbrev Hold : Pieces → Type 0
Hold ps = pieces (joined ps) ≡ ps

word_piece : (b : ℕ) (w : Piece) (rest : List ℕ) → is_gap b ≡ false → AreParts w → begins_word rest ≡ false → pieces (b ∷ (w ++ rest)) ≡ (b ∷ w) ∷ pieces rest
word_piece b [] rest e h k = ap (λ d. if d then (b ∷ []) ∷ pieces rest else in_word b (begins_word rest) (pieces rest)) e ∙ ap (λ d. in_word b d (pieces rest)) k
word_piece b (c ∷ w) rest e h k =
    ap (λ d. if d then (b ∷ []) ∷ pieces (c ∷ (w ++ rest)) else in_word b (not (is_gap c)) (pieces (c ∷ (w ++ rest)))) e
    ∙ ap (λ d. in_word b (not d) (pieces (c ∷ (w ++ rest)))) h.0 ∙ ap (in_word b true) (word_piece c w rest h.0 h.1 k)

word_holds : (w : Piece) (ps : Pieces) → IsWord w → begins_word (joined ps) ≡ false → Hold ps → Hold (w ∷ ps)
word_holds [] ps h k e = absurd h
word_holds (b ∷ w) ps h k e = word_piece b w (joined ps) h.0 h.1 k ∙ ap (λ z. (b ∷ w) ∷ z) e

-- no word begins behind the words of a line
gap_behind : (ws : List Piece) (rest : Pieces) → begins_word (joined (spaced ws ++ newline ∷ rest)) ≡ false
gap_behind [] rest = refl
gap_behind (w ∷ ws) rest = refl

spaced_hold : (ws : List Piece) (rest : Pieces) → AreWords ws → Hold rest → Hold (spaced ws ++ newline ∷ rest)
spaced_hold [] rest h e = ap (λ z. newline ∷ z) e
spaced_hold (w ∷ ws) rest h e = ap (λ z. space ∷ z) (word_holds w (spaced ws ++ newline ∷ rest) h.0 (gap_behind ws rest) (spaced_hold ws rest h.1 e))

line_holds : (w : Piece) (ws : List Piece) (rest : Pieces) → IsWord w → AreWords ws → Hold rest → Hold (line w ws ++ rest)
line_holds w ws rest h k e =
    let same = ap (λ z. w ∷ z) (append_assoc (spaced ws) (newline ∷ []) rest) in
    let P : Pieces → Type 0 = λ z. Hold z in
    subst P (sym same) (word_holds w (spaced ws ++ newline ∷ rest) h (gap_behind ws rest) (spaced_hold ws rest k e))

-- ---- numbers and names are words

no_gap : (p : ℕ → Bool) → p 32 ≡ false → p 10 ≡ false → (b : ℕ) → p b ≡ true → is_gap b ≡ false
no_gap p s n b h = by (b == 32) (b == 10) refl refl
  where
    same : (b c : ℕ) → (b == c) ≡ true → b ≡ c
    same b c e = grind (arith, nat_tests)

    by : (d e : Bool) → (b == 32) ≡ d → (b == 10) ≡ e → (b == 32 || b == 10) ≡ false
    by true e k l = let q : p b ≡ false = ap p (same b 32 k) ∙ s in let r : true ≡ false = sym h ∙ q in absurd cc
    by false true k l = let q : p b ≡ false = ap p (same b 10 l) ∙ n in let r : true ≡ false = sym h ∙ q in absurd cc
    by false false k l = ap (λ d. d || (b == 10)) k ∙ l

parts : (p : ℕ → Bool) → p 32 ≡ false → p 10 ≡ false → (w : Piece) → list_all p w ≡ true → AreParts w
parts p s n [] h = tt
parts p s n (b ∷ w) h = let t = both_true (p b) (list_all p w) h in (no_gap p s n b t.0, parts p s n w t.1)

word_by : (w : Piece) → 0 < length w → AreParts w → IsWord w
word_by [] h k = absurd (omega (arith, h))
word_by (b ∷ w) h k = k

number_word : (n : ℕ) → n < 2 ^ 64 → IsWord (decimal n)
number_word n h = let s = decimal_spells n h in word_by (decimal n) (decimal_nonempty n h) (parts is_digit refl refl (decimal n) s.digits)

name_word : (x : Piece) → is_name x ≡ true → IsWord x
name_word [] h = absurd cc
name_word (b ∷ x) h =
    let one = both_true (is_small b && list_all is_name_byte x && nat_le (length (b ∷ x)) 270) (not (is_reserved (b ∷ x))) h in
    let two = both_true (is_small b && list_all is_name_byte x) (nat_le (length (b ∷ x)) 270) one.0 in
    let three = both_true (is_small b) (list_all is_name_byte x) two.0 in
    (no_gap is_small refl refl b three.0, parts is_name_byte refl refl x three.1)

ref_word : (end r : ℕ) → IsRef end r → IsWord (decimal r)
ref_word end r h = let low = h.1 in number_word r (omega (arith, low))

short_word : (n : ℕ) → IsShort n → IsWord (decimal n)
short_word n h = number_word n (omega (arith, h))

-- the words that the text has whatever it says
plain : (w : Piece) → (not (length w == 0) && list_all (λ b. not (is_gap b)) w) ≡ true → IsWord w
plain w h =
    let t = both_true (not (length w == 0)) (list_all (λ b. not (is_gap b)) w) h in
    word_by w (some w t.0) (parts (λ b. not (is_gap b)) refl refl w t.1)
  where
    some : (w : Piece) → not (length w == 0) ≡ true → 0 < length w
    some w h = grind (arith, nat_tests)

-- ---- lists of lines

all_first : {A : Type 0} (P : A → Type 0) (x : A) (xs : List A) → All P (x ∷ xs) → P x
all_first P x xs h = h 0 x (omega arith)

all_rest : {A : Type 0} (P : A → Type 0) (x : A) (xs : List A) → All P (x ∷ xs) → All P xs
all_rest P x xs h k d l = h (suc k) d (omega (arith, l))

shorts_words : (ns : List ℕ) → All IsShort ns → AreWords (decimals ns)
shorts_words [] h = tt
shorts_words (n ∷ ns) h = (short_word n (all_first IsShort n ns h), shorts_words ns (all_rest IsShort n ns h))

widths_hold : (o : Option (List ℕ)) (rest : Pieces) → AreWidths o → Hold rest → Hold (text.controls o ++ rest)
widths_hold None rest h e = e
widths_hold (Some ns) rest h e = line_holds (codes "controls") (decimals ns) rest (plain (codes "controls") refl) (shorts_words ns h) e

lines_hold : (n : ℕ) (ls : List Line) (rest : Pieces) → n + length ls < 2 ^ 64 → AreLines n ls → Hold rest → Hold (text.lines n ls ++ rest)
lines_hold n [] rest less h e = e
lines_hold n (l ∷ ls) rest less h e =
    let P : Pieces → Type 0 = λ z. Hold z in
    let here = line (codes "d") (decimals (n ∷ l.var ∷ l.low ∷ l.high ∷ [])) in
    subst P (sym (append_assoc here (text.lines (suc n) ls) rest))
    (line_holds (codes "d") (decimals (n ∷ l.var ∷ l.low ∷ l.high ∷ [])) (text.lines (suc n) ls ++ rest) (plain (codes "d") refl)
    (number_word n (omega (arith, less)), (short_word l.var h.0, (ref_word n l.low h.1, (ref_word n l.high h.2, tt)))) (lines_hold (suc n) ls rest (omega (arith, less)) h.3 e))

funs_hold : (end : ℕ) (rs : List ℕ) (rest : Pieces) → All (IsRef end) rs → Hold rest → Hold (text.funs rs ++ rest)
funs_hold end [] rest h e = e
funs_hold end (r ∷ rs) rest h e =
    let P : Pieces → Type 0 = λ z. Hold z in
    subst P (sym (append_assoc (line (codes "fun") (decimals (r ∷ []))) (text.funs rs) rest))
    (line_holds (codes "fun") (decimals (r ∷ [])) (text.funs rs ++ rest) (plain (codes "fun") refl) (ref_word end r (all_first (IsRef end) r rs h), tt) (funs_hold end rs rest (all_rest (IsRef end) r rs h) e))

ranks_hold : (end k : ℕ) (rs : List ℕ) (rest : Pieces) → k + length rs < 2 ^ 64 → All (IsRef end) rs → Hold rest → Hold (text.ranks k rs ++ rest)
ranks_hold end k [] rest less h e = e
ranks_hold end k (r ∷ rs) rest less h e =
    let P : Pieces → Type 0 = λ z. Hold z in
    subst P (sym (append_assoc (line (codes "rank") (decimals (k ∷ r ∷ []))) (text.ranks (suc k) rs) rest))
    (line_holds (codes "rank") (decimals (k ∷ r ∷ [])) (text.ranks (suc k) rs ++ rest) (plain (codes "rank") refl) (number_word k (omega (arith, less)), (ref_word end r (all_first (IsRef end) r rs h), tt))
    (ranks_hold end (suc k) rs rest (omega (arith, less)) (all_rest (IsRef end) r rs h) e))

claim_holds : (end : ℕ) (k : Claim) (rest : Pieces) → IsClaim end k → Hold rest → Hold (text.claim k ++ rest)
claim_holds end (win inv rs) rest h e =
    let P : Pieces → Type 0 = λ z. Hold z in
    subst P (sym (append_assoc (line (codes "inv") (decimals (inv ∷ []))) (text.funs rs) rest))
    (line_holds (codes "inv") (decimals (inv ∷ [])) (text.funs rs ++ rest) (plain (codes "inv") refl) (ref_word end inv h.0, tt) (funs_hold end rs rest h.1 e))
claim_holds end (lose rs) rest h e =
    let P : Pieces → Type 0 = λ z. Hold z in
    let many = h.1 in
    subst P (sym (append_assoc (line (codes "least") (decimals (length rs ∷ []))) (text.ranks 1 rs) rest))
    (line_holds (codes "least") (decimals (length rs ∷ [])) (text.ranks 1 rs ++ rest) (plain (codes "least") refl) (number_word (length rs) (omega (arith, many)), tt)
    (ranks_hold end 1 rs rest (omega (arith, many)) h.2 e))

-- ---- certificates

version_word : (o : Option (List ℕ)) → IsWord (text.version o)
version_word None = plain (codes "1") refl
version_word (Some ns) = plain (codes "2") refl

kind_word : (k : Claim) → IsWord (text.kind k)
kind_word (win inv rs) = plain (codes "win") refl
kind_word (lose rs) = plain (codes "lose") refl

cert_holds : (c : Certificate) → HasForm c → length c.lines + 2 < 2 ^ 64 → Hold (cert_pieces c)
unfolding cert_pieces
cert_holds c f less =
    let end = line_holds (codes "end") [] [] (plain (codes "end") refl) tt refl in
    let claim = claim_holds (length c.lines + 2) c.claim (line (codes "end") []) f.claim end in
    let lines = lines_hold 2 c.lines (text.claim c.claim ++ line (codes "end") []) (omega (arith, less)) f.lines claim in
    let widths = widths_hold c.widths (text.lines 2 c.lines ++ (text.claim c.claim ++ line (codes "end") [])) f.widths lines in
    line_holds (codes "hept-cert") (text.version c.widths ∷ []) _ (plain (codes "hept-cert") refl) (version_word c.widths, tt)
    (line_holds (codes "node") (c.node ∷ []) _ (plain (codes "node") refl) (name_word c.node f.node, tt)
    (line_holds (codes "kind") (text.kind c.claim ∷ []) _ (plain (codes "kind") refl) (kind_word c.claim, tt)
    (line_holds (codes "vars") (decimals (c.registers ∷ c.early ∷ c.control ∷ c.late ∷ [])) _ (plain (codes "vars") refl)
    (short_word c.registers f.registers, (short_word c.early f.early, (short_word c.control f.control, (short_word c.late f.late, tt)))) widths)))

-- each line has a byte
lines_short : (n : ℕ) (ls : List Line) → length ls ≤ length (joined (text.lines n ls))
lines_short n [] = omega arith
lines_short n (l ∷ ls) =
    let here = line (codes "d") (decimals (n ∷ l.var ∷ l.low ∷ l.high ∷ [])) in
    let e = ap length (joined_append here (text.lines (suc n) ls)) ∙ length-append (joined here) (joined (text.lines (suc n) ls)) in
    let some : 1 ≤ length (joined here) = omega arith in
    let h = lines_short (suc n) ls in
    omega (arith, e, some, h)

part_short : (us vs : Pieces) → length (joined vs) ≤ length (joined (us ++ vs))
part_short us vs = let e = ap length (joined_append us vs) ∙ length-append (joined us) (joined vs) in omega (arith, e)

front_short : (us vs : Pieces) → length (joined us) ≤ length (joined (us ++ vs))
front_short us vs = let e = ap length (joined_append us vs) ∙ length-append (joined us) (joined vs) in omega (arith, e)

cert_short : (c : Certificate) → length c.lines ≤ length (cert_text c)
unfolding cert_pieces
cert_short c =
    let end = text.claim c.claim ++ line (codes "end") [] in
    let a = lines_short 2 c.lines in
    let b = front_short (text.lines 2 c.lines) end in
    let d = part_short (text.controls c.widths) (text.lines 2 c.lines ++ end) in
    let four = line (codes "vars") (decimals (c.registers ∷ c.early ∷ c.control ∷ c.late ∷ [])) in
    let three = line (codes "kind") (text.kind c.claim ∷ []) in
    let two = line (codes "node") (c.node ∷ []) in
    let one = line (codes "hept-cert") (text.version c.widths ∷ []) in
    let rest = text.controls c.widths ++ (text.lines 2 c.lines ++ end) in
    let e = part_short four rest in
    let f = part_short three (four ++ rest) in
    let g = part_short two (three ++ (four ++ rest)) in
    let h = part_short one (two ++ (three ++ (four ++ rest))) in
    omega (arith, a, b, d, e, f, g, h)

pub text_pieces : (c : Certificate) → HasForm c → length (cert_text c) ≤ 67108864 → pieces (cert_text c) ≡ cert_pieces c
text_pieces c f less = let h = cert_short c in cert_holds c f (omega (arith, less, h))
