-- The words of a printed text are the words that were printed.
use Rattle.std.proofs.Common.{◌≡◌, ◌≤◌, ℕ, Bool, true, false, ◌&&◌, ◌||◌, ◌==◌, not, nat_le, if◌then◌else◌, ℤ, List, [], ◌∷◌, ◌++◌, length, map, refl, sym, ap, subst, ◌∙◌, append_assoc, arith}
use Rattle.std.specs.List.{list_all}
use Rattle.std.proofs.lemmas.Bool.Decides.{nat_tests}
use Rattle.hp_base.specs.Bytes.{is_small, is_capital, is_word_byte, is_digit, is_blank}
use Rattle.hp_obc.specs.Form.{is_name_byte, is_name, is_constructor, is_reserved, is_short}
use Rattle.hp_obctext.specs.Lexing.{goes_on, nothing, pieces, words}
use Rattle.hp_obctext.specs.Shapes.{Each}
use Rattle.hp_obctext.specs.Spells.{IsSpelling, Spell}
use Rattle.hp_obctext.specs.Words.{Word, leading, fixed, small, capital, number, spelled, gap, spaced, printed}
use Rattle.hp_obctext.proofs.OnePlace.{blank_ends}
use Rattle.hp_obctext.proofs.PrintedNumbers.{printed_number, number_bytes}
use Rattle.hp_obctext.proofs.Truths.{both_true}
use Rattle.hp_obctext.proofs.WordLaws.{words_blank}

-- Bytes hold together as one word.
abbrev pub IsWhole : List ℕ → Type 0
IsWhole [] = ⊥
IsWhole (b ∷ w) = (is_blank b ≡ false) × (list_all (goes_on b) w ≡ true)

-- A word of the grammar is printed as a word that spells it.
abbrev pub IsPlain : Word → Type 0
IsPlain w = IsWhole (spelled w) × IsSpelling (spelled w) w

-- ---- words with gaps in front

abbrev at_byte : (ℕ → Bool) → ℕ → List ℕ → Bool → Bool → List ℕ × List (List ℕ)
at_byte p b text on blank =
    if on then (b ∷ (pieces p text).0, (pieces p text).1) else
    (if blank then ([], words text) else ([], (b ∷ (pieces (goes_on b) text).0) ∷ (pieces (goes_on b) text).1))

piece : (p : ℕ → Bool) (w : List ℕ) (c : ℕ) (text : List ℕ) → list_all p w ≡ true → p c ≡ false → is_blank c ≡ true → pieces p (w ++ c ∷ text) ≡ (w, words text)
piece p [] c text h e k = ap (λ d. at_byte p c text d (is_blank c)) e ∙ ap (λ d. at_byte p c text false d) k
piece p (b ∷ w) c text h e k =
    let here = both_true (p b) (list_all p w) h in
    ap (λ d. at_byte p b (w ++ c ∷ text) d (is_blank b)) here.0 ∙ ap (λ (r : List ℕ × List (List ℕ)). (b ∷ r.0, r.1)) (piece p w c text here.1 e k)

word_front : (w : List ℕ) (c : ℕ) (text : List ℕ) → IsWhole w → ((b : ℕ) → goes_on b c ≡ false) → is_blank c ≡ true → words (w ++ c ∷ text) ≡ w ∷ words (c ∷ text)
word_front [] c text h e k = absurd h
word_front (b ∷ w) c text h e k =
    ap (λ d. (at_byte nothing b (w ++ c ∷ text) false d).1) h.0
    ∙ ap (λ (r : List ℕ × List (List ℕ)). (b ∷ r.0) ∷ r.1) (piece (goes_on b) w c text h.1 (e b) k)
    ∙ ap (λ ws. (b ∷ w) ∷ ws) (sym (words_blank c text k))

gap_blank : (w : Word) → is_blank (gap w) ≡ true
gap_blank (leading x) = refl
gap_blank (fixed x) = refl
gap_blank (small x) = refl
gap_blank (capital x) = refl
gap_blank (number n) = refl

gap_ends : (w : Word) (b : ℕ) → goes_on b (gap w) ≡ false
gap_ends w b = blank_ends b (gap w) (gap_blank w)

-- the others and the newline behind a word
abbrev ended : List Word → List ℕ
ended ws = spaced ws ++ 10 ∷ []

next_word : (w : List ℕ) (ws : List Word) → IsWhole w → words (w ++ ended ws) ≡ w ∷ words (ended ws)
next_word w [] h = word_front w 10 [] h (λ b. blank_ends b 10 refl) refl
next_word w (v ∷ ws) h = word_front w (gap v) ((spelled v ++ spaced ws) ++ 10 ∷ []) h (gap_ends v) (gap_blank v)

spaced_words : (ws : List Word) → Each IsPlain ws → words (ended ws) ≡ map spelled ws
spaced_words [] h = refl
spaced_words (w ∷ ws) h =
    words_blank (gap w) ((spelled w ++ spaced ws) ++ 10 ∷ []) (gap_blank w)
    ∙ ap words (append_assoc (spelled w) (spaced ws) (10 ∷ [])) ∙ next_word (spelled w) ws h.0.0 ∙ ap (λ us. spelled w ∷ us) (spaced_words ws h.1)

printed_words : (ws : List Word) → Each IsPlain ws → words (printed ws) ≡ map spelled ws
printed_words [] h = refl
printed_words (w ∷ ws) h = ap words (append_assoc (spelled w) (spaced ws) (10 ∷ [])) ∙ next_word (spelled w) ws h.0.0 ∙ ap (λ us. spelled w ∷ us) (spaced_words ws h.1)

all_spelled : (ws : List Word) → Each IsPlain ws → Spell (map spelled ws) ws
all_spelled [] h = refl
all_spelled (w ∷ ws) h = (h.0.1, all_spelled ws h.1)

-- the words of a printed text spell what was printed
pub printed_spell : (ws : List Word) → Each IsPlain ws → Spell (words (printed ws)) ws
printed_spell ws h = subst (λ us. Spell us ws) (sym (printed_words ws h)) (all_spelled ws h)

-- ---- words that are plain

small_solid : (b : ℕ) → is_small b ≡ true → is_blank b ≡ false
small_solid b h =
    let low = (both_true (nat_le 97 b) (nat_le b 122) h).0 in
    let s : (b == 32) ≡ false = grind (arith, nat_tests) in
    let t : (b == 9) ≡ false = grind (arith, nat_tests) in
    let r : (b == 13) ≡ false = grind (arith, nat_tests) in
    let n : (b == 10) ≡ false = grind (arith, nat_tests) in
    ap (λ d. d || b == 9 || b == 13 || b == 10) s ∙ ap (λ d. d || b == 13 || b == 10) t ∙ ap (λ d. d || b == 10) r ∙ n

capital_solid : (b : ℕ) → is_capital b ≡ true → is_blank b ≡ false
capital_solid b h =
    let low = (both_true (nat_le 65 b) (nat_le b 90) h).0 in
    let s : (b == 32) ≡ false = grind (arith, nat_tests) in
    let t : (b == 9) ≡ false = grind (arith, nat_tests) in
    let r : (b == 13) ≡ false = grind (arith, nat_tests) in
    let n : (b == 10) ≡ false = grind (arith, nat_tests) in
    ap (λ d. d || b == 9 || b == 13 || b == 10) s ∙ ap (λ d. d || b == 13 || b == 10) t ∙ ap (λ d. d || b == 10) r ∙ n

-- the first bytes of numbers
either_low : (b : ℕ) → (is_digit b || b == 45) ≡ true → (45 ≤ b) × (b ≤ 57)
either_low b h = by (nat_le 48 b) (nat_le b 57) (b == 45) refl refl refl h
  where
    by : (d e f : Bool) → nat_le 48 b ≡ d → nat_le b 57 ≡ e → (b == 45) ≡ f → ((d && e) || f) ≡ true → (45 ≤ b) × (b ≤ 57)
    by true true f p q r h = (grind (arith, nat_tests), grind (arith, nat_tests))
    by d e true p q r h = (grind (arith, nat_tests), grind (arith, nat_tests))
    by true false false p q r h = absurd cc
    by false e false p q r h = absurd cc

number_solid : (b : ℕ) → 45 ≤ b → is_blank b ≡ false
number_solid b low =
    let s : (b == 32) ≡ false = grind (arith, nat_tests) in
    let t : (b == 9) ≡ false = grind (arith, nat_tests) in
    let r : (b == 13) ≡ false = grind (arith, nat_tests) in
    let n : (b == 10) ≡ false = grind (arith, nat_tests) in
    ap (λ d. d || b == 9 || b == 13 || b == 10) s ∙ ap (λ d. d || b == 13 || b == 10) t ∙ ap (λ d. d || b == 10) r ∙ n

four_true : (a b c d : Bool) → (((a && b) && c) && d) ≡ true → (a ≡ true) × (b ≡ true)
four_true true true c d h = (refl, refl)
four_true true false c d h = absurd cc
four_true false b c d h = absurd cc

name_whole : (x : List ℕ) → is_name x ≡ true → IsWhole x
name_whole [] h = absurd cc
name_whole (b ∷ x) h =
    let here = four_true (is_small b) (list_all is_name_byte x) (nat_le (length (b ∷ x)) 270) (not (is_reserved (b ∷ x))) h in (
      small_solid b here.0,
      ap (λ d. list_all (λ c. if d || b == 64 then is_name_byte c else (if is_capital b then is_word_byte c else (if is_digit b || b == 45 then is_digit c else false))) x) here.0 ∙ here.1,
    )

three_true : (a b c : Bool) → ((a && b) && c) ≡ true → (a ≡ true) × (b ≡ true)
three_true true true c h = (refl, refl)
three_true true false c h = absurd cc
three_true false b c h = absurd cc

constructor_whole : (x : List ℕ) → is_constructor x ≡ true → IsWhole x
constructor_whole [] h = absurd cc
constructor_whole (b ∷ x) h =
    let here = three_true (is_capital b) (list_all is_word_byte x) (nat_le (length (b ∷ x)) 255) h in
    let range = both_true (nat_le 65 b) (nat_le b 90) here.0 in
    let high = range.1 in
    let a : nat_le 97 b ≡ false = grind (arith, nat_tests) in
    let low = range.0 in
    let at : (b == 64) ≡ false = grind (arith, nat_tests) in (
      capital_solid b here.0,
      ap (λ d. list_all (λ c. if (d && nat_le b 122) || b == 64 then is_name_byte c else (if is_capital b then is_word_byte c else (if is_digit b || b == 45 then is_digit c else false))) x) a
          ∙ ap (λ d. list_all (λ c. if d then is_name_byte c else (if is_capital b then is_word_byte c else (if is_digit b || b == 45 then is_digit c else false))) x) at
          ∙ ap (λ d. list_all (λ c. if d then is_word_byte c else (if is_digit b || b == 45 then is_digit c else false)) x) here.0 ∙ here.1,
    )

number_whole_by : (b : ℕ) (w : List ℕ) → (is_digit b || b == 45) ≡ true → list_all is_digit w ≡ true → IsWhole (b ∷ w)
number_whole_by b w h k =
    let range = either_low b h in
    let low = range.0 in
    let high = range.1 in
    let a : nat_le 97 b ≡ false = grind (arith, nat_tests) in
    let at : (b == 64) ≡ false = grind (arith, nat_tests) in
    let c : nat_le 65 b ≡ false = grind (arith, nat_tests) in (
      number_solid b low,
      ap (λ d. list_all (λ c. if (d && nat_le b 122) || b == 64 then is_name_byte c else (if is_capital b then is_word_byte c else (if is_digit b || b == 45 then is_digit c else false))) w) a
          ∙ ap (λ d. list_all (λ c. if d then is_name_byte c else (if is_capital b then is_word_byte c else (if is_digit b || b == 45 then is_digit c else false))) w) at
          ∙ ap (λ d. list_all (λ c. if d && nat_le b 90 then is_word_byte c else (if is_digit b || b == 45 then is_digit c else false)) w) c
          ∙ ap (λ d. list_all (λ c. if d then is_digit c else false) w) h ∙ k,
    )

pub small_plain : (x : List ℕ) → is_name x ≡ true → IsPlain (small x)
small_plain x h = (name_whole x h, (refl, h))

pub capital_plain : (x : List ℕ) → is_constructor x ≡ true → IsPlain (capital x)
capital_plain x h = (constructor_whole x h, (refl, h))

pub number_plain : (n : ℤ) → is_short n ≡ true → IsPlain (number n)
number_plain n h =
    let bytes = number_bytes n h in
    (subst IsWhole (sym bytes.is) (number_whole_by bytes.first bytes.others bytes.first_is bytes.digits), printed_number n h)
