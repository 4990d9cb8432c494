-- The words of a text, from the front.
use Rattle.std.proofs.Common.{◌≡◌, ◌≤◌, ◌+◌, ◌-◌, ℕ, suc, take, get_or, Bool, true, false, cond, List, [], ◌∷◌, length, drop, if◌then◌else◌, refl, sym, ap, subst, ◌∙◌, arith}
use Rattle.std.specs.Prelude.{take_while}
use Rattle.std.proofs.lemmas.List.Sums.{take_while-cons}
use Rattle.std.proofs.lemmas.List.{take_all}
use Rattle.std.proofs.lemmas.List.Folds.{length-prefix_len}
use Rattle.hp_base.specs.Bytes.{is_blank}
use Rattle.hp_obctext.specs.Lexing.{goes_on, nothing, pieces, words, BeginsWord}

-- the longest part in front whose bytes pass, and what stands behind it
abbrev pub run : (ℕ → Bool) → List ℕ → List ℕ
run p text = take_while p text

abbrev pub behind : (ℕ → Bool) → List ℕ → List ℕ
behind p text = drop (length (run p text)) text

run_in : (p : ℕ → Bool) (b : ℕ) (text : List ℕ) → p b ≡ true → run p (b ∷ text) ≡ b ∷ run p text
run_in p b text e = take_while-cons p b text ∙ ap (λ d. cond d (b ∷ run p text) []) e

run_out : (p : ℕ → Bool) (b : ℕ) (text : List ℕ) → p b ≡ false → run p (b ∷ text) ≡ []
run_out p b text e = take_while-cons p b text ∙ ap (λ d. cond d (b ∷ run p text) []) e

behind_in : (p : ℕ → Bool) (b : ℕ) (text : List ℕ) → p b ≡ true → behind p (b ∷ text) ≡ behind p text
behind_in p b text e = ap (λ r. drop (length r) (b ∷ text)) (run_in p b text e)

behind_out : (p : ℕ → Bool) (b : ℕ) (text : List ℕ) → p b ≡ false → behind p (b ∷ text) ≡ b ∷ text
behind_out p b text e = ap (λ r. drop (length r) (b ∷ text)) (run_out p b text e)

-- the first bytes and the others
abbrev at_byte : (ℕ → Bool) → ℕ → List ℕ → Bool → Bool → List ℕ × List (List ℕ)
at_byte p b text on blank =
    if on then (b ∷ (pieces p text).0, (pieces p text).1) else
    (if blank then ([], words text) else ([], (b ∷ (pieces (goes_on b) text).0) ∷ (pieces (goes_on b) text).1))

-- without what goes on, the words are those of the text
apart_by : (p : ℕ → Bool) (b : ℕ) (text : List ℕ) (blank : Bool) → is_blank b ≡ blank → at_byte p b text false blank ≡ ([], words (b ∷ text))
apart_by p b text true e = ap (λ d. ([], (at_byte nothing b text false d).1)) (sym e)
apart_by p b text false e = ap (λ d. ([], (at_byte nothing b text false d).1)) (sym e)

pub pieces_are : (p : ℕ → Bool) (text : List ℕ) → pieces p text ≡ (run p text, words (behind p text))
pieces_are p [] = refl
pieces_are p (b ∷ text) = by (p b) refl (pieces_are p text)
  where
    by : (on : Bool) → p b ≡ on → pieces p text ≡ (run p text, words (behind p text)) → pieces p (b ∷ text) ≡ (run p (b ∷ text), words (behind p (b ∷ text)))
    by true e h =
        ap (λ d. at_byte p b text d (is_blank b)) e ∙ ap (λ r. (b ∷ r.0, r.1)) h
        ∙ sym (ap (λ r. (r, words (behind p (b ∷ text)))) (run_in p b text e) ∙ ap (λ r. (b ∷ run p text, words r)) (behind_in p b text e))
    by false e h =
        ap (λ d. at_byte p b text d (is_blank b)) e ∙ apart_by p b text (is_blank b) refl
        ∙ sym (ap (λ r. (r, words (behind p (b ∷ text)))) (run_out p b text e) ∙ ap (λ r. ([], words r)) (behind_out p b text e))

pub words_blank : (b : ℕ) (text : List ℕ) → is_blank b ≡ true → words (b ∷ text) ≡ words text
words_blank b text e = ap (λ d. (at_byte nothing b text false d).1) e

-- a text with no blank in front begins with a word
pub words_word : (b : ℕ) (text : List ℕ) → is_blank b ≡ false → words (b ∷ text) ≡ (b ∷ run (goes_on b) text) ∷ words (behind (goes_on b) text)
words_word b text e =
    ap (λ d. (at_byte nothing b text false d).1) e ∙ ap (λ (r : List ℕ × List (List ℕ)). (b ∷ r.0) ∷ r.1) (pieces_are (goes_on b) text)

-- the first word is cut off
pub cut_word : (text : List ℕ) (n : ℕ) (front back : List ℕ) → BeginsWord text → 1 ≤ length text → n ≡ length (take_while (goes_on (get_or text 0 0)) (take (length text - 1) (drop 1 text))) →
    front ≡ take (1 + n) text → back ≡ drop (1 + n) text → words text ≡ front ∷ words back
cut_word [] n front back h k e p q = absurd (omega (arith, k))
cut_word (b ∷ text) n front back h k e p q =
    let long : n ≡ length (run (goes_on b) text) = e ∙ ap (λ t. length (take_while (goes_on b) t)) (take_all (length (b ∷ text) - 1) text (omega arith)) in
    let next : 1 + n ≡ suc n = omega arith in
    words_word b text h
    ∙ sym (ap (λ f. f ∷ words back) (p ∙ ap (λ m. take m (b ∷ text)) next ∙ ap (λ m. b ∷ take m text) (long ∙ length-prefix_len (goes_on b) text))
    ∙ ap (λ r. (b ∷ run (goes_on b) text) ∷ words r) (q ∙ ap (λ m. drop m (b ∷ text)) next ∙ ap (λ m. drop m text) long))

-- ---- blanks in front

words_skip_by : (d : Bool) (b : ℕ) (text : List ℕ) → is_blank b ≡ d → words (behind is_blank text) ≡ words text → words (behind is_blank (b ∷ text)) ≡ words (b ∷ text)
words_skip_by true b text e h = ap words (behind_in is_blank b text e) ∙ h ∙ sym (words_blank b text e)
words_skip_by false b text e h = ap words (behind_out is_blank b text e)

words_skip : (text : List ℕ) → words (behind is_blank text) ≡ words text
words_skip [] = refl
words_skip (b ∷ text) = words_skip_by (is_blank b) b text refl (words_skip text)

begins_skip_by : (d : Bool) (b : ℕ) (text : List ℕ) → is_blank b ≡ d → BeginsWord (behind is_blank text) → BeginsWord (behind is_blank (b ∷ text))
begins_skip_by true b text e h = subst BeginsWord (sym (behind_in is_blank b text e)) h
begins_skip_by false b text e h = subst BeginsWord (sym (behind_out is_blank b text e)) e

begins_skip : (text : List ℕ) → BeginsWord (behind is_blank text)
begins_skip [] = tt
begins_skip (b ∷ text) = begins_skip_by (is_blank b) b text refl (begins_skip text)

pub skipped_words : (text : List ℕ) (n : ℕ) (rest : List ℕ) → rest ≡ drop n text → n ≡ length (take_while is_blank text) → words rest ≡ words text
skipped_words text n rest e h = ap words (e ∙ ap (λ m. drop m text) h) ∙ words_skip text

pub skipped_begins : (text : List ℕ) (n : ℕ) (rest : List ℕ) → rest ≡ drop n text → n ≡ length (take_while is_blank text) → BeginsWord rest
skipped_begins text n rest e h = subst BeginsWord (sym (e ∙ ap (λ m. drop m text) h)) (begins_skip text)
