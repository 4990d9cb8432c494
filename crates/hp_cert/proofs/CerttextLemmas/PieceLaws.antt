-- The pieces of a text, from the front.
use Rattle.std.proofs.Common.{◌≡◌, ◌<◌, ℕ, max, Bool, true, false, not, ◌&&◌, ◌||◌, ◌==◌, cond, List, [], ◌∷◌, ◌++◌, length, take, drop, Some, None, if◌then◌else◌, refl, sym, ap, ◌∙◌, arith}
use Rattle.std.specs.Prelude.{take_while, nat_eq}
use Rattle.std.specs.List.{starts_with}
use Rattle.std.specs.Str.{bytes_eq}
use Rattle.std.proofs.lemmas.Bool.Decides.{nat_tests}
use Rattle.std.proofs.Math.Seq.{take-append_seam, drop-append_seam}
use Rattle.std.proofs.lemmas.List.Sums.{take_while-cons}
use Rattle.std.proofs.lemmas.List.Folds.{length-prefix_len}
use Rattle.hp_cert.specs.Certtext.Ahead.{stop_in}
use Rattle.hp_cert.specs.Certtext.Outcomes.{done, refused}
use Rattle.hp_cert.specs.Certtext.Pieces.{Piece, Pieces, is_gap, in_word, begins_word, pieces, joined}
use Rattle.hp_cert.proofs.CerttextLemmas.Joined.{pieces_gap, pieces_word, joined_pieces}
use Rattle.hp_cert.proofs.CerttextLemmas.WrittenLaws.{joined_append}
use Rattle.hp_cert.specs.Certtext.Reading.{stop_at, is_start, fixed, either}

-- ---- the first piece

abbrev pub is_part : ℕ → Bool
is_part b = not (is_gap b)

-- the longest part in front that is a word, and what stands behind it
abbrev pub run : List ℕ → List ℕ
run text = take_while is_part text

abbrev pub behind : List ℕ → List ℕ
behind text = drop (length (run text)) text

run_in : (b : ℕ) (text : List ℕ) → is_gap b ≡ false → run (b ∷ text) ≡ b ∷ run text
run_in b text e = take_while-cons is_part b text ∙ ap (λ d. cond (not d) (b ∷ run text) []) e

run_out : (b : ℕ) (text : List ℕ) → is_gap b ≡ true → run (b ∷ text) ≡ []
run_out b text e = take_while-cons is_part b text ∙ ap (λ d. cond (not d) (b ∷ run text) []) e

behind_in : (b : ℕ) (text : List ℕ) → is_gap b ≡ false → behind (b ∷ text) ≡ behind text
behind_in b text e = ap (λ r. drop (length r) (b ∷ text)) (run_in b text e)

behind_out : (b : ℕ) (text : List ℕ) → is_gap b ≡ true → behind (b ∷ text) ≡ b ∷ text
behind_out b text e = ap (λ r. drop (length r) (b ∷ text)) (run_out b text e)

word_by : (d : Bool) (b c : ℕ) (text : List ℕ) → is_gap c ≡ d → (is_gap c ≡ false → pieces (c ∷ text) ≡ run (c ∷ text) ∷ pieces (behind (c ∷ text))) →
    in_word b (begins_word (c ∷ text)) (pieces (c ∷ text)) ≡ (b ∷ run (c ∷ text)) ∷ pieces (behind (c ∷ text))
word_by true b c text e h =
    ap (λ d. in_word b (not d) (pieces (c ∷ text))) e
    ∙ sym (ap (λ r. (b ∷ r) ∷ pieces (behind (c ∷ text))) (run_out c text e) ∙ ap (λ r. (b ∷ []) ∷ pieces r) (behind_out c text e))
word_by false b c text e h = ap (λ d. in_word b (not d) (pieces (c ∷ text))) e ∙ ap (in_word b true) (h e)

-- a text that begins with a word
splits_word : (b : ℕ) (text : List ℕ) → is_gap b ≡ false → pieces (b ∷ text) ≡ run (b ∷ text) ∷ pieces (behind (b ∷ text))
splits_word b [] e = pieces_word b [] e ∙ sym (ap (λ r. r ∷ pieces (behind (b ∷ []))) (run_in b [] e) ∙ ap (λ r. (b ∷ []) ∷ pieces r) (behind_in b [] e))
splits_word b (c ∷ text) e =
    pieces_word b (c ∷ text) e
    ∙ word_by (is_gap c) b c text refl (splits_word c text)
    ∙ sym (ap (λ r. r ∷ pieces (behind (b ∷ c ∷ text))) (run_in b (c ∷ text) e) ∙ ap (λ r. (b ∷ run (c ∷ text)) ∷ pieces r) (behind_in b (c ∷ text) e))

take_one : (b : ℕ) (text : List ℕ) (n : ℕ) → n ≡ 1 → (b ∷ []) ∷ pieces text ≡ take n (b ∷ text) ∷ pieces (drop n (b ∷ text))
take_one b text n e = sym (ap (λ m. take m (b ∷ text) ∷ pieces (drop m (b ∷ text))) e)

-- the first piece is a run, or one byte
pub splits_text : (text : List ℕ) (n : ℕ) → 0 < length text → n ≡ max (length (run text)) 1 → pieces text ≡ take n text ∷ pieces (drop n text)
splits_text [] n h e = absurd (omega (arith, h))
splits_text (b ∷ text) n h e = by (is_gap b) refl
  where
    by : (d : Bool) → is_gap b ≡ d → pieces (b ∷ text) ≡ take n (b ∷ text) ∷ pieces (drop n (b ∷ text))
    by true k = let none = ap length (run_out b text k) in pieces_gap b text k ∙ take_one b text n (omega (arith, e, none))
    by false k =
        let some = ap length (run_in b text k) in
        let same : n ≡ length (run (b ∷ text)) = omega (arith, e, some) in
        splits_word b text k
        ∙ ap (λ r. r ∷ pieces (behind (b ∷ text))) (sym (ap (λ m. take m (b ∷ text)) (length-prefix_len is_part (b ∷ text))))
        ∙ sym (ap (λ m. take m (b ∷ text) ∷ pieces (drop m (b ∷ text))) same)

-- ---- pieces side by side

some_in : (b : ℕ) (d : Bool) (ws : Pieces) → (w : Piece) × (vs : Pieces) × (in_word b d ws ≡ w ∷ vs)
some_in b true [] = (b ∷ [], [], refl)
some_in b true (w ∷ ws) = (b ∷ w, ws, refl)
some_in b false ws = (b ∷ [], ws, refl)

pub some_piece : (b : ℕ) (text : List ℕ) → (w : Piece) × (vs : Pieces) × (pieces (b ∷ text) ≡ w ∷ vs)
some_piece b text = by (is_gap b) refl
  where
    by : (d : Bool) → is_gap b ≡ d → (w : Piece) × (vs : Pieces) × (pieces (b ∷ text) ≡ w ∷ vs)
    by true e = (b ∷ [], pieces text, pieces_gap b text e)
    by false e = let s = some_in b (begins_word text) (pieces text) in (s.0, s.1, pieces_word b text e ∙ s.2)

pub no_pieces : (text : List ℕ) → length text == 0 ≡ (length (pieces text) == 0)
no_pieces [] = refl
no_pieces (b ∷ text) = let s = some_piece b text in let l = ap length s.2 in grind (arith, nat_tests, l)

-- ---- words that are refused

pub start_is : (w word : Piece) → starts_with nat_eq word w ≡ is_start w word
start_is [] word = refl
start_is (b ∷ w) [] = refl
start_is (b ∷ w) (c ∷ word) = ap (λ d. (b == c) && d) (start_is w word)

pub stopped : (on : Bool) (text rest : List ℕ) (w : Piece) → pieces text ≡ w ∷ pieces rest → pieces (stop_in on text rest) ≡ stop_at on w (pieces rest)
stopped true text [] w e = refl
stopped false text [] w e = e
stopped on text (b ∷ rest) w e =
    let s = some_piece b rest in
    ap (λ d. pieces (if d then b ∷ rest else text)) (none on) ∙ e ∙ ap (λ z. w ∷ z) s.2 ∙ sym (ap (stop_at on w) s.2)
  where
    none : (on : Bool) → (on && (length (b ∷ rest) == 0)) ≡ false
    none true = grind (arith, nat_tests)
    none false = refl

pub fixed_refused : (word w : Piece) (text rest left : List ℕ) (on : Bool) → pieces text ≡ w ∷ pieces rest → bytes_eq w word ≡ false → on ≡ starts_with nat_eq word w → left ≡ stop_in on text rest →
    fixed word (pieces text) ≡ refused (pieces left)
fixed_refused word w text rest left on e off is_on is_left =
    ap (fixed word) e
    ∙ ap (λ d. elim (if d then Some tt else None) [ Some a ↦ done a (pieces rest) | None ↦ refused (stop_at (is_start w word) w (pieces rest)) ]) off
    ∙ ap refused (sym (ap pieces is_left ∙ stopped on text rest w e ∙ ap (λ d. stop_at d w (pieces rest)) (is_on ∙ start_is w word)))

pub either_refused : (word other w : Piece) (text rest left : List ℕ) (on : Bool) → pieces text ≡ w ∷ pieces rest → bytes_eq w word ≡ false → bytes_eq w other ≡ false →
    on ≡ (starts_with nat_eq word w || starts_with nat_eq other w) → left ≡ stop_in on text rest → either word other (pieces text) ≡ refused (pieces left)
either_refused word other w text rest left on e off none is_on is_left =
    ap (either word other) e
    ∙ ap (λ d. elim (if d then Some true else (if bytes_eq w other then Some false else None)) [ Some a ↦ done a (pieces rest) | None ↦ refused (stop_at (is_start w word || is_start w other) w (pieces rest)) ]) off
    ∙ ap (λ d. elim (if d then Some false else None) [ Some a ↦ done a (pieces rest) | None ↦ refused (stop_at (is_start w word || is_start w other) w (pieces rest)) ]) none
    ∙ ap refused (sym (ap pieces is_left ∙ stopped on text rest w e
    ∙ ap (λ d. stop_at d w (pieces rest)) (is_on ∙ ap (λ d. d || starts_with nat_eq other w) (start_is w word) ∙ ap (λ d. is_start w word || d) (start_is w other))))

pub or_then : (on r a b : Bool) → on ≡ r → r ≡ true → r ≡ a → on ≡ (a || b)
or_then on r a b p q e = p ∙ q ∙ sym (ap (λ d. d || b) (sym e ∙ q))

pub or_else : (on r s a b : Bool) → on ≡ s → r ≡ false → r ≡ a → s ≡ b → on ≡ (a || b)
or_else on r s a b p q e f = p ∙ f ∙ sym (ap (λ d. d || b) (sym e ∙ q))

-- ---- places

pub tail_pieces : (text : List ℕ) (w : Piece) (ps : Pieces) → pieces text ≡ w ∷ ps → pieces (joined ps) ≡ ps
tail_pieces [] w ps e = absurd cc
tail_pieces (b ∷ text) w ps e =
    let n = max (length (run (b ∷ text))) 1 in
    let s = splits_text (b ∷ text) n (omega arith) refl in
    let same : ps ≡ pieces (drop n (b ∷ text)) = tails w (take n (b ∷ text)) ps (pieces (drop n (b ∷ text))) (sym e ∙ s) in
    ap (λ z. pieces (joined z)) same ∙ ap pieces (joined_pieces (drop n (b ∷ text))) ∙ sym same
  where
    tails : (u v : Piece) (us vs : Pieces) → u ∷ us ≡ v ∷ vs → us ≡ vs
    tails u v us vs e = cc

rest_pieces : (text : List ℕ) (front rest : Pieces) → pieces text ≡ front ++ rest → pieces (joined rest) ≡ rest
rest_pieces text [] rest e = ap (λ z. pieces (joined z)) (sym e) ∙ ap pieces (joined_pieces text) ∙ e
rest_pieces text (u ∷ front) rest e = rest_pieces (joined (front ++ rest)) front rest (tail_pieces text u (front ++ rest) e)

pub front_is : (text : List ℕ) (at : ℕ) (front rest : Pieces) → pieces text ≡ front ++ rest → at ≡ length (joined front) → take at text ≡ joined front
front_is text at front rest e k =
    let whole : text ≡ joined front ++ joined rest = sym (joined_pieces text) ∙ ap joined e ∙ joined_append front rest in
    ap (λ n. take n text) k ∙ ap (take (length (joined front))) whole ∙ take-append_seam (joined front) (joined rest)

pub rest_is : (text : List ℕ) (at : ℕ) (front rest : Pieces) → pieces text ≡ front ++ rest → at ≡ length (joined front) → pieces (drop at text) ≡ rest
rest_is text at front rest e k =
    let whole : text ≡ joined front ++ joined rest = sym (joined_pieces text) ∙ ap joined e ∙ joined_append front rest in
    ap pieces (ap (λ n. drop n text) k ∙ ap (drop (length (joined front))) whole ∙ drop-append_seam (joined front) (joined rest)) ∙ rest_pieces text front rest e
