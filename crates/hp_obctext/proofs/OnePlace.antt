-- The word of a number has one place.
use Rattle.std.proofs.Common.{◌≡◌, ◌≤◌, ◌⊎◌, ℕ, zero, suc, ◌+◌, Bool, true, false, ◌||◌, ◌==◌, if◌then◌else◌, List, [], ◌∷◌, ◌++◌, length, refl, sym, ap, subst, ◌∙◌, append-nil, arith}
use Rattle.std.proofs.Common.{inl, inr}
use Rattle.std.proofs.lemmas.Bool.Decides.{Decides-eqb}
use Rattle.hp_base.specs.declared.span.Span.{Span}
use Rattle.hp_base.specs.Bytes.{is_small, is_capital, is_digit, is_blank}
use Rattle.hp_obctext.specs.Lexing.{goes_on, nothing, pieces, words, BeginsWord}
use Rattle.hp_obctext.specs.Places.{IsPlaceOf, span_behind, first_length}

-- ---- no word has a blank in it

ends_by : (p q r : Bool) → (if p then false else (if q then false else (if r then false else false))) ≡ false
ends_by true q r = refl
ends_by false true r = refl
ends_by false false true = refl
ends_by false false false = refl

pub blank_ends : (b c : ℕ) → is_blank c ≡ true → goes_on b c ≡ false
blank_ends b c h = by (c == 32) (c == 9) (c == 13) (c == 10) refl refl refl refl h
  where
    at : (d : ℕ) → (c == d) ≡ true → goes_on b d ≡ false → goes_on b c ≡ false
    at d e k = ap (goes_on b) ((Decides-eqb c d).0 e) ∙ k

    by : (p q r s : Bool) → (c == 32) ≡ p → (c == 9) ≡ q → (c == 13) ≡ r → (c == 10) ≡ s → (((p || q) || r) || s) ≡ true → goes_on b c ≡ false
    by true q r s e f g i h = at 32 e (ends_by (is_small b || b == 64) (is_capital b) (is_digit b || b == 45))
    by false true r s e f g i h = at 9 f (ends_by (is_small b || b == 64) (is_capital b) (is_digit b || b == 45))
    by false false true s e f g i h = at 13 g (ends_by (is_small b || b == 64) (is_capital b) (is_digit b || b == 45))
    by false false false true e f g i h = at 10 i (ends_by (is_small b || b == 64) (is_capital b) (is_digit b || b == 45))
    by false false false false e f g i h = absurd cc

-- ---- how many bytes are no blanks

weight : Bool → ℕ
weight true = 0
weight false = 1

solid : List ℕ → ℕ
solid [] = 0
solid (b ∷ text) = weight (is_blank b) + solid text

sizes : List (List ℕ) → ℕ
sizes [] = 0
sizes (w ∷ ws) = length w + sizes ws

solid_append : (xs ys : List ℕ) → solid (xs ++ ys) ≡ solid xs + solid ys
unfolding solid
solid_append [] ys = omega arith
solid_append (x ∷ xs) ys = let e = solid_append xs ys in omega (arith, e)

abbrev front_of : List ℕ × List (List ℕ) → List ℕ
front_of p = p.0

nothing_by : (d : Bool) (p : List (List ℕ)) (q : List (List ℕ)) → front_of (if d then ([], p) else ([], q)) ≡ []
nothing_by true p q = refl
nothing_by false p q = refl

nothing_first : (text : List ℕ) → (pieces nothing text).0 ≡ []
nothing_first [] = refl
nothing_first (b ∷ text) = nothing_by (is_blank b) (pieces nothing text).1 ((b ∷ (pieces (goes_on b) text).0) ∷ (pieces (goes_on b) text).1)

-- the bytes of some pieces
abbrev total : List ℕ × List (List ℕ) → ℕ
total p = length p.0 + sizes p.1

solid_by : (on blank : Bool) (b : ℕ) (p q r : List ℕ × List (List ℕ)) (n : ℕ) → (blank ≡ true → on ≡ false) → q.0 ≡ [] → total p ≡ n → total q ≡ n → total r ≡ n →
    total (if on then (b ∷ p.0, p.1) else (if blank then ([], q.1) else ([], (b ∷ r.0) ∷ r.1))) ≡ weight blank + n
unfolding sizes weight
solid_by true true b p q r n k z e f g = absurd (let clash = k refl in cc)
solid_by true false b p q r n k z e f g = omega (arith, e)
solid_by false true b p q r n k z e f g = let none = ap length z in omega (arith, f, none)
solid_by false false b p q r n k z e f g = omega (arith, g)

solid_pieces : (on : ℕ → Bool) (text : List ℕ) → ((c : ℕ) → is_blank c ≡ true → on c ≡ false) → total (pieces on text) ≡ solid text
unfolding sizes solid
solid_pieces on [] k = refl
solid_pieces on (b ∷ text) k =
    solid_by (on b) (is_blank b) b (pieces on text) (pieces nothing text) (pieces (goes_on b) text) (solid text) (k b) (nothing_first text)
    (solid_pieces on text k) (solid_pieces nothing text (λ c h. refl)) (solid_pieces (goes_on b) text (blank_ends b))

solid_words : (text : List ℕ) → sizes (words text) ≡ solid text
solid_words text = let none = ap length (nothing_first text) in let e = solid_pieces nothing text (λ c h. refl) in omega (arith, none, e)

-- ---- two ends of a text

record Between (f1 r1 f2 r2 : List ℕ) : Type 0 where
  middle : List ℕ
  front : f2 ≡ f1 ++ middle
  back : r1 ≡ middle ++ r2

tails_same : (x y : ℕ) (xs ys : List ℕ) → x ∷ xs ≡ y ∷ ys → (x ≡ y) × (xs ≡ ys)
tails_same x y xs ys e = (cc, cc)

between : (f1 r1 f2 r2 : List ℕ) → f1 ++ r1 ≡ f2 ++ r2 → length f1 ≤ length f2 → Between f1 r1 f2 r2
between [] r1 f2 r2 e h = record { middle = f2; front = refl; back = e }
between (x ∷ f1) r1 [] r2 e h = absurd (omega (arith, h))
between (x ∷ f1) r1 (y ∷ f2) r2 e h =
    let s = tails_same x y (f1 ++ r1) (f2 ++ r2) e in
    let b = between f1 r1 f2 r2 s.1 (omega (arith, h)) in
    record { middle = b.middle; front = ap (λ z. z ∷ f2) (sym s.0) ∙ ap (λ zs. x ∷ zs) b.front; back = b.back }

-- what begins a word is no blank
none_between : (middle rest : List ℕ) → BeginsWord (middle ++ rest) → solid middle ≡ 0 → middle ≡ []
unfolding solid weight
none_between [] rest h e = refl
none_between (b ∷ middle) rest h e = absurd (let one = ap weight h in omega (arith, one, e))

same_front : (f1 r1 f2 r2 : List ℕ) → f1 ++ r1 ≡ f2 ++ r2 → length f1 ≤ length f2 → BeginsWord r1 → words r1 ≡ words r2 → f1 ≡ f2
same_front f1 r1 f2 r2 e h k w =
    let b = between f1 r1 f2 r2 e h in
    let more = ap solid b.back ∙ solid_append b.middle r2 in
    let same : solid r1 ≡ solid r2 = sym (solid_words r1) ∙ ap sizes w ∙ solid_words r2 in
    let none = none_between b.middle r2 (subst BeginsWord b.back k) (omega (arith, more, same)) in
    sym (b.front ∙ ap (λ m. f1 ++ m) none ∙ append-nil f1)

ordered : (m n : ℕ) → (m ≤ n) ⊎ (n ≤ m)
ordered zero n = inl (omega arith)
ordered (suc m) zero = inr (omega arith)
ordered (suc m) (suc n) = by (ordered m n)
  where
    by : (m ≤ n) ⊎ (n ≤ m) → (suc m ≤ suc n) ⊎ (suc n ≤ suc m)
    by (inl h) = inl (omega (arith, h))
    by (inr h) = inr (omega (arith, h))

pub one_place : (text : List ℕ) (number : ℕ) (p q : Span) → IsPlaceOf text number p → IsPlaceOf text number q → p ≡ q
one_place text number p q a b = by (ordered (length a.front) (length b.front))
  where
    split : a.front ++ a.rest ≡ b.front ++ b.rest
    split = sym a.split ∙ b.split

    same_words : words a.rest ≡ words b.rest
    same_words = a.words_are ∙ sym b.words_are

    finish : a.front ≡ b.front → p ≡ q
    finish e = a.span_is ∙ ap (λ f. span_behind f (first_length (words a.rest))) e ∙ ap (λ ws. span_behind b.front (first_length ws)) same_words ∙ sym b.span_is

    by : (length a.front ≤ length b.front) ⊎ (length b.front ≤ length a.front) → p ≡ q
    by (inl h) = finish (same_front a.front a.rest b.front b.rest split h a.no_blank same_words)
    by (inr h) = finish (sym (same_front b.front b.rest a.front a.rest (sym split) h b.no_blank (sym same_words)))
