-- Which words stand for something, and which can go on to such words.
use Rattle.std.proofs.Common.{◌≡◌, ◌<◌, ◌≤◌, ◌+◌, ◌-◌, ◌*◌, ◌^◌, ℕ, zero, suc, Bool, true, false, not, ◌&&◌, ◌||◌, ◌==◌, nat_le, nat_lt, if◌then◌else◌, List, [], ◌∷◌, ◌++◌, length, get_or, fold, None, Some, refl, sym, ap, ◌∙◌, arith}
use Rattle.std.specs.Prelude.{codes, option_and_then}
use Rattle.std.specs.Fmt.{decimal}
use Rattle.std.specs.List.{list_all}
use Rattle.std.specs.Str.{bytes_eq}
use Rattle.std.proofs.lemmas.Bool.Decides.{nat_tests}
use Rattle.std.proofs.lemmas.Fmt.{digits_decimal, digits_value-decimal, decimal-digits_value, decimal_nonempty, decimal_digit, first_decimal}
use Rattle.std.proofs.lemmas.List.{length-append}
use Rattle.std.proofs.lemmas.List.Folds.{list_all-append}
use Rattle.std.proofs.lemmas.List.Sums.{fold-append}
use Rattle.std.proofs.lemmas.Slice.Eq.{bytes_eq-Decides}
use Rattle.std.proofs.lemmas.Str.Parse.{IsNumeralModel, IsDigitsTest, FoldsDigits, numerals_by_fold}
use Rattle.hp_base.specs.Bytes.{is_digit, is_small}
use Rattle.hp_lines.specs.Numbers.{with_digit, digits_number, natural_of}
use Rattle.hp_obc.specs.Form.{is_name_byte, is_name, is_reserved}
use Rattle.hp_cert.specs.Certtext.Pieces.{Piece}
use Rattle.hp_cert.specs.Certtext.Reading.{is_start, this, which, is_plain, within, number_of, name_of}
use Rattle.hp_cert.proofs.CerttextLemmas.Phrases.{GoesOn}

-- ---- tests

pub both_true : (a b : Bool) → (a && b) ≡ true → (a ≡ true) × (b ≡ true)
both_true true b h = (refl, h)
both_true false b h = absurd cc

pub some_true : (a b : Bool) → (a || b) ≡ true → (a ≡ false → b ≡ true)
some_true true b h k = absurd cc
some_true false b h k = h

none_true : (a b : Bool) → (a || b) ≡ false → (a ≡ false) × (b ≡ false)
none_true true b h = absurd cc
none_true false b h = (refl, h)

pub same_bytes : (w : Piece) → bytes_eq w w ≡ true
same_bytes w = (bytes_eq-Decides w w).1 refl

pub are_same : (v w : Piece) → bytes_eq v w ≡ true → v ≡ w
are_same v w = (bytes_eq-Decides v w).0

-- ---- words that are begun

pub start_does : (w word : Piece) → is_start w word ≡ true → (cut : Piece) × (word ≡ w ++ cut)
start_does [] word h = (word, refl)
start_does (b ∷ w) [] h = absurd cc
start_does (b ∷ w) (c ∷ word) h =
    let p = both_true (b == c) (is_start w word) h in
    let q = start_does w word p.1 in
    let e : b ≡ c = heads b c p.0 in
    (q.0, ap (λ x. x ∷ word) (sym e) ∙ ap (λ x. b ∷ x) q.1)
  where
    heads : (b c : ℕ) → (b == c) ≡ true → b ≡ c
    heads b c h = grind (arith, nat_tests)

pub starts : (w cut : Piece) → is_start w (w ++ cut) ≡ true
starts [] cut = refl
starts (b ∷ w) cut = ap (λ d. d && is_start w (w ++ cut)) (self b) ∙ starts w cut
  where
    self : (b : ℕ) → (b == b) ≡ true
    self b = grind (arith, nat_tests)

-- ---- one word, one of two words

pub this_word : (word : Piece) → this word word ≡ Some tt
this_word word = ap (λ d. if d then Some tt else None) (same_bytes word)

pub is_this : (word w : Piece) (a : Unit {0}) → this word w ≡ Some a → w ≡ word
is_this word w a h = by (bytes_eq w word) refl h
  where
    by : (d : Bool) → bytes_eq w word ≡ d → (if d then Some tt else None) ≡ Some a → w ≡ word
    by true e h = are_same w word e
    by false e h = absurd cc

pub fixed_goes : (word : Piece) → GoesOn (λ w. is_start w word) (this word)
fixed_goes word = record {
  does = λ w h. let s = start_does w word h in (s.0, tt, ap (this word) (sym s.1) ∙ this_word word);
  only = λ w cut a none off some. let e = is_this word (w ++ cut) a some in let s = ap (is_start w) (sym e) ∙ starts w cut in let q : true ≡ false = sym s ∙ off in absurd cc;
  some = word;
  value = tt;
  is_some = this_word word;
}

pub which_first : (word other : Piece) → which word other word ≡ Some true
which_first word other = ap (λ d. if d then Some true else (if bytes_eq word other then Some false else None)) (same_bytes word)

pub which_second : (word other : Piece) → bytes_eq other word ≡ false → which word other other ≡ Some false
which_second word other e = ap (λ d. if d then Some true else (if bytes_eq other other then Some false else None)) e ∙ ap (λ d. if d then Some false else None) (same_bytes other)

-- the word that is meant
abbrev pub of_two : Piece → Piece → Bool → Piece
of_two word other true = word
of_two word other false = other

pub is_which : (word other w : Piece) (b : Bool) → which word other w ≡ Some b → w ≡ of_two word other b
is_which word other w b h = by (bytes_eq w word) (bytes_eq w other) refl refl h
  where
    by : (d e : Bool) → bytes_eq w word ≡ d → bytes_eq w other ≡ e → (if d then Some true else (if e then Some false else None)) ≡ Some b → w ≡ of_two word other b
    by true e p q h = are_same w word p ∙ ap (of_two word other) (some_is true b h)
      where
        some_is : (a b : Bool) → Some a ≡ Some b → a ≡ b
        some_is a b h = cc
    by false true p q h = are_same w other q ∙ ap (of_two word other) (some_is false b h)
      where
        some_is : (a b : Bool) → Some a ≡ Some b → a ≡ b
        some_is a b h = cc
    by false false p q h = absurd cc

pub either_goes : (word other : Piece) → bytes_eq other word ≡ false → GoesOn (λ w. is_start w word || is_start w other) (which word other)
either_goes word other differ = record {
  does = does;
  only = λ w cut b none off some. only w cut b (is_which word other (w ++ cut) b some) off;
  some = word;
  value = true;
  is_some = which_first word other;
}
  where
    does : (w : Piece) → (is_start w word || is_start w other) ≡ true → (cut : Piece) × (b : Bool) × (which word other (w ++ cut) ≡ Some b)
    does w h = by (is_start w word) refl h
      where
        by : (d : Bool) → is_start w word ≡ d → (d || is_start w other) ≡ true → (cut : Piece) × (b : Bool) × (which word other (w ++ cut) ≡ Some b)
        by true e h = let s = start_does w word e in (s.0, true, ap (which word other) (sym s.1) ∙ which_first word other)
        by false e h = let s = start_does w other h in (s.0, false, ap (which word other) (sym s.1) ∙ which_second word other differ)

    only : (w cut : Piece) (b : Bool) → w ++ cut ≡ of_two word other b → (is_start w word || is_start w other) ≡ false → ⊥
    only w cut true e off = let p = (none_true (is_start w word) (is_start w other) off).0 in let s : is_start w word ≡ true = ap (is_start w) (sym e) ∙ starts w cut in let q : true ≡ false = sym s ∙ p in cc
    only w cut false e off = let p = (none_true (is_start w word) (is_start w other) off).1 in let s : is_start w other ≡ true = ap (is_start w) (sym e) ∙ starts w cut in let q : true ≡ false = sym s ∙ p in cc

-- ---- numbers

abbrev AreDigits : List ℕ → Type 0
AreDigits ds = list_all is_digit ds ≡ true

digits_test : IsDigitsTest AreDigits
digits_test = record {
  empty = refl;
  parts = λ c cs h. let p = both_true (is_digit c) (list_all is_digit cs) h in let q = both_true (nat_le 48 c) (nat_le c 57) p.0 in ((low c q.0, high c q.1), p.1);
  more = λ c cs h k. let p = tests c h.0 h.1 in ap (λ b. b && list_all is_digit cs) p ∙ k;
}
  where
    low : (c : ℕ) → nat_le 48 c ≡ true → 48 ≤ c
    low c h = grind (arith, nat_tests)

    high : (c : ℕ) → nat_le c 57 ≡ true → c ≤ 57
    high c h = grind (arith, nat_tests)

    tests : (c : ℕ) → 48 ≤ c → c ≤ 57 → is_digit c ≡ true
    tests c h k = let p : nat_le 48 c ≡ true = grind (arith, nat_tests) in let q : nat_le c 57 ≡ true = grind (arith, nat_tests) in ap (λ b. b && nat_le c 57) p ∙ q

digits_fold : FoldsDigits (fold with_digit)
digits_fold = record { empty = λ n. refl; more = λ n c cs h. ap (λ m. fold with_digit m cs) (same n c) }
  where
    same : (n c : ℕ) → with_digit n c ≡ n * 10 + (c - 48)
    same n c = omega arith

numerals : IsNumeralModel AreDigits digits_number
numerals = numerals_by_fold AreDigits digits_test (fold with_digit) digits_fold

-- digits of a number, without needless zeros
pub record Spells (n : ℕ) (w : Piece) : Type 0 where
  pub plain : is_plain w ≡ true
  pub digits : AreDigits w
  pub value : digits_number w ≡ n

has_some : (w : Piece) → is_plain w ≡ true → 0 < length w
has_some [] h = absurd cc
has_some (b ∷ w) h = omega arith

number_is : (from end n : ℕ) (w : Piece) → number_of from end w ≡ Some n → Spells n w × (from ≤ n) × (n < end)
number_is from end n w h = by (is_plain w) (not (length w == 0)) (list_all is_digit w) refl refl refl h
  where
    inside : (m : ℕ) → within from end m ≡ Some n → (m ≡ n) × (from ≤ n) × (n < end)
    inside m h = cases (nat_le from m) (nat_lt m end) refl refl h
      where
        cases : (d e : Bool) → nat_le from m ≡ d → nat_lt m end ≡ e → (if d && e then Some m else None) ≡ Some n → (m ≡ n) × (from ≤ n) × (n < end)
        cases true true p q h = let e : m ≡ n = cc in let low : from ≤ m = grind (arith, nat_tests) in let high : m < end = grind (arith, nat_tests) in (e, omega arith, omega arith)
        cases true false p q h = absurd cc
        cases false e p q h = absurd cc

    by : (a b c : Bool) → is_plain w ≡ a → not (length w == 0) ≡ b → list_all is_digit w ≡ c → (if a then option_and_then (within from end) (if b && c then Some (digits_number w) else None) else None) ≡ Some n →
        Spells n w × (from ≤ n) × (n < end)
    by true true true p q r h = let i = inside (digits_number w) h in (record { plain = p; digits = r; value = i.0 }, i.1, i.2)
    by true true false p q r h = absurd cc
    by true false c p q r h = absurd cc
    by false b c p q r h = absurd cc

is_number : (from end n : ℕ) (w : Piece) → Spells n w → from ≤ n → n < end → number_of from end w ≡ Some n
is_number from end n w s low high =
    let k = has_some w s.plain in
    let some : not (length w == 0) ≡ true = grind (arith, nat_tests) in
    let p : nat_le from n ≡ true = grind (arith, nat_tests) in
    let q : nat_lt n end ≡ true = grind (arith, nat_tests) in
    ap (λ a. if a then option_and_then (within from end) (natural_of w) else None) s.plain
    ∙ ap (λ b. option_and_then (within from end) (if b && list_all is_digit w then Some (digits_number w) else None)) some
    ∙ ap (λ b. option_and_then (within from end) (if b then Some (digits_number w) else None)) s.digits
    ∙ ap (within from end) s.value
    ∙ ap (λ a. if a && nat_lt n end then Some n else None) p
    ∙ ap (λ a. if a then Some n else None) q

-- the decimal digits of a number spell it, and no others do
pub decimal_spells : (n : ℕ) → n < 2 ^ 64 → Spells n (decimal n)
decimal_spells n h = record { plain = plain n (decimal n) refl h; digits = digits_decimal numerals n h; value = digits_value-decimal numerals n h }
  where
    not_zero : (b : ℕ) → 48 < b → not (b == 48) ≡ true
    not_zero b h = grind (arith, nat_tests)

    plain : (n : ℕ) (w : Piece) → w ≡ decimal n → n < 2 ^ 64 → is_plain w ≡ true
    plain n [] e h = let p = decimal_nonempty n h in let l = ap length e in absurd (omega (arith, p, l))
    plain zero (b ∷ w) e h = ap is_plain (e ∙ decimal_digit 0 (omega arith))
    plain (suc n) (b ∷ w) e h =
        let p = first_decimal (suc n) (omega arith) h in
        let q = ap (λ z. get_or z 0 0) e in
        let r : 48 < b = omega (arith, p, q) in
        ap (λ d. d || (length w == 0)) (not_zero b r)

pub spelled_by : (n : ℕ) (w : Piece) → Spells n w → n < 2 ^ 64 → w ≡ decimal n
spelled_by n w s h =
    let v = s.value in
    let small : digits_number w < 2 ^ 64 = omega (arith, v, h) in
    sym (decimal-digits_value numerals w s.digits (has_some w s.plain) (alone w s.plain) small) ∙ ap decimal s.value
  where
    alone : (w : Piece) → is_plain w ≡ true → get_or w 0 0 ≡ 48 → length w ≡ 1
    alone [] p h = absurd cc
    alone (b ∷ w) p h = let zero : not (b == 48) ≡ false = grind (arith, nat_tests) in let q = some_true (not (b == 48)) (length w == 0) p zero in none w q
      where
        none : (w : Piece) → (length w == 0) ≡ true → length (b ∷ w) ≡ 1
        none w h = grind (arith, nat_tests)

fold_more : (n : ℕ) (ds : List ℕ) → n ≤ fold with_digit n ds
fold_more n [] = omega arith
fold_more n (b ∷ ds) = let h = fold_more (with_digit n b) ds in more n b (fold with_digit (with_digit n b) ds) h
  where
    more : (n b m : ℕ) → with_digit n b ≤ m → n ≤ m
    more n b m h = omega (arith, h)

-- the front of a number is one
front_spells : (n : ℕ) (w cut : Piece) → (length w == 0) ≡ false → Spells n (w ++ cut) → Spells (digits_number w) w × (digits_number w ≤ n) × (1 ≤ n → 1 ≤ digits_number w)
front_spells n [] cut some s = absurd cc
front_spells n (b ∷ w) cut some s =
    let all = both_true (list_all is_digit (b ∷ w)) (list_all is_digit cut) (sym (list_all-append is_digit (b ∷ w) cut) ∙ s.digits) in
    let v = s.value in
    let whole : digits_number ((b ∷ w) ++ cut) ≡ fold with_digit (digits_number (b ∷ w)) cut = fold-append with_digit 0 (b ∷ w) cut in
    let less = fold_more (digits_number (b ∷ w)) cut in
    (record { plain = front w s.plain; digits = all.0; value = refl }, omega (arith, v, whole, less), λ h. one (b == 48) refl w all.0 s h)
  where
    front : (w : Piece) → is_plain ((b ∷ w) ++ cut) ≡ true → is_plain (b ∷ w) ≡ true
    front w h = by (not (b == 48)) h
      where
        short : (w : Piece) → (length (w ++ cut) == 0) ≡ true → (length w == 0) ≡ true
        short w h = let e = length-append w cut in grind (arith, nat_tests)

        by : (d : Bool) → (d || (length (w ++ cut) == 0)) ≡ true → (d || (length w == 0)) ≡ true
        by true h = refl
        by false h = short w h

    digit : (b : ℕ) → (b == 48) ≡ false → is_digit b ≡ true → 1 ≤ b - 48
    digit b h k = let p = (both_true (nat_le 48 b) (nat_le b 57) k).0 in grind (arith, nat_tests)

    empty : (w : Piece) → (length (w ++ cut) == 0) ≡ true → ((b ∷ w) ++ cut) ≡ b ∷ []
    empty w h = ap (λ z. b ∷ z) (nothing (w ++ cut) h)
      where
        nothing : (w : Piece) → (length w == 0) ≡ true → w ≡ []
        nothing [] h = refl
        nothing (c ∷ w) h = absurd (grind (arith, nat_tests))

    one : (d : Bool) → (b == 48) ≡ d → (w : Piece) → AreDigits (b ∷ w) → Spells n ((b ∷ w) ++ cut) → 1 ≤ n → 1 ≤ digits_number (b ∷ w)
    one true e w ds s h =
        let k = empty w (some_true (not (b == 48)) (length (w ++ cut) == 0) s.plain (ap not e)) in
        let z : digits_number ((b ∷ w) ++ cut) ≡ digits_number (b ∷ []) = ap digits_number k in
        let v = s.value in
        let zero : b ≡ 48 = grind (arith, nat_tests) in
        let none : digits_number (b ∷ []) ≡ 0 = omega (arith, zero) in
        absurd (omega (arith, z, v, none, h))
    one false e w ds s h =
        let k = digit b e (both_true (is_digit b) (list_all is_digit w) ds).0 in
        let m = fold_more (with_digit 0 b) w in
        omega (arith, k, m)

pub number_goes : (from end : ℕ) → from ≤ 1 → from < end → GoesOn (λ w. length w == 0) (number_of from end)
number_goes from end low some = record {
  does = λ w h. (decimal from, from, ap (λ z. number_of from end (z ++ decimal from)) (nothing w h) ∙ is_number from end from (decimal from) (decimal_spells from (omega (arith, low))) (omega arith) some);
  only = λ w cut n none off h.
      let s = number_is from end n (w ++ cut) h in
      let f = front_spells n w cut off s.0 in
      let v = digits_number w in
      let at = is_number from end (digits_number w) w f.0 (least (digits_number w) n s.1 f.2) (omega (arith, f.1, s.2)) in
      let q : None ≡ Some (digits_number w) = sym none ∙ at in absurd cc;
  some = decimal from;
  value = from;
  is_some = is_number from end from (decimal from) (decimal_spells from (omega (arith, low))) (omega arith) some;
}
  where
    nothing : (w : Piece) → (length w == 0) ≡ true → w ≡ []
    nothing [] h = refl
    nothing (c ∷ w) h = absurd (grind (arith, nat_tests))

    least : (m n : ℕ) → from ≤ n → (1 ≤ n → 1 ≤ m) → from ≤ m
    least m n h k = by from low h
      where
        by : (f : ℕ) → f ≤ 1 → f ≤ n → f ≤ m
        by zero p q = omega arith
        by (suc f) p q = let r = k (omega (arith, q)) in omega (arith, r, p)

-- what a number in a range is spelled by
pub number_said : (from end n : ℕ) (w : Piece) → end ≤ 2 ^ 64 → number_of from end w ≡ Some n → (w ≡ decimal n) × (from ≤ n) × (n < end)
number_said from end n w h e = let s = number_is from end n w e in (spelled_by n w s.0 (omega (arith, s.2, h)), s.1, s.2)

pub said_number : (from end n : ℕ) → end ≤ 2 ^ 64 → from ≤ n → n < end → number_of from end (decimal n) ≡ Some n
said_number from end n h low high = is_number from end n (decimal n) (decimal_spells n (omega (arith, h, high))) low high

-- ---- names

pub name_said : (x w : Piece) → name_of w ≡ Some x → (w ≡ x) × (is_name x ≡ true)
name_said x w h = by (is_name w) refl h
  where
    by : (d : Bool) → is_name w ≡ d → (if d then Some w else None) ≡ Some x → (w ≡ x) × (is_name x ≡ true)
    by true e h = let p : w ≡ x = cc in (p, sym (ap is_name p) ∙ e)
    by false e h = absurd cc

pub said_name : (x : Piece) → is_name x ≡ true → name_of x ≡ Some x
said_name x h = ap (λ d. if d then Some x else None) h

pub name_goes : GoesOn (λ w. is_reserved w || (length w == 0)) name_of
name_goes = record {
  does = does;
  only = λ w cut x none off some.
      let q : None ≡ Some w = sym none ∙ said_name w (front w cut (name_said x (w ++ cut) some).0 (name_said x (w ++ cut) some).1 off) in absurd cc;
  some = codes "x";
  value = codes "x";
  is_some = refl;
}
  where
    does : (w : Piece) → (is_reserved w || (length w == 0)) ≡ true → (cut : Piece) × (x : Piece) × (name_of (w ++ cut) ≡ Some x)
    does w h = by (bytes_eq w (codes "true")) (bytes_eq w (codes "false")) (bytes_eq w (codes "bool")) (bytes_eq w (codes "int")) refl refl refl refl h
      where
        made : (word : Piece) → w ≡ word → (x : Piece) → name_of (word ++ codes "x") ≡ Some x → (cut : Piece) × (x : Piece) × (name_of (w ++ cut) ≡ Some x)
        made word e x k = (codes "x", x, ap (λ z. name_of (z ++ codes "x")) e ∙ k)

        nothing : (w : Piece) → (length w == 0) ≡ true → w ≡ []
        nothing [] h = refl
        nothing (c ∷ w) h = absurd (grind (arith, nat_tests))

        by : (a b c d : Bool) → bytes_eq w (codes "true") ≡ a → bytes_eq w (codes "false") ≡ b → bytes_eq w (codes "bool") ≡ c → bytes_eq w (codes "int") ≡ d →
            (a || b || c || d || (length w == 0)) ≡ true → (cut : Piece) × (x : Piece) × (name_of (w ++ cut) ≡ Some x)
        by true b c d p q r s h = made (codes "true") (are_same w (codes "true") p) (codes "truex") refl
        by false true c d p q r s h = made (codes "false") (are_same w (codes "false") q) (codes "falsex") refl
        by false false true d p q r s h = made (codes "bool") (are_same w (codes "bool") r) (codes "boolx") refl
        by false false false true p q r s h = made (codes "int") (are_same w (codes "int") s) (codes "intx") refl
        by false false false false p q r s h = made [] (nothing w h) (codes "x") refl

    front : (w cut : Piece) {x : Piece} → w ++ cut ≡ x → is_name x ≡ true → (is_reserved w || (length w == 0)) ≡ false → is_name w ≡ true
    front [] cut e h off = absurd cc
    front (b ∷ w) cut e h off = parts (ap is_name e ∙ h) (none_true (is_reserved (b ∷ w)) (length (b ∷ w) == 0) off).0
      where
        short : (w : Piece) → nat_le (length (b ∷ (w ++ cut))) 270 ≡ true → nat_le (length (b ∷ w)) 270 ≡ true
        short w h = let e = length-append w cut in grind (arith, nat_tests)

        parts : is_name (b ∷ (w ++ cut)) ≡ true → is_reserved (b ∷ w) ≡ false → is_name (b ∷ w) ≡ true
        parts h off =
            let one = both_true (is_small b && list_all is_name_byte (w ++ cut) && nat_le (length (b ∷ (w ++ cut))) 270) (not (is_reserved (b ∷ (w ++ cut)))) h in
            let two = both_true (is_small b && list_all is_name_byte (w ++ cut)) (nat_le (length (b ∷ (w ++ cut))) 270) one.0 in
            let three = both_true (is_small b) (list_all is_name_byte (w ++ cut)) two.0 in
            let bytes = both_true (list_all is_name_byte w) (list_all is_name_byte cut) (sym (list_all-append is_name_byte w cut) ∙ three.1) in
            ap (λ a. a && list_all is_name_byte w && nat_le (length (b ∷ w)) 270 && not (is_reserved (b ∷ w))) three.0
            ∙ ap (λ a. a && nat_le (length (b ∷ w)) 270 && not (is_reserved (b ∷ w))) bytes.0
            ∙ ap (λ a. a && not (is_reserved (b ∷ w))) (short w two.1)
            ∙ ap not off
