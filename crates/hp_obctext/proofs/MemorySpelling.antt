-- Which words are names and values, and which can go on to such words.
use Rattle.std.proofs.Common.{◌≡◌, ◌<◌, ◌≤◌, ◌+◌, ◌/◌, ◌%◌, ◌^◌, ℕ, zero, suc, ℤ, pos, negsuc, Bool, true, false, not, ◌&&◌, ◌||◌, ◌==◌, nat_le, nat_lt, List, [], ◌∷◌, ◌++◌, length, ◌⊎◌, inl, inr, Option, None, Some, refl, sym, ap, subst, ◌∙◌, append_assoc, append-nil, arith}
use Rattle.std.specs.Prelude.{codes, option_map}
use Rattle.std.specs.Fmt.{decimal, signed_decimal}
use Rattle.std.specs.List.{list_all}
use Rattle.std.specs.Str.{bytes_eq}
use Rattle.std.proofs.lemmas.Bool.Decides.{nat_tests}
use Rattle.std.proofs.lemmas.Fmt.{decimal_by_steps, decimal_digit, decimal_step}
use Rattle.std.proofs.lemmas.List.{length-append}
use Rattle.std.proofs.lemmas.List.Folds.{list_all-append}
use Rattle.hp_base.specs.declared.value.Value.TheVariants.{I}
use Rattle.hp_base.specs.Kinds.{Ints}
use Rattle.hp_base.specs.Bytes.{is_small, is_capital, is_digit, is_word_byte}
use Rattle.hp_lines.specs.Numbers.{number_of}
use Rattle.hp_lines.specs.Values.{values_of, with_value}
use Rattle.hp_lines.proofs.KindLaws.{values_are_of_kinds}
use Rattle.hp_obc.specs.Form.{is_name_byte, is_reserved, is_name, is_constructor, is_short}
use Rattle.hp_obctext.specs.MemoryTexts.{is_gap, IsWord, is_number, is_value}
use Rattle.hp_obctext.proofs.MemoryWords.{both_true}
use Rattle.hp_obctext.proofs.Integers.{fits_short}
use Rattle.hp_obctext.specs.MemoryReading.{begins, begins_name, is_last, is_line, begins_line}
use Rattle.hp_obctext.proofs.MemoryWrong.{GoesOn}
use Rattle.hp_obctext.proofs.MemoryLines.{same_bytes, are_same, or_right, start, starts}
use Rattle.hp_obctext.proofs.PrintedNumbers.{printed_number, number_bytes}

-- ---- the front of a decimal number is one

-- two cuts of a list, of which one cuts off the last element
data LastCut (ds : List ℕ) (x : ℕ) (w cut : List ℕ) : Type 0 where
  all : w ≡ ds ++ x ∷ [] → LastCut ds x w cut
  less : (c : List ℕ) → ds ≡ w ++ c → LastCut ds x w cut

last_cut : (ds : List ℕ) (x : ℕ) (w cut : List ℕ) → ds ++ x ∷ [] ≡ w ++ cut → LastCut ds x w cut
last_cut ds x [] cut e = less ds refl
last_cut [] x (b ∷ []) cut e = let same : b ≡ x = cc in all (ap (λ z. z ∷ []) same)
last_cut [] x (b ∷ c ∷ w) cut e = absurd cc
last_cut (d ∷ ds) x (b ∷ w) cut e = more (heads e) (last_cut ds x w cut (tails e))
  where
    heads : d ∷ (ds ++ x ∷ []) ≡ b ∷ (w ++ cut) → d ≡ b
    heads h = cc

    tails : d ∷ (ds ++ x ∷ []) ≡ b ∷ (w ++ cut) → ds ++ x ∷ [] ≡ w ++ cut
    tails h = cc

    more : d ≡ b → LastCut ds x w cut → LastCut (d ∷ ds) x (b ∷ w) cut
    more p (all h) = all (ap (λ z. z ∷ w) (sym p) ∙ ap (λ z. d ∷ z) h)
    more p (less c h) = less c (ap (λ z. z ∷ ds) p ∙ ap (λ z. b ∷ z) h)

-- the digits of a number, and what each front of them is
record Fronts (n : ℕ) (ds : List ℕ) : Type 0 where
  digits : n < 2 ^ 64 → ds ≡ decimal n
  fronts : n < 2 ^ 64 → (w cut : List ℕ) → ds ≡ w ++ cut → 1 ≤ length w → (m : ℕ) × (m ≤ n) × (1 ≤ n → 1 ≤ m) × (w ≡ decimal m)

one_front : (d : ℕ) → d < 10 → Fronts d ((48 + d) ∷ [])
one_front d h = record { digits = λ k. sym (decimal_digit d h); fronts = λ k w cut e s. by w cut e s }
  where
    by : (w cut : List ℕ) → (48 + d) ∷ [] ≡ w ++ cut → 1 ≤ length w → (m : ℕ) × (m ≤ d) × (1 ≤ d → 1 ≤ m) × (w ≡ decimal m)
    by [] cut e s = absurd (omega (arith, s))
    by (b ∷ []) cut e s = let same : b ≡ 48 + d = cc in (d, omega arith, λ z. z, ap (λ z. z ∷ []) same ∙ sym (decimal_digit d h))
    by (b ∷ c ∷ w) cut e s = absurd cc

more_front : (m : ℕ) (ds : List ℕ) → 10 ≤ m → Fronts (m / 10) ds → Fronts m (ds ++ (48 + m % 10) ∷ [])
more_front m ds h f = record { digits = digits; fronts = λ k w cut e s. by k w cut s (last_cut ds (48 + m % 10) w cut e) }
  where
    low : m < 2 ^ 64 → m / 10 < 2 ^ 64
    low k = omega (arith, k)

    digits : m < 2 ^ 64 → ds ++ (48 + m % 10) ∷ [] ≡ decimal m
    digits k = ap (λ z. z ++ (48 + m % 10) ∷ []) (f.digits (low k)) ∙ sym (decimal_step m h k)

    by : m < 2 ^ 64 → (w cut : List ℕ) → 1 ≤ length w → LastCut ds (48 + m % 10) w cut → (n : ℕ) × (n ≤ m) × (1 ≤ m → 1 ≤ n) × (w ≡ decimal n)
    by k w cut s (all e) = (m, omega arith, λ z. z, e ∙ digits k)
    by k w cut s (less c e) =
        let r = f.fronts (low k) w c e s in
        let small = r.1 in
        let some : 1 ≤ r.0 = r.2 (omega (arith, h)) in
        (r.0, omega (arith, small), λ z. some, r.3)

pub decimal_front : (n : ℕ) → n < 2 ^ 64 → (w cut : List ℕ) → decimal n ≡ w ++ cut → 1 ≤ length w → (m : ℕ) × (m ≤ n) × (1 ≤ n → 1 ≤ m) × (w ≡ decimal m)
decimal_front n k w cut e s = (decimal_by_steps Fronts one_front more_front n k).fronts k w cut e s

-- ---- numbers

short_below : (m n : ℕ) → m ≤ n → nat_lt n 2147483648 ≡ true → nat_lt m 2147483648 ≡ true
short_below m n h k = grind (arith, nat_tests)

below : (n : ℕ) → nat_lt n 2147483648 ≡ true → n < 2147483648
below n h = grind (arith, nat_tests)

-- the front of a printed number is one, or a minus
data Front (w : List ℕ) : Type 0 where
  number : (n : ℤ) → is_short n ≡ true → w ≡ signed_decimal n → Front w
  minus : w ≡ codes "-" → Front w

number_front : (n : ℤ) → is_short n ≡ true → (w cut : List ℕ) → signed_decimal n ≡ w ++ cut → 1 ≤ length w → Front w
number_front (pos n) h w cut e s =
    let low = below n h in
    let r = decimal_front n (omega (arith, low)) w cut e s in
    number (pos r.0) (short_below r.0 n r.1 h) r.3
number_front (negsuc n) h [] cut e s = absurd (omega (arith, s))
number_front (negsuc n) h (b ∷ []) cut e s = let same : b ≡ 45 = cc in minus (ap (λ z. z ∷ []) same)
number_front (negsuc n) h (b ∷ c ∷ w) cut e s =
    let low = below n h in
    let same : b ≡ 45 = cc in
    let tail : decimal (suc n) ≡ (c ∷ w) ++ cut = cc in
    let r = decimal_front (suc n) (omega (arith, low)) (c ∷ w) cut tail (omega arith) in
    by r.0 r.1 (r.2 (omega arith)) (ap (λ z. z ∷ c ∷ w) same ∙ ap (λ z. 45 ∷ z) r.3)
  where
    by : (m : ℕ) → m ≤ suc n → 1 ≤ m → b ∷ c ∷ w ≡ 45 ∷ decimal m → Front (b ∷ c ∷ w)
    by zero p q k = absurd (omega (arith, q))
    by (suc m) p q k = number (negsuc m) (short_below m n (omega (arith, p)) h) k

-- a word is a number where it is one that is printed
pub number_by : (w : List ℕ) (n : ℤ) → is_short n ≡ true → w ≡ signed_decimal n → is_number w ≡ true
number_by w n h e =
    ap is_number e
    ∙ ap (λ (o : Option ℤ). elim o [ None ↦ false | Some m ↦ bytes_eq (signed_decimal n) (signed_decimal m) ]) (printed_number n h)
    ∙ same_bytes (signed_decimal n)

-- a number that a word spells is one of 32 bits
pub spelled_short : (w : List ℕ) (n : ℤ) → number_of w ≡ Some n → is_short n ≡ true
spelled_short w n e =
    let one : values_of (Ints ∷ []) (w ∷ []) ≡ Some (I n ∷ []) = ap (λ o. with_value (option_map I o) (Some [])) e in
    fits_short n (values_are_of_kinds (Ints ∷ []) (w ∷ []) (I n ∷ []) one).0

pub number_is : (w : List ℕ) → is_number w ≡ true → (n : ℤ) × (number_of w ≡ Some n) × (is_short n ≡ true) × (w ≡ signed_decimal n)
number_is w h = by (number_of w) refl h
  where
    by : (o : Option ℤ) → number_of w ≡ o → elim o [ None ↦ false | Some n ↦ bytes_eq w (signed_decimal n) ] ≡ true → (n : ℤ) × (number_of w ≡ Some n) × (is_short n ≡ true) × (w ≡ signed_decimal n)
    by None e k = absurd cc
    by (Some n) e k = (n, e, spelled_short w n e, are_same w (signed_decimal n) k)

-- ---- words do not end within

digit_part : (b : ℕ) → is_digit b ≡ true → not (is_gap b) ≡ true
digit_part b h = by (nat_le 48 b) (nat_le b 57) refl h
  where
    by : (d e : Bool) → nat_le 48 b ≡ d → (d && e) ≡ true → not (is_gap b) ≡ true
    by true e p h = grind (arith, nat_tests)
    by false e p h = absurd cc

-- each byte of a word passes one test, so it passes another
all_pass : (p q : ℕ → Bool) → ((b : ℕ) → p b ≡ true → q b ≡ true) → (w : List ℕ) → list_all p w ≡ true → list_all q w ≡ true
all_pass p q f [] h = refl
all_pass p q f (b ∷ w) h = let k = both_true (p b) (list_all p w) h in ap (λ d. d && list_all q w) (f b k.0) ∙ all_pass p q f w k.1

or_cases : {P : Type 0} (a b : Bool) → (a || b) ≡ true → (a ≡ true → P) → (b ≡ true → P) → P
or_cases true b h f g = f refl
or_cases false b h f g = g h

small_part : (b : ℕ) → is_small b ≡ true → not (is_gap b) ≡ true
small_part b h = by (nat_le 97 b) (nat_le b 122) refl h
  where
    by : (d e : Bool) → nat_le 97 b ≡ d → (d && e) ≡ true → not (is_gap b) ≡ true
    by true e p h = grind (arith, nat_tests)
    by false e p h = absurd cc

capital_part : (b : ℕ) → is_capital b ≡ true → not (is_gap b) ≡ true
capital_part b h = by (nat_le 65 b) (nat_le b 90) refl h
  where
    by : (d e : Bool) → nat_le 65 b ≡ d → (d && e) ≡ true → not (is_gap b) ≡ true
    by true e p h = grind (arith, nat_tests)
    by false e p h = absurd cc

equal_part : (b c : ℕ) → (b == c) ≡ true → not (is_gap c) ≡ true → not (is_gap b) ≡ true
equal_part b c h k = let e : b ≡ c = grind (arith, nat_tests) in ap (λ x. not (is_gap x)) e ∙ k

-- `||` groups to the left
word_part : (b : ℕ) → is_word_byte b ≡ true → not (is_gap b) ≡ true
word_part b h =
    or_cases (is_small b || is_capital b || is_digit b) (b == 95) h
    (λ k. or_cases (is_small b || is_capital b) (is_digit b) k (λ l. or_cases (is_small b) (is_capital b) l (small_part b) (capital_part b)) (digit_part b))
    (λ k. equal_part b 95 k refl)

name_part : (b : ℕ) → is_name_byte b ≡ true → not (is_gap b) ≡ true
name_part b h = or_cases (is_word_byte b) (b == 36) h (word_part b) (λ k. equal_part b 36 k refl)

pub name_is_word : (w : List ℕ) → is_name w ≡ true → IsWord w
name_is_word [] h = refl
name_is_word (b ∷ w) h =
    let three = (both_true (is_small b && list_all is_name_byte w && nat_le (length (b ∷ w)) 270) (not (is_reserved (b ∷ w))) h).0 in
    let two = both_true (is_small b) (list_all is_name_byte w) (both_true (is_small b && list_all is_name_byte w) (nat_le (length (b ∷ w)) 270) three).0 in
    ap (λ d. d && list_all (λ x. not (is_gap x)) w) (small_part b two.0) ∙ all_pass is_name_byte (λ x. not (is_gap x)) name_part w two.1

constructor_is_word : (w : List ℕ) → is_constructor w ≡ true → IsWord w
constructor_is_word [] h = refl
constructor_is_word (b ∷ w) h =
    let two = both_true (is_capital b) (list_all is_word_byte w) (both_true (is_capital b && list_all is_word_byte w) (nat_le (length (b ∷ w)) 255) h).0 in
    ap (λ d. d && list_all (λ x. not (is_gap x)) w) (capital_part b two.0) ∙ all_pass is_word_byte (λ x. not (is_gap x)) word_part w two.1

number_is_word : (w : List ℕ) → is_number w ≡ true → IsWord w
number_is_word w h =
    let n = number_is w h in
    let b = number_bytes n.0 n.2 in
    let first : not (is_gap b.first) ≡ true = or_cases (is_digit b.first) (b.first == 45) b.first_is (digit_part b.first) (λ k. equal_part b.first 45 k refl) in
    ap (list_all (λ x. not (is_gap x))) (n.3 ∙ b.is) ∙ ap (λ d. d && list_all (λ x. not (is_gap x)) b.others) first ∙ all_pass is_digit (λ x. not (is_gap x)) digit_part b.others b.digits

-- what a word of a value is
pub data Valued (w : List ℕ) : Type 0 where
  yes : w ≡ codes "true" → Valued w
  no_ : w ≡ codes "false" → Valued w
  constructor_ : is_constructor w ≡ true → Valued w
  number_ : is_number w ≡ true → Valued w

pub valued : (w : List ℕ) → is_value w ≡ true → Valued w
valued w h =
    or_cases (bytes_eq w (codes "true") || bytes_eq w (codes "false") || is_constructor w) (is_number w) h
    (λ k. or_cases (bytes_eq w (codes "true") || bytes_eq w (codes "false")) (is_constructor w) k
    (λ l. or_cases (bytes_eq w (codes "true")) (bytes_eq w (codes "false")) l (λ m. yes (are_same w (codes "true") m)) (λ m. no_ (are_same w (codes "false") m)))
    constructor_)
    number_

pub value_is_word : (w : List ℕ) → is_value w ≡ true → IsWord w
value_is_word w h = by (valued w h)
  where
    by : Valued w → IsWord w
    by (yes e) = ap (list_all (λ x. not (is_gap x))) e
    by (no_ e) = ap (list_all (λ x. not (is_gap x))) e
    by (constructor_ k) = constructor_is_word w k
    by (number_ k) = number_is_word w k

pub value_by_constructor : (w : List ℕ) → is_constructor w ≡ true → is_value w ≡ true
value_by_constructor w h = ap (λ d. d || is_number w) (or_right (bytes_eq w (codes "true") || bytes_eq w (codes "false")) (is_constructor w) h)

pub value_by_number : (w : List ℕ) → is_number w ≡ true → is_value w ≡ true
value_by_number w h = or_right (bytes_eq w (codes "true") || bytes_eq w (codes "false") || is_constructor w) (is_number w) h

-- ---- names that are cut off

front_all : (p : ℕ → Bool) (w cut : List ℕ) → list_all p (w ++ cut) ≡ true → list_all p w ≡ true
front_all p w cut h = (both_true (list_all p w) (list_all p cut) (sym (list_all-append p w cut) ∙ h)).0

front_short : (w cut : List ℕ) (n : ℕ) → nat_le (length (w ++ cut)) n ≡ true → nat_le (length w) n ≡ true
front_short w cut n h = let e = length-append w cut in grind (arith, nat_tests)

and_all : (a b : Bool) → a ≡ true → b ≡ true → (a && b) ≡ true
and_all a b p q = ap (λ d. d && b) p ∙ q

or_none : (a b : Bool) → (a || b) ≡ false → (a ≡ false) × (b ≡ false)
or_none true b h = absurd cc
or_none false b h = (refl, h)

name_front : (w cut : List ℕ) → is_name w ≡ false → is_reserved w ≡ false → (length w == 0) ≡ false → is_name (w ++ cut) ≡ true → ⊥
name_front [] cut p q s h = cc
name_front (b ∷ w) cut p q s h =
    let all = b ∷ (w ++ cut) in
    let three = (both_true (is_small b && list_all is_name_byte (w ++ cut) && nat_le (length all) 270) (not (is_reserved all)) h).0 in
    let two = both_true (is_small b && list_all is_name_byte (w ++ cut)) (nat_le (length all) 270) three in
    let one = both_true (is_small b) (list_all is_name_byte (w ++ cut)) two.0 in
    let name : is_name (b ∷ w) ≡ true =
    and_all (is_small b && list_all is_name_byte w && nat_le (length (b ∷ w)) 270) (not (is_reserved (b ∷ w)))
    (and_all (is_small b && list_all is_name_byte w) (nat_le (length (b ∷ w)) 270) (and_all (is_small b) (list_all is_name_byte w) one.0 (front_all is_name_byte w cut one.1)) (front_short (b ∷ w) cut 270 two.1))
    (ap not q) in
    let both : true ≡ false = sym name ∙ p in
    cc

reserved_goes : (w : List ℕ) → is_reserved w ≡ true → is_name (w ++ codes "x") ≡ true
reserved_goes w h =
    or_cases (bytes_eq w (codes "true") || bytes_eq w (codes "false") || bytes_eq w (codes "bool")) (bytes_eq w (codes "int")) h
    (λ k. or_cases (bytes_eq w (codes "true") || bytes_eq w (codes "false")) (bytes_eq w (codes "bool")) k
    (λ l. or_cases (bytes_eq w (codes "true")) (bytes_eq w (codes "false")) l (same (codes "true") refl) (same (codes "false") refl)) (same (codes "bool") refl))
    (same (codes "int") refl)
  where
    same : (v : List ℕ) → is_name (v ++ codes "x") ≡ true → bytes_eq w v ≡ true → is_name (w ++ codes "x") ≡ true
    same v k e = ap (λ z. is_name (z ++ codes "x")) (are_same w v e) ∙ k

pub name_goes : GoesOn is_name begins_name
name_goes = record {
  does = λ w h. or_cases (is_reserved w) (length w == 0) h (λ k. (codes "x", reserved_goes w k)) (λ k. (codes "x", empty w k));
  only = λ w cut p o h. let n = or_none (is_reserved w) (length w == 0) o in name_front w cut p n.0 n.1 h;
  empty = refl;
  some = (codes "x", refl);
}
  where
    empty : (w : List ℕ) → (length w == 0) ≡ true → is_name (w ++ codes "x") ≡ true
    empty [] k = refl
    empty (b ∷ w) k = absurd (grind (arith, nat_tests))

-- ---- lines that are cut off

constructor_front : (w cut : List ℕ) → 1 ≤ length w → is_constructor (w ++ cut) ≡ true → is_constructor w ≡ true
constructor_front [] cut s h = absurd (omega (arith, s))
constructor_front (b ∷ w) cut s h =
    let two = both_true (is_capital b && list_all is_word_byte (w ++ cut)) (nat_le (length (b ∷ (w ++ cut))) 255) h in
    let one = both_true (is_capital b) (list_all is_word_byte (w ++ cut)) two.0 in
    and_all (is_capital b && list_all is_word_byte w) (nat_le (length (b ∷ w)) 255) (and_all (is_capital b) (list_all is_word_byte w) one.0 (front_all is_word_byte w cut one.1)) (front_short (b ∷ w) cut 255 two.1)

clash : {a : Bool} → a ≡ true → a ≡ false → ⊥
clash p q = let e : true ≡ false = sym p ∙ q in cc

line_front : (w cut : List ℕ) → is_line w ≡ false → begins_line w ≡ false → is_line (w ++ cut) ≡ true → ⊥
line_front w cut p o h =
    let a = or_none (begins w (codes "end") || begins w (codes "true") || begins w (codes "false")) (bytes_eq w (codes "-")) o in
    let b = or_none (begins w (codes "end") || begins w (codes "true")) (begins w (codes "false")) a.0 in
    let c = or_none (begins w (codes "end")) (begins w (codes "true")) b.0 in
    or_cases (is_last (w ++ cut)) (is_value (w ++ cut)) h
    (λ k. starts w cut (codes "end") (are_same (w ++ cut) (codes "end") k) c.0)
    (λ k. by a.1 c.1 b.1 (some w a.0) (valued (w ++ cut) k))
  where
    some : (w : List ℕ) → (begins w (codes "end") || begins w (codes "true") || begins w (codes "false")) ≡ false → 1 ≤ length w
    some [] e = absurd cc
    some (b ∷ w) e = omega arith

    no : is_value w ≡ true → ⊥
    no k = clash k (or_none (is_last w) (is_value w) p).1

    cut_off : bytes_eq w (codes "-") ≡ false → Front w → ⊥
    cut_off m (number n s e) = no (value_by_number w (number_by w n s e))
    cut_off m (minus e) = clash (ap (λ z. bytes_eq z (codes "-")) e) m

    by : bytes_eq w (codes "-") ≡ false → begins w (codes "true") ≡ false → begins w (codes "false") ≡ false → 1 ≤ length w → Valued (w ++ cut) → ⊥
    by m t f s (yes e) = starts w cut (codes "true") e t
    by m t f s (no_ e) = starts w cut (codes "false") e f
    by m t f s (constructor_ k) = no (value_by_constructor w (constructor_front w cut s k))
    by m t f s (number_ k) = let n = number_is (w ++ cut) k in cut_off m (number_front n.0 n.2 w cut (sym n.3) s)

minus_one : is_line (codes "-1") ≡ true
minus_one = or_right (is_last (codes "-1")) (is_value (codes "-1")) (value_by_number (codes "-1") (number_by (codes "-1") (negsuc 0) refl (ap (λ z. 45 ∷ z) (sym (decimal_digit 1 (omega arith))))))

pub line_goes : GoesOn is_line begins_line
line_goes = record {
  does = λ w h.
      or_cases (begins w (codes "end") || begins w (codes "true") || begins w (codes "false")) (bytes_eq w (codes "-")) h
      (λ k. or_cases (begins w (codes "end") || begins w (codes "true")) (begins w (codes "false")) k
      (λ l. or_cases (begins w (codes "end")) (begins w (codes "true")) l (λ m. goes w (codes "end") m refl) (λ m. goes w (codes "true") m refl)) (λ l. goes w (codes "false") l refl))
      (λ k. (codes "1", ap (λ z. is_line (z ++ codes "1")) (are_same w (codes "-") k) ∙ minus_one));
  only = line_front;
  empty = refl;
  some = (codes "end", refl);
}
  where
    goes : (w word : List ℕ) → begins w word ≡ true → is_line word ≡ true → (cut : List ℕ) × (is_line (w ++ cut) ≡ true)
    goes w word h k = let s = start w word h in (s.0, ap is_line (sym s.1) ∙ k)
