-- The names of memories and instances are names.
use Rattle.std.proofs.Common.{◌≡◌, ℕ, zero, suc, ◌<◌, ◌≤◌, ◌^◌, Bool, true, false, ◌&&◌, ◌||◌, not, nat_eq, nat_le, if◌then◌else◌, List, [], ◌∷◌, ◌++◌, length, take, refl, ap, ◌∙◌, arith}
use Rattle.std.specs.Prelude.{◌==◌, codes, decimal, IsTrue}
use Rattle.std.specs.List.{list_all}
use Rattle.std.specs.Str.{bytes_eq}
use Rattle.std.specs.Str.Parse.{AllDigits}
use Rattle.std.proofs.lemmas.Bool.Decides.{nat_tests}
use Rattle.std.proofs.lemmas.Fmt.{decimal_is_IsNumeral}
use Rattle.std.proofs.lemmas.List.{length-append}
use Rattle.std.proofs.lemmas.List.Folds.{list_all-append}
use Rattle.std.proofs.lemmas.Str.Parse.{digit_from_value}
use Rattle.hp_base.specs.Bytes.{is_small}
use Rattle.hp_obc.specs.Form.{is_name_byte, is_reserved, is_name}
use Rattle.hp_toobc.specs.Labels.{dollar, stem, made_name}
use Rattle.law_equations.proofs.FollowedLemmas.Naming.{same_name}

-- ---- truth

both_true : (a b : Bool) → (a && b) ≡ true → (a ≡ true) × (b ≡ true)
both_true true b h = (refl, h)
both_true false b h = absurd (cc)

and_true : (a b : Bool) → a ≡ true → b ≡ true → (a && b) ≡ true
and_true true b h g = g
and_true false b h g = absurd (cc)

or_false : (a b : Bool) → a ≡ false → b ≡ false → (a || b) ≡ false
or_false true b h g = absurd (cc)
or_false false b h g = g

-- ---- bytes

abbrev are_bytes : List ℕ → Bool
are_bytes xs = list_all is_name_byte xs

take_bytes : (n : ℕ) (xs : List ℕ) → are_bytes xs ≡ true → are_bytes (take n xs) ≡ true
take_bytes zero xs h = refl
take_bytes (suc n) [] h = refl
take_bytes (suc n) (b ∷ xs) h = let p = both_true (is_name_byte b) (are_bytes xs) h in and_true (is_name_byte b) (are_bytes (take n xs)) p.0 (take_bytes n xs p.1)

stem_bytes : (xs : List ℕ) → are_bytes xs ≡ true → are_bytes (stem xs) ≡ true
stem_bytes [] h = refl
stem_bytes (b ∷ xs) h = by (nat_eq b dollar) (both_true (is_name_byte b) (are_bytes xs) h) (stem_bytes xs)
  where
    by : (sign : Bool) → (is_name_byte b ≡ true) × (are_bytes xs ≡ true) → (are_bytes xs ≡ true → are_bytes (stem xs) ≡ true) → are_bytes (if sign then [] else b ∷ stem xs) ≡ true
    by true p f = refl
    by false p f = and_true (is_name_byte b) (are_bytes (stem xs)) p.0 (f p.1)

digit_byte : (c : ℕ) → 48 ≤ c → c ≤ 57 → is_name_byte c ≡ true
digit_byte c low high =
    let first : nat_le 48 c ≡ true = grind (arith, nat_tests) in
    let second : nat_le c 57 ≡ true = grind (arith, nat_tests) in
    by (is_small c) (c == 36) ((nat_le 65 c && nat_le c 90)) (c == 95) (and_true (nat_le 48 c) (nat_le c 57) first second)
  where
    by : (small sign capital line : Bool) → (nat_le 48 c && nat_le c 57) ≡ true → ((((small || capital) || (nat_le 48 c && nat_le c 57)) || line) || sign) ≡ true
    by true sign capital line h = refl
    by false sign true line h = refl
    by false sign false line h = ap (λ d. (d || line) || sign) h

digits_bytes : (ds : List ℕ) → AllDigits 10 ds → are_bytes ds ≡ true
digits_bytes [] h = refl
digits_bytes (c ∷ ds) h = let r = digit_from_value c h.0 in and_true (is_name_byte c) (are_bytes ds) (digit_byte c r.0 r.1) (digits_bytes ds h.1)

-- ---- no reserved word has the sign

has_sign : List ℕ → Bool
has_sign [] = false
has_sign (b ∷ xs) = nat_eq b 36 || has_sign xs

sign_behind : (xs ys : List ℕ) → has_sign (xs ++ (36 ∷ ys)) ≡ true
unfolding has_sign
sign_behind [] ys = refl
sign_behind (b ∷ xs) ys = by (nat_eq b 36) (sign_behind xs ys)
  where
    by : (d : Bool) → has_sign (xs ++ (36 ∷ ys)) ≡ true → (d || has_sign (xs ++ (36 ∷ ys))) ≡ true
    by true h = refl
    by false h = h

other_word : (x word : List ℕ) → has_sign x ≡ true → has_sign word ≡ false → bytes_eq x word ≡ false
other_word x word h g = by (bytes_eq x word) refl
  where
    by : (d : Bool) → bytes_eq x word ≡ d → d ≡ false
    by true e = let same : has_sign x ≡ has_sign word = ap has_sign (same_name x word e) in absurd (cc)
    by false e = refl

not_reserved : (x : List ℕ) → has_sign x ≡ true → is_reserved x ≡ false
unfolding has_sign
not_reserved x h =
    let a : bytes_eq x (codes "true") ≡ false = other_word x (codes "true") h refl in
    let b : bytes_eq x (codes "false") ≡ false = other_word x (codes "false") h refl in
    let c : bytes_eq x (codes "bool") ≡ false = other_word x (codes "bool") h refl in
    let d : bytes_eq x (codes "int") ≡ false = other_word x (codes "int") h refl in
    or_false ((bytes_eq x (codes "true") || bytes_eq x (codes "false")) || bytes_eq x (codes "bool")) (bytes_eq x (codes "int"))
    (or_false (bytes_eq x (codes "true") || bytes_eq x (codes "false")) (bytes_eq x (codes "bool")) (or_false (bytes_eq x (codes "true")) (bytes_eq x (codes "false")) a b) c) d

-- ---- names that are made

few_taken : (n : ℕ) (xs : List ℕ) → length (take n xs) ≤ n
few_taken zero xs = omega arith
few_taken (suc n) [] = omega arith
few_taken (suc n) (b ∷ xs) = omega (arith, few_taken n xs)

no_sign : (b : ℕ) → is_small b ≡ true → nat_eq b dollar ≡ false
no_sign b h = let p = both_true (nat_le 97 b) (nat_le b 122) h in by (nat_le 97 b) refl p.0
  where
    by : (d : Bool) → nat_le 97 b ≡ d → d ≡ true → nat_eq b dollar ≡ false
    by true e h = grind (arith, nat_tests)
    by false e h = absurd (cc)

-- the part behind the first byte
abbrev rest_of : List ℕ → ℕ → ℕ → List ℕ
rest_of xs letter place = take 254 (stem xs) ++ (36 ∷ letter ∷ take 13 (decimal place))

pub made-name : (x : List ℕ) (letter place : ℕ) → IsTrue (is_name x) → is_name_byte letter ≡ true → place < 10 ^ 13 → IsTrue (is_name (made_name x letter place))
made-name [] letter place h l lt = absurd (cc)
made-name (b ∷ xs) letter place h l lt =
    let all = both_true ((is_small b && are_bytes xs) && nat_le (length (b ∷ xs)) 270) (not (is_reserved (b ∷ xs))) h in
    let front = both_true (is_small b && are_bytes xs) (nat_le (length (b ∷ xs)) 270) all.0 in
    let parts = both_true (is_small b) (are_bytes xs) front.0 in
    let digits : are_bytes (decimal place) ≡ true = digits_bytes (decimal place) ((decimal_is_IsNumeral place (omega (arith, lt))).0.1) in
    let behind : are_bytes (36 ∷ letter ∷ take 13 (decimal place)) ≡ true = and_true (is_name_byte letter) (are_bytes (take 13 (decimal place))) l (take_bytes 13 (decimal place) digits) in
    let whole : are_bytes (rest_of xs letter place) ≡ true =
    list_all-append is_name_byte (take 254 (stem xs)) (36 ∷ letter ∷ take 13 (decimal place))
    ∙ and_true (are_bytes (take 254 (stem xs))) (are_bytes (36 ∷ letter ∷ take 13 (decimal place))) (take_bytes 254 (stem xs) (stem_bytes xs parts.1)) behind in
    let size : length (b ∷ rest_of xs letter place) ≤ 270 =
    omega (arith, length-append (take 254 (stem xs)) (36 ∷ letter ∷ take 13 (decimal place)), few_taken 254 (stem xs), few_taken 13 (decimal place)) in
    let short : nat_le (length (b ∷ rest_of xs letter place)) 270 ≡ true = grind (arith, nat_tests) in
    let free : is_reserved (b ∷ rest_of xs letter place) ≡ false = not_reserved (b ∷ rest_of xs letter place) (sign_behind (b ∷ take 254 (stem xs)) (letter ∷ take 13 (decimal place))) in
    ap (λ (sign : Bool). is_name (take 255 (if sign then [] else b ∷ stem xs) ++ (36 ∷ letter ∷ take 13 (decimal place)))) (no_sign b parts.0)
    ∙ and_true ((is_small b && are_bytes (rest_of xs letter place)) && nat_le (length (b ∷ rest_of xs letter place)) 270) (not (is_reserved (b ∷ rest_of xs letter place)))
    (and_true (is_small b && are_bytes (rest_of xs letter place)) (nat_le (length (b ∷ rest_of xs letter place)) 270) (and_true (is_small b) (are_bytes (rest_of xs letter place)) parts.0 whole) short)
    (ap not free)
