-- A number as it is printed is read as the number.
use Rattle.std.proofs.Common.{◌≡◌, ◌<◌, ◌≤◌, ℕ, suc, ◌+◌, ◌/◌, ◌%◌, ◌^◌, Bool, true, false, not, ◌&&◌, ◌||◌, ◌==◌, nat_le, nat_lt, if◌then◌else◌, ℤ, pos, negsuc, neg_ℤ, List, [], ◌∷◌, ◌++◌, length, None, Some, refl, ap, ◌∙◌, arith}
use Rattle.std.specs.Prelude.{option_and_then}
use Rattle.std.specs.Fmt.{decimal, signed_decimal}
use Rattle.std.specs.List.{list_all}
use Rattle.std.proofs.lemmas.Bool.Decides.{nat_tests}
use Rattle.std.proofs.lemmas.Fmt.{decimal_by_steps}
use Rattle.std.proofs.lemmas.List.{length-append}
use Rattle.std.proofs.lemmas.List.Folds.{list_all-append}
use Rattle.std.proofs.lemmas.List.Sums.{fold-append}
use Rattle.hp_obc.specs.Form.{is_short}
use Rattle.hp_base.specs.Bytes.{is_digit}
use Rattle.hp_lines.specs.Numbers.{with_digit, digits_number, natural_of, in_range, number_of}
use Rattle.hp_obctext.proofs.Truths.{both_true}

-- digits that spell a number
record Digits (n : ℕ) (ds : List ℕ) : Type 0 where
  some : 0 < length ds
  digits : list_all is_digit ds ≡ true
  number : digits_number ds ≡ n

digit_passes : (d : ℕ) → d < 10 → is_digit (48 + d) ≡ true
digit_passes d h =
    let low : nat_le 48 (48 + d) ≡ true = grind (arith, nat_tests) in
    let high : nat_le (48 + d) 57 ≡ true = grind (arith, nat_tests) in
    ap (λ b. b && nat_le (48 + d) 57) low ∙ high

one_digit : (d : ℕ) → d < 10 → Digits d ((48 + d) ∷ [])
one_digit d h = record { some = omega arith; digits = ap (λ b. b && true) (digit_passes d h); number = omega arith }

digit_behind : (m : ℕ) (ds : List ℕ) → 10 ≤ m → Digits (m / 10) ds → Digits m (ds ++ (48 + m % 10) ∷ [])
digit_behind m ds h k =
    let last : m % 10 < 10 = omega arith in
    let e = k.number in
    record {
      some = (let l = length-append ds ((48 + m % 10) ∷ []) in omega (arith, l));
      digits = list_all-append is_digit ds ((48 + m % 10) ∷ []) ∙ ap (λ b. b && (is_digit (48 + m % 10) && true)) k.digits ∙ ap (λ b. b && true) (digit_passes (m % 10) last);
      number = fold-append with_digit 0 ds ((48 + m % 10) ∷ []) ∙ ap (λ n. with_digit n (48 + m % 10)) e ∙ whole m;
    }
  where
    whole : (m : ℕ) → with_digit (m / 10) (48 + m % 10) ≡ m
    whole m = omega arith

decimal_digits : (n : ℕ) → n < 2 ^ 64 → Digits n (decimal n)
decimal_digits = decimal_by_steps Digits one_digit digit_behind

natural_by : (ds : List ℕ) (n : ℕ) → Digits n ds → natural_of ds ≡ Some n
natural_by ds n h =
    let k = h.some in
    let some : not (length ds == 0) ≡ true = grind (arith, nat_tests) in
    ap (λ b. if b && list_all is_digit ds then Some (digits_number ds) else None) some
    ∙ ap (λ b. if b then Some (digits_number ds) else None) h.digits ∙ ap Some h.number

short_by : (b : Bool) (n : ℤ) → b ≡ true → (if b then Some n else None) ≡ Some n
short_by true n h = refl
short_by false n h = absurd cc

below : (n : ℕ) → nat_lt n 2147483648 ≡ true → n < 2147483648
below n h = grind (arith, nat_tests)

-- digits do not begin with `-`
first_is_digit : (b : ℕ) → is_digit b ≡ true → (b == 45) ≡ false
first_is_digit b h = by (nat_le 48 b) (nat_le b 57) refl h
  where
    by : (d e : Bool) → nat_le 48 b ≡ d → (d && e) ≡ true → (b == 45) ≡ false
    by true e p h = grind (arith, nat_tests)
    by false e p h = absurd cc

positive_by : (ds : List ℕ) (n : ℕ) → Digits n ds → nat_lt n 2147483648 ≡ true → number_of ds ≡ Some (pos n)
positive_by [] n h k = let some = h.some in absurd (omega (arith, some))
positive_by (b ∷ ds) n h k =
    ap (λ d. if d then option_and_then (λ m. in_range (neg_ℤ (pos m))) (natural_of ds) else option_and_then (λ m. in_range (pos m)) (natural_of (b ∷ ds))) (first_is_digit b (both_true (is_digit b) (list_all is_digit ds) h.digits).0)
    ∙ ap (option_and_then (λ m. in_range (pos m))) (natural_by (b ∷ ds) n h) ∙ short_by (nat_lt n 2147483648) (pos n) k

pub printed_number : (n : ℤ) → is_short n ≡ true → number_of (signed_decimal n) ≡ Some n
printed_number (pos n) h = let low = below n h in positive_by (decimal n) n (decimal_digits n (omega (arith, low))) h
printed_number (negsuc n) h =
    let low = below n h in
    ap (option_and_then (λ m. in_range (neg_ℤ (pos m)))) (natural_by (decimal (suc n)) (suc n) (decimal_digits (suc n) (omega (arith, low)))) ∙ short_by (nat_lt n 2147483648) (negsuc n) h

-- a printed number is digits, with a minus in front of them or none
pub record NumberBytes (w : List ℕ) : Type 0 where
  pub first : ℕ
  pub others : List ℕ
  pub is : w ≡ first ∷ others
  pub first_is : (is_digit first || first == 45) ≡ true
  pub digits : list_all is_digit others ≡ true

or_true : (a b : Bool) → a ≡ true → (a || b) ≡ true
or_true true b h = refl
or_true false b h = absurd cc

digit_bytes : (ds : List ℕ) (n : ℕ) → Digits n ds → NumberBytes ds
digit_bytes [] n h = let some = h.some in absurd (omega (arith, some))
digit_bytes (b ∷ ds) n h =
    record {
      first = b;
      others = ds;
      is = refl;
      first_is = or_true (is_digit b) (b == 45) (both_true (is_digit b) (list_all is_digit ds) h.digits).0;
      digits = (both_true (is_digit b) (list_all is_digit ds) h.digits).1;
    }

pub number_bytes : (n : ℤ) → is_short n ≡ true → NumberBytes (signed_decimal n)
number_bytes (pos n) h = let low = below n h in digit_bytes (decimal n) n (decimal_digits n (omega (arith, low)))
number_bytes (negsuc n) h =
    let low = below n h in
    let d = decimal_digits (suc n) (omega (arith, low)) in
    record { first = 45; others = decimal (suc n); is = refl; first_is = refl; digits = d.digits }
