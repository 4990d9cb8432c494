-- Names with a sign and a number are told from names without, and from those with another number.
use Rattle.std.proofs.Common.{◌≡◌, ℕ, ◌+◌, ◌^◌, ◌%◌, ◌<◌, ◌≤◌, Bool, true, false, if◌then◌else◌, nat_eq, List, [], ◌∷◌, ◌++◌, length, take, refl, sym, ap, ◌∙◌, arith}
use Rattle.std.specs.Prelude.{min, decimal}
use Rattle.std.proofs.lemmas.Bool.Decides.{nat_tests}
use Rattle.std.proofs.lemmas.Fmt.{decimal_by_steps, decimal_injective}
use Rattle.std.proofs.lemmas.List.{append_cancel_right, take_all}
use Rattle.hp_expand.specs.NewNames.{dollar, is_new, with_number, marked}

pub signed : (xs ds : List ℕ) → is_new (xs ++ (dollar ∷ ds)) ≡ true
signed [] ds = refl
signed (x ∷ xs) ds = by (nat_eq x dollar) (signed xs ds)
  where
    by : (b : Bool) → is_new (xs ++ (dollar ∷ ds)) ≡ true → (if b then true else is_new (xs ++ (dollar ∷ ds))) ≡ true
    by true h = refl
    by false h = h

plain_append : (xs ys : List ℕ) → is_new xs ≡ false → is_new ys ≡ false → is_new (xs ++ ys) ≡ false
plain_append [] ys h k = k
plain_append (x ∷ xs) ys h k = by (nat_eq x dollar) h (plain_append xs ys)
  where
    by : (b : Bool) → (if b then true else is_new xs) ≡ false → (is_new xs ≡ false → is_new ys ≡ false → is_new (xs ++ ys) ≡ false) → (if b then true else is_new (xs ++ ys)) ≡ false
    by true h f = absurd (cc h)
    by false h f = f h k

digit_plain : (d : ℕ) → is_new ((48 + d) ∷ []) ≡ false
digit_plain d =
    let other : nat_eq (48 + d) 36 ≡ false = grind (arith, nat_tests) in
    ap (λ b. if b then true else false) other

pub decimal_plain : (n : ℕ) → n < 2 ^ 64 → is_new (decimal n) ≡ false
decimal_plain = decimal_by_steps (λ n ds. is_new ds ≡ false) (λ n h. digit_plain n) (λ n ds h k. plain_append ds ((48 + n % 10) ∷ []) k (digit_plain (n % 10)))

-- what stands behind the last sign
abbrev last_part : List ℕ → List ℕ
last_part [] = []
last_part (b ∷ bs) = if is_new bs then last_part bs else (if nat_eq b dollar then bs else [])

last_is : (xs ds : List ℕ) → is_new ds ≡ false → last_part (xs ++ (dollar ∷ ds)) ≡ ds
last_is [] ds h = ap (λ b. if b then last_part ds else ds) h
last_is (x ∷ xs) ds h =
    ap (λ b. if b then last_part (xs ++ (dollar ∷ ds)) else (if nat_eq x dollar then (xs ++ (dollar ∷ ds)) else [])) (signed xs ds) ∙ last_is xs ds h

fits : (k : ℕ) → min 999999 k < 2 ^ 64
fits k = omega arith

pub with_number_new : (room : ℕ) (x : List ℕ) (k : ℕ) → is_new (with_number room x k) ≡ true
with_number_new room x k = signed (take room x) (decimal (min 999999 k))

pub same_number : (a b : ℕ) (x y : List ℕ) (j k : ℕ) → j < 1000000 → k < 1000000 → with_number a x j ≡ with_number b y k → j ≡ k
same_number a b x y j k h l e =
    let digits : decimal (min 999999 j) ≡ decimal (min 999999 k) =
    sym (last_is (take a x) (decimal (min 999999 j)) (decimal_plain (min 999999 j) (fits j))) ∙ ap last_part e
    ∙ last_is (take b y) (decimal (min 999999 k)) (decimal_plain (min 999999 k) (fits k)) in
    let numbers : min 999999 j ≡ min 999999 k = decimal_injective (min 999999 j) (min 999999 k) (fits j) (fits k) digits in
    omega (arith, h, l, numbers)

pub same_marked : (k : ℕ) (x y : List ℕ) → length x ≤ 262 → length y ≤ 262 → marked k x ≡ marked k y → x ≡ y
same_marked k x y h l e =
    sym (take_all 262 x h) ∙ append_cancel_right (take 262 x) (take 262 y) (dollar ∷ decimal (min 999999 k)) e ∙ take_all 262 y l
