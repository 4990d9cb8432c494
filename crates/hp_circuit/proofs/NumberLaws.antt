-- Numbers in bits.
use Rattle.std.proofs.Common.{◌≡◌, ◌≤◌, ◌<◌, ℕ, zero, suc, ◌+◌, ◌-◌, ◌^◌, List, [], ◌∷◌, ◌++◌, length, refl, sym, ap, ap₂, subst, ◌∙◌, arith, append_assoc}
use Rattle.std.specs.Prelude.{Bool, true, false, if◌then◌else◌, nat_le, IsTrue, IsFalse}
use Rattle.std.proofs.lemmas.Bool.Decides.{nat_tests}
use Rattle.hp_circuit.specs.Numbers.{pow2, width_from, width, to_bits, number}

pub length_bits : (w k : ℕ) → length (to_bits w k) ≡ w
length_bits zero k = refl
length_bits (suc w) k = ap suc (length_bits w (if nat_le (pow2 w) k then k - pow2 w else k))

pub tests : {X : Type 0} (d : Bool) → (IsTrue d → X) → (IsFalse d → X) → X
tests true f g = f refl
tests false f g = g refl

pub le_true : (a b : ℕ) → IsTrue (nat_le a b) → a ≤ b
le_true a b e = grind (arith, nat_tests)

pub le_false : (a b : ℕ) → IsFalse (nat_le a b) → b < a
le_false a b e = grind (arith, nat_tests)

pub true_le : (a b : ℕ) → a ≤ b → nat_le a b ≡ true
true_le a b l = grind (arith, nat_tests)

pub false_le : (a b : ℕ) → b < a → nat_le a b ≡ false
false_le a b l = grind (arith, nat_tests)

-- a number that has a code is that of its bits
pub number_of_bits : (w k : ℕ) → k < pow2 w → number (to_bits w k) ≡ k
number_of_bits zero k l = omega arith
number_of_bits (suc w) k l =
    tests (nat_le (pow2 w) k)
    (λ t.
    let m : k - pow2 w < pow2 w = (let u = le_true (pow2 w) k t in omega arith) in
    ap (λ b. number (b ∷ to_bits w (if b then k - pow2 w else k))) t
    ∙ ap₂ (λ n k. pow2 n + k) (length_bits w (k - pow2 w)) (number_of_bits w (k - pow2 w) m)
    ∙ (let u = le_true (pow2 w) k t in omega arith))
    (λ t.
    let m : k < pow2 w = le_false (pow2 w) k t in
    ap (λ b. number (b ∷ to_bits w (if b then k - pow2 w else k))) t
    ∙ ap (λ n. 0 + n) (number_of_bits w k m)
    ∙ omega arith)

-- ---- powers

pub power_is : (w : ℕ) → 2 ^ w ≡ pow2 w
power_is zero = refl
power_is (suc w) = let e = power_is w in omega (arith, e)

pub power_more : (w : ℕ) → w < pow2 w
power_more zero = omega arith
power_more (suc w) = let n = power_more w in omega arith

-- ---- widths

-- the width is the first number whose power is enough
width_found : (tries w m v : ℕ) → w ≤ v → v ≤ tries + w → m ≤ pow2 v → ((k : ℕ) → k < v → pow2 k < m) → width_from tries w m ≡ v
width_found zero w m v l h enough before = omega arith
width_found (suc tries) w m v l h enough before =
    tests (nat_le m (pow2 w))
    (λ t.
    ap (λ b. if b then w else width_from tries (suc w) m) t
    ∙ tests (nat_le v w)
    (λ u. let e = le_true v w u in omega arith)
    (λ u. let n : pow2 w < m = before w (le_false v w u) in let e : m ≤ pow2 w = le_true m (pow2 w) t in absurd (omega arith)))
    (λ t.
    ap (λ b. if b then w else width_from tries (suc w) m) t
    ∙ tests (nat_le v w)
    (λ u.
    let same : v ≡ w = (let e = le_true v w u in omega arith) in
    let e : m ≤ pow2 w = subst (λ x. m ≤ pow2 x) same enough in
    let n : pow2 w < m = le_false m (pow2 w) t in
    absurd (omega arith))
    (λ u. width_found tries (suc w) m v (let n = le_false v w u in omega arith) (omega arith) enough before))

few : (m v : ℕ) → ((k : ℕ) → k < v → pow2 k < m) → v ≤ m
few m zero before = omega arith
few m (suc k) before = let n = before k (omega arith) in let p = power_more k in omega arith

pub width_is : (m v : ℕ) → m ≤ pow2 v → ((k : ℕ) → k < v → pow2 k < m) → width m ≡ v
width_is m v enough before = width_found m 0 m v (omega arith) (let f = few m v before in omega arith) enough before

-- ---- bits, one by one

pub bits_begin : (bits : List Bool) (w k w0 : ℕ) → bits ≡ [] → w0 ≡ w → bits ++ to_bits w0 k ≡ to_bits w k
bits_begin bits w k w0 e f = ap₂ (λ (b : List Bool) n. b ++ to_bits n k) e f

pub bits_end : (bits : List Bool) (w k w0 left : ℕ) → w0 ≡ 0 → bits ++ to_bits w0 left ≡ to_bits w k → bits ≡ to_bits w k
bits_end bits w k w0 left e h =
    sym (append_nil bits) ∙ ap (λ n. bits ++ to_bits n left) (sym e) ∙ h
  where
    append_nil : (xs : List Bool) → xs ++ [] ≡ xs
    append_nil [] = refl
    append_nil (x ∷ xs) = ap (λ ys. x ∷ ys) (append_nil xs)

pub bits_more : (bits : List Bool) (w k now next high left rest : ℕ) (b : Bool) → now ≡ suc next → high ≡ pow2 next → b ≡ nat_le high left → rest ≡ (if b then left - high else left)
    → bits ++ to_bits now left ≡ to_bits w k → (bits ++ b ∷ []) ++ to_bits next rest ≡ to_bits w k
bits_more bits w k now next high left rest b e f is t h =
    append_assoc bits (b ∷ []) (to_bits next rest)
    ∙ ap₂ (λ c x. bits ++ c ∷ to_bits next x) same (t ∙ ap₂ (λ c y. if c then left - y else left) same f)
    ∙ ap (λ n. bits ++ to_bits n left) (sym e)
    ∙ h
  where
    same : b ≡ nat_le (pow2 next) left
    same = is ∙ ap (λ y. nat_le y left) f

pub none_below : (m : ℕ) (k : ℕ) → k < 0 → pow2 k < m
none_below m k l = absurd (omega arith)

pub more_below : (m i : ℕ) → ((k : ℕ) → k < i → pow2 k < m) → pow2 i < m → (k : ℕ) → k < i + 1 → pow2 k < m
more_below m i before here k l =
    tests (nat_le i k)
    (λ t. let e : k ≡ i = (let e = le_true i k t in omega arith) in subst (λ j. pow2 j < m) (sym e) here)
    (λ t. before k (le_false i k t))

-- where no power below the last is enough, the last one is
pub at_most : (m i last : ℕ) → i ≡ last → m < 2 ^ last → ((k : ℕ) → k < i → pow2 k < m) → width m ≡ last
at_most m i last e l before = width_is m last (let p = power_is last in omega arith) (subst (λ j. (k : ℕ) → k < j → pow2 k < m) e before)

width_enough : (tries w m : ℕ) → m ≤ pow2 (tries + w) → m ≤ pow2 (width_from tries w m)
width_enough zero w m l = subst (λ k. m ≤ pow2 k) (omega arith) l
width_enough (suc tries) w m l =
    tests (nat_le m (pow2 w))
    (λ t. subst (λ b. m ≤ pow2 (if b then w else width_from tries (suc w) m)) (sym t) (le_true m (pow2 w) t))
    (λ t. subst (λ b. m ≤ pow2 (if b then w else width_from tries (suc w) m)) (sym t) (width_enough tries (suc w) m (subst (λ k. m ≤ pow2 k) (omega arith) l)))

-- all values have a code
pub width_fits : (m : ℕ) → m ≤ pow2 (width m)
width_fits m = width_enough m 0 m (let n = power_more (m + 0) in omega arith)
