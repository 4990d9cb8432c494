-- The bits of numbers.
use Rattle.std.proofs.Common.{◌≡◌, ℕ, zero, suc, ◌+◌, ◌-◌, ◌<◌, ◌≤◌, Bool, true, false, if◌then◌else◌, nat_lt, nat_le, List, [], ◌∷◌, refl, sym, ap, subst, ◌∙◌, arith}
use Rattle.std.specs.Prelude.{⊤, ◌==◌, ◌/◌, ◌%◌, ◌^◌, ◌*◌}
use Rattle.std.proofs.lemmas.Bool.Decides.{nat_tests}
use Rattle.std.proofs.Math.Nat.{mul-add, div-eq_of_lt, div-eq_of_lt-le, add-mul-div_left, add-mul-mod_self_right}
use Rattle.hp_boolx.specs.Search.{Bits}
use Rattle.hp_meaning.specs.Contract.Codes.{pow2, to_bits}
use Rattle.hp_watch.specs.Lifting.{has_bit, powers, least_width, width_of}

-- so many bits of a number, the most significant first
abbrev pub digits : ℕ → ℕ → Bits
digits zero k = []
digits (suc w) k = has_bit k w ∷ digits w k

pow-two : (w : ℕ) → pow2 w ≡ 2 ^ w
pow-two zero = refl
pow-two (suc w) = let e = pow-two w in omega (arith, e)

positive : (w : ℕ) → 0 < pow2 w
positive zero = omega arith
positive (suc w) = let e = positive w in omega (arith, e)

-- a power is a multiple of twice each lower one
twice : (w p : ℕ) → p < w → (m : ℕ) × (pow2 w ≡ pow2 p * (m * 2))
twice zero p l = absurd (omega (arith, l))
twice (suc w) p l = by (nat_lt p w) refl (twice w p)
  where
    double : (a : ℕ) → a + a ≡ a * (1 * 2)
    double a = omega arith

    both : (a m : ℕ) → a * (m * 2) + a * (m * 2) ≡ a * ((m + m) * 2)
    both a m = let e : m * 2 + m * 2 ≡ (m + m) * 2 = omega arith in sym (mul-add a (m * 2) (m * 2)) ∙ ap (λ k. a * k) e

    by : (b : Bool) → nat_lt p w ≡ b → (p < w → (m : ℕ) × (pow2 w ≡ pow2 p * (m * 2))) → (m : ℕ) × (pow2 (suc w) ≡ pow2 p * (m * 2))
    by true e f = let m = f (grind (arith, nat_tests, e)) in (m.0 + m.0, ap (λ k. k + k) m.1 ∙ both (pow2 p) m.0)
    by false e f = let same : w ≡ p = grind (arith, nat_tests, e, l) in (1, ap (λ i. pow2 i + pow2 i) same ∙ double (pow2 p))

-- a lower bit stays where a higher power is taken away
bit-stays : (w p k : ℕ) → p < w → has_bit (pow2 w + k) p ≡ has_bit k p
bit-stays w p k l =
    let m = twice w p l in
    ap (λ q. q == 1)
    (ap (λ a. a % 2) (ap (λ a. (a + k) / 2 ^ p) m.1 ∙ ap (λ a. (a * (m.0 * 2) + k) / 2 ^ p) (pow-two p) ∙ ap (λ a. a / 2 ^ p) (swap (2 ^ p * (m.0 * 2)) k) ∙ add-mul-div_left k (m.0 * 2) (above p)) ∙ add-mul-mod_self_right (k / 2 ^ p) m.0 2)
  where
    swap : (a b : ℕ) → a + b ≡ b + a
    swap a b = omega arith

    above : (p : ℕ) → zero < 2 ^ p
    above p = let e = pow-two p in let q = positive p in omega (arith, e, q)

digits-stay : (w p k : ℕ) → p ≤ w → digits p (pow2 w + k) ≡ digits p k
digits-stay w zero k l = refl
digits-stay w (suc p) k l = ap (λ b. b ∷ digits p (pow2 w + k)) (bit-stays w p k (omega (arith, l))) ∙ ap (λ bs. has_bit k p ∷ bs) (digits-stay w p k (omega (arith, l)))

highest : (w k : ℕ) → k < pow2 (suc w) → has_bit k w ≡ nat_le (pow2 w) k
highest w k l = by (nat_le (pow2 w) k) refl
  where
    by : (b : Bool) → nat_le (pow2 w) k ≡ b → has_bit k w ≡ b
    by true e =
        let p = pow-two w in
        ap (λ q. q % 2 == 1) (div-eq_of_lt-le {k = 1} (2 ^ w) {m = k} (let q : pow2 w ≤ k = grind (arith, nat_tests, e) in omega (arith, p, q)) (omega (arith, p, l)))
    by false e = let p = pow-two w in ap (λ q. q % 2 == 1) (div-eq_of_lt {n = k} {m = 2 ^ w} (let q : k < pow2 w = grind (arith, nat_tests, e) in omega (arith, p, q)))

-- the bits of a number are its code
pub digits-code : (w k : ℕ) → k < pow2 w → digits w k ≡ to_bits w k
digits-code zero k l = refl
digits-code (suc w) k l = ap (λ b. b ∷ digits w k) (highest w k l) ∙ by (nat_le (pow2 w) k) refl (digits-code w)
  where
    by : (b : Bool) → nat_le (pow2 w) k ≡ b → ((j : ℕ) → j < pow2 w → digits w j ≡ to_bits w j) → nat_le (pow2 w) k ∷ digits w k ≡ nat_le (pow2 w) k ∷ to_bits w (if b then k - pow2 w else k)
    by true e f =
        let q : pow2 w ≤ k = grind (arith, nat_tests, e) in
        let same : pow2 w + (k - pow2 w) ≡ k = omega (arith, q) in
        ap (λ bs. nat_le (pow2 w) k ∷ bs) (ap (digits w) (sym same) ∙ digits-stay w w (k - pow2 w) (omega arith) ∙ f (k - pow2 w) (omega (arith, l, q)))
    by false e f = let q : k < pow2 w = grind (arith, nat_tests, e) in ap (λ bs. nat_le (pow2 w) k ∷ bs) (f k q)

-- ---- bits are enough

abbrev pub many : List ℕ → ℕ
many [] = 0
many (p ∷ ps) = suc (many ps)

-- powers of two in a row, from one on
abbrev pub ArePowers : ℕ → List ℕ → Type 0
ArePowers w [] = ⊤
ArePowers w (p ∷ ps) = (p ≡ pow2 w) × ArePowers (suc w) ps

least-enough : (ps : List ℕ) (w count : ℕ) → ArePowers w ps → count ≤ pow2 (w + many ps) → count ≤ pow2 (w + least_width ps count)
least-enough [] w count r l = l
least-enough (p ∷ ps) w count r l = by (nat_le count p) refl (least-enough ps (suc w) count r.1)
  where
    zero-behind : (w : ℕ) → w ≡ w + 0
    zero-behind w = omega arith

    by : (b : Bool) → nat_le count p ≡ b → (count ≤ pow2 (suc w + many ps) → count ≤ pow2 (suc w + least_width ps count)) → count ≤ pow2 (w + (if b then 0 else suc (least_width ps count)))
    by true e f = let q : count ≤ p = grind (arith, nat_tests, e) in let same : p ≡ pow2 (w + 0) = r.0 ∙ ap pow2 (zero-behind w) in omega (arith, q, same)
    by false e f =
        let there : suc w + many ps ≡ w + suc (many ps) = omega arith in
        let here : suc w + least_width ps count ≡ w + suc (least_width ps count) = omega arith in
        subst (λ i. count ≤ pow2 i) here (f (subst (λ i. count ≤ pow2 i) (sym there) l))

-- each number of a constructor has its code in the bits of its type
pub enough : (count : ℕ) → count ≤ 256 → count ≤ pow2 (width_of count)
enough count l =
    let none : 0 + least_width powers count ≡ width_of count = omega arith in
    subst (λ i. count ≤ pow2 i) none (least-enough powers 0 count (refl, (refl, (refl, (refl, (refl, (refl, (refl, (refl, tt)))))))) l)
