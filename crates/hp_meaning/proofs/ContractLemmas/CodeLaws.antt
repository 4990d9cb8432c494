-- Numbers in bits.
use Rattle.std.proofs.Common.{◌≡◌, ◌≤◌, ◌<◌, ℕ, zero, suc, ◌+◌, ◌-◌, ◌∷◌, length, refl, sym, ap, ap₂, subst, ◌∙◌, arith}
use Rattle.std.specs.Prelude.{Bool, true, false, if◌then◌else◌, nat_le, IsTrue, IsFalse}
use Rattle.std.proofs.lemmas.Bool.Decides.{nat_tests}
use Rattle.hp_meaning.specs.Contract.Codes.{pow2, width_from, width, to_bits, number, CodeLaw, WidthLaw}

pub length_bits : (w k : ℕ) → length (to_bits w k) ≡ w
length_bits zero k = refl
length_bits (suc w) k = ap suc (length_bits w (if nat_le (pow2 w) k then k - pow2 w else k))

tests : {X : Type 0} (d : Bool) → (IsTrue d → X) → (IsFalse d → X) → X
tests true f g = f refl
tests false f g = g refl

le_true : (a b : ℕ) → IsTrue (nat_le a b) → a ≤ b
le_true a b e = grind (arith, nat_tests)

le_false : (a b : ℕ) → IsFalse (nat_le a b) → b < a
le_false a b e = grind (arith, nat_tests)

-- the number of its bits
pub number_of_bits : (w k : ℕ) → k < pow2 w → number (to_bits w k) ≡ k
number_of_bits zero k l = omega arith
number_of_bits (suc w) k l =
    tests (nat_le (pow2 w) k)
    (λ t.
    let m : k - pow2 w < pow2 w = (let u = le_true (pow2 w) k t in omega arith) in
    ap (λ b. number (b ∷ to_bits w (if b then k - pow2 w else k))) t
    ∙ ap₂ (λ n k. pow2 n + k) (length_bits w (k - pow2 w)) (number_of_bits w (k - pow2 w) m)
    ∙ (let u = le_true (pow2 w) k t in omega arith))
    (λ t.
    let m : k < pow2 w = le_false (pow2 w) k t in
    ap (λ b. number (b ∷ to_bits w (if b then k - pow2 w else k))) t
    ∙ ap (λ n. 0 + n) (number_of_bits w k m)
    ∙ omega arith)

pow2_more : (w : ℕ) → w < pow2 w
pow2_more zero = omega arith
pow2_more (suc w) = let n = pow2_more w in omega arith

width_enough : (tries w m : ℕ) → m ≤ pow2 (tries + w) → m ≤ pow2 (width_from tries w m)
width_enough zero w m l = subst (λ k. m ≤ pow2 k) (omega arith) l
width_enough (suc tries) w m l =
    tests (nat_le m (pow2 w))
    (λ t. subst (λ b. m ≤ pow2 (if b then w else width_from tries (suc w) m)) (sym t) (le_true m (pow2 w) t))
    (λ t. subst (λ b. m ≤ pow2 (if b then w else width_from tries (suc w) m)) (sym t) (width_enough tries (suc w) m (subst (λ k. m ≤ pow2 k) (omega arith) l)))

-- all values have a code
pub width_fits : (m : ℕ) → m ≤ pow2 (width m)
width_fits m = width_enough m 0 m (let n = pow2_more (m + 0) in omega arith)

-- and no fewer bits are enough
width_least : (tries w m v : ℕ) → w ≤ v → m ≤ pow2 v → width_from tries w m ≤ v
width_least zero w m v l h = l
width_least (suc tries) w m v l h =
    tests (nat_le m (pow2 w))
    (λ t. subst (λ b. (if b then w else width_from tries (suc w) m) ≤ v) (sym t) l)
    (λ t. subst (λ b. (if b then w else width_from tries (suc w) m) ≤ v) (sym t)
    (tests (nat_le (suc w) v)
    (λ u. width_least tries (suc w) m v (le_true (suc w) v u) h)
    (λ u.
    let e : v ≡ w = (let k = le_false (suc w) v u in omega arith) in
    let k : m ≤ pow2 w = subst (λ v. m ≤ pow2 v) e h in
    let n : pow2 w < m = le_false m (pow2 w) t in
    absurd (omega arith))))

pub code_law : CodeLaw
code_law w k l = (length_bits w k, number_of_bits w k l)

pub width_law : WidthLaw
width_law m = (width_fits m, λ v h. width_least m 0 m v (omega arith) h)
