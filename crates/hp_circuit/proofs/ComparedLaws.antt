-- Numbers that are compared bit by bit.
use Rattle.std.proofs.Common.{◌≡◌, ◌≤◌, ◌<◌, ℕ, suc, ◌+◌, List, [], ◌∷◌, length, refl, sym, ap, ◌∙◌, arith}
use Rattle.std.specs.Prelude.{Bool, true, false, nat_eq, nat_lt, IsTrue, IsFalse}
use Rattle.std.proofs.lemmas.Bool.Decides.{nat_tests}
use Rattle.hp_circuit.specs.Numbers.{pow2, number, are_same, compared}
use Rattle.hp_circuit.proofs.NumberLaws.{tests}

eq_true : (a b : ℕ) → IsTrue (nat_eq a b) → a ≡ b
eq_true a b e = grind (arith, nat_tests)

true_eq : (a b : ℕ) → a ≡ b → nat_eq a b ≡ true
true_eq a b e = grind (arith, nat_tests)

false_eq : (a b : ℕ) → (a ≡ b → ⊥) → nat_eq a b ≡ false
false_eq a b n = tests (nat_eq a b) (λ t. absurd (n (eq_true a b t))) (λ f. f)

eq_false : (a b : ℕ) → IsFalse (nat_eq a b) → a ≡ b → ⊥
eq_false a b f e = let t : nat_eq a b ≡ true = true_eq a b e in cc

eq_same : (a b c d : ℕ) → (a ≡ b → c ≡ d) → (c ≡ d → a ≡ b) → nat_eq c d ≡ nat_eq a b
eq_same a b c d f g = tests (nat_eq a b) (λ t. true_eq c d (f (eq_true a b t)) ∙ sym t) (λ t. false_eq c d (λ e. eq_false a b t (g e)) ∙ sym t)

true_lt : (a b : ℕ) → a < b → nat_lt a b ≡ true
true_lt a b l = grind (arith, nat_tests)

false_lt : (a b : ℕ) → b ≤ a → nat_lt a b ≡ false
false_lt a b l = grind (arith, nat_tests)

lt_true : (a b : ℕ) → IsTrue (nat_lt a b) → a < b
lt_true a b e = grind (arith, nat_tests)

lt_false : (a b : ℕ) → IsFalse (nat_lt a b) → b ≤ a
lt_false a b e = grind (arith, nat_tests)

lt_same : (a b c d : ℕ) → (a < b → c < d) → (b ≤ a → d ≤ c) → nat_lt c d ≡ nat_lt a b
lt_same a b c d f g = tests (nat_lt a b) (λ t. true_lt c d (f (lt_true a b t)) ∙ sym t) (λ t. false_lt c d (g (lt_false a b t)) ∙ sym t)

pub below_power : (xs : List Bool) → number xs < pow2 (length xs)
below_power [] = omega arith
below_power (true ∷ xs) = let l = below_power xs in omega (arith, l)
below_power (false ∷ xs) = let l = below_power xs in omega (arith, l)

powers : (xs ys : List Bool) → suc (length xs) ≡ suc (length ys) → pow2 (length xs) ≡ pow2 (length ys)
powers xs ys e = ap pow2 (let f : length xs ≡ length ys = omega (arith, e) in f)

pub same_is : (xs ys : List Bool) → length xs ≡ length ys → are_same xs ys ≡ nat_eq (number xs) (number ys)
same_is [] [] e = sym (true_eq 0 0 refl)
same_is [] (y ∷ ys) e = absurd (omega (arith, e))
same_is (x ∷ xs) [] e = absurd (omega (arith, e))
same_is (true ∷ xs) (true ∷ ys) e =
    same_is xs ys (omega (arith, e))
    ∙ sym (eq_same (number xs) (number ys) (pow2 (length xs) + number xs) (pow2 (length ys) + number ys) (let p = powers xs ys e in λ h. omega (arith, p, h)) (let p = powers xs ys e in λ h. omega (arith, p, h)))
same_is (true ∷ xs) (false ∷ ys) e =
    sym (false_eq (pow2 (length xs) + number xs) (0 + number ys) (let p = powers xs ys e in let l = below_power ys in λ h. omega (arith, p, l, h)))
same_is (false ∷ xs) (true ∷ ys) e =
    sym (false_eq (0 + number xs) (pow2 (length ys) + number ys) (let p = powers xs ys e in let l = below_power xs in λ h. omega (arith, p, l, h)))
same_is (false ∷ xs) (false ∷ ys) e =
    same_is xs ys (omega (arith, e)) ∙ sym (eq_same (number xs) (number ys) (0 + number xs) (0 + number ys) (λ h. omega (arith, h)) (λ h. omega (arith, h)))

pub equal_is : (xs ns : List Bool) → length xs ≡ length ns → compared false true xs ns ≡ nat_eq (number xs) (number ns)
equal_is [] [] e = sym (true_eq 0 0 refl)
equal_is [] (y ∷ ys) e = absurd (omega (arith, e))
equal_is (x ∷ xs) [] e = absurd (omega (arith, e))
equal_is (true ∷ xs) (true ∷ ys) e =
    equal_is xs ys (omega (arith, e))
    ∙ sym (eq_same (number xs) (number ys) (pow2 (length xs) + number xs) (pow2 (length ys) + number ys) (let p = powers xs ys e in λ h. omega (arith, p, h)) (let p = powers xs ys e in λ h. omega (arith, p, h)))
equal_is (true ∷ xs) (false ∷ ys) e =
    sym (false_eq (pow2 (length xs) + number xs) (0 + number ys) (let p = powers xs ys e in let l = below_power ys in λ h. omega (arith, p, l, h)))
equal_is (false ∷ xs) (true ∷ ys) e =
    sym (false_eq (0 + number xs) (pow2 (length ys) + number ys) (let p = powers xs ys e in let l = below_power xs in λ h. omega (arith, p, l, h)))
equal_is (false ∷ xs) (false ∷ ys) e =
    equal_is xs ys (omega (arith, e)) ∙ sym (eq_same (number xs) (number ys) (0 + number xs) (0 + number ys) (λ h. omega (arith, h)) (λ h. omega (arith, h)))

pub below_is : (xs ns : List Bool) → length xs ≡ length ns → compared true false xs ns ≡ nat_lt (number xs) (number ns)
below_is [] [] e = sym (false_lt 0 0 (omega arith))
below_is [] (y ∷ ys) e = absurd (omega (arith, e))
below_is (x ∷ xs) [] e = absurd (omega (arith, e))
below_is (true ∷ xs) (true ∷ ys) e =
    below_is xs ys (omega (arith, e))
    ∙ sym (lt_same (number xs) (number ys) (pow2 (length xs) + number xs) (pow2 (length ys) + number ys) (let p = powers xs ys e in λ h. omega (arith, p, h)) (let p = powers xs ys e in λ h. omega (arith, p, h)))
below_is (true ∷ xs) (false ∷ ys) e =
    sym (false_lt (pow2 (length xs) + number xs) (0 + number ys) (let p = powers xs ys e in let l = below_power ys in omega (arith, p, l)))
below_is (false ∷ xs) (true ∷ ys) e =
    sym (true_lt (0 + number xs) (pow2 (length ys) + number ys) (let p = powers xs ys e in let l = below_power xs in omega (arith, p, l)))
below_is (false ∷ xs) (false ∷ ys) e =
    below_is xs ys (omega (arith, e)) ∙ sym (lt_same (number xs) (number ys) (0 + number xs) (0 + number ys) (λ h. omega (arith, h)) (λ h. omega (arith, h)))
