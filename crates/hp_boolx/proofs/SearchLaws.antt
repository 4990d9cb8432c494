-- Searches among the lists of so many Booleans, in words.
use Rattle.std.proofs.Common.{◌≡◌, inl, inr, ℕ, zero, suc, ◌≤◌, ◌^◌, Bool, true, false, ◌&&◌, ◌||◌, IsTrue, IsFalse, [], ◌∷◌, length, refl, sym, ap, ap₂, arith, if◌then◌else◌, true≢false}
use Rattle.std.proofs.lemmas.Bool.{or_cases, or_left, or_right, and_parts, and_from, and_cases, both_ways, false_from_ne_true}
use Rattle.hp_boolx.specs.Search.{Bits, Set, some_of, every_of, count_of, Agree}

pub some-found : (n : ℕ) (p : Set) → IsTrue (some_of n p) → (v : Bits) × (length v ≡ n) × IsTrue (p v)
some-found zero p h = ([], refl, h)
some-found (suc n) p h =
    elim (or_cases (some_of n (λ v. p (true ∷ v))) (some_of n (λ v. p (false ∷ v))) h) [
      | inl e ↦ let s = some-found n (λ v. p (true ∷ v)) e in (true ∷ s.0, ap suc s.1, s.2)
      | inr e ↦ let s = some-found n (λ v. p (false ∷ v)) e in (false ∷ s.0, ap suc s.1, s.2)
    ]

pub some-from : (n : ℕ) (p : Set) (v : Bits) → length v ≡ n → IsTrue (p v) → IsTrue (some_of n p)
some-from zero p [] e h = h
some-from zero p (x ∷ v) e h = absurd (omega arith)
some-from (suc n) p [] e h = absurd (omega arith)
some-from (suc n) p (true ∷ v) e h = or_left _ _ (some-from n (λ v. p (true ∷ v)) v (omega arith) h)
some-from (suc n) p (false ∷ v) e h = or_right _ _ (some-from n (λ v. p (false ∷ v)) v (omega arith) h)

pub every-at : (n : ℕ) (p : Set) → IsTrue (every_of n p) → (v : Bits) → length v ≡ n → IsTrue (p v)
every-at zero p h [] e = h
every-at zero p h (x ∷ v) e = absurd (omega arith)
every-at (suc n) p h [] e = absurd (omega arith)
every-at (suc n) p h (true ∷ v) e = every-at n (λ v. p (true ∷ v)) (and_parts _ _ h).0 v (omega arith)
every-at (suc n) p h (false ∷ v) e = every-at n (λ v. p (false ∷ v)) (and_parts _ _ h).1 v (omega arith)

pub every-from : (n : ℕ) (p : Set) → ((v : Bits) → length v ≡ n → IsTrue (p v)) → IsTrue (every_of n p)
every-from zero p h = h [] refl
every-from (suc n) p h = and_from _ _ (every-from n (λ v. p (true ∷ v)) (λ v e. h (true ∷ v) (ap suc e))) (every-from n (λ v. p (false ∷ v)) (λ v e. h (false ∷ v) (ap suc e)))

pub some-same : (n : ℕ) (p q : Set) → Agree n p q → some_of n p ≡ some_of n q
some-same zero p q h = h [] refl
some-same (suc n) p q h = ap₂ (λ a b. a || b) (some-same n (λ v. p (true ∷ v)) (λ v. q (true ∷ v)) (λ v e. h (true ∷ v) (ap suc e))) (some-same n (λ v. p (false ∷ v)) (λ v. q (false ∷ v)) (λ v e. h (false ∷ v) (ap suc e)))

pub every-same : (n : ℕ) (p q : Set) → Agree n p q → every_of n p ≡ every_of n q
every-same zero p q h = h [] refl
every-same (suc n) p q h = ap₂ (λ a b. a && b) (every-same n (λ v. p (true ∷ v)) (λ v. q (true ∷ v)) (λ v e. h (true ∷ v) (ap suc e))) (every-same n (λ v. p (false ∷ v)) (λ v. q (false ∷ v)) (λ v e. h (false ∷ v) (ap suc e)))

-- ---- counting

-- all of p is in q
abbrev pub Inside : ℕ → Set → Set → Type 0
Inside n p q = (v : Bits) → length v ≡ n → IsTrue (p v) → IsTrue (q v)

one-most : (b : Bool) → (if b then 1 else 0) ≤ 1
one-most true = omega arith
one-most false = omega arith

pub count-most : (n : ℕ) (p : Set) → count_of n p ≤ 2 ^ n
count-most zero p = one-most (p [])
count-most (suc n) p = omega (arith, count-most n (λ v. p (true ∷ v)), count-most n (λ v. p (false ∷ v)))

one-mono : (a b : Bool) → (IsTrue a → IsTrue b) → (if a then 1 else 0) ≤ (if b then 1 else 0)
one-mono false b h = omega arith
one-mono true true h = omega arith
one-mono true false h = absurd (true≢false (sym (h refl)))

pub count-mono : (n : ℕ) (p q : Set) → Inside n p q → count_of n p ≤ count_of n q
count-mono zero p q h = one-mono (p []) (q []) (h [] refl)
count-mono (suc n) p q h = omega (arith, count-mono n (λ v. p (true ∷ v)) (λ v. q (true ∷ v)) (λ v e. h (true ∷ v) (ap suc e)), count-mono n (λ v. p (false ∷ v)) (λ v. q (false ∷ v)) (λ v e. h (false ∷ v) (ap suc e)))

one-same : (a b : Bool) → (IsTrue a → IsTrue b) → (if b then 1 else 0) ≤ (if a then 1 else 0) → a ≡ b
one-same true b h l = sym (h refl)
one-same false true h l = absurd (omega arith)
one-same false false h l = refl

-- a set that has no more than one inside it is that one
pub count-same : (n : ℕ) (p q : Set) → Inside n p q → count_of n q ≤ count_of n p → Agree n p q
count-same zero p q h l [] e = one-same (p []) (q []) (h [] refl) l
count-same zero p q h l (x ∷ v) e = absurd (omega arith)
count-same (suc n) p q h l [] e = absurd (omega arith)
count-same (suc n) p q h l (true ∷ v) e = count-same n (λ v. p (true ∷ v)) (λ v. q (true ∷ v)) (λ v e. h (true ∷ v) (ap suc e)) (omega (arith, l, count-mono n (λ v. p (false ∷ v)) (λ v. q (false ∷ v)) (λ v e. h (false ∷ v) (ap suc e)))) v (omega arith)
count-same (suc n) p q h l (false ∷ v) e = count-same n (λ v. p (false ∷ v)) (λ v. q (false ∷ v)) (λ v e. h (false ∷ v) (ap suc e)) (omega (arith, l, count-mono n (λ v. p (true ∷ v)) (λ v. q (true ∷ v)) (λ v e. h (true ∷ v) (ap suc e)))) v (omega arith)

-- ---- what is not everywhere

pub every-lacks : (n : ℕ) (p : Set) → IsFalse (every_of n p) → (v : Bits) × (length v ≡ n) × IsFalse (p v)
every-lacks zero p h = ([], refl, h)
every-lacks (suc n) p h =
    elim (and_cases (every_of n (λ v. p (true ∷ v))) (every_of n (λ v. p (false ∷ v))) h) [
      | inl e ↦ let s = every-lacks n (λ v. p (true ∷ v)) e in (true ∷ s.0, ap suc s.1, s.2)
      | inr e ↦ let s = every-lacks n (λ v. p (false ∷ v)) e in (false ∷ s.0, ap suc s.1, s.2)
    ]

pub some-nowhere : (n : ℕ) (p : Set) → IsFalse (some_of n p) → (v : Bits) → length v ≡ n → IsFalse (p v)
some-nowhere n p h v e = false_from_ne_true (p v) (λ t. both_ways (some_of n p) h (some-from n p v e t))

pub some-none : (n : ℕ) (p : Set) → ((v : Bits) → length v ≡ n → IsTrue (p v) → ⊥) → IsFalse (some_of n p)
some-none n p h = false_from_ne_true (some_of n p) (λ t. let s = some-found n p t in h s.0 s.1 s.2)
