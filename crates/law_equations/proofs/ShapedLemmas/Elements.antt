-- What holds of the elements of lists, and of elements that differ.
use Rattle.std.proofs.Common.{◌≡◌, ℕ, zero, suc, ◌+◌, ◌<◌, ◌≤◌, Bool, true, false, ◌||◌, nat_eq, List, [], ◌∷◌, ◌++◌, map, inl, inr, refl, sym, ap, arith}
use Rattle.std.specs.List.{AllByRecursion, IsDistinct, range_with_len}
use Rattle.std.proofs.lemmas.Bool.{eqb-true}
use Rattle.std.proofs.lemmas.Bool.Decides.{nat_tests}
use Rattle.law_equations.specs.Meaning.Reactions.{has}
use Rattle.law_equations.proofs.FewerLemmas.Members.{Among}

module _ {A : Type 0} where
  pub among-first : (xs ys : List A) (a : A) → Among a xs → Among a (xs ++ ys)
  among-first [] ys a h = absurd h
  among-first (x ∷ xs) ys a (inl e) = inl e
  among-first (x ∷ xs) ys a (inr h) = inr (among-first xs ys a h)

  pub among-second : (xs ys : List A) (a : A) → Among a ys → Among a (xs ++ ys)
  among-second [] ys a h = h
  among-second (x ∷ xs) ys a h = inr (among-second xs ys a h)

  pub all-append : (P : A → Type 0) (xs ys : List A) → AllByRecursion P xs → AllByRecursion P ys → AllByRecursion P (xs ++ ys)
  all-append P [] ys h g = g
  all-append P (x ∷ xs) ys h g = (h.0, all-append P xs ys h.1 g)

  -- elements of two lists differ, each from each
  abbrev pub AllDiffer : (A → A → Bool) → List A → List A → Type 0
  AllDiffer eq xs ys = AllByRecursion (λ x. AllByRecursion (λ y. eq x y ≡ false) ys) xs

  pub distinct-append : (eq : A → A → Bool) (xs ys : List A) → IsDistinct eq xs → IsDistinct eq ys → AllDiffer eq xs ys → IsDistinct eq (xs ++ ys)
  unfolding IsDistinct
  distinct-append eq [] ys h g d = g
  distinct-append eq (x ∷ xs) ys h g d = (all-append (λ y. eq x y ≡ false) xs ys h.0 d.0, distinct-append eq xs ys h.1 g d.1)

  pub distinct-second : (eq : A → A → Bool) (xs ys : List A) → IsDistinct eq (xs ++ ys) → IsDistinct eq ys
  unfolding IsDistinct
  distinct-second eq [] ys h = h
  distinct-second eq (x ∷ xs) ys h = distinct-second eq xs ys h.1

  pub all-by : (P : A → Type 0) → ((a : A) → P a) → (xs : List A) → AllByRecursion P xs
  all-by P f [] = tt
  all-by P f (x ∷ xs) = (f x, all-by P f xs)

module _ {A B : Type 0} (f : A → B) where
  pub among-map : (xs : List A) (a : A) → Among a xs → Among (f a) (map f xs)
  among-map [] a h = absurd h
  among-map (x ∷ xs) a (inl e) = inl (ap f e)
  among-map (x ∷ xs) a (inr h) = inr (among-map xs a h)

  pub all-map : (P : B → Type 0) (xs : List A) → AllByRecursion (λ a. P (f a)) xs → AllByRecursion P (map f xs)
  all-map P [] h = tt
  all-map P (x ∷ xs) h = (h.0, all-map P xs h.1)

-- ---- numbers

above : (a x : ℕ) → a ≤ x → nat_eq a x ≡ false → a + 1 ≤ x
above a x h e = grind (arith, nat_tests)

pub among-range : (a k x : ℕ) → a ≤ x → x < a + k → Among x (range_with_len a k)
among-range a zero x h lt = absurd (omega (arith, h, lt))
among-range a (suc k) x h lt = by (nat_eq a x) refl (λ above_it. among-range (a + 1) k x above_it (omega (arith, lt)))
  where
    by : (d : Bool) → nat_eq a x ≡ d → (a + 1 ≤ x → Among x (range_with_len (a + 1) k)) → Among x (range_with_len a (suc k))
    by true e f = inl (sym (eqb-true a x e))
    by false e f = inr (f (above a x h e))

weaker : (b a : ℕ) (xs : List ℕ) → a ≤ b → AllByRecursion (λ x. b ≤ x) xs → AllByRecursion (λ x. a ≤ x) xs
weaker b a [] h g = tt
weaker b a (x ∷ xs) h g = (omega (arith, h, g.0), weaker b a xs h g.1)

pub range-from : (a k : ℕ) → AllByRecursion (λ x. a ≤ x) (range_with_len a k)
range-from a zero = tt
range-from a (suc k) = (omega arith, weaker (a + 1) a (range_with_len (a + 1) k) (omega arith) (range-from (a + 1) k))

pub has-among : (xs : List ℕ) (x : ℕ) → has xs x ≡ true → Among x xs
has-among [] x h = absurd (cc)
has-among (y ∷ xs) x h = by (nat_eq y x) refl h (has-among xs x)
  where
    by : (d : Bool) → nat_eq y x ≡ d → (d || has xs x) ≡ true → (has xs x ≡ true → Among x xs) → Among x (y ∷ xs)
    by true e h f = inl (sym (eqb-true y x e))
    by false e h f = inr (f h)
