-- How many turns a walk along falling numbers takes: no more than there are cells.
use Rattle.std.proofs.Common.{◌≡◌, ℕ, zero, suc, ◌+◌, ◌<◌, ◌≤◌, refl, sym, subst, arith}
use Rattle.std.proofs.Math.Dec.{ltb}
use Rattle.std.proofs.lemmas.Bool.Decides.{Decides-ltb}
use Rattle.std.specs.Prelude.{Bool, true, false}
use Rattle.std.specs.Bool.{Decides}
use Rattle.hp_meaning.proofs.ClockingLemmas.Unify.{decided}

abbrev one_if : Bool → ℕ
one_if true = 1
one_if false = 0

more_if : (d e : Bool) (a r s : ℕ) → r ≤ s → Decides d (a < r) → Decides e (a < s) → one_if d ≤ one_if e
more_if true true a r s h p q = omega arith
more_if true false a r s h p q =
    let k : a < r = p.0 refl in
    absurd (cc (q.1 (omega (arith, k, h))))
more_if false true a r s h p q = omega arith
more_if false false a r s h p q = omega arith

is_none : (d : Bool) (a : ℕ) → Decides d (a < a) → one_if d ≡ 0
is_none true a p =
    let k : a < a = p.0 refl in
    absurd (omega (arith, k))
is_none false a p = refl

is_one : (d : Bool) (a r : ℕ) → a < r → Decides d (a < r) → one_if d ≡ 1
is_one true a r h p = refl
is_one false a r h p = absurd (cc (p.1 h))

module _ (rank : ℕ → ℕ) where
  -- how many of the first cells have a lower rank
  abbrev pub lower : ℕ → ℕ → ℕ
  lower zero r = 0
  lower (suc n) r = one_if (ltb (rank n) r) + lower n r

  rises : (n r s : ℕ) → r ≤ s → lower n r ≤ lower n s
  rises zero r s h = omega arith
  rises (suc n) r s h =
      let a : one_if (ltb (rank n) r) ≤ one_if (ltb (rank n) s) = more_if (ltb (rank n) r) (ltb (rank n) s) (rank n) r s h (Decides-ltb (rank n) r) (Decides-ltb (rank n) s) in
      let b : lower n r ≤ lower n s = rises n r s h in
      omega (arith, a, b)

  last_falls : (n s : ℕ) → rank n < s → lower (suc n) (rank n) < lower (suc n) s
  last_falls n s h =
      let a : one_if (ltb (rank n) (rank n)) ≡ 0 = is_none (ltb (rank n) (rank n)) (rank n) (Decides-ltb (rank n) (rank n)) in
      let b : one_if (ltb (rank n) s) ≡ 1 = is_one (ltb (rank n) s) (rank n) s h (Decides-ltb (rank n) s) in
      let k : rank n ≤ s = omega (arith, h) in
      let c : lower n (rank n) ≤ lower n s = rises n (rank n) s k in
      omega (arith, a, b, c)

  -- A cell of a lower rank has fewer below it.
  pub fewer : (n j s : ℕ) → j < n → rank j < s → lower n (rank j) < lower n s
  fewer zero j s h k = absurd (omega (arith, h))
  fewer (suc n) j s h k = decided (ltb j n) (Decides-ltb j n) (λ d l. inner l (fewer n j s l k)) (λ d l. last (omega (arith, h, l)))
    where
      inner : j < n → lower n (rank j) < lower n s → lower (suc n) (rank j) < lower (suc n) s
      inner l g =
          let m : rank j ≤ s = omega (arith, k) in
          let a : one_if (ltb (rank n) (rank j)) ≤ one_if (ltb (rank n) s) = more_if (ltb (rank n) (rank j)) (ltb (rank n) s) (rank n) (rank j) s m (Decides-ltb (rank n) (rank j)) (Decides-ltb (rank n) s) in
          omega (arith, a, g)

      last : j ≡ n → lower (suc n) (rank j) < lower (suc n) s
      last e = subst (λ z. lower (suc n) (rank z) < lower (suc n) s) (sym e) (last_falls n s (subst (λ z. rank z < s) e k))

  pub at_most : (n r : ℕ) → lower n r ≤ n
  at_most zero r = omega arith
  at_most (suc n) r =
      let a : one_if (ltb (rank n) r) ≤ 1 = up_to_one (ltb (rank n) r) in
      let b : lower n r ≤ n = at_most n r in
      omega (arith, a, b)
    where
      up_to_one : (d : Bool) → one_if d ≤ 1
      up_to_one true = omega arith
      up_to_one false = omega arith
