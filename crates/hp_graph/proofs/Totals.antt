-- Sums over lists of which one entry changes.
use Rattle.std.proofs.Common.{◌≡◌, ℕ, zero, suc, ◌+◌, ◌<◌, List, [], ◌∷◌, length, get_or, set, replicate, refl, arith}
use Rattle.hp_graph.specs.Searching.{total}

module _ {A : Type 0} (f : A → ℕ) where
  pub total-set : (xs : List A) (i : ℕ) (x d : A) → i < length xs → total f (set xs i x) + f (get_or xs i d) ≡ total f xs + f x
  total-set [] i x d h = absurd (omega (arith, h))
  total-set (y ∷ ys) zero x d h = omega arith
  total-set (y ∷ ys) (suc i) x d h =
      let rest : total f (set ys i x) + f (get_or ys i d) ≡ total f ys + f x = total-set ys i x d (omega (arith, h)) in
      omega arith

  pub total-replicate : (n : ℕ) (x : A) → f x ≡ 1 → total f (replicate n x) ≡ n
  total-replicate zero x h = refl
  total-replicate (suc n) x h =
      let rest : total f (replicate n x) ≡ n = total-replicate n x h in
      omega arith

  -- an entry is no more than the sum
  pub entry-total : (xs : List A) (i : ℕ) (d : A) → i < length xs → (rest : ℕ) × (total f xs ≡ f (get_or xs i d) + rest)
  entry-total [] i d h = absurd (omega (arith, h))
  entry-total (y ∷ ys) zero d h = (total f ys, refl)
  entry-total (y ∷ ys) (suc i) d h =
      let more = entry-total ys i d (omega (arith, h)) in
      let said : total f ys ≡ f (get_or ys i d) + more.0 = more.1 in
      (f y + more.0, omega arith)
