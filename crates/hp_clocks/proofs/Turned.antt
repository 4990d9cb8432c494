-- A walk along a list that writes each element, by what is left when its turn comes.
use Rattle.std.proofs.Common.{◌≡◌, ℕ, zero, suc, ◌+◌, ◌<◌, ◌≤◌, List, [], ◌∷◌, ◌++◌, length, map, take, drop, slice_set, slice_index_or, refl, sym, ap, ap₂, ◌∙◌, subst, arith}
use Rattle.std.proofs.lemmas.List.{append-nil, get_or-set_other, map-id}

module _ {A S : Type 0} (f : A → S → A) (g : A → S → S) where
  abbrev pub all_written : List A → S → List A
  all_written [] s = []
  all_written (a ∷ rest) s = f a s ∷ all_written rest (g a s)

  abbrev pub all_left : List A → S → S
  all_left [] s = s
  all_left (a ∷ rest) s = all_left rest (g a s)

module _ {B A S : Type 0} (seen : B → A) (f : A → S → A) (g : A → S → S) where
  -- So many elements of the list are written, and this is left.
  pub record Writes (xs : List B) (s : S) (ys : List B) (n : ℕ) (t : S) : Type 0 where
    pub written : map seen (take n ys) ++ all_written f g (map seen (drop n ys)) t ≡ all_written f g (map seen xs) s
    pub left : all_left f g (map seen (drop n ys)) t ≡ all_left f g (map seen xs) s
    pub unvisited : (k : ℕ) (d : B) → n ≤ k → slice_index_or ys k d ≡ slice_index_or xs k d

  pub begun : (xs : List B) (s : S) → Writes xs s xs 0 s
  begun xs s = record { written = refl; left = refl; unvisited = λ k d h. refl }

  written_next : (ys : List B) (n : ℕ) (t : S) (d y : B) → n < length ys → seen y ≡ f (seen (slice_index_or ys n d)) t → map seen (take (suc n) (slice_set ys n y)) ++ all_written f g (map seen (drop (suc n) (slice_set ys n y))) (g (seen (slice_index_or ys n d)) t) ≡ map seen (take n ys) ++ all_written f g (map seen (drop n ys)) t
  written_next [] n t d y h e = absurd (omega (arith, h))
  written_next (x ∷ ys) zero t d y h e = ap (λ z. z ∷ all_written f g (map seen ys) (g (seen x) t)) e
  written_next (x ∷ ys) (suc n) t d y h e = ap (λ z. seen x ∷ z) (written_next ys n t d y (omega (arith, h)) e)

  left_next : (ys : List B) (n : ℕ) (t : S) (d y : B) → n < length ys → all_left f g (map seen (drop (suc n) (slice_set ys n y))) (g (seen (slice_index_or ys n d)) t) ≡ all_left f g (map seen (drop n ys)) t
  left_next [] n t d y h = absurd (omega (arith, h))
  left_next (x ∷ ys) zero t d y h = refl
  left_next (x ∷ ys) (suc n) t d y h = left_next ys n t d y (omega (arith, h))

  unvisited_next : (ys xs : List B) (n : ℕ) (y : B) → ((k : ℕ) (d : B) → n ≤ k → slice_index_or ys k d ≡ slice_index_or xs k d) → (k : ℕ) (d : B) → suc n ≤ k → slice_index_or (slice_set ys n y) k d ≡ slice_index_or xs k d
  unvisited_next ys xs n y f k d h =
      let other : k ≡ n → ⊥ = λ e. absurd (omega (arith, h, e)) in
      get_or-set_other ys n k y d other ∙ f k d (omega (arith, h))

  pub next : (xs : List B) (s : S) (ys : List B) (n m : ℕ) (t u : S) (d y : B) → Writes xs s ys n t → n < length ys → m ≡ suc n → seen y ≡ f (seen (slice_index_or ys n d)) t → u ≡ g (seen (slice_index_or ys n d)) t → Writes xs s (slice_set ys n y) m u
  next xs s ys n m t u d y w h k e q =
      subst (λ z. Writes xs s (slice_set ys n y) z u) (sym k)
      (subst (λ z. Writes xs s (slice_set ys n y) (suc n) z) (sym q)
      (record { written = written_next ys n t d y h e ∙ w.written; left = left_next ys n t d y h ∙ w.left; unvisited = unvisited_next ys xs n y w.unvisited }))

  all_taken : (ys : List B) (n : ℕ) → length ys ≤ n → take n ys ≡ ys
  all_taken [] zero h = refl
  all_taken [] (suc n) h = refl
  all_taken (y ∷ ys) zero h = absurd (omega (arith, h))
  all_taken (y ∷ ys) (suc n) h = ap (λ z. y ∷ z) (all_taken ys n (omega (arith, h)))

  none_dropped : (ys : List B) (n : ℕ) → length ys ≤ n → drop n ys ≡ []
  none_dropped [] zero h = refl
  none_dropped [] (suc n) h = refl
  none_dropped (y ∷ ys) zero h = absurd (omega (arith, h))
  none_dropped (y ∷ ys) (suc n) h = none_dropped ys n (omega (arith, h))

  pub ended : (xs : List B) (s : S) (ys : List B) (n : ℕ) (t : S) → Writes xs s ys n t → length ys ≤ n → map seen ys ≡ all_written f g (map seen xs) s
  ended xs s ys n t w h =
      sym (append-nil (map seen ys))
      ∙ sym (ap₂ (λ z v. map seen z ++ all_written f g (map seen v) t) (all_taken ys n h) (none_dropped ys n h)) ∙ w.written

  pub ended_left : (xs : List B) (s : S) (ys : List B) (n : ℕ) (t : S) → Writes xs s ys n t → length ys ≤ n → t ≡ all_left f g (map seen xs) s
  ended_left xs s ys n t w h = sym (ap (λ v. all_left f g (map seen v) t) (none_dropped ys n h)) ∙ w.left

-- a walk over a plain list
module _ {A S : Type 0} (f : A → S → A) (g : A → S → S) where
  pub plain_ended : (xs : List A) (s : S) (ys : List A) (n : ℕ) (t : S) → Writes (λ d. d) f g xs s ys n t → length ys ≤ n → ys ≡ all_written f g xs s
  plain_ended xs s ys n t w h =
      sym (map-id ys) ∙ ended (λ d. d) f g xs s ys n t w h ∙ ap (λ z. all_written f g z s) (map-id xs)

  pub plain_left : (xs : List A) (s : S) (ys : List A) (n : ℕ) (t : S) → Writes (λ d. d) f g xs s ys n t → length ys ≤ n → t ≡ all_left f g xs s
  plain_left xs s ys n t w h = ended_left (λ d. d) f g xs s ys n t w h ∙ ap (λ z. all_left f g z s) (map-id xs)

-- where the walk is in the list
pub still_below : (i m n : ℕ) → i < n → m ≡ n → i < m
still_below i m n h e = omega (arith, h, e)

pub at_end : (i m n : ℕ) → n ≤ i → m ≡ n → m ≤ i
at_end i m n h e = omega (arith, h, e)

pub one_more : (i : ℕ) → i + 1 ≡ suc i
one_more i = omega arith
