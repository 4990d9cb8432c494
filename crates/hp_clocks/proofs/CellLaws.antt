-- What cells tell of clocks, as one more is told.
use Rattle.std.proofs.Common.{◌≡◌, ℕ, zero, suc, ◌+◌, ◌<◌, ◌∷◌, ◌++◌, refl, sym, ap, ◌∙◌, subst, arith}
use Rattle.std.specs.Prelude.{Bool, true, false, if◌then◌else◌}
use Rattle.std.specs.Bool.{Decides}
use Rattle.hp_tree.specs.Instant.{Clock}
use Rattle.hp_meaning.specs.Clocking.Terms.{IsPart}
use Rattle.hp_meaning.specs.Clocking.Clocking.{On}
use Rattle.hp_meaning.proofs.ClockingLemmas.Unify.{decided, firsts, rests, not_empty, not_longer}
use Rattle.hp_clocks.specs.Cells.{is_cell, Told, unknown, same_as, on_base, step_on, Clocks, Says, Fits, with_told, IsLess, Falls, steps, steps_by, end_of, end_by}

longer : (o : On) (c d e : Clock) → e ≡ o ∷ d → IsPart c d → IsPart (o ∷ c) e
longer o c d e s p = (p.0, s ∙ ap (λ z. o ∷ z) p.1)

module _ (is_same : (v w : ℕ) → Decides (is_cell v w) (v ≡ w)) (cells : ℕ → Told) where
  -- Telling an unknown clock says that, and nothing else.
  pub put_fits : (w : ℕ) (c : Told) (at : Clocks) → cells w ≡ unknown → Fits (with_told cells w c) at → Fits cells at × Says at w c
  put_fits w c at e f = (
    (λ i. decided (is_cell w i) (is_same w i)
        (λ d q. subst (λ z. Says at i z) (sym (ap cells (sym q) ∙ e)) tt)
        (λ d q. subst (λ z. Says at i (if z then c else cells i)) d (f i))),
    subst (λ z. Says at w (if z then c else cells w)) ((is_same w w).1 refl) (f w),
  )

  pub fits_put : (w : ℕ) (c : Told) (at : Clocks) → Fits cells at → Says at w c → Fits (with_told cells w c) at
  fits_put w c at f s i =
      decided (is_cell w i) (is_same w i)
      (λ d q. subst (λ z. Says at i (if z then c else cells i)) (sym d) (subst (λ z. Says at z c) q s))
      (λ d q. subst (λ z. Says at i (if z then c else cells i)) (sym d) (f i))

  -- ---- walking down

  pub says : (at : Clocks) → Fits cells at → (i : ℕ) (c : Told) → cells i ≡ c → Says at i c
  says at f i c e = subst (λ z. Says at i z) e (f i)

  pub steps_meet : (at : Clocks) → Fits cells at → (a b : ℕ) (o k : On) (u w : ℕ) → cells a ≡ step_on o u → cells b ≡ step_on k w → at a ≡ at b → (o ≡ k) × (at u ≡ at w)
  steps_meet at f a b o k u w d e h =
      let g : o ∷ at u ≡ k ∷ at w = sym (says at f a (step_on o u) d) ∙ h ∙ says at f b (step_on k w) e in
      (firsts o k (at u) (at w) g, rests o k (at u) (at w) g)

  pub meet_steps : (at : Clocks) → Fits cells at → (a b : ℕ) (o k : On) (u w : ℕ) → cells a ≡ step_on o u → cells b ≡ step_on k w → o ≡ k → at u ≡ at w → at a ≡ at b
  meet_steps at f a b o k u w d e p q =
      says at f a (step_on o u) d ∙ ap (λ z. z ∷ at u) p ∙ ap (λ z. k ∷ z) q ∙ sym (says at f b (step_on k w) e)

  pub step_on_base : (at : Clocks) → Fits cells at → (a b : ℕ) (o : On) (u : ℕ) → cells a ≡ step_on o u → cells b ≡ on_base → at a ≡ at b → ⊥
  step_on_base at f a b o u d e h = not_empty o (at u) (sym (says at f b on_base e) ∙ sym h ∙ says at f a (step_on o u) d)

  -- the steps that are read, down to the end
  pub stands : (at : Clocks) → Fits cells at → (n i : ℕ) → at i ≡ steps n cells i ++ at (end_of n cells i)
  stands at f zero i = refl
  stands at f (suc n) i = by (cells i) (f i) (λ j. stands at f n j)
    where
      by : (c : Told) → Says at i c → ((j : ℕ) → at j ≡ steps n cells j ++ at (end_of n cells j)) → at i ≡ steps_by (λ j. steps n cells j) c ++ at (end_by i (λ j. end_of n cells j) c)
      by unknown s g = refl
      by (same_as j) s g = s ∙ g j
      by on_base s g = refl
      by (step_on o u) s g = s ∙ ap (λ z. o ∷ z) (g u)

  pub stands_below : (at : Clocks) → Fits cells at → (n i u w : ℕ) (o : On) → cells i ≡ step_on o u → end_of (suc n) cells i ≡ w → at w ≡ at i → ⊥
  stands_below at f n i u w o e g h =
      let a : steps (suc n) cells i ≡ o ∷ steps n cells u = ap (steps_by (λ j. steps n cells j)) e in
      let b : at i ≡ (o ∷ steps n cells u) ++ at w = stands at f (suc n) i ∙ ap (λ z. z ++ at (end_of (suc n) cells i)) a ∙ ap (λ z. (o ∷ steps n cells u) ++ at z) g in
      not_longer o (steps n cells u) (at w) (h ∙ b)

  -- ---- where a clock ends

  module _ (rank : ℕ → ℕ) (falls : (i : ℕ) → IsLess rank i (cells i)) where
    -- More turns than the rank tell no more.
    pub enough : (n m i : ℕ) → rank i < n → rank i < m → end_of n cells i ≡ end_of m cells i
    enough zero m i h k = absurd (omega (arith, h))
    enough (suc n) zero i h k = absurd (omega (arith, k))
    enough (suc n) (suc m) i h k = by (cells i) (falls i) (λ j l. enough n m j (omega (arith, l, h)) (omega (arith, l, k)))
      where
        by : (c : Told) → IsLess rank i c → ((j : ℕ) → rank j < rank i → end_of n cells j ≡ end_of m cells j) → end_by i (λ j. end_of n cells j) c ≡ end_by i (λ j. end_of m cells j) c
        by unknown l g = refl
        by (same_as j) l g = g j l
        by on_base l g = refl
        by (step_on o u) l g = g u l

    abbrev pub end : ℕ → ℕ
    end i = end_of (suc (rank i)) cells i

    at_open : (i : ℕ) → cells i ≡ unknown → end i ≡ i
    at_open i e = ap (end_by i (λ k. end_of (rank i) cells k)) e

    at_same : (i j : ℕ) → cells i ≡ same_as j → end i ≡ end j
    at_same i j e =
        let l : rank j < rank i = subst (IsLess rank i) e (falls i) in
        ap (end_by i (λ k. end_of (rank i) cells k)) e ∙ enough (rank i) (suc (rank j)) j l (omega arith)

    at_step : (i u : ℕ) (o : On) → cells i ≡ step_on o u → end i ≡ end u
    at_step i u o e =
        let l : rank u < rank i = subst (IsLess rank i) e (falls i) in
        ap (end_by i (λ k. end_of (rank i) cells k)) e ∙ enough (rank i) (suc (rank u)) u l (omega arith)

    -- all that ends at the clock that is told rises
    abbrev raised : ℕ → ℕ → ℕ → ℕ
    raised w by i = if is_cell (end i) w then rank i + suc by else rank i

    both_raised : (d : Bool) (m n by : ℕ) → m < n → (if d then m + suc by else m) < (if d then n + suc by else n)
    both_raised true m n by h = omega (arith, h)
    both_raised false m n by h = h

    above : (m n : ℕ) → m < n + suc m
    above m n = omega arith

    module _ (w j : ℕ) (open_w : cells w ≡ unknown) (apart : end j ≡ w → ⊥) where
      high : raised w (rank j) w ≡ rank w + suc (rank j)
      high = ap (λ d. if d then rank w + suc (rank j) else rank w) ((is_same (end w) w).1 (at_open w open_w))

      low : raised w (rank j) j ≡ rank j
      low = decided (is_cell (end j) w) (is_same (end j) w) (λ d q. absurd (apart q)) (λ d q. ap (λ z. if z then rank j + suc (rank j) else rank j) d)

      falls_to : raised w (rank j) j < raised w (rank j) w
      falls_to = subst (λ z. z < raised w (rank j) w) (sym low) (subst (λ z. rank j < z) (sym high) (above (rank j) (rank w)))

      falls_on : (i x : ℕ) → end i ≡ end x → rank x < rank i → raised w (rank j) x < raised w (rank j) i
      falls_on i x e l =
          subst (λ z. raised w (rank j) x < (if is_cell z w then rank i + suc (rank j) else rank i)) (sym e)
          (both_raised (is_cell (end x) w) (rank x) (rank i) (rank j) l)

      old_less : (i : ℕ) (c : Told) → cells i ≡ c → IsLess rank i c → IsLess (raised w (rank j)) i c
      old_less i unknown e l = tt
      old_less i (same_as x) e l = falls_on i x (at_same i x e) l
      old_less i on_base e l = tt
      old_less i (step_on o u) e l = falls_on i u (at_step i u o e) l

      -- An open clock is told by one that does not end at it.
      pub still_falls : (c : Told) → (IsLess (raised w (rank j)) w (same_as j) → IsLess (raised w (rank j)) w c) → Falls (with_told cells w c)
      still_falls c f =
          record {
            rank = raised w (rank j);
            falls = λ i. decided (is_cell w i) (is_same w i)
                (λ d q. subst (λ z. IsLess (raised w (rank j)) i (if z then c else cells i)) (sym d) (subst (λ z. IsLess (raised w (rank j)) z c) q (f falls_to)))
                (λ d q. subst (λ z. IsLess (raised w (rank j)) i (if z then c else cells i)) (sym d) (old_less i (cells i) refl (falls i)));
          }

    -- ---- the shortest clocks

    pub enough_steps : (n m i : ℕ) → rank i < n → rank i < m → steps n cells i ≡ steps m cells i
    enough_steps zero m i h k = absurd (omega (arith, h))
    enough_steps (suc n) zero i h k = absurd (omega (arith, k))
    enough_steps (suc n) (suc m) i h k = by (cells i) (falls i) (λ j l. enough_steps n m j (omega (arith, l, h)) (omega (arith, l, k)))
      where
        by : (c : Told) → IsLess rank i c → ((j : ℕ) → rank j < rank i → steps n cells j ≡ steps m cells j) → steps_by (λ j. steps n cells j) c ≡ steps_by (λ j. steps m cells j) c
        by unknown l g = refl
        by (same_as j) l g = g j l
        by on_base l g = refl
        by (step_on o u) l g = ap (λ z. o ∷ z) (g u l)

    abbrev pub read : Clocks
    read i = steps (suc (rank i)) cells i

    -- What is read fits.
    pub read_fits : Fits cells read
    read_fits i = by (cells i) refl (falls i)
      where
        by : (c : Told) → cells i ≡ c → IsLess rank i c → Says read i c
        by unknown e l = tt
        by (same_as j) e l = ap (steps_by (λ k. steps (rank i) cells k)) e ∙ enough_steps (rank i) (suc (rank j)) j l (omega arith)
        by on_base e l = ap (steps_by (λ k. steps (rank i) cells k)) e
        by (step_on o u) e l = ap (steps_by (λ k. steps (rank i) cells k)) e ∙ ap (λ z. o ∷ z) (enough_steps (rank i) (suc (rank u)) u l (omega arith))

    -- and is a part of all that fits.
    part : (n i : ℕ) (at : Clocks) → Fits cells at → IsPart (steps n cells i) (at i)
    part zero i at f = (at i, refl)
    part (suc n) i at f = by (cells i) (f i) (λ j. part n j at f)
      where
        by : (c : Told) → Says at i c → ((j : ℕ) → IsPart (steps n cells j) (at j)) → IsPart (steps_by (λ j. steps n cells j) c) (at i)
        by unknown s g = (at i, refl)
        by (same_as j) s g = subst (λ z. IsPart (steps n cells j) z) (sym s) (g j)
        by on_base s g = (at i, refl)
        by (step_on o u) s g = longer o (steps n cells u) (at u) (at i) s (g u)

    pub read_is_part : (i : ℕ) (at : Clocks) → Fits cells at → IsPart (read i) (at i)
    read_is_part i at f = part (suc (rank i)) i at f
