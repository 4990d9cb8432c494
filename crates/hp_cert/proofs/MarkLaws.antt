-- Which lines are reached, by marks.
use Rattle.std.proofs.Common.{◌≡◌, ◌≢◌, ◌↔◌, ◌⊎◌, inl, inr, ℕ, zero, suc, ◌+◌, ◌<◌, ◌≤◌, Bool, true, false, List, [], ◌∷◌, length, All, slice_get, slice_index_or, get_or, set, Some, refl, sym, ap, subst, ◌∙◌, arith, get_or-set_same, get_or-set_other, length-set}
use Rattle.std.proofs.lemmas.Bool.{cases_lt}
use Rattle.std.proofs.lemmas.Bool.Decides.{eqb_tells}
use Rattle.std.proofs.lemmas.Option.{slice_get_within}
use Rattle.hp_cert.specs.Certtext.Certificates.{AreLines}
use Rattle.hp_quant.specs.declared.line.Line.{Line}
use Rattle.hp_cert.specs.Proving.{Reaches, ReadsBelow}
use Rattle.hp_cert.specs.Marks.{ReachedBy, Marked, IsMarked, marked, AreSound, AreClosed, AreReached, AreBelow}
use Rattle.hp_cert.proofs.LineLaws.{below_line}

-- ---- one more mark

pub marked_len : (marks : List Bool) (r : ℕ) → length (marked marks r) ≡ length marks
marked_len marks zero = refl
marked_len marks (suc zero) = refl
marked_len marks (suc (suc i)) = length-set marks i true

-- what was marked stays so
pub marked_keeps : (marks : List Bool) (r j : ℕ) → Marked marks j → Marked (marked marks r) j
marked_keeps marks zero j h = h
marked_keeps marks (suc zero) j h = h
marked_keeps marks (suc (suc i)) j h = by (cases_lt i (length marks)) (same j i)
  where
    same : (a b : ℕ) → (a ≡ b) ⊎ (a ≢ b)
    same a b = elim (eqb_tells a b) [ inl e ↦ inl e.1 | inr e ↦ inr e.1 ]

    by : (i < length marks) ⊎ (length marks ≤ i) → (j ≡ i) ⊎ (j ≢ i) → Marked (set marks i true) j
    by (inl less) (inl e) = ap (λ k. get_or (set marks i true) k false) e ∙ get_or-set_same marks i true false less
    by (inl less) (inr ne) = get_or-set_other marks i j true false ne ∙ h
    by (inr far) (inl e) = absurd (none marks j h (omega (arith, far, e)))
      where
        none : (ms : List Bool) (k : ℕ) → get_or ms k false ≡ true → length ms ≤ k → ⊥
        none [] k p q = cc
        none (m ∷ ms) zero p q = omega (arith, q)
        none (m ∷ ms) (suc k) p q = none ms k p (omega (arith, q))
    by (inr far) (inr ne) = get_or-set_other marks i j true false ne ∙ h

pub is_marked_keeps : (marks : List Bool) (r s : ℕ) → IsMarked marks s → IsMarked (marked marks r) s
is_marked_keeps marks r zero h = tt
is_marked_keeps marks r (suc zero) h = tt
is_marked_keeps marks r (suc (suc i)) h = marked_keeps marks r i h

-- the line of the reference is marked then
pub marked_is : (marks : List Bool) (r : ℕ) → r < length marks + 2 → IsMarked (marked marks r) r
marked_is marks zero h = tt
marked_is marks (suc zero) h = tt
marked_is marks (suc (suc i)) h = get_or-set_same marks i true false (omega (arith, h))

-- nothing else is
pub marked_only : (marks : List Bool) (r j : ℕ) → Marked (marked marks r) j → Marked marks j ⊎ (r ≡ suc (suc j))
marked_only marks zero j h = inl h
marked_only marks (suc zero) j h = inl h
marked_only marks (suc (suc i)) j h = elim (eqb_tells j i) [ inl e ↦ inr (ap (λ n. suc (suc n)) (sym e.1)) | inr ne ↦ inl (sym (get_or-set_other marks i j true false ne.1) ∙ h) ]

-- ---- roots

-- the first k references are marked, and nothing else
pub record Begun (lines : List Line) (roots : List ℕ) (marks : List Bool) (k : ℕ) : Type 0 where
  pub len : length marks ≡ length lines
  pub begun : (j : ℕ) → j < k → IsMarked marks (get_or roots j 0)
  pub sound : (i : ℕ) → Marked marks i → ReachedBy lines roots i

pub begun_none : (lines : List Line) (roots : List ℕ) (marks : List Bool) → length marks ≡ length lines → ((i : ℕ) → Marked marks i → ⊥) → Begun lines roots marks 0
begun_none lines roots marks len none = record { len = len; begun = λ j h. absurd (omega (arith, h)); sound = λ i h. absurd (none i h) }

pub begun_more : (lines : List Line) (roots : List ℕ) (marks : List Bool) (k r : ℕ) → k < length roots → r ≡ get_or roots k 0 → r < length lines + 2 → Begun lines roots marks k → Begun lines roots (marked marks r) (k + 1)
begun_more lines roots marks k r less e within b =
    let len = b.len in
    record {
      len = marked_len marks r ∙ b.len;
      begun = λ j h. all j (cases_lt j k) h;
      sound = λ i h. by i (marked_only marks r i h);
    }
  where
    all : (j : ℕ) → (j < k) ⊎ (k ≤ j) → j < k + 1 → IsMarked (marked marks r) (get_or roots j 0)
    all j (inl l) h = is_marked_keeps marks r (get_or roots j 0) (b.begun j l)
    all j (inr l) h =
        let last : j ≡ k = omega (arith, l, h) in
        let len = b.len in
        let P : ℕ → Type 0 = λ s. IsMarked (marked marks r) s in
        subst P (e ∙ ap (λ n. get_or roots n 0) (sym last)) (marked_is marks r (omega (arith, within, len)))

    by : (i : ℕ) → Marked marks i ⊎ (r ≡ suc (suc i)) → ReachedBy lines roots i
    by i (inl m) = b.sound i m
    by i (inr s) = record { at = k; within = less; comes = subst (λ z. Reaches lines z (suc (suc i))) (sym s ∙ e) Reaches.here }

pub begun_all : (lines : List Line) (roots : List ℕ) (marks : List Bool) (k : ℕ) → length roots ≤ k → Begun lines roots marks k → AreSound lines roots marks
begun_all lines roots marks k far b = record { len = b.len; begun = λ j d h. subst (IsMarked marks) (same roots j d h) (b.begun j (omega (arith, far, h))); sound = b.sound }
  where
    same : (rs : List ℕ) (j d : ℕ) → j < length rs → get_or rs j 0 ≡ get_or rs j d
    same [] j d h = absurd (omega (arith, h))
    same (r ∷ rs) zero d h = refl
    same (r ∷ rs) (suc j) d h = same rs j d (omega (arith, h))

-- ---- one line

-- what a marked line refers to is reached
sound_more : (lines : List Line) (roots : List ℕ) (marks : List Bool) (i s : ℕ) → Marked marks i → ((r : ℕ) → Reaches lines r (suc (suc i)) → Reaches lines r s) → AreSound lines roots marks → AreSound lines roots (marked marks s)
sound_more lines roots marks i s m on a = record {
  len = marked_len marks s ∙ a.len;
  begun = λ j d h. is_marked_keeps marks s (get_or roots j d) (a.begun j d h);
  sound = λ j h. by j (marked_only marks s j h);
}
  where
    by : (j : ℕ) → Marked marks j ⊎ (s ≡ suc (suc j)) → ReachedBy lines roots j
    by j (inl k) = a.sound j k
    by j (inr e) = let r = a.sound i m in record { at = r.at; within = r.within; comes = subst (Reaches lines (get_or roots r.at 0)) e (on (get_or roots r.at 0) r.comes) }

-- what a reference comes to, and from there
pub onward : (lines : List Line) {r s t : ℕ} → Reaches lines r s → Reaches lines s t → Reaches lines r t
onward lines Reaches.here k = k
onward lines (Reaches.by_low e h) k = Reaches.by_low e (onward lines h k)
onward lines (Reaches.by_high e h) k = Reaches.by_high e (onward lines h k)

pub line_sound : (lines : List Line) (roots : List ℕ) (marks : List Bool) (i : ℕ) (l : Line) → slice_get lines i ≡ Some l → Marked marks i → AreSound lines roots marks → AreSound lines roots (marked (marked marks l.low) l.high)
line_sound lines roots marks i l e m a =
    sound_more lines roots (marked marks l.low) i l.high (marked_keeps marks l.low i m) (λ r h. onward lines h (Reaches.by_high e Reaches.here))
    (sound_more lines roots marks i l.low m (λ r h. onward lines h (Reaches.by_low e Reaches.here)) a)

pub line_closed : (lines : List Line) (marks : List Bool) (i : ℕ) (l : Line) → AreLines 2 lines → length marks ≡ length lines → slice_get lines i ≡ Some l → AreClosed lines marks (i + 1) → AreClosed lines (marked (marked marks l.low) l.high) i
line_closed lines marks i l h len e closed j x far at m = by (cases_lt i j)
  where
    below : (l.low < i + 2) × (l.high < i + 2)
    below = below_line lines h i l e

    within : i < length lines
    within = slice_get_within lines i l e

    low_in : l.low < length marks + 2
    low_in = let p = below.0 in omega (arith, p, within, len)

    high_in : l.high < length (marked marks l.low) + 2
    high_in = let p = below.1 in let q = marked_len marks l.low in omega (arith, p, q, within, len)

    by : (i < j) ⊎ (j ≤ i) → IsMarked (marked (marked marks l.low) l.high) x.low × IsMarked (marked (marked marks l.low) l.high) x.high
    by (inl later) = old (marked_only (marked marks l.low) l.high j m)
      where
        keep : (s : ℕ) → IsMarked marks s → IsMarked (marked (marked marks l.low) l.high) s
        keep s k = is_marked_keeps (marked marks l.low) l.high s (is_marked_keeps marks l.low s k)

        was : Marked marks j → IsMarked (marked (marked marks l.low) l.high) x.low × IsMarked (marked (marked marks l.low) l.high) x.high
        was k = let c = closed j x (omega (arith, later)) at k in (keep x.low c.0, keep x.high c.1)

        old : Marked (marked marks l.low) j ⊎ (l.high ≡ suc (suc j)) → IsMarked (marked (marked marks l.low) l.high) x.low × IsMarked (marked (marked marks l.low) l.high) x.high
        old (inr s) = let p = below.1 in absurd (omega (arith, p, s, later))
        old (inl k) = older (marked_only marks l.low j k)
          where
            older : Marked marks j ⊎ (l.low ≡ suc (suc j)) → IsMarked (marked (marked marks l.low) l.high) x.low × IsMarked (marked (marked marks l.low) l.high) x.high
            older (inl k) = was k
            older (inr s) = let p = below.0 in absurd (omega (arith, p, s, later))
    by (inr here) =
        let last : i ≡ j = omega (arith, here, far) in
        let same : l ≡ x = some_same (sym e ∙ ap (slice_get lines) last ∙ at) in
        let P : Line → Type 0 = λ x. IsMarked (marked (marked marks l.low) l.high) x.low × IsMarked (marked (marked marks l.low) l.high) x.high in
        subst P same (is_marked_keeps (marked marks l.low) l.high l.low (marked_is marks l.low low_in), marked_is (marked marks l.low) l.high high_in)
      where
        some_same : {a b : Line} → Some a ≡ Some b → a ≡ b
        some_same p = cc

-- a line that is not marked asks nothing
pub none_closed : (lines : List Line) (marks : List Bool) (i : ℕ) → slice_index_or marks i false ≡ false → AreClosed lines marks (i + 1) → AreClosed lines marks i
none_closed lines marks i none closed j x far at m = by (cases_lt i j)
  where
    by : (i < j) ⊎ (j ≤ i) → IsMarked marks x.low × IsMarked marks x.high
    by (inl later) = closed j x (omega (arith, later)) at m
    by (inr here) = let last : j ≡ i = omega (arith, here, far) in let p : true ≡ false = sym m ∙ ap (λ k. slice_index_or marks k false) last ∙ none in absurd cc

pub closed_behind : (lines : List Line) (marks : List Bool) (n : ℕ) → length lines ≤ n → AreClosed lines marks n
closed_behind lines marks n far j x from at m = let w = slice_get_within lines j x at in absurd (omega (arith, w, far, from))

-- ---- all that is reached is marked

pub reached_marked : (lines : List Line) (marks : List Bool) {r s : ℕ} → AreClosed lines marks 0 → Reaches lines r s → IsMarked marks r → IsMarked marks s
reached_marked lines marks closed Reaches.here m = m
reached_marked lines marks closed (Reaches.by_low {i = i} {l = l} e h) m = reached_marked lines marks closed h (closed i l (omega arith) e m).0
reached_marked lines marks closed (Reaches.by_high {i = i} {l = l} e h) m = reached_marked lines marks closed h (closed i l (omega arith) e m).1

pub below_told : (lines : List Line) (roots : List ℕ) (marks : List Bool) (bound : ℕ) → AreReached lines roots marks → AreBelow lines marks bound ↔ All (ReadsBelow lines bound) roots
below_told lines roots marks bound a = (to, back)
  where
    to : AreBelow lines marks bound → All (ReadsBelow lines bound) roots
    to h k d less i l r e = h i l e (reached_marked lines marks a.closed r (a.sound.begun k d less))

    back : All (ReadsBelow lines bound) roots → AreBelow lines marks bound
    back h i l e m = let r = a.sound.sound i m in h r.at 0 r.within i l r.comes e
