-- The game and its decision agree; the sets grow, stop, and then say what is safe.
use Rattle.std.proofs.Common.{◌≡◌, ◌⊎◌, ◌↔◌, inl, inr, ℕ, zero, suc, ◌+◌, ◌-◌, ◌<◌, ◌≤◌, ◌^◌, add_comm, false, not, ◌&&◌, ◌||◌, IsTrue, IsFalse, length, refl, sym, ap, subst, ◌∙◌, arith}
use Rattle.std.proofs.lemmas.Bool.{or_cases, or_left, or_right, and_parts, and_from, cases_Bool, both_ways, not-true, not_from_false, false_from_ne_true, cases_lt}
use Rattle.hp_boolx.specs.Search.{Bits, Set, some_of, count_of, Agree}
use Rattle.hp_boolx.specs.Game.{Game, IsForm, joined, IsState, ValidLate, ValidChoice, ValidEarly, Forced, Safe, valid_choice, valid_early, bad, loses, attract, forced}
use Rattle.hp_boolx.proofs.SearchLaws.{some-found, some-from, every-at, every-from, some-same, every-same, Inside, count-most, count-same}

-- n + k, by clauses on k
abbrev pub later : ℕ → ℕ → ℕ
later n zero = n
later n (suc k) = suc (later n k)

pub later-sum : (n k : ℕ) → later n k ≡ n + k
later-sum n zero = omega arith
later-sum n (suc k) = ap suc (later-sum n k) ∙ omega arith

module _ (g : Game) where
  -- ---- what is valid

  pub choice-found : (r u c : Bits) → length c ≡ g.control → IsTrue (valid_choice g r u c) → ValidChoice g r u c
  choice-found r u c e h = let s = some-found g.late (λ w. g.valid (joined r u c w)) h in (e, (s.0, (s.1, s.2)))

  pub choice-from : (r u c : Bits) → ValidChoice g r u c → IsTrue (valid_choice g r u c)
  choice-from r u c v = some-from g.late (λ w. g.valid (joined r u c w)) v.1.0 v.1.1.0 v.1.1.1

  pub early-found : (r u : Bits) → length u ≡ g.early → IsTrue (valid_early g r u) → ValidEarly g r u
  early-found r u e h = let s = some-found g.control (valid_choice g r u) h in (e, (s.0, choice-found r u s.0 s.1 s.2))

  pub early-from : (r u : Bits) → ValidEarly g r u → IsTrue (valid_early g r u)
  early-from r u v = some-from g.control (valid_choice g r u) v.1.0 v.1.1.0 (choice-from r u v.1.0 v.1.1)

  -- ---- one round, in words

  -- what the set and its words say alike
  abbrev pub Tells : Set → (Bits → Type 0) → Type 0
  Tells X P = (r : Bits) → IsState g r → IsTrue (X r) ↔ P r

  abbrev pub Answered : (Bits → Type 0) → Bits → Bits → Bits → Type 0
  Answered P r u c = (w : Bits) × ValidLate g r u c w × IsTrue (g.hyp (joined r u c w)) × (IsFalse (g.duty (joined r u c w)) ⊎ P (g.next (joined r u c w)))

  abbrev pub Attracts : (Bits → Type 0) → Bits → Type 0
  Attracts P r = (u : Bits) × ValidEarly g r u × ((c : Bits) → ValidChoice g r u c → Answered P r u c)

  module _ (form : IsForm g) where
    pub bad-parts : (X : Set) (P : Bits → Type 0) → Tells X P → (v : Bits) → IsTrue (bad g X v) → IsTrue (g.valid v) × IsTrue (g.hyp v) × (IsFalse (g.duty v) ⊎ P (g.next v))
    bad-parts X P t v h =
        let a = and_parts (g.valid v) _ h in
        let b = and_parts (g.hyp v) _ a.1 in (
          a.0,
          b.0,
          elim (or_cases (not (g.duty v)) (X (g.next v)) b.1) [
            | inl e ↦ inl (not-true (g.duty v) e)
            | inr e ↦ inr ((t (g.next v) (form.next v)).0 e)
          ],
        )

    pub bad-from : (X : Set) (P : Bits → Type 0) → Tells X P → (v : Bits) → IsTrue (g.valid v) → IsTrue (g.hyp v) → IsFalse (g.duty v) ⊎ P (g.next v) → IsTrue (bad g X v)
    bad-from X P t v a b h =
        and_from (g.valid v) _ a (and_from (g.hyp v) _ b (elim h [
          | inl e ↦ or_left (not (g.duty v)) _ (not_from_false (g.duty v) e)
          | inr e ↦ or_right (not (g.duty v)) _ ((t (g.next v) (form.next v)).1 e)
        ]))

    pub some-bad : (X : Set) (P : Bits → Type 0) → Tells X P → (r u c : Bits) → IsTrue (some_of g.late (λ w. bad g X (joined r u c w))) ↔ Answered P r u c
    some-bad X P t r u c = (
      λ h.
          let s = some-found g.late (λ w. bad g X (joined r u c w)) h in
          let b = bad-parts X P t (joined r u c s.0) s.2 in
          (s.0, (s.1, b.0), b.1, b.2),
      λ a. some-from g.late (λ w. bad g X (joined r u c w)) a.0 a.1.0 (bad-from X P t (joined r u c a.0) a.1.1 a.2 a.3),
    )

    pub loses-told : (X : Set) (P : Bits → Type 0) → Tells X P → (r u : Bits) → IsTrue (loses g X r u) ↔ ((c : Bits) → ValidChoice g r u c → Answered P r u c)
    loses-told X P t r u =
        let q : Set = λ c. not (valid_choice g r u c) || some_of g.late (λ w. bad g X (joined r u c w)) in (
          λ h c v. elim (or_cases (not (valid_choice g r u c)) _ (every-at g.control q h c v.0)) [
            | inl e ↦ absurd (both_ways (valid_choice g r u c) (not-true _ e) (choice-from r u c v))
            | inr e ↦ (some-bad X P t r u c).0 e
          ],
          λ f. every-from g.control q (λ c e. elim (cases_Bool (valid_choice g r u c)) [
            | inl v ↦ or_right (not (valid_choice g r u c)) _ ((some-bad X P t r u c).1 (f c (choice-found r u c e v)))
            | inr v ↦ or_left (not (valid_choice g r u c)) _ (not_from_false _ v)
          ]),
        )

    pub attract-told : (X : Set) (P : Bits → Type 0) → Tells X P → (r : Bits) → IsTrue (attract g X r) ↔ Attracts P r
    attract-told X P t r = (
      λ h.
          let s = some-found g.early (λ u. valid_early g r u && loses g X r u) h in
          let a = and_parts (valid_early g r s.0) _ s.2 in
          (s.0, early-found r s.0 s.1 a.0, (loses-told X P t r s.0).0 a.1),
      λ a. some-from g.early (λ u. valid_early g r u && loses g X r u) a.0 a.1.0 (and_from _ _ (early-from r a.0 a.1) ((loses-told X P t r a.0).1 a.2)),
    )

    -- the sets that the solver computes are those of the game
    pub forced-told : (n : ℕ) → Tells (forced g n) (Forced g n)
    forced-told zero r e = (λ h. absurd (both_ways false refl h), λ h. absurd h)
    forced-told (suc n) r e = attract-told (forced g n) (Forced g n) (forced-told n) r

  -- ---- the sets grow

  pub forced-more : (n : ℕ) (r : Bits) → Forced g n r → Forced g (suc n) r
  forced-more zero r h = absurd h
  forced-more (suc n) r h = (
    h.0,
    h.1,
    λ c v.
        let a : Answered (Forced g n) r h.0 c = h.2 c v in
        (a.0, a.1, a.2, elim a.3 [ inl e ↦ inl e | inr k ↦ inr (forced-more n (g.next (joined r h.0 c a.0)) k) ]),
  )

  pub forced-later : (n k : ℕ) (r : Bits) → Forced g n r → Forced g (later n k) r
  forced-later n zero r h = h
  forced-later n (suc k) r h = forced-more (later n k) r (forced-later n k r h)

  module _ (form : IsForm g) where
    pub grows : (n : ℕ) → Inside g.registers (forced g n) (forced g (suc n))
    grows n r e h = (forced-told form (suc n) r e).1 (forced-more n r ((forced-told form n r e).0 h))

    -- ---- and stop

    pub bad-same : (X Y : Set) → Agree g.registers X Y → (v : Bits) → bad g X v ≡ bad g Y v
    bad-same X Y h v = ap (λ b. g.valid v && (g.hyp v && (not (g.duty v) || b))) (h (g.next v) (form.next v))

    pub loses-same : (X Y : Set) → Agree g.registers X Y → (r u : Bits) → loses g X r u ≡ loses g Y r u
    loses-same X Y h r u = every-same g.control _ _ (λ c _. ap (λ b. not (valid_choice g r u c) || b) (some-same g.late _ _ (λ w _. bad-same X Y h (joined r u c w))))

    pub attract-same : (X Y : Set) → Agree g.registers X Y → (r : Bits) → attract g X r ≡ attract g Y r
    attract-same X Y h r = some-same g.early _ _ (λ u _. ap (λ b. valid_early g r u && b) (loses-same X Y h r u))

    abbrev pub Stops : ℕ → Type 0
    Stops n = Agree g.registers (forced g n) (forced g (suc n))

    -- where two sets in a row are equal, all later ones are
    pub stays : (n k : ℕ) → Stops n → Agree g.registers (forced g n) (forced g (later n k))
    stays n zero h r e = refl
    stays n (suc k) h r e = h r e ∙ attract-same (forced g n) (forced g (later n k)) (stays n k h) r

    pub stops-later : (n k : ℕ) → Stops n → Stops (later n k)
    stops-later n k h r e = sym (stays n k h r e) ∙ stays n (suc k) h r e

    -- a round that changes the set adds to its number
    pub adds : (n : ℕ) → count_of g.registers (forced g (suc n)) ≤ count_of g.registers (forced g n) → Stops n
    adds n l = count-same g.registers (forced g n) (forced g (suc n)) (grows n) l

    stop-or-count : (n : ℕ) → ((m : ℕ) × (m < n) × Stops m) ⊎ (n ≤ count_of g.registers (forced g n))
    stop-or-count zero = inr (omega arith)
    stop-or-count (suc n) =
        elim (stop-or-count n) [
          | inl s ↦ inl (s.0, omega (arith, s.1), s.2)
          | inr l ↦ elim (cases_lt (count_of g.registers (forced g n)) (count_of g.registers (forced g (suc n)))) [
            | inl b ↦ inr (omega (arith, l, b))
            | inr b ↦ inl (n, omega arith, adds n b)
          ]
        ]

    pub stops : (m : ℕ) × (m ≤ 2 ^ g.registers) × Stops m
    stops =
        elim (stop-or-count (suc (2 ^ g.registers))) [
          | inl s ↦ (s.0, omega (arith, s.1), s.2)
          | inr l ↦ absurd (omega (arith, l, count-most g.registers (forced g (suc (2 ^ g.registers)))))
        ]

    -- the measure of the rounds
    abbrev pub left : ℕ → ℕ
    left n = 2 ^ g.registers - count_of g.registers (forced g n)

    pub left-falls : (n : ℕ) → (Stops n → ⊥) → left (suc n) < left n
    left-falls n h =
        let more : count_of g.registers (forced g n) < count_of g.registers (forced g (suc n)) =
        elim (cases_lt (count_of g.registers (forced g n)) (count_of g.registers (forced g (suc n)))) [ inl b ↦ b | inr b ↦ absurd (h (adds n b)) ] in
        omega (arith, more, count-most g.registers (forced g (suc n)))

    -- ---- what is safe

    -- where the sets stop, what is outside is safe, and nothing else
    abbrev pub DecidesSafe : Set → Type 0
    DecidesSafe X = (r : Bits) → IsState g r → IsFalse (X r) ↔ Safe g r

    pub stop-safe : (n : ℕ) → Stops n → DecidesSafe (forced g n)
    stop-safe n h r e = (
      λ out k f.
          let f' : Forced g (later n k) r = subst (λ m. Forced g m r) (later-sum k n ∙ add_comm k n ∙ sym (later-sum n k)) (forced-later k n r f) in
          both_ways (forced g n r) out (stays n k h r e ∙ (forced-told form (later n k) r e).1 f'),
      λ s. false_from_ne_true (forced g n r) (λ t. s n ((forced-told form n r e).0 t)),
    )
