-- What the rounds give when they end, the choices from a safe state, and certificates.
use Rattle.std.proofs.Common.{◌≡◌, ◌↔◌, inl, inr, ℕ, zero, suc, ◌-◌, ◌<◌, ◌≤◌, Bool, true, false, not, ◌&&◌, ◌||◌, IsTrue, IsFalse, List, [], ◌∷◌, ◌++◌, length, slice_index_or, refl, sym, ap, ap₂, subst, ◌∙◌, arith, true≢false}
use Rattle.std.proofs.lemmas.Bool.{or_parts, and_parts, and_from, and_cases, both_ways, not-true, not-false, not_from_true, not_from_false, cases_lt}
use Rattle.hp_boolx.specs.Search.{Bits, Set, some_of, every_of}
use Rattle.hp_boolx.specs.Game.{Game, IsForm, joined, IsState, ValidLate, ValidChoice, ValidEarly, Forced, Safe, Permitted, valid_choice, valid_early, bad, loses, attract, forced, permitted, preferred}
use Rattle.hp_boolx.specs.Solved.{IsWin, IsLose, ranks_of, IsChoice, IsWinCertificate, IsLoseCertificate, rank, win_step, rank_step}
use Rattle.hp_boolx.proofs.SearchLaws.{every-at, every-from, every-lacks, some-nowhere}
use Rattle.hp_boolx.proofs.GameLaws.{choice-found, choice-from, early-found, early-from, Tells, Answered, Attracts, attract-told, forced-told, forced-later, later, later-sum, Stops, stops, stop-safe, DecidesSafe}
use Rattle.hp_boolx.proofs.Preferring.{preferred-is, preferred-one}

len-push : (xs : List Set) (x : Set) → length (xs ++ x ∷ []) ≡ suc (length xs)
len-push [] x = refl
len-push (y ∷ xs) x = ap suc (len-push xs x)

at-front : (xs : List Set) (x : Set) (k : ℕ) → k < length xs → slice_index_or (xs ++ x ∷ []) k (λ r. false) ≡ slice_index_or xs k (λ r. false)
at-front [] x k l = absurd (omega arith)
at-front (y ∷ xs) x zero l = refl
at-front (y ∷ xs) x (suc k) l = at-front xs x k (omega (arith, l))

at-end : (xs : List Set) (x : Set) → slice_index_or (xs ++ x ∷ []) (length xs) (λ r. false) ≡ x
at-end [] x = refl
at-end (y ∷ xs) x = at-end xs x

behind-all : (xs : List Set) (k : ℕ) → length xs ≤ k → slice_index_or xs k (λ r. false) ≡ (λ r. false)
behind-all [] k l = refl
behind-all (x ∷ xs) zero l = absurd (omega arith)
behind-all (x ∷ xs) (suc k) l = behind-all xs k (omega (arith, l))

at₁ : {X Y : Set} → X ≡ Y → (r : Bits) → X r ≡ Y r
at₁ e r = λ i. e i r

after_not : (a b : Bool) → IsTrue (not a || b) → IsTrue a → IsTrue b
after_not true b h e = h
after_not false b h e = absurd (true≢false (sym e))

from_not : (a b : Bool) → (IsTrue a → IsTrue b) → IsTrue (not a || b)
from_not true b h = h refl
from_not false b h = refl

module _ (g : Game) (form : IsForm g) where
  -- ---- permitted choices

  abbrev pub Permits : (Bits → Type 0) → Bits → Bits → Bits → Type 0
  Permits Q r u c = ValidChoice g r u c × ((w : Bits) → ValidLate g r u c w → IsTrue (g.hyp (joined r u c w)) → IsTrue (g.duty (joined r u c w)) × Q (g.next (joined r u c w)))

  not-bad : (a b d x : Bool) → IsFalse (a && (b && (not d || x))) → IsTrue a → IsTrue b → IsTrue d × IsFalse x
  not-bad true true true x h e f = (refl, h)
  not-bad true true false x h e f = absurd (true≢false h)
  not-bad true false d x h e f = absurd (true≢false (sym f))
  not-bad false b d x h e f = absurd (true≢false (sym e))

  from-not-bad : (a b d x : Bool) → (IsTrue a → IsTrue b → IsTrue d × IsFalse x) → IsFalse (a && (b && (not d || x)))
  from-not-bad true true d x h = let p = h refl refl in ap₂ (λ d x. not d || x) p.0 p.1
  from-not-bad true false d x h = refl
  from-not-bad false b d x h = refl

  pub permitted-told : (X : Set) (Q : Bits → Type 0) → ((r : Bits) → IsState g r → IsFalse (X r) ↔ Q r) → (r u c : Bits) → length c ≡ g.control → IsTrue (permitted g X r u c) ↔ Permits Q r u c
  permitted-told X Q t r u c len =
      let q : Set = λ w. not (bad g X (joined r u c w)) in (
        λ h.
            let a = and_parts (valid_choice g r u c) _ h in (
              choice-found g r u c len a.0,
              λ w v hyp.
                  let v_ = joined r u c w in
                  let n = not-bad (g.valid v_) (g.hyp v_) (g.duty v_) (X (g.next v_)) (not-true _ (every-at g.late q a.1 w v.0)) v.1 hyp in
                  (n.0, (t (g.next v_) (form.next v_)).0 n.1),
            ),
        λ p. and_from _ _ (choice-from g r u c p.0) (every-from g.late q (λ w e.
            let v_ = joined r u c w in
            not_from_false _ (from-not-bad (g.valid v_) (g.hyp v_) (g.duty v_) (X (g.next v_)) (λ valid hyp.
            let n = p.1 w (e, valid) hyp in
            (n.0, (t (g.next v_) (form.next v_)).1 n.1))))),
      )

  -- in a state that a round does not add, each valid early valuation leaves some choice
  pub left-choice : (X : Set) (r u : Bits) → IsFalse (attract g X r) → ValidEarly g r u → (c : Bits) × (length c ≡ g.control) × IsTrue (permitted g X r u c)
  left-choice X r u out v =
      let p : Set = λ c. not (valid_choice g r u c) || some_of g.late (λ w. bad g X (joined r u c w)) in
      let no_loss : IsFalse (loses g X r u) =
      elim (and_cases (valid_early g r u) (loses g X r u) (some-nowhere g.early (λ u. valid_early g r u && loses g X r u) out u v.0)) [
        | inl e ↦ absurd (both_ways (valid_early g r u) e (early-from g r u v))
        | inr e ↦ e
      ] in
      let s = every-lacks g.control p no_loss in
      let parts = or_parts (not (valid_choice g r u s.0)) _ s.2 in
      (s.0, s.1, and_from _ _ (not-false _ parts.0) (every-from g.late _ (λ w e. not_from_false _ (some-nowhere g.late _ parts.1 w e))))

  -- where nothing is forced, each valid early valuation leaves a permitted choice
  pub some-permitted : (r u : Bits) → IsState g r → Safe g r → ValidEarly g r u → (c : Bits) × Permitted g r u c
  some-permitted r u e safe v =
      let s = stops g form in
      let X : Set = forced g s.0 in
      let decides : DecidesSafe g form X = stop-safe g form s.0 s.2 in
      let c = left-choice X r u (sym (s.2 r e) ∙ (decides r e).1 safe) v in
      (c.0, (permitted-told X (Safe g) decides r u c.0 c.1).0 c.2)

  -- ---- the choice

  pub choice-is : (X : Set) → DecidesSafe g form X → (r u : Bits) → IsChoice g r u (preferred g.prefer (permitted g X r u))
  choice-is X decides r u = preferred-is g.prefer (permitted g X r u) (Permitted g r u) (λ c e. permitted-told X (Safe g) decides r u c (e ∙ form.prefer))

  pub choice-one : (r u c d : Bits) → IsChoice g r u c → IsChoice g r u d → c ≡ d
  choice-one r u =
      let s = stops g form in
      preferred-one g.prefer (permitted g (forced g s.0) r u) (Permitted g r u) (λ c e. permitted-told (forced g s.0) (Safe g) (stop-safe g form s.0 s.2) r u c (e ∙ form.prefer))

  -- from a safe state the choice is permitted
  pub choice-permitted : (r u c : Bits) → IsState g r → Safe g r → ValidEarly g r u → IsChoice g r u c → Permitted g r u c
  choice-permitted r u c e safe v is = let s = some-permitted r u e safe v in (is.best s.0 (s.1.0.0 ∙ sym form.prefer) s.1).0

  -- ---- where the rounds end

  pub win-at : (n : ℕ) → Stops g form n → IsFalse (forced g n g.init) → IsWin g (λ r. not (forced g n r))
  win-at n stop out =
      let decides : DecidesSafe g form (forced g n) = stop-safe g form n stop in
      record {
        init = (decides g.init form.init).0 out;
        exact = λ r e. (λ h. (decides r e).0 (not-true _ h), λ s. not_from_false _ ((decides r e).1 s));
      }

  -- the sets of n rounds, in the places of ranks
  pub ranks-len : (n : ℕ) → length (ranks_of g n) ≡ n
  ranks-len zero = refl
  ranks-len (suc n) = len-push (ranks_of g n) (forced g (suc n)) ∙ ap suc (ranks-len n)

  pub ranks-at : (n k : ℕ) → k ≤ n → rank (ranks_of g n) k ≡ forced g k
  ranks-at n zero l = refl
  ranks-at zero (suc k) l = absurd (omega arith)
  ranks-at (suc n) (suc k) l =
      elim (cases_lt k n) [
        | inl before ↦ at-front (ranks_of g n) (forced g (suc n)) k (subst (λ m. k < m) (sym (ranks-len n)) before) ∙ ranks-at n (suc k) (omega (arith, before))
        | inr behind ↦
            let e : k ≡ n = omega (arith, l, behind) in
            ap (λ m. slice_index_or (ranks_of g (suc n)) m (λ r. false)) (e ∙ sym (ranks-len n)) ∙ at-end (ranks_of g n) (forced g (suc n)) ∙ ap (λ m. forced g (suc m)) (sym e)
      ]

  -- the first round that holds the initial state
  pub lose-at : (n : ℕ) → IsFalse (forced g n g.init) → IsTrue (forced g (suc n) g.init) → IsLose g (ranks_of g (suc n))
  lose-at n out now =
      record {
        init = subst (λ m. Forced g m g.init) (sym (ranks-len (suc n))) ((forced-told g form (suc n) g.init form.init).0 now);
        least = λ m f. subst (λ l. l ≤ m) (sym (ranks-len (suc n))) (elim (cases_lt n m) [
          | inl more ↦ omega (arith, more)
          | inr less ↦
              let up : Forced g (later m (n - m)) g.init = forced-later g m (n - m) g.init f in
              let e : later m (n - m) ≡ n = later-sum m (n - m) ∙ omega (arith, less) in
              absurd (both_ways _ out ((forced-told g form n g.init form.init).1 (subst (λ k. Forced g k g.init) e up)))
        ]);
        exact = λ k l r e.
            let at : rank (ranks_of g (suc n)) k ≡ forced g k = ranks-at (suc n) k (subst (λ m. k ≤ m) (ranks-len (suc n)) l) in
            (λ h. (forced-told g form k r e).0 (sym (at₁ at r) ∙ h), λ f. at₁ at r ∙ (forced-told g form k r e).1 f);
      }

  -- ---- certificates

  -- a win is a proof that nothing is forced
  pub win-kept : (inv : Set) (funs : Bits → Bits → Bits) → IsWinCertificate g inv funs → (n : ℕ) (r : Bits) → IsState g r → IsTrue (inv r) → Forced g n r → ⊥
  win-kept inv funs cert zero r e h f = f
  win-kept inv funs cert (suc n) r e h f =
      let s = cert.step r f.0 e h f.1 in
      let a : Answered g (Forced g n) r f.0 (funs r f.0) = f.2 (funs r f.0) s.0 in
      let v = joined r f.0 (funs r f.0) a.0 in
      let k = s.1 a.0 a.1 a.2 in
      elim a.3 [
        | inl no_duty ↦ both_ways (g.duty v) no_duty k.0
        | inr more ↦ win-kept inv funs cert n (g.next v) (form.next v) k.1 more
      ]

  pub win-proves : (inv : Set) (funs : Bits → Bits → Bits) → IsWinCertificate g inv funs → Safe g g.init
  win-proves inv funs cert n f = win-kept inv funs cert n g.init form.init cert.init f

  -- a rank is a proof that a violation is forced
  pub rank-forces : (ranks : List Set) → IsLoseCertificate g ranks → (k : ℕ) (r : Bits) → IsState g r → IsTrue (rank ranks k r) → Forced g k r
  rank-forces ranks cert zero r e h = absurd (true≢false (sym h))
  rank-forces ranks cert (suc k) r e h =
      let s = cert.step k r e h in (
        s.0,
        s.1,
        λ c v.
            let a : Answered g (λ q. IsTrue (rank ranks k q)) r s.0 c = s.2 c v in (
              a.0,
              a.1,
              a.2,
              elim a.3 [
                | inl no_duty ↦ inl no_duty
                | inr more ↦ inr (rank-forces ranks cert k (g.next (joined r s.0 c a.0)) (form.next (joined r s.0 c a.0)) more)
              ],
            ),
      )

  pub lose-proves : (ranks : List Set) → IsLoseCertificate g ranks → Forced g (length ranks) g.init
  lose-proves ranks cert = rank-forces ranks cert (length ranks) g.init form.init cert.init

  -- ---- what is solved has its certificate

  pub certificate-win : (inv : Set) (funs : Bits → Bits → Bits) → IsWin g inv → ((r u : Bits) → IsState g r → ValidEarly g r u → IsChoice g r u (funs r u)) → IsWinCertificate g inv funs
  certificate-win inv funs win is =
      record {
        init = (win.exact g.init form.init).1 win.init;
        step = λ r u e h v.
            let p = choice-permitted r u (funs r u) e ((win.exact r e).0 h) v (is r u e v) in (
              p.0,
              λ w l hyp.
                  let k = p.1 w l hyp in
                  (k.0, (win.exact (g.next (joined r u (funs r u) w)) (form.next (joined r u (funs r u) w))).1 k.1),
            );
      }

  pub certificate-lose : (ranks : List Set) → IsLose g ranks → IsLoseCertificate g ranks
  certificate-lose ranks lose =
      record {
        init = (lose.exact (length ranks) (omega arith) g.init form.init).1 lose.init;
        step = λ k r e h. elim (cases_lt k (length ranks)) [
          | inl l ↦
              let f : Forced g (suc k) r = (lose.exact (suc k) (omega (arith, l)) r e).0 h in (
                f.0,
                f.1,
                λ c v.
                    let a : Answered g (Forced g k) r f.0 c = f.2 c v in
                    let q = joined r f.0 c a.0 in (
                      a.0,
                      a.1,
                      a.2,
                      elim a.3 [
                        | inl no_duty ↦ inl no_duty
                        | inr more ↦ inr ((lose.exact k (omega (arith, l)) (g.next q) (form.next q)).1 more)
                      ],
                    ),
              )
          | inr l ↦ absurd (true≢false (sym h ∙ at₁ (behind-all ranks k l) r))
        ];
      }

  -- ---- what a checker decides

  pub win-step-told : (inv : Set) (funs : Bits → Bits → Bits) → ((r u : Bits) → length (funs r u) ≡ g.control) → IsTrue (inv g.init) → IsTrue (win_step g inv funs) ↔ IsWinCertificate g inv funs
  win-step-told inv funs lens init =
      let inner : Bits → Set = λ r u. not (valid_early g r u) || permitted g (λ s. not (inv s)) r u (funs r u) in
      let outer : Set = λ r. not (inv r) || every_of g.early (inner r) in
      let told : (r : Bits) → IsState g r → IsFalse (not (inv r)) ↔ IsTrue (inv r) = λ r e. (λ h. not-false _ h, λ h. not_from_true _ h) in (
        λ h. record {
          init = init;
          step = λ r u e i v.
              let row : IsTrue (every_of g.early (inner r)) = after_not (inv r) _ (every-at g.registers outer h r e) i in
              (permitted-told (λ s. not (inv s)) (λ s. IsTrue (inv s)) told r u (funs r u) (lens r u)).0 (after_not (valid_early g r u) _ (every-at g.early (inner r) row u v.0) (early-from g r u v));
        },
        λ cert. every-from g.registers outer (λ r e. from_not (inv r) _ (λ i. every-from g.early (inner r) (λ u l. from_not (valid_early g r u) _ (λ v.
            (permitted-told (λ s. not (inv s)) (λ s. IsTrue (inv s)) told r u (funs r u) (lens r u)).1 (cert.step r u e i (early-found g r u l v)))))),
      )

  pub rank-step-told : (below here : Set) → IsTrue (rank_step g below here) ↔ ((r : Bits) → IsState g r → IsTrue (here r) → Attracts g (λ q. IsTrue (below q)) r)
  rank-step-told below here =
      let outer : Set = λ r. not (here r) || attract g below r in
      let told : Tells g below (λ q. IsTrue (below q)) = λ r e. (λ h. h, λ h. h) in (
        λ h r e i. (attract-told g form below (λ q. IsTrue (below q)) told r).0 (after_not (here r) _ (every-at g.registers outer h r e) i),
        λ f. every-from g.registers outer (λ r e. from_not (here r) _ (λ i. (attract-told g form below (λ q. IsTrue (below q)) told r).1 (f r e i))),
      )

  -- ---- by the set of a win

  win-decides : (inv : Set) → IsWin g inv → DecidesSafe g form (λ s. not (inv s))
  win-decides inv win r e = (λ h. (win.exact r e).0 (not-false _ h), λ s. not_from_true _ ((win.exact r e).1 s))

  pub permissive : (inv : Set) → IsWin g inv → (r u c : Bits) → length c ≡ g.control → IsTrue (permitted g (λ s. not (inv s)) r u c) ↔ Permitted g r u c
  permissive inv win = permitted-told (λ s. not (inv s)) (Safe g) (win-decides inv win)

  pub win-choice : (inv : Set) → IsWin g inv → (r u : Bits) → IsChoice g r u (preferred g.prefer (permitted g (λ s. not (inv s)) r u))
  win-choice inv win = choice-is (λ s. not (inv s)) (win-decides inv win)
