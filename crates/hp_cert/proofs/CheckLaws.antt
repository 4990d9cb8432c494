-- What a checker answers is exact, and proves what it says.
use Rattle.std.proofs.Common.{◌≡◌, ◌↔◌, ◌⊎◌, inl, inr, ℕ, zero, suc, ◌<◌, ◌≤◌, IsTrue, List, [], ◌∷◌, length, map, Option, Some, None, Result, Ok, Err, refl, sym, ap, subst, ◌∙◌, arith}
use Rattle.std.specs.Prelude.{IfOk, IfErr, IsErrAnd}
use Rattle.std.proofs.lemmas.Bool.{cases_lt}
use Rattle.hp_boolx.specs.Search.{Bits, Set}
use Rattle.hp_boolx.specs.Game.{Safe, Forced}
use Rattle.hp_boolx.specs.Machine.{Machine, IsMachine, game}
use Rattle.hp_boolx.specs.Solved.{rank, win_step}
use Rattle.hp_boolx.proofs.GateLaws.{game-form}
use Rattle.hp_boolx.proofs.SolvedLaws.{win-proves, lose-proves, win-step-told, rank-step-told}
use Rattle.hp_cert.specs.Certtext.Certificates.{Claim, win, lose, Certificate}
use Rattle.hp_cert.specs.declared.certtext.error.CertErr.{CertErr}
use Rattle.hp_cert.specs.declared.certtext.error.CertErr.TheVariants as error
use Rattle.hp_cert.specs.declared.certtext.error.Cond.TheVariants as cond
use Rattle.hp_cert.specs.declared.certtext.error.Misfit.TheVariants as misfit
use Rattle.hp_quant.specs.declared.line.Line.{Line}
use Rattle.hp_cert.specs.declared.checking.Proved.{Proved}
use Rattle.hp_cert.specs.declared.checking.Proved.TheVariants as proved
use Rattle.hp_cert.specs.Checked.{FailsStep, FailsRank, Refuses, Shows, Proves}
use Rattle.hp_cert.specs.Conditions.{FirstFailing}
use Rattle.hp_cert.specs.Proving.{set_of, functions_of, HoldsAtFirst, Keeps, ForcesNext}
use Rattle.hp_cert.specs.Steps.{IsStrong, FirstWeak}

-- ---- the steps, decided

-- the sets of ranks behind the last are empty
no_rank : (Xs : List Set) (k : ℕ) (r : Bits) → length Xs ≤ k → IsTrue (rank Xs (suc k) r) → ⊥
no_rank [] k r h e = cc
no_rank (X ∷ Xs) zero r h e = omega (arith, h)
no_rank (X ∷ Xs) (suc k) r h e = no_rank Xs k r (omega (arith, h)) e

map_len : (f : ℕ → Set) (xs : List ℕ) → length (map f xs) ≡ length xs
map_len f [] = refl
map_len f (x ∷ xs) = ap suc (map_len f xs)

module _ (m : Machine) (lines : List Line) (is : IsMachine m) where
  pub keeps_told : (inv : ℕ) (funs : List ℕ) → length funs ≡ m.control → IsTrue (set_of lines inv m.init) → IsTrue (win_step (game m) (set_of lines inv) (functions_of lines funs)) ↔ Keeps m lines inv funs
  keeps_told inv funs count first =
      let told = win-step-told (game m) (game-form m is) (set_of lines inv) (functions_of lines funs) (λ r u. len funs r u ∙ count) first in
      (λ h. (told.0 h).step, λ k. told.1 (record { init = first; step = k }))
    where
      len : (fs : List ℕ) (r u : Bits) → length (functions_of lines fs r u) ≡ length fs
      len [] r u = refl
      len (f ∷ fs) r u = ap suc (len fs r u)

  pub forces_told : (ranks : List ℕ) (k : ℕ) → IsStrong (game m) (map (set_of lines) ranks) k ↔ ForcesNext m lines ranks k
  forces_told ranks k = rank-step-told (game m) (game-form m is) (rank (map (set_of lines) ranks) k) (rank (map (set_of lines) ranks) (suc k))

  pub first_told : (ranks : List ℕ) (o : Option ℕ) → FirstWeak (game m) (map (set_of lines) ranks) o → FirstFailing m lines ranks o
  first_told ranks None h = λ k l. (forces_told ranks k).0 (h k (let e = map_len (set_of lines) ranks in omega (arith, e, l)))
  first_told ranks (Some k) h =
      let e = map_len (set_of lines) ranks in
      let less = h.0 in
      (omega (arith, less, e), λ j l. (forces_told ranks j).0 (h.1 j l), λ f. h.2 ((forces_told ranks k).1 f))

-- ---- what is proved is not refused

module _ (m : Machine) (c : Certificate) where
  -- a certificate that proves something is not refused
  pub not_refused : (p : Proved) (e : CertErr) → Proves m c p → Refuses m c e → e ≡ error.OutOfMemory
  not_refused p (error.Syntax span) a r = absurd r
  not_refused p (error.Limit limit) a r = absurd r
  not_refused p error.OutOfMemory a r = refl
  not_refused p (error.Misfit misfit.Node) a r = absurd (r a.fits.name)
  not_refused p (error.Misfit misfit.Vars) a r = absurd (r.1 a.fits.vars)
  not_refused p (error.Misfit misfit.Count) a r = absurd (r.2 a.fits.count)
  not_refused p (error.Misfit misfit.Scope) a r = absurd (r.3 a.fits.scope)
  not_refused p (error.Fails cond.Init) a r = absurd (r.1 a.first)
  not_refused p (error.Fails cond.Step) a r = absurd (by c.claim p a.shows r.1.1)
    where
      by : (k : Claim) (p : Proved) → Shows m c k p → FailsStep m c k → ⊥
      by (win inv funs) proved.Win s f = f s
      by (win inv funs) (proved.Lose n) s f = s
      by (lose ranks) p s f = f
  not_refused p (error.Fails (cond.Rank n)) a r = absurd (by c.claim p n a.shows r.1.1)
    where
      by : (k : Claim) (p : Proved) (n : ℕ) → Shows m c k p → FailsRank m c k n → ⊥
      by (win inv funs) p n s f = f
      by (lose ranks) p zero s f = f
      by (lose ranks) proved.Win (suc k) s f = s
      by (lose ranks) (proved.Lose n) (suc k) s f = f.2 (s.1 k f.0)

module _ (m : Machine) (c : Certificate) (is : IsMachine m) where
  -- ---- what is proved

  pub win_safe : (p : Proved) → Proves m c p → p ≡ proved.Win → Safe (game m) m.init
  win_safe p h e = by c.claim refl (subst (λ (q : Proved). Shows m c c.claim q) e h.shows)
    where
      by : (k : Claim) → c.claim ≡ k → Shows m c k proved.Win → Safe (game m) m.init
      by (win inv funs) same keeps =
          win-proves (game m) (game-form m is) (set_of c.lines inv) (functions_of c.lines funs) (record { init = subst (HoldsAtFirst m c) same h.first; step = keeps })
      by (lose ranks) same keeps = absurd keeps

  pub lose_forced : (p : Proved) (n : ℕ) → Proves m c p → p ≡ proved.Lose n → Forced (game m) n m.init
  lose_forced p n h e = by c.claim refl (subst (λ (q : Proved). Shows m c c.claim q) e h.shows)
    where
      by : (k : Claim) → c.claim ≡ k → Shows m c k (proved.Lose n) → Forced (game m) n m.init
      by (win inv funs) same shows = absurd shows
      by (lose ranks) same shows =
          let Xs = map (set_of c.lines) ranks in
          let len = map_len (set_of c.lines) ranks in
          let first = subst (HoldsAtFirst m c) same h.first in
          subst (λ n. Forced (game m) n m.init) (len ∙ sym shows.0) (lose-proves (game m) (game-form m is) Xs (record {
            init = subst (λ n. IsTrue (rank Xs n m.init)) (sym len) first;
            step = λ k r s i. elim (cases_lt k (length ranks)) [
              | inl less ↦ shows.1 k less r s i
              | inr far ↦ absurd (no_rank Xs k r (omega (arith, len, far)) i)
            ];
          }))

  -- ---- one answer

  pub one_verdict : (p q : Proved) → Proves m c p → Proves m c q → p ≡ q
  one_verdict p q a b = by c.claim p q a.shows b.shows
    where
      by : (k : Claim) (p q : Proved) → Shows m c k p → Shows m c k q → p ≡ q
      by (win inv funs) proved.Win proved.Win s t = refl
      by (win inv funs) proved.Win (proved.Lose n) s t = absurd t
      by (win inv funs) (proved.Lose n) q s t = absurd s
      by (lose ranks) proved.Win q s t = absurd s
      by (lose ranks) (proved.Lose n) proved.Win s t = absurd t
      by (lose ranks) (proved.Lose n) (proved.Lose k) s t = ap proved.Lose (s.0 ∙ sym t.0)

  -- two reasons are one
  pub one_reason : (d e : CertErr) → Refuses m c d → Refuses m c e → (d ≡ e) ⊎ (d ≡ error.OutOfMemory) ⊎ (e ≡ error.OutOfMemory)
  one_reason error.OutOfMemory e a b = inr (inl refl)
  one_reason (error.Syntax span) e a b = absurd a
  one_reason (error.Limit limit) e a b = absurd a
  one_reason d error.OutOfMemory a b = inr (inr refl)
  one_reason d (error.Syntax span) a b = absurd b
  one_reason d (error.Limit limit) a b = absurd b
  one_reason (error.Misfit misfit.Node) (error.Misfit misfit.Node) a b = inl refl
  one_reason (error.Misfit misfit.Node) (error.Misfit misfit.Vars) a b = absurd (a b.0)
  one_reason (error.Misfit misfit.Node) (error.Misfit misfit.Count) a b = absurd (a b.0)
  one_reason (error.Misfit misfit.Node) (error.Misfit misfit.Scope) a b = absurd (a b.0)
  one_reason (error.Misfit misfit.Node) (error.Fails k) a b = absurd (a (b.0).name)
  one_reason (error.Misfit misfit.Vars) (error.Misfit misfit.Node) a b = absurd (b a.0)
  one_reason (error.Misfit misfit.Vars) (error.Misfit misfit.Vars) a b = inl refl
  one_reason (error.Misfit misfit.Vars) (error.Misfit misfit.Count) a b = absurd (a.1 b.1)
  one_reason (error.Misfit misfit.Vars) (error.Misfit misfit.Scope) a b = absurd (a.1 b.1)
  one_reason (error.Misfit misfit.Vars) (error.Fails k) a b = absurd (a.1 (b.0).vars)
  one_reason (error.Misfit misfit.Count) (error.Misfit misfit.Node) a b = absurd (b a.0)
  one_reason (error.Misfit misfit.Count) (error.Misfit misfit.Vars) a b = absurd (b.1 a.1)
  one_reason (error.Misfit misfit.Count) (error.Misfit misfit.Count) a b = inl refl
  one_reason (error.Misfit misfit.Count) (error.Misfit misfit.Scope) a b = absurd (a.2 b.2)
  one_reason (error.Misfit misfit.Count) (error.Fails k) a b = absurd (a.2 (b.0).count)
  one_reason (error.Misfit misfit.Scope) (error.Misfit misfit.Node) a b = absurd (b a.0)
  one_reason (error.Misfit misfit.Scope) (error.Misfit misfit.Vars) a b = absurd (b.1 a.1)
  one_reason (error.Misfit misfit.Scope) (error.Misfit misfit.Count) a b = absurd (b.2 a.2)
  one_reason (error.Misfit misfit.Scope) (error.Misfit misfit.Scope) a b = inl refl
  one_reason (error.Misfit misfit.Scope) (error.Fails k) a b = absurd (a.3 (b.0).scope)
  one_reason (error.Fails k) (error.Misfit misfit.Node) a b = absurd (b (a.0).name)
  one_reason (error.Fails k) (error.Misfit misfit.Vars) a b = absurd (b.1 (a.0).vars)
  one_reason (error.Fails k) (error.Misfit misfit.Count) a b = absurd (b.2 (a.0).count)
  one_reason (error.Fails k) (error.Misfit misfit.Scope) a b = absurd (b.3 (a.0).scope)
  one_reason (error.Fails cond.Init) (error.Fails cond.Init) a b = inl refl
  one_reason (error.Fails cond.Init) (error.Fails cond.Step) a b = absurd (a.1 b.1.0)
  one_reason (error.Fails cond.Init) (error.Fails (cond.Rank k)) a b = absurd (a.1 b.1.0)
  one_reason (error.Fails cond.Step) (error.Fails cond.Init) a b = absurd (b.1 a.1.0)
  one_reason (error.Fails cond.Step) (error.Fails cond.Step) a b = inl refl
  one_reason (error.Fails cond.Step) (error.Fails (cond.Rank k)) a b = absurd (by c.claim a.1.1 b.1.1)
    where
      by : (q : Claim) → FailsStep m c q → FailsRank m c q k → ⊥
      by (win inv funs) s f = f
      by (lose ranks) s f = s
  one_reason (error.Fails (cond.Rank k)) (error.Fails cond.Init) a b = absurd (b.1 a.1.0)
  one_reason (error.Fails (cond.Rank k)) (error.Fails cond.Step) a b = absurd (by c.claim b.1.1 a.1.1)
    where
      by : (q : Claim) → FailsStep m c q → FailsRank m c q k → ⊥
      by (win inv funs) s f = f
      by (lose ranks) s f = s
  one_reason (error.Fails (cond.Rank k)) (error.Fails (cond.Rank n)) a b = inl (ap (λ i. error.Fails (cond.Rank i)) (same c.claim k n a.1.1 b.1.1))
    where
      same : (q : Claim) (k n : ℕ) → FailsRank m c q k → FailsRank m c q n → k ≡ n
      same (win inv funs) k n s f = absurd s
      same (lose ranks) zero n s f = absurd s
      same (lose ranks) (suc k) zero s f = absurd f
      same (lose ranks) (suc k) (suc n) s f = order (cases_lt k n)
        where
          order : (k < n) ⊎ (n ≤ k) → suc k ≡ suc n
          order (inl less) = absurd (s.2 (f.1 k less))
          order (inr far) = elim (cases_lt n k) [ inl less ↦ absurd (f.2 (s.1 n less)) | inr near ↦ omega (arith, far, near) ]

  -- ---- answers of calls

  pub answered : (r : Result Proved CertErr) (p : Proved) → IfOk r (Proves m c) → IfErr r (Refuses m c) → Proves m c p → (r ≡ Ok p) ⊎ (r ≡ Err error.OutOfMemory)
  answered (Ok q) p ok err h = inl (ap Ok (one_verdict q p ok h))
  answered (Err e) p ok err h = inr (ap Err (not_refused m c p e h err))

  pub refused_by : (r : Result Proved CertErr) (e : CertErr) → IfOk r (Proves m c) → IfErr r (Refuses m c) → Refuses m c e → (r ≡ Err e) ⊎ (r ≡ Err error.OutOfMemory) ⊎ (e ≡ error.OutOfMemory)
  refused_by (Ok q) e ok err h = inr (inr (not_refused m c q e ok h))
  refused_by (Err d) e ok err h = elim (one_reason d e err h) [ inl s ↦ inl (ap Err s) | inr s ↦ elim s [ inl o ↦ inr (inl (ap Err o)) | inr o ↦ inr (inr o) ] ]

  pub handed_reason : (r : Result Proved CertErr) (d e : CertErr) → IsErrAnd r (λ x. x ≡ d) → Refuses m c d → Refuses m c e → (r ≡ Err e) ⊎ (r ≡ Err error.OutOfMemory) ⊎ (e ≡ error.OutOfMemory)
  handed_reason (Ok q) d e is a b = absurd is
  handed_reason (Err x) d e is a b = refused_by (Err x) e tt (subst (Refuses m c) (sym is) a) b
