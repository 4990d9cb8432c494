-- What a reader and a checker answer, as what a text proves of a machine.
use Rattle.std.proofs.Common.{◌≡◌, ◌⊎◌, inl, inr, ℕ, ◌+◌, ◌<◌, ◌≤◌, List, length, Result, Ok, Err, IfOk, refl, sym, ap, ◌∙◌, subst}
use Rattle.hp_base.specs.Limits.{most}
use Rattle.hp_base.specs.declared.limit.Limit.{Limit}
use Rattle.hp_base.specs.declared.limit.What.TheVariants.{Text}
use Rattle.hp_base.specs.declared.span.Span.{Span}
use Rattle.hp_boolx.specs.Game.{Forced, Safe}
use Rattle.hp_boolx.specs.Machine.{Machine, game}
use Rattle.hp_cert.specs.Checked.{Proves, Refuses}
use Rattle.hp_cert.specs.declared.checking.Proved.{Proved}
use Rattle.hp_cert.specs.declared.checking.Proved.TheVariants as proved
use Rattle.hp_cert.specs.Certtext.Certificates.{Certificate}
use Rattle.hp_cert.specs.Certtext.Refusals as text
use Rattle.hp_cert.specs.Certtext.Texts.{IsCertText}
use Rattle.hp_cert.specs.Certtext.Written.{IsTooLong}
use Rattle.hp_cert.specs.declared.certtext.error.CertErr.{CertErr}
use Rattle.hp_cert.specs.declared.certtext.error.CertErr.TheVariants as error
use Rattle.hp_verdicts.specs.Verified.{IsChecked, IsUnproved, RefusesBy}

-- an error, or want of memory, as an answer
either : (e f : CertErr) → (e ≡ f) ⊎ (e ≡ error.OutOfMemory) → (let r : Result Proved CertErr = Err e in (r ≡ Err f) ⊎ (r ≡ Err error.OutOfMemory) ⊎ (f ≡ error.OutOfMemory))
either e f (inl same) = inl (ap Err same)
either e f (inr memory) = inr (inl (ap Err memory))

module _ (m : Machine) (t : List ℕ) where
  -- a certificate proves a verdict, or nothing for this reason
  abbrev pub Accepts : Result Proved CertErr → Type 0
  Accepts r = (p : Proved) → IsChecked m t p → (r ≡ Ok p) ⊎ (r ≡ Err error.OutOfMemory)

  abbrev pub IsExact : Result Proved CertErr → Type 0
  IsExact r = (e : CertErr) → RefusesBy m t e → (r ≡ Err e) ⊎ (r ≡ Err error.OutOfMemory) ⊎ (e ≡ error.OutOfMemory)

  -- what a reader promises
  abbrev pub Reads : Result Certificate CertErr → Type 0
  Reads r = (c : Certificate) → length t ≤ most Text → IsCertText t c → (r ≡ Ok c) ⊎ (r ≡ Err error.OutOfMemory)

  abbrev pub Stops : Result Certificate CertErr → Type 0
  Stops r = (span : Span) → text.IsRefused t span → (r ≡ Err (error.Syntax span)) ⊎ (r ≡ Err error.OutOfMemory)

  abbrev pub EndsLong : Result Certificate CertErr → Type 0
  EndsLong r = most Text < length t → r ≡ Err (error.Limit (record { what = Text; found = most Text + 1 }))

  -- ---- the text says no certificate

  -- why a text is refused is why it proves nothing
  pub text_refuses : (e : CertErr) → text.Refuses t e → RefusesBy m t e
  text_refuses (error.Syntax span) h = h
  text_refuses (error.Misfit misfit) h = absurd h
  text_refuses (error.Fails test) h = absurd h
  text_refuses (error.Limit limit) h = h
  text_refuses error.OutOfMemory h = tt

  module _ (r : Result Certificate CertErr) (e : CertErr) (fails : r ≡ Err e) (reads : Reads r) (stops : Stops r) (long : EndsLong r) where
    -- a text that says one is not refused
    said : (c : Certificate) → length t ≤ most Text → IsCertText t c → e ≡ error.OutOfMemory
    said c within is = by (reads c within is)
      where
        by : (r ≡ Ok c) ⊎ (r ≡ Err error.OutOfMemory) → e ≡ error.OutOfMemory
        by (inl ok) = absurd (cc (ok, fails))
        by (inr memory) = cc (memory, fails)

    pub stopped_accepts : Accepts (Err e)
    stopped_accepts p checked = inr (ap Err (said checked.certificate checked.within checked.reads))

    -- it stops at this place
    stopped_at : (span : Span) → text.IsRefused t span → (e ≡ error.Syntax span) ⊎ (e ≡ error.OutOfMemory)
    stopped_at span h = by (stops span h)
      where
        by : (r ≡ Err (error.Syntax span)) ⊎ (r ≡ Err error.OutOfMemory) → (e ≡ error.Syntax span) ⊎ (e ≡ error.OutOfMemory)
        by (inl same) = inl (cc (same, fails))
        by (inr memory) = inr (cc (memory, fails))

    too_long : (limit : Limit) → IsTooLong t limit → e ≡ error.Limit limit
    too_long limit h =
        let ends = long h.longer in
        let same : e ≡ error.Limit (record { what = Text; found = most Text + 1 }) = cc (ends, fails) in
        same ∙ ap error.Limit (sym h.limit_is)

    pub stopped_exact : IsExact (Err e)
    stopped_exact (error.Syntax span) h = either e (error.Syntax span) (stopped_at span h)
    stopped_exact (error.Limit limit) h = inl (ap Err (too_long limit h))
    stopped_exact (error.Misfit misfit) h = inr (inl (ap Err (said h.certificate h.within h.reads)))
    stopped_exact (error.Fails test) h = inr (inl (ap Err (said h.certificate h.within h.reads)))
    stopped_exact error.OutOfMemory h = inr (inr refl)

  -- ---- the text says a certificate

  module _ (c : Certificate) (within : length t ≤ most Text) (is : IsCertText t c) where
    pub checked_of : (r : Result Proved CertErr) → IfOk r (Proves m c) → (r ≡ Ok proved.Win → Safe (game m) m.init) → ((n : ℕ) → r ≡ Ok (proved.Lose n) → Forced (game m) n m.init) → IfOk r (IsChecked m t)
    checked_of (Ok proved.Win) proves win lose = record { certificate = c; within = within; reads = is; proves = proves; holds = win refl }
    checked_of (Ok (proved.Lose n)) proves win lose = record { certificate = c; within = within; reads = is; proves = proves; holds = lose n refl }
    checked_of (Err e) proves win lose = tt

    unproved : (e : CertErr) → Refuses m c e → IsUnproved m t e
    unproved e refused = record { certificate = c; within = within; reads = is; refused = refused }

    pub checker_refuses : (e : CertErr) → Refuses m c e → RefusesBy m t e
    checker_refuses (error.Syntax span) h = absurd h
    checker_refuses (error.Limit limit) h = absurd h
    checker_refuses (error.Misfit misfit) h = unproved (error.Misfit misfit) h
    checker_refuses (error.Fails test) h = unproved (error.Fails test) h
    checker_refuses error.OutOfMemory h = tt

    module _ (r : Result Certificate CertErr) (done : r ≡ Ok c) (reads : Reads r) (stops : Stops r) (long : EndsLong r) where
      -- it says no other
      only : (d : Certificate) → IsCertText t d → d ≡ c
      only d of_d = by (reads d within of_d)
        where
          by : (r ≡ Ok d) ⊎ (r ≡ Err error.OutOfMemory) → d ≡ c
          by (inl ok) = cc (ok, done)
          by (inr memory) = absurd (cc (memory, done))

      -- and does not stop
      goes_on : (span : Span) → (r ≡ Err (error.Syntax span)) ⊎ (r ≡ Err error.OutOfMemory) → ⊥
      goes_on span (inl stopped) = absurd (cc (stopped, done))
      goes_on span (inr memory) = absurd (cc (memory, done))

      pub read_accepts : (s : Result Proved CertErr) → ((p : Proved) → Proves m c p → (s ≡ Ok p) ⊎ (s ≡ Err error.OutOfMemory)) → Accepts s
      read_accepts s accepts p checked = accepts p (subst (λ (d : Certificate). Proves m d p) (only checked.certificate checked.reads) checked.proves)

      pub read_exact : (s : Result Proved CertErr) → ((e : CertErr) → Refuses m c e → (s ≡ Err e) ⊎ (s ≡ Err error.OutOfMemory) ⊎ (e ≡ error.OutOfMemory)) → IsExact s
      read_exact s exact (error.Syntax span) h = absurd (goes_on span (stops span h))
      read_exact s exact (error.Limit limit) h = let stopped = long h.longer in absurd (cc (stopped, done))
      read_exact s exact (error.Misfit misfit) h = exact (error.Misfit misfit) (subst (λ (d : Certificate). Refuses m d (error.Misfit misfit)) (only h.certificate h.reads) h.refused)
      read_exact s exact (error.Fails test) h = exact (error.Fails test) (subst (λ (d : Certificate). Refuses m d (error.Fails test)) (only h.certificate h.reads) h.refused)
      read_exact s exact error.OutOfMemory h = inr (inr refl)
