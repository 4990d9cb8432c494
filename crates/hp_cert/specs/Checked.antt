-- What a checker answers.
use Rattle.std.specs.Prelude.{◌≡◌, ℕ, zero, suc, ◌<◌, length}
use Rattle.hp_boolx.specs.Machine.{Machine}
use Rattle.hp_cert.specs.declared.checking.Proved.{Proved}
use Rattle.hp_cert.specs.declared.checking.Proved.TheVariants as proved
use Rattle.hp_cert.specs.Certtext.Certificates.{Claim, win, lose, Certificate}
use Rattle.hp_cert.specs.declared.certtext.error.CertErr.{CertErr}
use Rattle.hp_cert.specs.declared.certtext.error.CertErr.TheVariants as error
use Rattle.hp_cert.specs.declared.certtext.error.Cond.{Cond}
use Rattle.hp_cert.specs.declared.certtext.error.Cond.TheVariants as cond
use Rattle.hp_cert.specs.declared.certtext.error.Misfit.{Misfit}
use Rattle.hp_cert.specs.declared.certtext.error.Misfit.TheVariants as misfit
use Rattle.hp_cert.specs.Proving.{HasName, HasVars, HasCount, InScope, Fits, HoldsAtFirst, Keeps, ForcesNext}

module _ (m : Machine) (c : Certificate) where
  -- the step of a win fails
  abbrev pub FailsStep : Claim → Type 0
  FailsStep (win inv funs) = Keeps m c.lines inv funs → ⊥
  FailsStep (lose ranks) = ⊥

  -- a rank, counted from 1, is the first that fails
  abbrev pub FailsRank : Claim → ℕ → Type 0
  FailsRank (win inv funs) k = ⊥
  FailsRank (lose ranks) zero = ⊥
  FailsRank (lose ranks) (suc k) = (k < length ranks) × ((j : ℕ) → j < k → ForcesNext m c.lines ranks j) × (ForcesNext m c.lines ranks k → ⊥)

  -- a condition is the first that fails
  abbrev pub Fails : Cond → Type 0
  Fails cond.Init = HoldsAtFirst m c c.claim → ⊥
  Fails cond.Step = HoldsAtFirst m c c.claim × FailsStep c.claim
  Fails (cond.Rank k) = HoldsAtFirst m c c.claim × FailsRank c.claim k

  -- a test is the first that fails
  abbrev pub Misfits : Misfit → Type 0
  Misfits misfit.Node = HasName m c → ⊥
  Misfits misfit.Vars = HasName m c × (HasVars m c → ⊥)
  Misfits misfit.Count = HasName m c × HasVars m c × (HasCount m c c.claim → ⊥)
  Misfits misfit.Scope = HasName m c × HasVars m c × HasCount m c c.claim × (InScope m c c.claim → ⊥)

  -- Why a certificate is refused: it does not fit the machine, or it does and a condition fails. Nothing is said of want of memory.
  abbrev pub Refuses : CertErr → Type 0
  Refuses (error.Misfit k) = Misfits k
  Refuses (error.Fails k) = Fits m c × Fails k
  Refuses error.OutOfMemory = Unit {0}
  Refuses e = ⊥

  -- what a claim proves, where all ranks force
  abbrev pub Shows : Claim → Proved → Type 0
  Shows (win inv funs) proved.Win = Keeps m c.lines inv funs
  Shows (lose ranks) (proved.Lose n) = (n ≡ length ranks) × ((k : ℕ) → k < length ranks → ForcesNext m c.lines ranks k)
  Shows claim p = ⊥

  -- A certificate proves a verdict.
  pub record Proves (p : Proved) : Type 0 where
    pub fits : Fits m c
    pub first : HoldsAtFirst m c c.claim
    pub shows : Shows c.claim p
