-- Texts that grow, and texts that are too long.
use Rattle.std.specs.Prelude.{◌≡◌, ℕ, ◌+◌, ◌<◌, List, ◌++◌, length}
use Rattle.hp_base.specs.Limits.{most}
use Rattle.hp_base.specs.declared.limit.Limit.{Limit}
use Rattle.hp_base.specs.declared.limit.What.TheVariants as what
use Rattle.hp_cert.specs.declared.certtext.error.CertErr.{CertErr}
use Rattle.hp_cert.specs.declared.certtext.error.CertErr.TheVariants as error
use Rattle.hp_cert.specs.Certtext.Pieces.{Pieces, joined}

-- a text with more pieces
unfoldable pub written : List ℕ → Pieces → List ℕ
written text ps = text ++ joined ps

-- The text passes the limit.
pub record IsTooLong (text : List ℕ) (limit : Limit) : Type 0 where
  pub longer : most what.Text < length text
  pub limit_is : limit ≡ record { what = what.Text; found = most what.Text + 1 }

-- why a text is not written
abbrev pub DoesNotFit : List ℕ → CertErr → Type 0
DoesNotFit text (error.Limit limit) = IsTooLong text limit
DoesNotFit text error.OutOfMemory = Unit {0}
DoesNotFit text e = ⊥
