-- Where a text is refused: at its first piece with which it begins no certificate.
use Rattle.std.specs.Prelude.{◌≡◌, ℕ, ◌+◌, ◌≤◌, not, ◌==◌, List, [], ◌∷◌, ◌++◌, length, count_by}
use Rattle.std.specs.List.{suffix_len}
use Rattle.hp_base.specs.Limits.{most}
use Rattle.hp_base.specs.declared.limit.What.TheVariants as what
use Rattle.hp_base.specs.declared.span.Span.{Span}
use Rattle.hp_cert.specs.Certtext.Certificates.{Certificate, HasForm}
use Rattle.hp_cert.specs.Certtext.Pieces.{Piece, Pieces, pieces, joined}
use Rattle.hp_cert.specs.Certtext.Texts.{cert_pieces}
use Rattle.hp_cert.specs.Certtext.Written.{IsTooLong}
use Rattle.hp_cert.specs.declared.certtext.error.CertErr.{CertErr}
use Rattle.hp_cert.specs.declared.certtext.error.CertErr.TheVariants as error

-- Some pieces begin others: the last of them may be cut off.
abbrev pub Start : Pieces → Pieces → Type 0
Start [] whole = Unit {0}
Start (w ∷ ws) [] = ⊥
Start (w ∷ []) (v ∷ whole) = (cut : Piece) × (v ≡ w ++ cut)
Start (w ∷ x ∷ ws) (v ∷ whole) = (w ≡ v) × Start (x ∷ ws) whole

-- some certificate's pieces are begun by these, of which the last may be cut off
pub record StartCert (ps : Pieces) : Type 0 where
  pub cert : Certificate
  pub form : HasForm cert
  pub start : Start ps (cert_pieces cert)

-- some certificate begins with these whole pieces
pub record BeginCert (ps : Pieces) : Type 0 where
  pub cert : Certificate
  pub form : HasForm cert
  pub more : Pieces
  pub whole : cert_pieces cert ≡ ps ++ more

-- The pieces in front of a refused one begin a certificate, and so does the whole text, if it is refused behind its end.
abbrev pub IsBegun : Pieces → Pieces → Type 0
IsBegun front [] = StartCert front
IsBegun front (w ∷ behind) = BeginCert front

-- With the next piece they begin none, even if that is the last of the text, and cut off. Where there is no next piece they are not those of a certificate.
abbrev pub IsDead : Pieces → Pieces → Type 0
IsDead front [] = (c : Certificate) → HasForm c → cert_pieces c ≡ front → ⊥
IsDead front (w ∷ []) = StartCert (front ++ w ∷ []) → ⊥
IsDead front (w ∷ v ∷ behind) = BeginCert (front ++ w ∷ []) → ⊥

-- how many newlines stand in front, and one more
abbrev pub line_behind : List ℕ → ℕ
line_behind front = 1 + count_by (λ b. b == 10) front

-- how many bytes stand behind the last newline, and one more
abbrev pub col_behind : List ℕ → ℕ
col_behind front = 1 + suffix_len (λ b. not (b == 10)) front

-- the length of the first piece, if there is one
abbrev pub first_length : Pieces → ℕ
first_length [] = 0
first_length (w ∷ ws) = length w

-- the place of the first of some pieces behind others, or the place behind these
abbrev pub place_behind : Pieces → Pieces → Span
place_behind front rest = record { line = line_behind (joined front); col = col_behind (joined front); end = length (joined front) + first_length rest }

-- A text within the limit is refused at a place.
pub record IsRefused (text : List ℕ) (span : Span) : Type 0 where
  pub within : length text ≤ most what.Text
  pub front : Pieces
  pub rest : Pieces
  pub split : pieces text ≡ front ++ rest
  pub begun : IsBegun front rest
  pub dead : IsDead front rest
  pub place : span ≡ place_behind front rest

-- why a text is refused
abbrev pub Refuses : List ℕ → CertErr → Type 0
Refuses text (error.Syntax span) = IsRefused text span
Refuses text (error.Limit limit) = IsTooLong text limit
Refuses text error.OutOfMemory = Unit {0}
Refuses text e = ⊥
