-- A machine has no two certificates.
use Rattle.std.proofs.Common.{◌≡◌, ◌↔◌, ℕ, suc, Bool, true, false, IsTrue, List, [], ◌∷◌, length, map, drop, get_or, refl, sym, ap, ap₂, ◌∙◌, arith}
use Rattle.hp_boolx.specs.Game.{Forced, Safe}
use Rattle.hp_boolx.specs.Machine.{IsMachine, Machine, game}
use Rattle.hp_boolx.specs.Search.{Bits}
use Rattle.hp_boolx.proofs.GateLaws.{game-form}
use Rattle.hp_boolx.proofs.SolvedLaws.{choice-one}
use Rattle.hp_cert.specs.Certmade.Lines.{references}
use Rattle.hp_cert.specs.Certtext.Certificates.{Claim, lose, win}
use Rattle.hp_cert.specs.Certtext.Texts.{cert_text}
use Rattle.hp_quant.specs.declared.line.Line.{Line}
use Rattle.hp_quant.specs.Lines.{line_function}
use Rattle.hp_synth.specs.Valued.{Valued, earlies, states}
use Rattle.hp_verdicts.specs.TheCertificate.{AreChoice, AreForcedFrom, IsClaimOf, IsSetOf}
use Rattle.hp_verdicts.specs.Laws.{CertificateLaw, LongLaw, TextLaw}
use Rattle.hp_verdicts.proofs.CanonicalLaws.{lines_one}

-- two Booleans that are true together are one
pub same_truth : (a b : Bool) → (IsTrue a ↔ IsTrue b) → a ≡ b
same_truth true b h = sym (h.0 refl)
same_truth false true h = h.1 refl
same_truth false false h = refl

module _ (m : Machine) (is : IsMachine m) (lines others : List Line) where
  -- the values of references at a valuation
  abbrev At : List Line → List ℕ → Valued → Bits
  At ls refs v = map (λ n. line_function ls n v) refs

  abbrev Same : List ℕ → List ℕ → Type 0
  Same refs numbers = (v : Valued) → At lines refs v ≡ At others numbers v

  set_same : (P : Bits → Type 0) (a b : ℕ) → IsSetOf (game m) lines P a → IsSetOf (game m) others P b → (v : Valued) → line_function lines a v ≡ line_function others b v
  set_same P a b of_a of_b v = same_truth (line_function lines a v) (line_function others b v) (λ h. (of_b v).1 ((of_a v).0 h), λ h. (of_a v).1 ((of_b v).0 h))

  ranks_same : (k : ℕ) (rs qs : List ℕ) → length rs ≡ length qs → AreForcedFrom (game m) lines k rs → AreForcedFrom (game m) others k qs → Same rs qs
  ranks_same k [] [] len of_rs of_qs v = refl
  ranks_same k [] (q ∷ qs) len of_rs of_qs v = absurd (omega (arith, len))
  ranks_same k (r ∷ rs) [] len of_rs of_qs v = absurd (omega (arith, len))
  ranks_same k (r ∷ rs) (q ∷ qs) len of_rs of_qs v =
      ap₂ (λ (b : Bool) (bs : Bits). b ∷ bs) (set_same (Forced (game m) k) r q of_rs.0 of_qs.0 v) (ranks_same (suc k) rs qs (omega (arith, len)) of_rs.1 of_qs.1 v)

  choice_same : (fs hs : List ℕ) → AreChoice (game m) lines fs → AreChoice (game m) others hs → Same fs hs
  choice_same fs hs of_fs of_hs v = choice-one (game m) (game-form m is) (states (game m) v) (earlies (game m) v) (At lines fs v) (At others hs v) (of_fs v) (of_hs v)

  -- claims of one machine have the same functions
  claims_same : (p q : Claim) → IsClaimOf (game m) lines p → IsClaimOf (game m) others q → Same (references p) (references q)
  claims_same (win inv funs) (win other others_funs) of_p of_q v =
      ap₂ (λ (b : Bool) (bs : Bits). b ∷ bs) (set_same (Safe (game m)) inv other of_p.1 of_q.1 v) (choice_same funs others_funs of_p.2 of_q.2 v)
  claims_same (win inv funs) (lose qs) of_p of_q v = absurd (of_p.0 (length qs) (of_q.0).forced)
  claims_same (lose rs) (win inv funs) of_p of_q v = absurd (of_q.0 (length rs) (of_p.0).forced)
  claims_same (lose rs) (lose qs) of_p of_q v =
      let one = (of_p.0).least (length qs) (of_q.0).forced in
      let other = (of_q.0).least (length rs) (of_p.0).forced in
      ranks_same 1 rs qs (omega (arith, one, other)) of_p.1 of_q.1 v

  -- so they are one where their references are
  claims_one : (p q : Claim) → IsClaimOf (game m) lines p → IsClaimOf (game m) others q → references p ≡ references q → p ≡ q
  claims_one (win inv funs) (win other others_funs) of_p of_q same =
      ap₂ (λ (n : ℕ) (ns : List ℕ). win n ns) (ap (λ (xs : List ℕ). get_or xs 0 0) same) (ap (λ (xs : List ℕ). drop 1 xs) same)
  claims_one (win inv funs) (lose qs) of_p of_q same = absurd (of_p.0 (length qs) (of_q.0).forced)
  claims_one (lose rs) (win inv funs) of_p of_q same = absurd (of_q.0 (length rs) (of_p.0).forced)
  claims_one (lose rs) (lose qs) of_p of_q same = ap lose same

pub certificate_one : CertificateLaw
certificate_one m wide c d of_c of_d =
    let lines = lines_one _ c.lines d.lines (references c.claim) (references d.claim) of_c.lines of_d.lines (claims_same m of_c.form c.lines d.lines c.claim d.claim of_c.claim of_d.claim) in
    let claim : c.claim ≡ d.claim = claims_one m of_c.form c.lines d.lines c.claim d.claim of_c.claim of_d.claim lines.1 in
    let node : c.node ≡ d.node = (of_c.head).node ∙ sym (of_d.head).node in
    let registers : c.registers ≡ d.registers = (of_c.head).registers ∙ sym (of_d.head).registers in
    let early : c.early ≡ d.early = (of_c.head).early ∙ sym (of_d.head).early in
    let control : c.control ≡ d.control = (of_c.head).control ∙ sym (of_d.head).control in
    let late : c.late ≡ d.late = (of_c.head).late ∙ sym (of_d.head).late in
    let widths : c.widths ≡ d.widths = (of_c.head).widths ∙ sym (of_d.head).widths in
    λ i. record { node = node i; registers = registers i; early = early i; control = control i; late = late i; widths = widths i; lines = lines.0 i; claim = claim i }

pub text_one : TextLaw
text_one m wide text other a b = a.text_is ∙ ap cert_text (certificate_one m wide a.certificate b.certificate a.is_the b.is_the) ∙ sym b.text_is

pub none_too_long : LongLaw
none_too_long m wide text a long =
    let within = a.within in
    let longer = long.longer in
    let same : length text ≡ length (cert_text long.certificate) = ap (λ (t : List ℕ). length t) (a.text_is ∙ ap cert_text (certificate_one m wide a.certificate long.certificate a.is_the long.is_the)) in
    absurd (omega (arith, within, longer, same))
