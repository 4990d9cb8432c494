use Rattle.std.proofs.Common.{◌≡◌, ℕ, ◌<◌, false, ◌∷◌, max, take, length, ap, sym, ◌∙◌, arith, eqb, inl, inr}
use Rattle.std.proofs.lemmas.Bool.Decides.{eqb_tells}
use Rattle.hp_cert.specs.Certtext.Pieces.{pieces}
use Rattle.hp_cert.proofs.CerttextLemmas.PieceLaws.{splits_text}
use Rattle.hp_cert.proofs.certtext.piece.first_piece.Goals as goal

positive : (n : ℕ) → false ≡ eqb n 0 → 0 < n
positive n h = elim (eqb_tells n 0) [ inl p ↦ absurd (cc) | inr p ↦ grind arith ]

pub returns-clause-pieces : goal.returns-clause-pieces
returns-clause-pieces c =
    let text = c.args.text.now in
    let n = c.max-length.result in
    splits_text text n (positive (length text) c.if-is_empty.ensures) (c.max-length.ensures ∙ ap (λ m. max m 1) c.word_length.ensures)
    ∙ sym (ap (λ z. z ∷ pieces c.split_at.result.1.now) c.split_at.ensures.front ∙ ap (λ z. take n text ∷ pieces z) c.split_at.ensures.back)
