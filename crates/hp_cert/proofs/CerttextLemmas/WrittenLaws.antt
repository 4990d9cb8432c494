-- Texts that grow piece by piece.
use Rattle.std.proofs.Common.{◌≡◌, ℕ, List, [], ◌∷◌, ◌++◌, refl, sym, ap, ◌∙◌, append_assoc, append-nil}
use Rattle.hp_cert.specs.Certtext.Pieces.{Piece, Pieces, joined}
use Rattle.hp_cert.specs.Certtext.Written.{written}

pub joined_append : (us vs : Pieces) → joined (us ++ vs) ≡ joined us ++ joined vs
joined_append [] vs = refl
joined_append (u ∷ us) vs = ap (λ r. u ++ r) (joined_append us vs) ∙ sym (append_assoc u (joined us) (joined vs))

pub written_none : (text : List ℕ) → written text [] ≡ text
unfolding written
written_none text = append-nil text

pub written_more : (text : List ℕ) (us vs : Pieces) → written (written text us) vs ≡ written text (us ++ vs)
unfolding written
written_more text us vs = append_assoc text (joined us) (joined vs) ∙ ap (λ r. text ++ r) (sym (joined_append us vs))

pub written_piece : (text : List ℕ) (p : Piece) → text ++ p ≡ written text (p ∷ [])
unfolding written
written_piece text p = ap (λ r. text ++ r) (sym (append-nil p))

pub ruleset writing = (written_none, written_more, written_piece)

pub written_start : (text : List ℕ) (ps : Pieces) → text ≡ [] → written text ps ≡ joined ps
unfolding written
written_start text ps e = ap (λ z. z ++ joined ps) e
