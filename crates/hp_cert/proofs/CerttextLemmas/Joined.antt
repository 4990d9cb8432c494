-- The pieces of a text are all of it.
use Rattle.std.proofs.Common.{◌≡◌, ℕ, Bool, true, false, List, [], ◌∷◌, if◌then◌else◌, refl, ap, ◌∙◌}
use Rattle.hp_cert.specs.Certtext.Pieces.{Pieces, is_gap, in_word, begins_word, pieces, joined}

pub pieces_gap : (b : ℕ) (text : List ℕ) → is_gap b ≡ true → pieces (b ∷ text) ≡ (b ∷ []) ∷ pieces text
pieces_gap b text e = ap (λ d. if d then (b ∷ []) ∷ pieces text else in_word b (begins_word text) (pieces text)) e

pub pieces_word : (b : ℕ) (text : List ℕ) → is_gap b ≡ false → pieces (b ∷ text) ≡ in_word b (begins_word text) (pieces text)
pieces_word b text e = ap (λ d. if d then (b ∷ []) ∷ pieces text else in_word b (begins_word text) (pieces text)) e

joined_in : (b : ℕ) (d : Bool) (ws : Pieces) → joined (in_word b d ws) ≡ b ∷ joined ws
joined_in b true [] = refl
joined_in b true (w ∷ ws) = refl
joined_in b false ws = refl

pub joined_pieces : (text : List ℕ) → joined (pieces text) ≡ text
joined_pieces [] = refl
joined_pieces (b ∷ text) = by (is_gap b) refl (joined_pieces text)
  where
    by : (d : Bool) → is_gap b ≡ d → joined (pieces text) ≡ text → joined (pieces (b ∷ text)) ≡ b ∷ text
    by true e h = ap joined (pieces_gap b text e) ∙ ap (λ r. b ∷ r) h
    by false e h = ap joined (pieces_word b text e) ∙ joined_in b (begins_word text) (pieces text) ∙ ap (λ r. b ∷ r) h
