-- What layers say of names.
use Rattle.std.proofs.Common.{◌≡◌, ℕ, zero, suc, ◌<◌, List, [], ◌∷◌, length, drop, slice_index_or, ap, ◌∙◌, arith}
use Rattle.std.specs.Prelude.{Option, None, Some}
use Rattle.hp_clocks.specs.declared.layer.Layer.{Layer}
use Rattle.hp_clocks.specs.Layers.{says, said}

abbrev or_says : Option ℕ → Option ℕ → Option ℕ
or_says inner o = elim inner [ None ↦ o | Some n ↦ Some n ]

-- What one layer says, where none inside of it says anything.
pub said_here : (ls : List Layer) (i : ℕ) (x : List ℕ) (n : ℕ) (d : Layer) → i < length ls → said (drop (suc i) ls) x ≡ None → says (slice_index_or ls i d) x ≡ Some n → said ls x ≡ Some n
said_here [] i x n d h s e = absurd (omega (arith, h))
said_here (l ∷ ls) zero x n d h s e = ap (λ z. or_says z (says l x)) s ∙ e
said_here (l ∷ ls) (suc i) x n d h s e = ap (λ z. or_says z (says l x)) (said_here ls i x n d (omega (arith, h)) s e)
