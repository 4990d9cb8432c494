-- Short names.
use Rattle.std.proofs.Common.{rules, ◌≡◌, ℕ, zero, suc, ◌<◌, ◌≤◌, List, [], ◌∷◌, ◌++◌, length, arith}
use Rattle.std.proofs.Math.ListN.{get_or}
use Rattle.std.specs.List.{All}
use Rattle.std.proofs.lemmas.List.Elements.{All-append, All-get_or}
use Rattle.hp_parser.specs.declared.reader.Word.{Word}
use Rattle.hp_parser.specs.Nesting.{AreShort}

pub short_none : AreShort []
short_none = record { short = search rules }

one_short : (w : Word) → length w.text.now ≤ 255 → All (λ (v : Word). length v.text.now ≤ 255) (w ∷ [])
one_short w h zero d l = h
one_short w h (suc k) d l = absurd (omega (arith, l))

pub short_pushed : (words : List Word) (w : Word) → AreShort words → length w.text.now ≤ 255 → AreShort (words ++ (w ∷ []))
short_pushed words w h k = record { short = All-append (λ (v : Word). length v.text.now ≤ 255) words (w ∷ []) h.short (one_short w k) }

pub short_at : (words : List Word) (i : ℕ) (d : Word) → i < length words → AreShort words → length (get_or words i d).text.now ≤ 255
short_at words i d h k = All-get_or (λ (v : Word). length v.text.now ≤ 255) words i d h k.short
