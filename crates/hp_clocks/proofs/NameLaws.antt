-- What is told of a name that is read.
use Rattle.std.proofs.Common.{◌≡◌, ℕ, ◌<◌, List, [], ◌∷◌, length, refl, sym, ap, ◌∙◌, subst, arith}
use Rattle.std.specs.Prelude.{Option, None, Some}
use Rattle.hp_tree.specs.Instant.{Clock}
use Rattle.hp_meaning.specs.Causal.Clocked.{base_alone}
use Rattle.hp_clocks.specs.declared.cell.Cell.{Cell}
use Rattle.hp_clocks.specs.declared.layer.Seen.TheVariants as seen
use Rattle.hp_clocks.specs.Cells.{on_base, told_at, Clocks, Fits, AreCells, Tells, Never}
use Rattle.hp_clocks.specs.Scopes.{Sight, seen_clock, standing, IsThere, AreThere, IsClockOf}
use Rattle.hp_clocks.proofs.CellLaws.{says}
use Rattle.hp_clocks.proofs.Arrays.{is_same}
use Rattle.hp_clocks.proofs.Unifying.{tells_like}
use Rattle.hp_base.specs.declared.span.Span.{Span}
use Rattle.hp_tree.specs.Expressions.{last_of}
use Rattle.hp_meaning.specs.Causal.Clocked.{IsOn}
use Rattle.hp_clocks.specs.Scopes.{Grows}
use Rattle.hp_clocks.proofs.Growing.{tells_then, grows_of_tells}

some_same : (c d : Clock) → Some c ≡ Some d → c ≡ d
some_same c d e = ap (or_else c) e
  where
    or_else : Clock → Option Clock → Clock
    or_else k None = k
    or_else k (Some z) = z

-- a name of further out is on the base clock, and counts as on this block's
based : (c d : Clock) → base_alone (Some c) ≡ Some d → (c ≡ []) × (d ≡ [])
based [] d e = (refl, sym (some_same [] d e))
based (o ∷ c) d e = absurd (cc e)

both_based : (c d : Clock) → c ≡ [] → d ≡ [] → base_alone (Some c) ≡ Some d
both_based c d e f = ap (λ z. base_alone (Some z)) e ∙ ap Some (sym f)

module _ (cs : List Cell) (a : AreCells cs) (x : List ℕ) (sight : Sight) where
  zero_is_base : (at : Clocks) → Fits (told_at cs) at → at 0 ≡ []
  zero_is_base at f = says is_same (told_at cs) at f 0 on_base a.base

  pub nowhere_never : (t : ℕ) → sight x ≡ seen.Nowhere → Never cs (λ at. standing at sight x ≡ Some (at t))
  nowhere_never t e at f h = absurd (cc (sym (ap (seen_clock at) e) ∙ h))

  pub own_tells : (ds : List Cell) (i t : ℕ) → sight x ≡ seen.Own i → Tells cs ds (λ at. at i ≡ at t) → Tells cs ds (λ at. standing at sight x ≡ Some (at t))
  own_tells ds i t e k =
      tells_like cs ds (λ at. at i ≡ at t) (λ at. standing at sight x ≡ Some (at t)) k
      (λ at f h. ap (seen_clock at) e ∙ ap Some h)
      (λ at f h. some_same (at i) (at t) (sym (ap (seen_clock at) e) ∙ h))

  pub own_never : (i t : ℕ) → sight x ≡ seen.Own i → Never cs (λ at. at i ≡ at t) → Never cs (λ at. standing at sight x ≡ Some (at t))
  own_never i t e n at f h = n at f (some_same (at i) (at t) (sym (ap (seen_clock at) e) ∙ h))

  further_both : (at : Clocks) → Fits (told_at cs) at → (i t : ℕ) → sight x ≡ seen.Further i → standing at sight x ≡ Some (at t) → (at i ≡ at 0) × (at t ≡ at 0)
  further_both at f i t e h =
      let b : (at i ≡ []) × (at t ≡ []) = based (at i) (at t) (sym (ap (seen_clock at) e) ∙ h) in
      (b.0 ∙ sym (zero_is_base at f), b.1 ∙ sym (zero_is_base at f))

  pub further_tells : (ds es : List Cell) (i t : ℕ) → sight x ≡ seen.Further i → Tells cs ds (λ at. at i ≡ at 0) → Tells ds es (λ at. at t ≡ at 0) → Tells cs es (λ at. standing at sight x ≡ Some (at t))
  further_tells ds es i t e k l =
      tells_like cs es (λ at. (at i ≡ at 0) × (at t ≡ at 0)) (λ at. standing at sight x ≡ Some (at t))
      (tells_then cs ds es (λ at. at i ≡ at 0) (λ at. at t ≡ at 0) k l)
      (λ at f h. ap (seen_clock at) e ∙ both_based (at i) (at t) (h.0 ∙ zero_is_base at f) (h.1 ∙ zero_is_base at f))
      (λ at f h. further_both at f i t e h)

  pub further_never : (i t : ℕ) → sight x ≡ seen.Further i → Never cs (λ at. at i ≡ at 0) → Never cs (λ at. standing at sight x ≡ Some (at t))
  further_never i t e n at f h = n at f (further_both at f i t e h).0

  pub further_never_then : (ds : List Cell) (i t : ℕ) → sight x ≡ seen.Further i → Tells cs ds (λ at. at i ≡ at 0) → Never ds (λ at. at t ≡ at 0) → Never cs (λ at. standing at sight x ≡ Some (at t))
  further_never_then ds i t e k n at f h = n at (k.fits at f (further_both at f i t e h).0) (further_both at f i t e h).1

  pub further_clock : (ds : List Cell) (i : ℕ) → sight x ≡ seen.Further i → Tells cs ds (λ at. at i ≡ at 0) → Tells cs ds (λ at. standing at sight x ≡ Some (at 0)) × IsClockOf cs sight x 0
  further_clock ds i e k = (
    tells_like cs ds (λ at. at i ≡ at 0) (λ at. standing at sight x ≡ Some (at 0)) k
        (λ at f h. ap (seen_clock at) e ∙ both_based (at i) (at 0) (h ∙ zero_is_base at f) (zero_is_base at f))
        (λ at f h. (further_both at f i 0 e h).0),
    λ at f d h. (based (at i) d (sym (ap (seen_clock at) e) ∙ h)).1 ∙ sym (zero_is_base at f),
  )

  pub own_there : (i : ℕ) → AreThere (length cs) sight → sight x ≡ seen.Own i → i < length cs
  own_there i h e = subst (IsThere (length cs)) e (h x)

  pub further_there : (i : ℕ) → AreThere (length cs) sight → sight x ≡ seen.Further i → i < length cs
  further_there i h e = subst (IsThere (length cs)) e (h x)

pub base_there : (cs : List Cell) → AreCells cs → 0 < length cs
base_there [] a = absurd (cc a.base)
base_there (c ∷ cs) a = omega arith

-- a last value is on the base clock
pub is_last : (sight : Sight) (cs ds : List Cell) (t : ℕ) (s : Span) (x : List ℕ) → AreCells cs → Tells cs ds (λ at. at t ≡ at 0) → Grows cs ds (λ at. IsOn (standing at sight) (last_of s x) (at t))
is_last sight cs ds t s x a k =
    grows_of_tells cs ds (λ at. IsOn (standing at sight) (last_of s x) (at t))
    (tells_like cs ds (λ at. at t ≡ at 0) (λ at. at t ≡ []) k (λ at f h. h ∙ says is_same (told_at cs) at f 0 on_base a.base) (λ at f h. h ∙ sym (says is_same (told_at cs) at f 0 on_base a.base)))
