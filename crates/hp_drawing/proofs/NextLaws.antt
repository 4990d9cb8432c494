-- What registers hold next.
use Rattle.std.proofs.Common.{◌≡◌, ℕ, zero, suc, ◌<◌, ◌≤◌, get_or, length, List, [], ◌∷◌, slice_set, refl, ap, ◌∙◌, arith}
use Rattle.hp_circuit.specs.declared.circuit.Slot.{Slot}
use Rattle.hp_drawing.specs.Sketch.{with_next, set_next_at}

pub next-set : (xs : List Slot) (i : ℕ) (x y : Slot) (next : ℕ) → i < length xs → x ≡ get_or xs i x → y ≡ with_next x next → slice_set xs i y ≡ set_next_at xs i next
next-set [] i x y next h p e = refl
next-set (z ∷ xs) zero x y next h p e = ap (λ v. v ∷ xs) (e ∙ ap (λ v. with_next v next) p)
next-set (z ∷ xs) (suc i) x y next h p e = ap (λ more. z ∷ more) (next-set xs i x y next (omega arith) p e)

pub next-beyond : (xs : List Slot) (i next : ℕ) → length xs ≤ i → xs ≡ set_next_at xs i next
next-beyond [] i next h = refl
next-beyond (z ∷ xs) zero next h = absurd (let e : ⊥ = omega arith in e)
next-beyond (z ∷ xs) (suc i) next h = ap (λ more. z ∷ more) (next-beyond xs i next (omega arith))
