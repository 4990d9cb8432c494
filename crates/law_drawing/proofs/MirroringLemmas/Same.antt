-- Numbers in bits are said twice, of contracts and of circuits: they are the same.
use Rattle.std.proofs.Common.{◌≡◌, ℕ, zero, suc, ◌+◌, ◌-◌, nat_le, Bool, if◌then◌else◌, List, [], ◌∷◌, length, refl, ap, ap₂, ◌∙◌}
use Rattle.hp_circuit.specs.Numbers as circuit
use Rattle.hp_meaning.specs.Contract.Codes as contract

pub pow2-same : (w : ℕ) → circuit.pow2 w ≡ contract.pow2 w
pow2-same zero = refl
pow2-same (suc w) = ap₂ (λ a b. a + b) (pow2-same w) (pow2-same w)

width_from-same : (tries w m : ℕ) → circuit.width_from tries w m ≡ contract.width_from tries w m
width_from-same zero w m = refl
width_from-same (suc tries) w m = λ j. if nat_le m (pow2-same w j) then w else width_from-same tries (suc w) m j

pub width-same : (m : ℕ) → circuit.width m ≡ contract.width m
width-same m = width_from-same m 0 m

pub to_bits-same : (w k : ℕ) → circuit.to_bits w k ≡ contract.to_bits w k
to_bits-same zero k = refl
to_bits-same (suc w) k =
    (λ j. nat_le (pow2-same w j) k ∷ circuit.to_bits w (if nat_le (pow2-same w j) k then k - pow2-same w j else k))
    ∙ ap (λ bs. nat_le (contract.pow2 w) k ∷ bs) (to_bits-same w (if nat_le (contract.pow2 w) k then k - contract.pow2 w else k))

pub number-same : (bs : List Bool) → circuit.number bs ≡ contract.number bs
number-same [] = refl
number-same (b ∷ bs) = λ j. (if b then pow2-same (length bs) j else 0) + number-same bs j
