-- Numbers of the wires of a circuit as it is drawn: one for each wire so far, which its definition gives of the others.
use Rattle.std.specs.Prelude.{ℕ, ◌≡◌, ⊤, nat_eq, not, ◌&&◌, ◌||◌, if◌then◌else◌, List, [], ◌∷◌, Some}
use Rattle.std.specs.List.{slice_get}
use Rattle.hp_circuit.specs.declared.circuit.Wire.{Wire}
use Rattle.hp_circuit.specs.declared.circuit.Wire.TheVariants as wire
use Rattle.hp_circuit.specs.Meaning.{holds, truth}

-- there is such a wire, and it has this number
abbrev pub Has : List ℕ → ℕ → ℕ → Type 0
Has ns w k = slice_get ns w ≡ Some k

-- what a wire is defined by gives a number: the wires that it names have numbers, of which it is
abbrev pub Gives : (ℕ → ℕ) → List ℕ → Wire → ℕ → Type 0
Gives slot ns (wire.Slot i) k = k ≡ slot i
Gives slot ns (wire.Constant c) k = k ≡ c
Gives slot ns (wire.Copy a) k = Has ns a k
Gives slot ns (wire.Not a) k = (x : ℕ) × Has ns a x × (k ≡ truth (not (holds x)))
Gives slot ns (wire.And a b) k = (x : ℕ) × (y : ℕ) × Has ns a x × Has ns b y × (k ≡ truth (holds x && holds y))
Gives slot ns (wire.Or a b) k = (x : ℕ) × (y : ℕ) × Has ns a x × Has ns b y × (k ≡ truth (holds x || holds y))
Gives slot ns (wire.Xor a b) k = (x : ℕ) × (y : ℕ) × Has ns a x × Has ns b y × (k ≡ truth (if holds x then not (holds y) else holds y))
Gives slot ns (wire.Equal a b) k = (x : ℕ) × (y : ℕ) × Has ns a x × Has ns b y × (k ≡ truth (nat_eq x y))
Gives slot ns (wire.Is a c) k = (x : ℕ) × Has ns a x × (k ≡ truth (nat_eq x c))
Gives slot ns (wire.If t a b) k = (z : ℕ) × (x : ℕ) × (y : ℕ) × Has ns t z × Has ns a x × Has ns b y × (k ≡ (if holds z then x else y))

-- each of some wires has its number, by what all wires have
abbrev pub Solved : (ℕ → ℕ) → List ℕ → List Wire → List ℕ → Type 0
Solved slot ns [] [] = ⊤
Solved slot ns (w ∷ ws) (k ∷ ks) = Gives slot ns w k × Solved slot ns ws ks
Solved slot ns ws ks = ⊥
