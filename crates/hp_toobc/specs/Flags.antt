-- Tables of flags.
use Rattle.std.specs.Prelude.{ℕ, Bool, true, false, List, [], ◌∷◌, ◌++◌}
use Rattle.std.proofs.Math.ListN.{set}
use Rattle.hp_flat.specs.Equations.{FlatEqn}
use Rattle.hp_toobc.specs.Making.{named}

-- the flags of some numbers are set
abbrev pub marked : Bool → List ℕ → List Bool → List Bool
marked value [] flags = flags
marked value (n ∷ ns) flags = marked value ns (set flags n value)

-- the flags of all variables that equations define or read are set
abbrev pub all_marked : List FlatEqn → List Bool → List Bool
all_marked [] flags = flags
all_marked (e ∷ es) flags = all_marked es (marked true (named e) flags)

-- an element, where it has a flag
abbrev pub one_if : {A : Type 0} → Bool → A → List A
one_if true x = x ∷ []
one_if false x = []

-- the elements with a flag
abbrev pub flagged : {A : Type 0} → List Bool → List A → List A
flagged (flag ∷ flags) (x ∷ xs) = one_if flag x ++ flagged flags xs
flagged flags xs = []
