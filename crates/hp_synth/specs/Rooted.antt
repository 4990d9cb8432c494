-- References under keys of a slab.
use Rattle.std.specs.Prelude.{◌≡◌, ◌⊎◌, ⊤, ℕ, List, [], ◌∷◌, Some}
use Rattle.slab.specs.Slab.{Slab, get}
use Rattle.hp_diagram.specs.declared.reference.Ref.{Ref}

-- the references are those under the keys, in order
abbrev pub AreAt : Slab Ref → List ℕ → List Ref → Type 0
AreAt slab [] [] = ⊤
AreAt slab (k ∷ ks) (r ∷ rs) = (get slab k ≡ Some r) × AreAt slab ks rs
AreAt slab ks rs = ⊥

-- a key is one of some
abbrev pub IsAmong : ℕ → List ℕ → Type 0
IsAmong key [] = ⊥
IsAmong key (k ∷ ks) = (k ≡ key) ⊎ IsAmong key ks

-- and no other key has a reference
pub record AreRooted (slab : Slab Ref) (keys : List ℕ) (refs : List Ref) : Type 0 where
  pub at : AreAt slab keys refs
  pub only : (key : ℕ) (r : Ref) → get slab key ≡ Some r → IsAmong key keys
