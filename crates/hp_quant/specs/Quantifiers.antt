-- There is a value, and for all values, of marked variables and of ranges of variables.
use Rattle.std.specs.Prelude.{◌≡◌, ◌↔◌, ◌⊎◌, ℕ, ◌<◌, ◌≤◌, Bool, false, IsTrue, ◌||◌, List}
use Rattle.hp_diagram.specs.declared.reference.Ref.{Ref}
use Rattle.hp_diagram.specs.Diagrams.{Diagrams, function, Has}
use Rattle.hp_quant.specs.Turns.{marked}

-- the valuations differ at most at the marked variables
abbrev pub DifferAt : List Bool → (ℕ → Bool) → (ℕ → Bool) → Type 0
DifferAt of v w = (x : ℕ) → marked of x ≡ false → v x ≡ w x

-- some values of the marked variables make it true
abbrev pub SomeAt : List Bool → ((ℕ → Bool) → Bool) → (ℕ → Bool) → Type 0
SomeAt of f v = (w : ℕ → Bool) × DifferAt of v w × IsTrue (f w)

-- all values of the marked variables make it true
abbrev pub AllAt : List Bool → ((ℕ → Bool) → Bool) → (ℕ → Bool) → Type 0
AllAt of f v = (w : ℕ → Bool) → DifferAt of v w → IsTrue (f w)

module _ (old new : Diagrams) (of : List Bool) (r s : Ref) where
  -- s is true where some values of the marked variables make r true
  pub record IsSomeAt : Type 0 where
    pub has : Has new s
    pub value : (v : ℕ → Bool) → IsTrue (function new s v) ↔ SomeAt of (function old r) v

  -- s is true where all values of the marked variables make r true
  pub record IsAllAt : Type 0 where
    pub has : Has new s
    pub value : (v : ℕ → Bool) → IsTrue (function new s v) ↔ AllAt of (function old r) v

-- s is true where some values of the marked variables make f or g true
pub record IsEitherAt (old new : Diagrams) (of : List Bool) (f g s : Ref) : Type 0 where
  pub has : Has new s
  pub value : (v : ℕ → Bool) → IsTrue (function new s v) ↔ SomeAt of (λ w. function old f w || function old g w) v

-- the variables from `from` up to, not including, `to` are marked, and no others
pub record MarksRange (of : List Bool) (from to : ℕ) : Type 0 where
  pub inside : (x : ℕ) → from ≤ x → x < to → IsTrue (marked of x)
  pub outside : (x : ℕ) → (x < from) ⊎ (to ≤ x) → marked of x ≡ false

-- the valuations differ at most at the variables from `from` up to, not including, `to`
abbrev pub DifferWithin : ℕ → ℕ → (ℕ → Bool) → (ℕ → Bool) → Type 0
DifferWithin from to v w = (x : ℕ) → (x < from) ⊎ (to ≤ x) → v x ≡ w x

module _ (old new : Diagrams) (from to : ℕ) (r s : Ref) where
  -- s is true where some values of the range make r true
  pub record IsExists : Type 0 where
    pub has : Has new s
    pub value : (v : ℕ → Bool) → IsTrue (function new s v) ↔ ((w : ℕ → Bool) × DifferWithin from to v w × IsTrue (function old r w))

  -- s is true where all values of the range make r true
  pub record IsForall : Type 0 where
    pub has : Has new s
    pub value : (v : ℕ → Bool) → IsTrue (function new s v) ↔ ((w : ℕ → Bool) → DifferWithin from to v w → IsTrue (function old r w))
