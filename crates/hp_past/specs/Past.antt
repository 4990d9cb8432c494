-- What past-time formulas say of instants, the newest first.
-- Source: Lichtenstein, Pnueli and Zuck, "The glory of the past" (Logics of Programs 1985).
use Rattle.std.specs.Prelude.{◌≡◌, List, ◌∷◌, ◌++◌}
use Rattle.hp_tree.specs.Reaction.{Each}

module _ {A : Type 0} where
  -- it is so at some instant
  pub record Once (P : A → Type 0) (instants : List A) : Type 0 where
    pub newer : List A
    pub instant : A
    pub older : List A
    pub among : instants ≡ newer ++ instant ∷ older
    pub holds : P instant

  -- it is so at each instant
  abbrev pub Historically : (A → Type 0) → List A → Type 0
  Historically P instants = Each P instants

  -- the second is so at some instant, and the first at each newer one
  pub record Since (P Q : A → Type 0) (instants : List A) : Type 0 where
    pub newer : List A
    pub instant : A
    pub older : List A
    pub among : instants ≡ newer ++ instant ∷ older
    pub begins : Q instant
    pub holds : Each P newer
