-- References with their functions, and tables that hold nothing else.
use Rattle.std.specs.Prelude.{◌≡◌, ◌⊎◌, ◌<◌, ⊤, List, [], ◌∷◌, length}
use Rattle.hp_diagram.specs.declared.reference.Ref.{Ref}
use Rattle.hp_diagram.specs.Diagrams.{Diagrams, Has, Means}
use Rattle.hp_quant.specs.Sweeps.{Reaches}
use Rattle.hp_synth.specs.Building.{HasEach}
use Rattle.hp_synth.specs.Valued.{Fun}

-- each reference has its function, in order
abbrev pub AllMean : Diagrams → List Fun → List Ref → Type 0
AllMean t [] [] = ⊤
AllMean t (f ∷ fs) (r ∷ rs) = Means t f r × AllMean t fs rs
AllMean t fs rs = ⊥

-- one of some references reaches another
abbrev pub ReachedBy : Diagrams → List Ref → Ref → Type 0
ReachedBy t [] s = ⊥
ReachedBy t (r ∷ rs) s = Reaches t r s ⊎ ReachedBy t rs s

-- a table has the ends, and nothing else but what some references reach
abbrev pub HoldsOnly : Diagrams → List Ref → Type 0
HoldsOnly t rs = (s : Ref) → Has t s → (s.index < 2) ⊎ ReachedBy t rs s

-- A table is swept: references have the functions that those before had, and nothing else is left.
pub record AreSwept (old new : Diagrams) (before after : List Ref) : Type 0 where
  pub vars : new.vars ≡ old.vars
  pub len : length after ≡ length before
  pub has : HasEach new after
  pub functions : (fs : List Fun) → AllMean old fs before → AllMean new fs after
  pub only : HoldsOnly new after

-- The references have the functions that those before had, in order.
pub record AreCarried (old new : Diagrams) (before after : List Ref) : Type 0 where
  pub vars : new.vars ≡ old.vars
  pub len : length after ≡ length before
  pub functions : (fs : List Fun) → AllMean old fs before → AllMean new fs after
