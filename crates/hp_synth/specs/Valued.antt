-- The game's sets as functions of valuations of numbered variables: registers, early, control, late.
use Rattle.std.specs.Prelude.{ℕ, zero, suc, ◌+◌, Bool, [], ◌∷◌}
use Rattle.hp_boolx.specs.Search.{Bits, Set}
use Rattle.hp_boolx.specs.Game.{Game, joined}

abbrev pub Valued : Type 0
Valued = ℕ → Bool

abbrev pub Fun : Type 0
Fun = Valued → Bool

-- a valuation of a table's variables as one of a machine's, of which each stands at a place
abbrev pub through : (ℕ → ℕ) → Valued → Valued
through place v x = v (place x)

-- a function of a machine's variables, in a table where each stands at a place
abbrev pub over : (ℕ → ℕ) → Fun → Fun
over place f v = f (through place v)

-- the values of so many variables, from one on
abbrev pub read : ℕ → ℕ → Valued → Bits
read from zero v = []
read from (suc n) v = v from ∷ read (suc from) n v

module _ (g : Game) where
  abbrev pub early_from : ℕ
  early_from = g.registers

  abbrev pub control_from : ℕ
  control_from = g.registers + g.early

  abbrev pub late_from : ℕ
  late_from = g.registers + g.early + g.control

  abbrev pub total : ℕ
  total = g.registers + g.early + g.control + g.late

  abbrev pub states : Valued → Bits
  states v = read 0 g.registers v

  abbrev pub earlies : Valued → Bits
  earlies v = read early_from g.early v

  abbrev pub controls : Valued → Bits
  controls v = read control_from g.control v

  abbrev pub lates : Valued → Bits
  lates v = read late_from g.late v

  -- the valuation of all variables
  abbrev pub all : Valued → Bits
  all v = joined (states v) (earlies v) (controls v) (lates v)

  abbrev pub OfState : Set → Fun
  OfState X v = X (states v)

  abbrev pub OfEarly : (Bits → Set) → Fun
  OfEarly Y v = Y (states v) (earlies v)

  abbrev pub OfChoice : (Bits → Bits → Set) → Fun
  OfChoice Z v = Z (states v) (earlies v) (controls v)
