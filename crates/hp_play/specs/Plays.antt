-- Plays of the game on a Boolean machine that end in a violation.
-- Source: own.
use Rattle.std.specs.Prelude.{◌≡◌, ◌≤◌, ◌+◌, ◌⊎◌, ⊤, ℕ, zero, suc, List, [], ◌∷◌, length, map, take, drop, IsTrue, IsFalse}
use Rattle.hp_boolx.specs.Game.{Game, Forced, Safe, ValidEarly, ValidChoice, ValidLate, joined}
use Rattle.hp_boolx.specs.Search.{Bits}
use Rattle.hp_play.specs.declared.instant.Instant.{Instant}
use Rattle.hp_play.specs.declared.instant.Outcome.{Outcome}
use Rattle.hp_play.specs.declared.instant.Outcome.TheVariants.{Kept, Lost}

-- the valuations of a play, one for each instant
abbrev pub valuations : List Instant → List Bits
valuations is = map (λ i. i.values.items) is

module _ (g : Game) where
  -- the state and the early values of a valuation
  abbrev pub state_in : Bits → Bits
  state_in v = take g.registers v

  abbrev pub early_in : Bits → Bits
  early_in v = take g.early (drop g.registers v)

  -- the valuation of all variables is one of this state, it is valid, and the hypothesis holds
  pub record IsInstant (r v : Bits) : Type 0 where
    pub many : length v ≡ g.registers + g.early + g.control + g.late
    pub state : state_in v ≡ r
    pub valid : IsTrue (g.valid v)
    pub hyp : IsTrue (g.hyp v)

  -- From a state each instant leads to the next one; the duty holds before the last one, and fails there.
  abbrev pub IsPlayFrom : Bits → List Bits → Type 0
  IsPlayFrom r [] = ⊥
  IsPlayFrom r (v ∷ []) = IsInstant r v × IsFalse (g.duty v)
  IsPlayFrom r (v ∷ w ∷ vs) = IsInstant r v × IsTrue (g.duty v) × IsPlayFrom (g.next v) (w ∷ vs)

  -- by these early values a violation comes whatever is chosen: at once, or it is forced within so many further instants
  abbrev pub LosesIn : ℕ → Bits → Bits → Type 0
  LosesIn n r u =
      ValidEarly g r u
      × ((c : Bits) → ValidChoice g r u c → (w : Bits) × ValidLate g r u c w × IsTrue (g.hyp (joined r u c w)) × (IsFalse (g.duty (joined r u c w)) ⊎ Forced g n (g.next (joined r u c w))))

  -- so it is at each of so many instants, with those that are left
  abbrev pub LoseEach : ℕ → List Bits → Type 0
  LoseEach n [] = ⊤
  LoseEach zero (v ∷ vs) = ⊥
  LoseEach (suc n) (v ∷ vs) = LosesIn n (state_in v) (early_in v) × LoseEach n vs

  -- A play to a violation, in which no choice helps at any instant; in fewer instants none is forced.
  pub record IsLoss (vs : List Bits) : Type 0 where
    pub play : IsPlayFrom g.init vs
    pub loses : LoseEach (length vs) vs
    pub forced : Forced g (length vs) g.init
    pub least : (fewer : ℕ) → Forced g fewer g.init → length vs ≤ fewer

  abbrev pub IsOutcome : Outcome → Type 0
  IsOutcome Kept = Safe g g.init
  IsOutcome (Lost play) = IsLoss (valuations play.items)
