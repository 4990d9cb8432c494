-- A lost machine in a table: words for the contracts of private functions.
-- Source: own.
use Rattle.std.specs.Prelude.{◌≡◌, ◌↔◌, ◌⊎◌, ⊤, ℕ, zero, suc, Bool, List, [], ◌∷◌, length, map, slice_index_or, IsTrue, IsFalse}
use Rattle.hp_boolx.specs.Game.{Game, Forced, ValidChoice, ValidLate, joined}
use Rattle.hp_boolx.specs.Search.{Bits, Set}
use Rattle.hp_boolx.specs.Solved.{IsLose}
use Rattle.hp_diagram.specs.declared.reference.Ref.{Ref}
use Rattle.hp_diagram.specs.Diagrams.{Diagrams, Has, function, zero_ref}
use Rattle.hp_synth.specs.Kept.{AllMean}
use Rattle.hp_synth.specs.Layouts.{place, IsLayout}
use Rattle.hp_synth.specs.Rounds.{IsCounts}
use Rattle.hp_synth.specs.Sought.{base_at}
use Rattle.hp_synth.specs.Valued.{Valued, read, states, earlies, controls, lates, through, over, OfState}
use Rattle.hp_play.specs.Plays.{IsInstant, LosesIn}
use Rattle.hp_play.specs.declared.losing.Field.{Field}
use Rattle.hp_play.specs.declared.losing.Threat.{Threat}

-- the reference of a rank, of which rank 0 is empty
abbrev pub rank_ref : List Ref → ℕ → Ref
rank_ref ranks zero = zero_ref
rank_ref ranks (suc k) = slice_index_or ranks k zero_ref

-- the valuations in which the variable at a place has this value
pub record IsLiteral (t : Diagrams) (y : ℕ) (value : Bool) (r : Ref) : Type 0 where
  pub has : Has t r
  pub is : (v : Valued) → IsTrue (function t r v) ↔ (v y ≡ value)

-- the valuations in which the variables from one on have these values
pub record AreValues (place : ℕ → ℕ) (t : Diagrams) (from : ℕ) (values : Bits) (r : Ref) : Type 0 where
  pub has : Has t r
  pub are : (v : Valued) → IsTrue (function t r v) ↔ (read from (length values) (through place v) ≡ values)

module _ (g : Game) where
  -- the references are those of the game and of the states from which a violation is forced in one instant, in two, and so on
  pub record IsField (t : Diagrams) (f : Field) : Type 0 where
    pub layout : IsLayout t.vars f.layout
    pub counts : IsCounts g f.layout.counts
    pub roots : AllMean t (base_at (place f.layout) g) f.roots.items
    pub sets : List Set
    pub ranks : AllMean t (map (over (place f.layout)) (map (OfState g) sets)) f.ranks.items
    pub lose : IsLose g sets

  -- the references are those of the states from which a violation is forced in one instant, in two, and so on to the least number for the initial state
  abbrev pub AreRanks : Diagrams → List Ref → Type 0
  AreRanks t ranks = (Xs : List Set) × AllMean t (map (OfState g) Xs) ranks × IsLose g Xs

  -- a violation is forced within so many instants, and not within fewer
  abbrev pub Exactly : ℕ → Bits → Type 0
  Exactly zero r = ⊥
  Exactly (suc n) r = Forced g (suc n) r × (Forced g n r → ⊥)

  -- by a choice no violation comes at once, nor one that is forced within fewer instants than these
  abbrev pub IsSlow : ℕ → Bits → Bits → Bits → Type 0
  IsSlow zero r u c = ⊤
  IsSlow (suc n) r u c = (w : Bits) → ValidLate g r u c w → IsTrue (g.hyp (joined r u c w)) → IsTrue (g.duty (joined r u c w)) × (Forced g n (g.next (joined r u c w)) → ⊥)

  -- The values of an instant behind which so many are left: every choice loses, this one as late as any, and the late values go on to a violation.
  pub record IsMove (left : ℕ) (r u c w : Bits) : Type 0 where
    pub loses : LosesIn g left r u
    pub choice : ValidChoice g r u c
    pub late : ValidLate g r u c w
    pub hyp : IsTrue (g.hyp (joined r u c w))
    pub comes : IsFalse (g.duty (joined r u c w)) ⊎ Forced g left (g.next (joined r u c w))
    pub slow : IsSlow left r u c

  -- instants from one state to another, at each of which the duty holds
  abbrev pub IsPlayTo : Bits → List Bits → Bits → Type 0
  IsPlayTo r [] s = s ≡ r
  IsPlayTo r (v ∷ vs) s = IsInstant g r v × IsTrue (g.duty v) × IsPlayTo (g.next v) vs s

  -- the duty fails where no instant is left, and else it holds, and as many instants are needed as are left
  abbrev pub Leads : ℕ → Bits → Type 0
  Leads zero v = IsFalse (g.duty v)
  Leads (suc n) v = IsTrue (g.duty v) × Exactly (suc n) (g.next v)

  -- the valuations whose early values force a violation with so many instants left, and those that are moves
  pub record IsThreat (place : ℕ → ℕ) (left : ℕ) (t : Diagrams) (threat : Threat) : Type 0 where
    pub forcing : Has t threat.forcing
    pub moves : Has t threat.moves
    pub forces : (v : Valued) → IsTrue (function t threat.forcing v) ↔ LosesIn g left (states g (through place v)) (earlies g (through place v))
    pub leads : (v : Valued) → IsTrue (function t threat.moves v) ↔ IsMove left (states g (through place v)) (earlies g (through place v)) (controls g (through place v)) (lates g (through place v))
