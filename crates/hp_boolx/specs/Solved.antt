-- What a solver answers, and what certificates say, over sets of states as Boolean functions.
use Rattle.std.specs.Prelude.{ℕ, zero, suc, ◌≤◌, ◌⊎◌, ◌↔◌, Bool, false, not, ◌||◌, IsTrue, IsFalse, List, [], ◌∷◌, ◌++◌, length, slice_index_or}
use Rattle.hp_boolx.specs.Search.{Bits, Set, every_of}
use Rattle.hp_boolx.specs.Game.{Game, joined, IsState, ValidLate, ValidChoice, ValidEarly, Forced, Safe, Permitted, permitted, valid_early, attract, forced, IsPreferred}

-- rank 0 and what is behind the last rank are empty
abbrev pub rank : List Set → ℕ → Set
rank ranks zero = λ r. false
rank ranks (suc k) = slice_index_or ranks k (λ r. false)

module _ (g : Game) where
  -- ---- what a solver answers

  -- nothing is forced at first, and the set is exactly the safe states
  pub record IsWin (inv : Set) : Type 0 where
    pub init : Safe g g.init
    pub exact : (r : Bits) → IsState g r → IsTrue (inv r) ↔ Safe g r

  -- rank k, from 1, is exactly the states from which a violation is forced in k instants, and there are no more ranks than the initial state needs
  pub record IsLose (ranks : List Set) : Type 0 where
    pub init : Forced g (length ranks) g.init
    pub least : (n : ℕ) → Forced g n g.init → length ranks ≤ n
    pub exact : (k : ℕ) → k ≤ length ranks → (r : Bits) → IsState g r → IsTrue (rank ranks k r) ↔ Forced g k r

  -- the sets of the first rounds
  abbrev pub ranks_of : ℕ → List Set
  ranks_of zero = []
  ranks_of (suc n) = ranks_of n ++ forced g (suc n) ∷ []

  -- the choice of a controller at a state and early values
  abbrev pub IsChoice : Bits → Bits → Bits → Type 0
  IsChoice r u c = IsPreferred g.prefer (Permitted g r u) c

  -- ---- certificates

  -- from a state of the set the functions give a valid choice, and then the hypothesis gives the duty and a state of the set
  pub record IsWinCertificate (inv : Set) (funs : Bits → Bits → Bits) : Type 0 where
    pub init : IsTrue (inv g.init)
    pub step : (r u : Bits) → IsState g r → IsTrue (inv r) → ValidEarly g r u → ValidChoice g r u (funs r u) × ((w : Bits) → ValidLate g r u (funs r u) w → IsTrue (g.hyp (joined r u (funs r u) w)) → IsTrue (g.duty (joined r u (funs r u) w)) × IsTrue (inv (g.next (joined r u (funs r u) w))))

  -- from a state of a rank a violation, or the rank below, can be forced by the next instant
  pub record IsLoseCertificate (ranks : List Set) : Type 0 where
    pub init : IsTrue (rank ranks (length ranks) g.init)
    pub step : (k : ℕ) (r : Bits) → IsState g r → IsTrue (rank ranks (suc k) r) → (u : Bits) × ValidEarly g r u × ((c : Bits) → ValidChoice g r u c → (w : Bits) × ValidLate g r u c w × IsTrue (g.hyp (joined r u c w)) × (IsFalse (g.duty (joined r u c w)) ⊎ IsTrue (rank ranks k (g.next (joined r u c w)))))

  -- what a checker decides: the step of a win, and that of a rank
  abbrev pub win_step : Set → (Bits → Bits → Bits) → Bool
  win_step inv funs = every_of g.registers (λ r. not (inv r) || every_of g.early (λ u. not (valid_early g r u) || permitted g (λ s. not (inv s)) r u (funs r u)))

  -- every state of `here` loses to `below`
  abbrev pub rank_step : Set → Set → Bool
  rank_step below here = every_of g.registers (λ r. not (here r) || attract g below r)
