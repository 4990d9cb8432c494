-- The game on a Boolean machine: the early values, then the controls, then the late values.
-- Source: Delaval, Marchand and Rutten (LCTES 2010), with late values besides.
use Rattle.std.specs.Prelude.{ℕ, zero, suc, ◌≡◌, ◌≢◌, ◌⊎◌, ⊤, Bool, true, false, not, ◌&&◌, ◌||◌, IsTrue, IsFalse, [], ◌∷◌, ◌++◌, length}
use Rattle.hp_boolx.specs.Search.{Bits, Set, some_of, every_of}

-- What the game sees of a machine: functions of a valuation of all its variables.
pub record Game : Type 0 where
  pub registers : ℕ
  pub early : ℕ
  pub control : ℕ
  pub late : ℕ
  pub prefer : Bits
  pub init : Bits
  pub next : Bits → Bits
  pub valid : Set
  pub hyp : Set
  pub duty : Set

pub record IsForm (g : Game) : Type 0 where
  pub prefer : length g.prefer ≡ g.control
  pub init : length g.init ≡ g.registers
  pub next : (v : Bits) → length (g.next v) ≡ g.registers

-- the valuation of all variables: registers, early, control, late
abbrev pub joined : Bits → Bits → Bits → Bits → Bits
joined r u c w = r ++ (u ++ (c ++ w))

module _ (g : Game) where
  abbrev pub IsState : Bits → Type 0
  IsState r = length r ≡ g.registers

  -- late values are valid where `valid` holds, controls where some late values are, early values where some controls are
  abbrev pub ValidLate : Bits → Bits → Bits → Bits → Type 0
  ValidLate r u c w = (length w ≡ g.late) × IsTrue (g.valid (joined r u c w))

  abbrev pub ValidChoice : Bits → Bits → Bits → Type 0
  ValidChoice r u c = (length c ≡ g.control) × ((w : Bits) × ValidLate r u c w)

  abbrev pub ValidEarly : Bits → Bits → Type 0
  ValidEarly r u = (length u ≡ g.early) × ((c : Bits) × ValidChoice r u c)

  -- A violation is forced within so many instants.
  abbrev pub Forced : ℕ → Bits → Type 0
  Forced zero r = ⊥
  Forced (suc n) r =
      (u : Bits) × ValidEarly r u
      × ((c : Bits) → ValidChoice r u c → (w : Bits) × ValidLate r u c w × IsTrue (g.hyp (joined r u c w)) × (IsFalse (g.duty (joined r u c w)) ⊎ Forced n (g.next (joined r u c w))))

  -- no violation is ever forced
  abbrev pub Safe : Bits → Type 0
  Safe r = (n : ℕ) → Forced n r → ⊥

  -- a choice is permitted where it is valid and, whatever the late values are, the hypothesis gives the duty and a safe next state
  abbrev pub Permitted : Bits → Bits → Bits → Type 0
  Permitted r u c = ValidChoice r u c × ((w : Bits) → ValidLate r u c w → IsTrue (g.hyp (joined r u c w)) → IsTrue (g.duty (joined r u c w)) × Safe (g.next (joined r u c w)))

  -- ---- the same, decided

  abbrev pub valid_choice : Bits → Bits → Set
  valid_choice r u c = some_of g.late (λ w. g.valid (joined r u c w))

  abbrev pub valid_early : Bits → Set
  valid_early r u = some_of g.control (valid_choice r u)

  -- the valuation is valid, and a violation comes by it at once or from the set that it leads to
  abbrev pub bad : Set → Set
  bad X v = g.valid v && (g.hyp v && (not (g.duty v) || X (g.next v)))

  -- whatever is chosen, some late values are bad
  abbrev pub loses : Set → Bits → Set
  loses X r u = every_of g.control (λ c. not (valid_choice r u c) || some_of g.late (λ w. bad X (joined r u c w)))

  -- one round: from where the set, or a violation, can be forced by the next instant
  abbrev pub attract : Set → Set
  attract X r = some_of g.early (λ u. valid_early r u && loses X r u)

  abbrev pub forced : ℕ → Set
  forced zero = λ r. false
  forced (suc n) = attract (forced n)

  -- a valid choice after which, whatever the late values are, nothing bad comes
  abbrev pub permitted : Set → Bits → Bits → Set
  permitted X r u c = valid_choice r u c && every_of g.late (λ w. not (bad X (joined r u c w)))

-- ---- preference

-- c is d, or has the preferred value at the first bit at which they differ
abbrev pub Before : Bits → Bits → Bits → Type 0
Before bs [] [] = ⊤
Before (b ∷ bs) (x ∷ c) (y ∷ d) = ((x ≡ y) × Before bs c d) ⊎ ((x ≢ y) × (x ≡ b))
Before bs c d = ⊥

-- the preferred list of so many Booleans among those of a kind; the preference itself where there are none
pub record IsPreferred (prefer : Bits) (P : Bits → Type 0) (c : Bits) : Type 0 where
  pub len : length c ≡ length prefer
  pub best : (d : Bits) → length d ≡ length prefer → P d → P c × Before prefer c d
  pub else_prefer : ((d : Bits) → length d ≡ length prefer → P d → ⊥) → c ≡ prefer

-- bit by bit: a bit has its preferred value, unless only the other one leaves a list of the kind
abbrev pub first_bit : Bool → Bool → Bool → Bool
first_bit true some_high some_low = some_high || not some_low
first_bit false some_high some_low = some_high && not some_low

abbrev pub preferred : Bits → Set → Bits
preferred [] p = []
preferred (b ∷ bs) p =
    first_bit b (some_of (length bs) (λ c. p (true ∷ c))) (some_of (length bs) (λ c. p (false ∷ c)))
    ∷ preferred bs (λ c. p (first_bit b (some_of (length bs) (λ c. p (true ∷ c))) (some_of (length bs) (λ c. p (false ∷ c))) ∷ c))
