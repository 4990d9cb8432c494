-- A cycle of dependences is shortened to a cycle of reads.
use Rattle.std.proofs.Common.{◌≡◌, ℕ, zero, suc, ◌<◌, List, [], ◌∷◌, length, refl, subst, ◌⊎◌, inl, inr, ⊎_elim, arith}
use Rattle.hp_tree.specs.Programs.{Node}
use Rattle.hp_tree.specs.Instant.{Place}
use Rattle.hp_meaning.specs.Causal.Sources.{Sources, none, only, both, also, IsRead, IsSource, IsBeside}
use Rattle.hp_meaning.specs.Causal.Causality.{sources, Chain, DependsBy, IsCausal}

-- Reads carry clocks: what reads a value reads the names of its clock, or stands on that clock; and a name on a clock stands on a shorter one. So it is where the clocks of a node are right (`Clocks`).
pub record CarriesClocks (n : Node) : Type 0 where
  pub reads : (p q r : Place) → IsRead q (sources n p) → IsBeside r (sources n q) → IsSource r (sources n p)
  pub clocks : (p q r : Place) → IsBeside q (sources n p) → IsBeside r (sources n q) → IsBeside r (sources n p)
  pub no_own : (p : Place) → IsBeside p (sources n p) → ⊥

-- what is depended on is read, or depended on besides
pub either : (p : Place) (s : Sources) → IsSource p s → IsRead p s ⊎ IsBeside p s
either p none h = absurd h
either p (only q) h = inl h
either p (both s t) h =
    ⊎_elim (λ u. ⊎_elim (λ v. inl (inl v)) (λ v. inr (inl v)) (either p s u)) (λ u. ⊎_elim (λ v. inl (inr v)) (λ v. inr (inr v)) (either p t u)) h
either p (also s) h = inr h

read_source : (p : Place) (s : Sources) → IsRead p s → IsSource p s
read_source p none h = absurd h
read_source p (only q) h = h
read_source p (both s t) h = ⊎_elim (λ u. inl (read_source p s u)) (λ u. inr (read_source p t u)) h
read_source p (also s) h = absurd h

beside_source : (p : Place) (s : Sources) → IsBeside p s → IsSource p s
beside_source p none h = absurd h
beside_source p (only q) h = absurd h
beside_source p (both s t) h = ⊎_elim (λ u. inl (beside_source p s u)) (λ u. inr (beside_source p t u)) h
beside_source p (also s) h = h

module _ (n : Node) (k : CarriesClocks n) where
  abbrev Dep : Place → Place → Type 0
  Dep p q = IsSource q (sources n p)

  -- a chain of reads of at most m steps, one at least
  abbrev Read : Place → Place → ℕ → Type 0
  Read p end m = (qs : List Place) × Chain n p qs end × (length qs < m)

  -- the same, or no step
  abbrev Later : Place → Place → ℕ → Type 0
  Later p end m = (p ≡ end) ⊎ Read p end m

  -- Of a chain of dependences the first step alone is not a read.
  abbrev Shortened : Place → Place → ℕ → Type 0
  Shortened p end m = Read p end (suc m) ⊎ ((q : Place) × IsBeside q (sources n p) × Later q end m)

  after : (p q : Place) (end : Place) (m : ℕ) → IsRead q (sources n p) → Later q end m → Read p end (suc m)
  after p q end m r (inl e) = ([], (subst (λ z. IsRead z (sources n p)) e r), omega arith)
  after p q end m r (inr (qs, c, l)) = (q ∷ qs, (r, c), omega arith)

  grown : (p end : Place) (m : ℕ) → Later p end m → Later p end (suc m)
  grown p end m (inl e) = inl e
  grown p end m (inr (qs, c, l)) = inr (qs, c, omega arith)

  pub shortened : (p : Place) → (qs : List Place) (end : Place) → DependsBy n p qs end → Shortened p end (length qs)
  shortened p [] end d = first (either end (sources n p) d)
    where
      first : IsRead end (sources n p) ⊎ IsBeside end (sources n p) → Shortened p end 0
      first (inl r) = inl ([], r, omega arith)
      first (inr s) = inr (end, s, inl refl)
  shortened p (q ∷ qs) end d = step (either q (sources n p) d.0) (shortened q qs end d.1)
    where
      carried : (r : Place) → Dep p r → Later r end (length qs) → Shortened p end (suc (length qs))
      carried r e l =
          ⊎_elim (λ u. inl (let t = after p r end (length qs) u l in (t.0, t.1, omega arith))) (λ u. inr (r, u, grown r end (length qs) l)) (either r (sources n p) e)

      step : IsRead q (sources n p) ⊎ IsBeside q (sources n p) → Shortened q end (length qs) → Shortened p end (suc (length qs))
      step (inl r) (inl c) = inl (q ∷ c.0, (r, c.1), omega arith)
      step (inr s) (inl c) = inr (q, s, inr c)
      step (inl r) (inr (x, s, l)) = carried x (k.reads p q x r s) l
      step (inr u) (inr (x, s, l)) = inr (x, k.clocks p q x u s, grown x end (length qs) l)

  -- a chain of reads, led to a name of the clock of its end
  led : (p : Place) (qs : List Place) (z x : Place) → Chain n p qs z → IsBeside x (sources n z) → DependsBy n p qs x
  led p [] z x c s = k.reads p z x c s
  led p (q ∷ qs) z x c s = (read_source q (sources n p) c.0, led q qs z x c.1 s)

  shorter : (m : ℕ) (z : Place) (qs : List Place) → DependsBy n z qs z → length qs < m → (p : Place) × (bs : List Place) × Chain n p bs p
  shorter zero z qs d l = absurd (omega arith)
  shorter (suc m) z qs d l =
      ⊎_elim
      (λ u. (z, u.0, u.1))
      (λ u. ⊎_elim
      (λ e. absurd (k.no_own z (subst (λ y. IsBeside y (sources n z)) e u.1)))
      (λ v. shorter m u.0 v.0 (led u.0 v.0 z u.0 v.1 u.1) (omega arith))
      u.2)
      (shortened z qs z d)

pub no_cycle : (n : Node) → IsCausal n → CarriesClocks n → (p : Place) (between : List Place) → DependsBy n p between p → ⊥
no_cycle n causal k p between d =
    let u = shorter n k (suc (length between)) p between d (omega arith) in
    causal u.0 u.1 u.2
