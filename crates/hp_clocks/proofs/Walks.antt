-- Walks down from a cell end: each turn leaves fewer.
use Rattle.std.proofs.Common.{◌≡◌, ℕ, zero, suc, ◌<◌, ◌≤◌, List, length, refl, ap, subst, arith}
use Rattle.hp_meaning.specs.Clocking.Clocking.{On}
use Rattle.hp_clocks.specs.declared.cell.Cell.{Cell}
use Rattle.hp_clocks.specs.Cells.{Told, unknown, same_as, on_base, step_on, told_at, IsLess, Falls, chain, chain_by, turns, IsWithin, AreCells}
use Rattle.hp_clocks.proofs.Turns.{lower, fewer, at_most}

module _ (cells : ℕ → Told) (n : ℕ) (f : Falls cells) (within : (i : ℕ) → IsWithin n (cells i)) where
  abbrev pub low : ℕ → ℕ
  low i = lower f.rank n (f.rank i)

  less : (i : ℕ) (c : Told) → IsLess f.rank i c → IsWithin n c → IsLess low i c
  less i unknown l w = tt
  less i (same_as j) l w = fewer f.rank n j (f.rank i) w l
  less i on_base l w = tt
  less i (step_on o u) l w = fewer f.rank n u (f.rank i) w l

  pub all_less : (i : ℕ) → IsLess low i (cells i)
  all_less i = less i (cells i) (f.falls i) (within i)

  enough : (k m i : ℕ) → low i < k → low i < m → chain k cells i ≡ chain m cells i
  enough zero m i h l = absurd (omega (arith, h))
  enough (suc k) zero i h l = absurd (omega (arith, l))
  enough (suc k) (suc m) i h l = by (cells i) (all_less i) (λ j g. enough k m j (omega (arith, g, h)) (omega (arith, g, l)))
    where
      by : (c : Told) → IsLess low i c → ((j : ℕ) → low j < low i → chain k cells j ≡ chain m cells j) → chain_by (λ j. chain k cells j) c ≡ chain_by (λ j. chain m cells j) c
      by unknown g h = refl
      by (same_as j) g h = ap suc (h j g)
      by on_base g h = refl
      by (step_on o u) g h = ap suc (h u g)

  next : (i j : ℕ) → low j < low i → chain (suc n) cells i ≡ suc (chain n cells j) → chain (suc n) cells j < chain (suc n) cells i
  next i j l e =
      let a : low i ≤ n = at_most f.rank n (f.rank i) in
      let b : chain n cells j ≡ chain (suc n) cells j = enough n (suc n) j (omega (arith, a, l)) (omega (arith, a, l)) in
      omega (arith, b, e)

  pub same_next : (i j : ℕ) → cells i ≡ same_as j → chain (suc n) cells j < chain (suc n) cells i
  same_next i j e = next i j (subst (IsLess low i) e (all_less i)) (ap (chain_by (λ k. chain n cells k)) e)

  pub step_next : (i u : ℕ) (o : On) → cells i ≡ step_on o u → chain (suc n) cells u < chain (suc n) cells i
  step_next i u o e = next i u (subst (IsLess low i) e (all_less i)) (ap (chain_by (λ k. chain n cells k)) e)

module _ (cs : List Cell) (a : AreCells cs) where
  pub turn_same : (i j : ℕ) → told_at cs i ≡ same_as j → turns cs j < turns cs i
  turn_same i j e = same_next (told_at cs) (length cs) a.falling a.within i j e

  pub turn_step : (i u : ℕ) (o : On) → told_at cs i ≡ step_on o u → turns cs u < turns cs i
  turn_step i u o e = step_next (told_at cs) (length cs) a.falling a.within i u o e

  pub there_same : (i j : ℕ) → told_at cs i ≡ same_as j → j < length cs
  there_same i j e = subst (IsWithin (length cs)) e (a.within i)

  pub there_step : (i u : ℕ) (o : On) → told_at cs i ≡ step_on o u → u < length cs
  there_step i u o e = subst (IsWithin (length cs)) e (a.within i)
