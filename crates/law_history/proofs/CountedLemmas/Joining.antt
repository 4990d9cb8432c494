-- How numbers come together.
use Rattle.std.proofs.Common.{◌≡◌, ◌≤◌, ℕ, sym, ap, subst, ◌∙◌, arith}
use Rattle.law_history.specs.Counted.Counted.{Joins}

module _ (join : ℕ → ℕ → ℕ) (joins : Joins join) where
  pub nothing_left : (a : ℕ) → join 0 a ≡ a
  nothing_left a = joins.turned 0 a ∙ joins.none a

  same_or_less : (a b : ℕ) → a ≡ b → a ≤ b
  same_or_less a b e = omega (arith, e)

  both_less : (a b c : ℕ) → a ≤ b → b ≤ c → a ≤ c
  both_less a b c h g = omega (arith, h, g)

  itself : (a : ℕ) → a ≤ a
  itself a = omega arith

  least : (a : ℕ) → 0 ≤ a
  least a = omega arith

  -- what adds nothing
  pub quiet_left : (z a b : ℕ) → z ≤ 0 → a ≤ b → join z a ≤ b
  quiet_left z a b q h = subst (λ n. join z a ≤ n) (nothing_left b) (joins.grows z a 0 b q h)

  pub quiet_right : (a z b : ℕ) → a ≤ b → z ≤ 0 → join a z ≤ b
  quiet_right a z b h q = subst (λ n. join a z ≤ n) (joins.none b) (joins.grows a z b 0 h q)

  -- a part of what comes together
  pub below_left : (a b c : ℕ) → a ≤ b → a ≤ join b c
  below_left a b c h = subst (λ n. n ≤ join b c) (joins.none a) (joins.grows a 0 b c h (least c))

  pub below_right : (a b c : ℕ) → a ≤ c → a ≤ join b c
  below_right a b c h = subst (λ n. n ≤ join b c) (nothing_left a) (joins.grows 0 a b c (least b) h)

  -- two pairs, the other way round
  pub shuffled : (a b c d : ℕ) → join (join a b) (join c d) ≡ join (join a c) (join b d)
  shuffled a b c d =
      joins.grouped a b (join c d)
      ∙ ap (join a) (sym (joins.grouped b c d) ∙ ap (λ n. join n d) (joins.turned b c) ∙ joins.grouped c b d)
      ∙ sym (joins.grouped a c (join b d))
