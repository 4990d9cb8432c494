-- Clocks, step by step.
use Rattle.std.proofs.Common.{◌≡◌, ℕ, suc, ◌+◌, ◌<◌, ◌≤◌, nat_eq, get_or, length, drop, Bool, true, false, ◌&&◌, [], ◌∷◌, refl, sym, ap, ◌∙◌}
use Rattle.hp_flat.specs.Equations.{Clock}
use Rattle.hp_normal.specs.Retargeting.{same_clock}
use Rattle.hp_normal.proofs.Lists.{drop-next, drop-end}

none_shorter : (a : ℕ × ℕ) (first : Clock) → same_clock (a ∷ first) [] ≡ false
none_shorter a first = refl

both_false : (a : Bool) → (a && false) ≡ false
both_false true = refl
both_false false = refl

pub clocks-longer : (first second : Clock) → (length first ≡ length second → ⊥) → same_clock first second ≡ false
clocks-longer [] [] h = absurd (h refl)
clocks-longer [] (b ∷ second) h = refl
clocks-longer (a ∷ first) [] h = refl
clocks-longer (a ∷ first) (b ∷ second) h = ap (λ c. (nat_eq a.0 b.0 && nat_eq a.1 b.1) && c) (clocks-longer first second (λ e. h (ap suc e))) ∙ both_false (nat_eq a.0 b.0 && nat_eq a.1 b.1)

module _ (first second : Clock) (i : ℕ) (a b : ℕ × ℕ) (h : i < length first) (k : i < length second) (p : a ≡ get_or first i a) (q : b ≡ get_or second i b) where
  clocks_from : same_clock (drop i first) (drop i second) ≡ (nat_eq a.0 b.0 && nat_eq a.1 b.1 && same_clock (drop (i + 1) first) (drop (i + 1) second))
  clocks_from = λ j. same_clock (drop-next first i a h p j) (drop-next second i b k q j)

  pub clocks-next : nat_eq a.0 b.0 ≡ true → nat_eq a.1 b.1 ≡ true → same_clock (drop (i + 1) first) (drop (i + 1) second) ≡ same_clock (drop i first) (drop i second)
  clocks-next d e = sym (clocks_from ∙ (λ j. (d j && e j) && same_clock (drop (i + 1) first) (drop (i + 1) second)))

  pub clocks-differ_variable : nat_eq a.0 b.0 ≡ false → same_clock (drop i first) (drop i second) ≡ false
  clocks-differ_variable d = clocks_from ∙ ap (λ c. (c && nat_eq a.1 b.1) && same_clock (drop (i + 1) first) (drop (i + 1) second)) d

  pub clocks-differ_constructor : nat_eq a.1 b.1 ≡ false → same_clock (drop i first) (drop i second) ≡ false
  clocks-differ_constructor d =
      clocks_from ∙ ap (λ c. (nat_eq a.0 b.0 && c) && same_clock (drop (i + 1) first) (drop (i + 1) second)) d
      ∙ ap (λ c. c && same_clock (drop (i + 1) first) (drop (i + 1) second)) (both_false (nat_eq a.0 b.0))

pub clocks-end : (first second : Clock) (i : ℕ) → length first ≤ i → length second ≤ i → same_clock (drop i first) (drop i second) ≡ true
clocks-end first second i h k = λ j. same_clock (drop-end first i h j) (drop-end second i k j)
