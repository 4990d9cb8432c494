-- Texts in a row.
use Rattle.std.proofs.Common.{◌≡◌, ℕ, zero, suc, ◌+◌, ◌-◌, ◌≤◌, List, ◌++◌, sym, ap, ◌∙◌, arith, append_assoc}
use Rattle.std.specs.Prelude.{codes}
use Rattle.hp_driver.specs.Sweeping.{row, apart_text, guarantee_text}

row_next : (between : List ℕ) (part : ℕ → List ℕ) (i : ℕ) → 1 ≤ i → row between part (i + 1) ≡ row between part i ++ (between ++ part (i + 1))
row_next between part zero h = absurd (omega (arith, h))
row_next between part (suc i) h =
    let next : suc i + 1 ≡ suc (suc i) = omega arith in
    ap (row between part) next ∙ ap (λ k. row between part (suc i) ++ (between ++ part k)) (sym next)

-- one part more is written
pub row_more : (between : List ℕ) (part : ℕ → List ℕ) (start text more last : List ℕ) (i : ℕ) → 1 ≤ i → text ≡ start ++ row between part i → more ≡ text ++ between → last ≡ more ++ part (i + 1) → last ≡ start ++ row between part (i + 1)
row_more between part start text more last i h e f g =
    g ∙ ap (λ z. z ++ part (i + 1)) f ∙ append_assoc text between (part (i + 1)) ∙ ap (λ z. z ++ (between ++ part (i + 1))) e
    ∙ append_assoc start (row between part i) (between ++ part (i + 1)) ∙ ap (λ z. start ++ z) (sym (row_next between part i h))

-- where there are some tasks, each behind the first is apart from those before it
pub guarantee_all : (tasks i : ℕ) → 1 ≤ i → i ≡ tasks - 1 → row (codes " & ") apart_text i ≡ guarantee_text tasks
guarantee_all zero i h e = absurd (omega (arith, h, e))
guarantee_all (suc zero) i h e = absurd (omega (arith, h, e))
guarantee_all (suc (suc n)) i h e = let same : i ≡ suc n = omega (arith, e) in ap (row (codes " & ") apart_text) same

-- three texts are written behind another, or five
pub three : (start a b c t u v : List ℕ) → t ≡ start ++ a → u ≡ t ++ b → v ≡ u ++ c → v ≡ start ++ (a ++ b ++ c)
three start a b c t u v e f g =
    g ∙ ap (λ z. z ++ c) (f ∙ ap (λ z. z ++ b) e ∙ append_assoc start a b) ∙ append_assoc start (a ++ b) c

pub five : (start a b c d x t u v w y : List ℕ) → t ≡ start ++ a → u ≡ t ++ b → v ≡ u ++ c → w ≡ v ++ d → y ≡ w ++ x → y ≡ start ++ (a ++ b ++ c ++ d ++ x)
five start a b c d x t u v w y e f g h k =
    k ∙ ap (λ z. z ++ x) (h ∙ ap (λ z. z ++ d) (three start a b c t u v e f g) ∙ append_assoc start (a ++ b ++ c) d) ∙ append_assoc start (a ++ b ++ c ++ d) x
