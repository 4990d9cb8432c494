-- The clock that is read of a cell, from what is told of it.
use Rattle.std.proofs.Common.{◌≡◌, ◌⊎◌, inl, inr, ℕ, suc, ◌<◌, ◌≤◌, List, ◌∷◌, [], ◌++◌, length, sym, ap, ap₂, ◌∙◌, subst, arith, append_assoc}
use Rattle.std.proofs.lemmas.List.{append-nil}
use Rattle.hp_tree.specs.declared.decl.Cons.{Cons}
use Rattle.hp_meaning.specs.Clocking.Clocking.{On}
use Rattle.hp_clocks.specs.declared.cell.Cell.{Cell}
use Rattle.hp_clocks.specs.declared.cell.Cell.TheVariants as cell
use Rattle.hp_clocks.specs.Cells.{told, unknown, same_as, on_base, step_on, told_at, IsLess, steps, steps_by, AreCells}
use Rattle.hp_clocks.specs.Solved.{clock_read}
use Rattle.hp_clocks.proofs.Turns.{at_most}
use Rattle.hp_clocks.proofs.Arrays.{is_same}
use Rattle.hp_clocks.proofs.CellLaws.{enough_steps}
use Rattle.hp_clocks.proofs.Walks.{low, all_less}

module _ (cs : List Cell) (a : AreCells cs) where
  abbrev rank : ℕ → ℕ
  rank = low (told_at cs) (length cs) a.falling a.within

  falls : (i : ℕ) → IsLess rank i (told_at cs i)
  falls = all_less (told_at cs) (length cs) a.falling a.within

  -- one turn less tells as much
  less_turns : (i j : ℕ) → rank j < rank i → steps (length cs) (told_at cs) j ≡ clock_read cs j
  less_turns i j l =
      let h : rank i ≤ length cs = at_most a.falling.rank (length cs) (a.falling.rank i) in
      enough_steps is_same (told_at cs) rank falls (length cs) (suc (length cs)) j (omega (arith, h, l)) (omega (arith, h, l))

  pub read_same : (i j : ℕ) → told_at cs i ≡ same_as j → clock_read cs i ≡ clock_read cs j
  read_same i j e =
      ap (steps_by (λ k. steps (length cs) (told_at cs) k)) e ∙ less_turns i j (subst (IsLess rank i) e (falls i))

  pub read_step : (i u : ℕ) (o : On) → told_at cs i ≡ step_on o u → clock_read cs i ≡ o ∷ clock_read cs u
  read_step i u o e =
      ap (steps_by (λ k. steps (length cs) (told_at cs) k)) e ∙ ap (λ z. o ∷ z) (less_turns i u (subst (IsLess rank i) e (falls i)))

pub read_open : (cs : List Cell) (i : ℕ) → told_at cs i ≡ unknown → clock_read cs i ≡ []
read_open cs i e = ap (steps_by (λ k. steps (length cs) (told_at cs) k)) e

pub read_base : (cs : List Cell) (i : ℕ) → told_at cs i ≡ on_base → clock_read cs i ≡ []
read_base cs i e = ap (steps_by (λ k. steps (length cs) (told_at cs) k)) e

-- ---- a walk that has read these steps

module _ (cs : List Cell) (start : ℕ) where
  abbrev pub HasRead : List On → ℕ → Type 0
  HasRead path i = path ++ clock_read cs i ≡ clock_read cs start

  pub walk_same : AreCells cs → (path : List On) (i j : ℕ) → told_at cs i ≡ same_as j → path ++ clock_read cs i ≡ clock_read cs start → path ++ clock_read cs j ≡ clock_read cs start
  walk_same a path i j e h = ap (λ z. path ++ z) (sym (read_same cs a i j e)) ∙ h

  pub walk_step : AreCells cs → (path new : List On) (i u : ℕ) (c d : Cons) (x y : List ℕ) → told_at cs i ≡ step_on (c, x) u → d ≡ c → y ≡ x → path ++ clock_read cs i ≡ clock_read cs start → new ≡ path ++ ((d, y) ∷ []) → new ++ clock_read cs u ≡ clock_read cs start
  walk_step a path new i u c d x y e p q h n =
      let o : (Cons × List ℕ) = (c, x) in
      let same : (d, y) ∷ [] ≡ o ∷ [] = ap₂ (λ z w. let k : (Cons × List ℕ) = (z, w) in k ∷ []) p q in
      ap (λ z. z ++ clock_read cs u) (n ∙ ap (λ z. path ++ z) same)
      ∙ append_assoc path (o ∷ []) (clock_read cs u)
      ∙ ap (λ z. path ++ z) (sym (read_step cs a i u o e)) ∙ h

  pub walk_open : (path : List On) (i : ℕ) → told_at cs i ≡ unknown → path ++ clock_read cs i ≡ clock_read cs start → path ≡ clock_read cs start
  walk_open path i e h = sym (append-nil path) ∙ ap (λ z. path ++ z) (sym (read_open cs i e)) ∙ h

  pub walk_base : (path : List On) (i : ℕ) → told_at cs i ≡ on_base → path ++ clock_read cs i ≡ clock_read cs start → path ≡ clock_read cs start
  walk_base path i e h = sym (append-nil path) ∙ ap (λ z. path ++ z) (sym (read_base cs i e)) ∙ h

  pub walk_ended : (path : List On) (i : ℕ) (r : Cell) → told_at cs i ≡ told r → ((n : ℕ) × (r ≡ cell.Open n)) ⊎ (r ≡ cell.Base) → path ++ clock_read cs i ≡ clock_read cs start → path ≡ clock_read cs start
  walk_ended path i r e (inl o) h = walk_open path i (e ∙ ap told o.1) h
  walk_ended path i r e (inr b) h = walk_base path i (e ∙ ap told b) h
