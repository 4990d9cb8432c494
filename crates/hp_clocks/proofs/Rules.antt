-- What the proofs of the code cite.
use Rattle.std.proofs.Common.{◌≡◌, ℕ, zero, suc, ◌<◌, List, [], ◌∷◌, length, slice_index_or, ◌++◌, Bor, refl, sym, ◌∙◌, subst, arith}
use Rattle.hp_clocks.specs.declared.cell.Cell.{Cell}
use Rattle.hp_tree.specs.declared.decl.Cons.{Cons}
use Rattle.hp_meaning.specs.Clocking.Clocking.{On}
use Rattle.hp_clocks.specs.declared.cell.Cell.TheVariants as cell
use Rattle.hp_clocks.specs.Cells.{same_as, step_on, told, told_at, Alike, Never, AreCells, Tells}
use Rattle.hp_clocks.proofs.Arrays.{base_alone_cells, is_same, add_open, add_step, bind_tells, is_there, end_same, end_step, end_open, end_base}
use Rattle.hp_clocks.proofs.Unifying.{tells_turned, never_turned, tells_alike, never_alike, equal_tells, bases_tell, step_never_base, base_never_step, bound_never, join_tells}
use Rattle.hp_clocks.proofs.NameLaws.{nowhere_never, own_tells, own_never, further_tells, further_never, further_never_then, base_there, own_there, further_there}
use Rattle.hp_clocks.proofs.Leading.{leads_start, grows_none}
use Rattle.hp_tree.proofs.Lists.{nodes-at, nodes-at_part}
use Rattle.hp_clocks.proofs.CellLaws.{says as says_at, steps_meet as steps_meet_at, meet_steps as meet_steps_at}
use Rattle.hp_clocks.proofs.Walks.{turn_same, turn_step, there_same, there_step}

pub told_there : (cs : List Cell) (i : ℕ) (d : Cell) → i < length cs → told_at cs i ≡ told (slice_index_or cs i d)
told_there [] i d h = absurd (omega (arith, h))
told_there (c ∷ cs) zero d h = refl
told_there (c ∷ cs) (suc i) d h = told_there cs i d (omega (arith, h))

-- a step that is added
pub step_added : (cs : List Cell) → AreCells cs → (new : List Cell) (n : ℕ) (c : Bor Cons) (x : Bor (List ℕ)) (u : ℕ) → u < length cs → n ≡ length cs → new ≡ cs ++ (cell.On c x u ∷ []) → Tells cs new (λ at. at n ≡ (c.now, x.now) ∷ at u)
step_added cs a new n c x u h e f =
    subst (λ z. Tells cs z (λ at. at n ≡ (c.now, x.now) ∷ at u)) (sym f)
    (subst (λ z. Tells cs (cs ++ (cell.On c x u ∷ [])) (λ at. at z ≡ (c.now, x.now) ∷ at u)) (sym e)
    (add_step cs a (cell.On c x u) (c.now, x.now) u refl h))

-- ---- two clocks that are walked down together

module _ (cs : List Cell) (a b : ℕ) where
  pub alike_here : Alike cs a b a b
  alike_here at f = ((λ e. e), λ e. e)

  pub alike_left : (left right j : ℕ) → Alike cs a b left right → told_at cs left ≡ same_as j → Alike cs a b j right
  alike_left left right j h e at f =
      let g : at left ≡ at j = says_at is_same (told_at cs) at f left (same_as j) e in
      ((λ q. sym g ∙ (h at f).0 q), λ q. (h at f).1 (g ∙ q))

  pub alike_right : (left right j : ℕ) → Alike cs a b left right → told_at cs right ≡ same_as j → Alike cs a b left j
  alike_right left right j h e at f =
      let g : at right ≡ at j = says_at is_same (told_at cs) at f right (same_as j) e in
      ((λ q. (h at f).0 q ∙ g), λ q. (h at f).1 (q ∙ sym g))

  pub alike_steps : (left right u w : ℕ) (o k : On) → Alike cs a b left right → told_at cs left ≡ step_on o u → told_at cs right ≡ step_on k w → o ≡ k → Alike cs a b u w
  alike_steps left right u w o k h d e p at f = (
    (λ q. (steps_meet_at is_same (told_at cs) at f left right o k u w d e ((h at f).0 q)).1),
    λ q. (h at f).1 (meet_steps_at is_same (told_at cs) at f left right o k u w d e p q),
  )

  pub steps_clash : (left right u w : ℕ) (o k : On) → Alike cs a b left right → told_at cs left ≡ step_on o u → told_at cs right ≡ step_on k w → (o ≡ k → ⊥) → Never cs (λ at. at a ≡ at b)
  steps_clash left right u w o k h d e p at f q = p (steps_meet_at is_same (told_at cs) at f left right o k u w d e ((h at f).0 q)).0

-- cells that are there, and walks along them
pub ruleset cells = (told_there, turn_same, turn_step, there_same, there_step, end_same, end_step, end_open, end_base)

pub ruleset added = (add_open, step_added, is_there)

pub ruleset meetings = (turn_same, turn_step, there_same, there_step, alike_here, alike_left, alike_right, alike_steps, steps_clash)

pub ruleset bound = (bind_tells, bound_never)

pub ruleset joined = (join_tells, tells_turned)

pub ruleset unified = (tells_turned, never_turned, tells_alike, never_alike, equal_tells, bases_tell, step_never_base, base_never_step)

pub ruleset first_cell = (base_alone_cells)

pub ruleset names = (nowhere_never, own_tells, own_never, further_tells, further_never, further_never_then, base_there, own_there, further_there)

-- expressions, one after another
pub ruleset put = (leads_start, grows_none, base_there, nodes-at, nodes-at_part)
