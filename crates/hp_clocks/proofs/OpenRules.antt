-- What the proofs about open cells cite.
use Rattle.std.proofs.Common.{◌≡◌, ℕ, zero, suc, subst, ◌+◌, List, [], ◌∷◌, length, ap, ◌∙◌}
use Rattle.std.specs.Prelude.{⊤}
use Rattle.hp_tree.proofs.BlockLists.{lines-at_eqn, lines-at_arm, lines-at_state}
use Rattle.hp_clocks.specs.declared.cell.Cell.{Cell}
use Rattle.hp_clocks.specs.declared.cell.Cell.TheVariants as cell
use Rattle.hp_clocks.specs.Cells.{AreCells, Tells, Clocks, Fits, told_at}
use Rattle.hp_clocks.specs.Putting.{IsOpened}
use Rattle.hp_clocks.proofs.Leading.{drop_end}
use Rattle.hp_clocks.proofs.Growing.{tells_then}
use Rattle.hp_clocks.proofs.Unifying.{tells_same, tells_like}

pub opens_none : (cs : List Cell) → AreCells cs → Tells cs cs (λ at. ⊤)
opens_none cs a = tells_same cs a (λ at. ⊤) (λ at f. tt)

pub opens_then : (cs ds es : List Cell) → Tells cs ds (λ at. ⊤) → Tells ds es (λ at. ⊤) → Tells cs es (λ at. ⊤)
opens_then cs ds es t u = tells_like cs es (λ at. ⊤ × ⊤) (λ at. ⊤) (tells_then cs ds es (λ at. ⊤) (λ at. ⊤) t u) (λ at f h. tt) (λ at f h. (tt, tt))

pub tells_cells : (cs ds : List Cell) → Tells cs ds (λ at. ⊤) → AreCells ds
tells_cells cs ds t = t.cells

pub ruleset opened = (opens_none, opens_then, tells_cells, drop_end, lines-at_eqn, lines-at_arm, lines-at_state)

pub ruleset nodes = (opens_none, opens_then, tells_cells)

fits_base : (at : Clocks) → at 0 ≡ [] → Fits (told_at (cell.Base ∷ [])) at
fits_base at h zero = h
fits_base at h (suc i) = tt

-- Cells that are open but for the first one.
pub all_opened : (cs bs : List Cell) (n : ℕ) → bs ≡ cell.Base ∷ [] → Tells bs cs (λ at. ⊤) → length cs ≡ length bs + n → IsOpened (1 + n) cs
all_opened cs bs n e t h =
    let first : Tells (cell.Base ∷ []) cs (λ at. ⊤) = subst (λ z. Tells z cs (λ at. ⊤)) e t in
    let many : length cs ≡ 1 + n = h ∙ ap (λ z. length z + n) e in
    record { cells = t.cells; many = many; fits = λ at b. first.fits at (fits_base at b) tt }
