-- Two clocks that are made equal.
use Rattle.std.proofs.Common.{◌≡◌, ℕ, ◌<◌, ◌≤◌, List, length, slice_set, refl, sym, ap, ◌∙◌, subst, arith}
use Rattle.std.specs.Prelude.{⊤, Result, Ok, Err, OnOk}
use Rattle.hp_meaning.specs.Clocking.Clocking.{On}
use Rattle.hp_clocks.specs.declared.cell.Cell.{Cell}
use Rattle.hp_clocks.specs.declared.cell.Cell.TheVariants as cell
use Rattle.hp_clocks.specs.Cells.{Told, unknown, same_as, on_base, step_on, told_at, Clocks, Fits, end_at, AreCells, Tells, Never, Alike, StandsAbove}
use Rattle.hp_clocks.proofs.CellLaws.{says, stands_below, step_on_base}
use Rattle.hp_clocks.proofs.Arrays.{is_same, bind_tells, recount_tells, end_open, end_base, changed, length_changed, nothing_told}

pub ok_map : {A E P Q : Type 0} (r : Result A E) → (P → Q) → OnOk r P → OnOk r Q
ok_map (Ok x) f h = f h
ok_map (Err e) f h = tt

-- ---- what is told, in other words

pub tells_same : (cs : List Cell) → AreCells cs → (P : Clocks → Type 0) → ((at : Clocks) → Fits (told_at cs) at → P at) → Tells cs cs P
tells_same cs a P h =
    record { cells = a; longer = omega arith; says = λ at f. (f, h at f); fits = λ at f p. f }

pub tells_like : (cs ds : List Cell) (P Q : Clocks → Type 0) → Tells cs ds P → ((at : Clocks) → Fits (told_at cs) at → P at → Q at) → ((at : Clocks) → Fits (told_at cs) at → Q at → P at) → Tells cs ds Q
tells_like cs ds P Q t f g =
    record {
      cells = t.cells;
      longer = t.longer;
      says = λ at h. ((t.says at h).0, f at (t.says at h).0 (t.says at h).1);
      fits = λ at h q. t.fits at h (g at h q);
    }

pub tells_turned : (cs ds : List Cell) (i j : ℕ) → Tells cs ds (λ at. at i ≡ at j) → Tells cs ds (λ at. at j ≡ at i)
tells_turned cs ds i j t = tells_like cs ds (λ at. at i ≡ at j) (λ at. at j ≡ at i) t (λ at f e. sym e) (λ at f e. sym e)

pub never_turned : (cs : List Cell) (i j : ℕ) → Never cs (λ at. at i ≡ at j) → Never cs (λ at. at j ≡ at i)
never_turned cs i j n at f e = n at f (sym e)

pub tells_alike : (cs ds : List Cell) (a b left right : ℕ) → Alike cs a b left right → Tells cs ds (λ at. at left ≡ at right) → Tells cs ds (λ at. at a ≡ at b)
tells_alike cs ds a b left right h t =
    tells_like cs ds (λ at. at left ≡ at right) (λ at. at a ≡ at b) t (λ at f e. (h at f).1 e) (λ at f e. (h at f).0 e)

pub never_alike : (cs : List Cell) (a b left right : ℕ) → Alike cs a b left right → Never cs (λ at. at left ≡ at right) → Never cs (λ at. at a ≡ at b)
never_alike cs a b left right h n at f e = n at f ((h at f).0 e)

pub equal_tells : (cs : List Cell) → AreCells cs → (i j : ℕ) → ((at : Clocks) → Fits (told_at cs) at → at i ≡ at j) → Tells cs cs (λ at. at i ≡ at j)
equal_tells cs a i j h = tells_same cs a (λ at. at i ≡ at j) h

-- ---- ends

pub bases_tell : (cs : List Cell) → AreCells cs → (i j : ℕ) → told_at cs i ≡ on_base → told_at cs j ≡ on_base → Tells cs cs (λ at. at i ≡ at j)
bases_tell cs a i j d e =
    equal_tells cs a i j (λ at f. says is_same (told_at cs) at f i on_base d ∙ sym (says is_same (told_at cs) at f j on_base e))

pub step_never_base : (cs : List Cell) (i j u : ℕ) (o : On) → told_at cs i ≡ step_on o u → told_at cs j ≡ on_base → Never cs (λ at. at i ≡ at j)
step_never_base cs i j u o d e at f h = step_on_base is_same (told_at cs) at f i j o u d e h

pub base_never_step : (cs : List Cell) (i j u : ℕ) (o : On) → told_at cs i ≡ on_base → told_at cs j ≡ step_on o u → Never cs (λ at. at i ≡ at j)
base_never_step cs i j u o d e at f h = step_on_base is_same (told_at cs) at f j i o u e d (sym h)

-- No clock stands on itself.
pub bound_never : (cs : List Cell) (a : AreCells cs) (w j : ℕ) → told_at cs w ≡ unknown → StandsAbove (told_at cs j) → end_at cs j ≡ w → Never cs (λ at. at w ≡ at j)
bound_never cs a w j e s g = by (told_at cs j) refl s
  where
    based : told_at cs j ≡ on_base → ⊥
    based d =
        let p : j ≡ w = sym (end_base cs a j d) ∙ g in
        absurd (cc (sym e ∙ ap (told_at cs) (sym p) ∙ d))

    by : (c : Told) → told_at cs j ≡ c → StandsAbove c → Never cs (λ at. at w ≡ at j)
    by unknown d s = absurd s
    by (same_as i) d s = absurd s
    by on_base d s = absurd (based d)
    by (step_on o u) d s = λ at f h. stands_below is_same (told_at cs) at f (length cs) j u w o d g h

-- ---- two open clocks

pub join_tells : (cs : List Cell) → AreCells cs → (w j n : ℕ) → w < length cs → j < length cs → told_at cs w ≡ unknown → told_at cs j ≡ unknown → (w ≡ j → ⊥) → Tells cs (slice_set (slice_set cs j (cell.Open n)) w (cell.Same j)) (λ at. at w ≡ at j)
join_tells cs a w j n h k d e g =
    let ds : List Cell = slice_set cs j (cell.Open n) in
    let first : Tells cs ds (λ at. ⊤) = recount_tells cs a j n k e in
    let l : length ds ≡ length cs = length_changed cs j (cell.Open n) k in
    let same : (i : ℕ) → told_at ds i ≡ told_at cs i = λ i. changed cs j (cell.Open n) i k ∙ nothing_told (told_at cs) j i e in
    let there_w : w < length ds = subst (λ z. w < z) (sym l) h in
    let there_j : j < length ds = subst (λ z. j < z) (sym l) k in
    let open_j : told_at ds j ≡ unknown = same j ∙ e in
    let second : Tells ds (slice_set ds w (cell.Same j)) (λ at. at w ≡ at j) =
    bind_tells ds first.cells w j there_w there_j (same w ∙ d) (λ q. g (sym q ∙ end_open ds first.cells j open_j)) in
    let p : length cs ≤ length ds = first.longer in
    let q : length ds ≤ length (slice_set ds w (cell.Same j)) = second.longer in
    record {
      cells = second.cells;
      longer = omega (arith, p, q);
      says = λ at f. ((first.says at (second.says at f).0).0, (second.says at f).1);
      fits = λ at f s. second.fits at (first.fits at f tt) s;
    }
