-- Cells that are added and changed.
use Rattle.std.proofs.Common.{◌≡◌, ℕ, zero, suc, ◌<◌, ◌≤◌, List, [], ◌∷◌, ◌++◌, length, slice_set, refl, sym, ap, ◌∙◌, subst, arith}
use Rattle.std.specs.Prelude.{Bool, true, false, if◌then◌else◌, ⊤}
use Rattle.std.specs.Bool.{Decides}
use Rattle.hp_meaning.specs.Clocking.Clocking.{On}
use Rattle.hp_clocks.specs.declared.cell.Cell.{Cell}
use Rattle.hp_clocks.specs.declared.cell.Cell.TheVariants as cell
use Rattle.hp_clocks.specs.Cells.{is_cell, Told, unknown, same_as, on_base, step_on, told, told_at, Says, Fits, with_told, IsLess, Falls, end_of, end_by, end_at, IsWithin, AreCells, Tells}
use Rattle.hp_clocks.proofs.Turns.{at_most}
use Rattle.hp_clocks.proofs.Walks.{low, all_less}
use Rattle.hp_clocks.proofs.CellLaws.{put_fits, fits_put, enough, still_falls}

pub is_same : (v w : ℕ) → Decides (is_cell v w) (v ≡ w)
is_same zero zero = ((λ e. refl), λ e. refl)
is_same zero (suc w) = ((λ e. absurd (cc e)), λ e. absurd (omega (arith, e)))
is_same (suc v) zero = ((λ e. absurd (cc e)), λ e. absurd (omega (arith, e)))
is_same (suc v) (suc w) = ((λ e. ap suc ((is_same v w).0 e)), λ e. (is_same v w).1 (omega (arith, e)))

past : (cs : List Cell) → told_at cs (length cs) ≡ unknown
past [] = refl
past (c ∷ cs) = past cs

pushed : (cs : List Cell) (c : Cell) (i : ℕ) → told_at (cs ++ (c ∷ [])) i ≡ with_told (told_at cs) (length cs) (told c) i
pushed [] c zero = refl
pushed [] c (suc i) = refl
pushed (d ∷ cs) c zero = refl
pushed (d ∷ cs) c (suc i) = pushed cs c i

pub changed : (cs : List Cell) (w : ℕ) (c : Cell) (i : ℕ) → w < length cs → told_at (slice_set cs w c) i ≡ with_told (told_at cs) w (told c) i
changed [] w c i h = absurd (omega (arith, h))
changed (d ∷ cs) zero c zero h = refl
changed (d ∷ cs) zero c (suc i) h = refl
changed (d ∷ cs) (suc w) c zero h = refl
changed (d ∷ cs) (suc w) c (suc i) h = changed cs w c i (omega (arith, h))

pub length_changed : (cs : List Cell) (w : ℕ) (c : Cell) → w < length cs → length (slice_set cs w c) ≡ length cs
length_changed [] w c h = absurd (omega (arith, h))
length_changed (d ∷ cs) zero c h = refl
length_changed (d ∷ cs) (suc w) c h = ap suc (length_changed cs w c (omega (arith, h)))

length_pushed : (cs : List Cell) (c : Cell) → length (cs ++ (c ∷ [])) ≡ suc (length cs)
length_pushed [] c = refl
length_pushed (d ∷ cs) c = ap suc (length_pushed cs c)

wider : (n m : ℕ) (c : Told) → n ≤ m → IsWithin n c → IsWithin m c
wider n m unknown h w = tt
wider n m (same_as j) h w = omega (arith, h, w)
wider n m on_base h w = tt
wider n m (step_on o u) h w = omega (arith, h, w)

within_told : (cells : ℕ → Told) (n w : ℕ) (c : Told) → ((i : ℕ) → IsWithin n (cells i)) → IsWithin n c → (i : ℕ) → IsWithin n (with_told cells w c i)
within_told cells n w c f k i = tie (is_cell w i)
  where
    tie : (d : Bool) → IsWithin n (if d then c else cells i)
    tie true = k
    tie false = f i

-- An unknown clock of which nothing is told.
pub nothing_told : (cells : ℕ → Told) (w i : ℕ) → cells w ≡ unknown → with_told cells w unknown i ≡ cells i
nothing_told cells w i e = tie (is_cell w i) (is_same w i).0
  where
    tie : (d : Bool) → (d ≡ true → w ≡ i) → (if d then unknown else cells i) ≡ cells i
    tie true f = sym e ∙ ap cells (f refl)
    tie false f = refl

other_told : (cells : ℕ → Told) (w i : ℕ) (c d : Told) → cells w ≡ unknown → cells i ≡ on_base → with_told cells w c i ≡ on_base
other_told cells w i c d e f = tie (is_cell w i) (is_same w i).0
  where
    base_known : unknown ≡ on_base → ⊥
    base_known g = absurd (cc g)

    tie : (d : Bool) → (d ≡ true → w ≡ i) → (if d then c else cells i) ≡ on_base
    tie true g = absurd (base_known (sym e ∙ ap cells (g refl) ∙ f))
    tie false g = f

module _ (cs : List Cell) (a : AreCells cs) where
  abbrev cells : ℕ → Told
  cells i = told_at cs i

  abbrev rank : ℕ → ℕ
  rank i = low cells (length cs) a.falling a.within i

  falls : (i : ℕ) → IsLess rank i (cells i)
  falls i = all_less cells (length cs) a.falling a.within i

  end_steps : (i j : ℕ) → rank j < rank i → end_at cs i ≡ end_of (length cs) cells j → end_at cs i ≡ end_at cs j
  end_steps i j l e =
      let m : rank i ≤ length cs = at_most a.falling.rank (length cs) (a.falling.rank i) in
      e ∙ enough is_same cells rank falls (length cs) (suc (length cs)) j (omega (arith, m, l)) (omega (arith, m, l))

  pub end_same : (i j : ℕ) → cells i ≡ same_as j → end_at cs i ≡ end_at cs j
  end_same i j e = end_steps i j (subst (IsLess rank i) e (falls i)) (ap (end_by i (λ k. end_of (length cs) cells k)) e)

  pub end_step : (i u : ℕ) (o : On) → cells i ≡ step_on o u → end_at cs i ≡ end_at cs u
  end_step i u o e = end_steps i u (subst (IsLess rank i) e (falls i)) (ap (end_by i (λ k. end_of (length cs) cells k)) e)

  end_within : (n i : ℕ) → i < length cs → end_of n cells i < length cs
  end_within zero i h = h
  end_within (suc n) i h = by (cells i) (a.within i) (λ j k. end_within n j k)
    where
      by : (c : Told) → IsWithin (length cs) c → ((j : ℕ) → j < length cs → end_of n cells j < length cs) → end_by i (λ j. end_of n cells j) c < length cs
      by unknown w g = h
      by (same_as j) w g = g j w
      by on_base w g = h
      by (step_on o u) w g = g u w

  -- ---- cells that are added

  pub pushed_path : (c : Cell) → told_at (cs ++ (c ∷ [])) ≡ with_told cells (length cs) (told c)
  pushed_path c = λ z i. pushed cs c i z

  longer_by_one : (c : Cell) → length cs ≤ length (cs ++ (c ∷ []))
  longer_by_one c =
      let e : length (cs ++ (c ∷ [])) ≡ suc (length cs) = length_pushed cs c in
      omega (arith, e)

  pub add_cells : (c : Cell) → Falls (with_told cells (length cs) (told c)) → IsWithin (length cs) (told c) → AreCells (cs ++ (c ∷ []))
  add_cells c f w =
      record {
        falling = subst Falls (sym (pushed_path c)) f;
        within = λ i. wider (length cs) (length (cs ++ (c ∷ []))) (told_at (cs ++ (c ∷ [])) i) (longer_by_one c)
            (subst (λ z. IsWithin (length cs) z) (sym (pushed cs c i)) (within_told cells (length cs) (length cs) (told c) a.within w i));
        base = pushed cs c 0 ∙ other_told cells (length cs) 0 (told c) on_base (past cs) a.base;
      }

  pub add_tells : (c : Cell) → AreCells (cs ++ (c ∷ [])) → Tells cs (cs ++ (c ∷ [])) (λ at. Says at (length cs) (told c))
  add_tells c k =
      record {
        cells = k;
        longer = longer_by_one c;
        says = λ at f. put_fits is_same cells (length cs) (told c) at (past cs) (subst (λ z. Fits z at) (pushed_path c) f);
        fits = λ at f s. subst (λ z. Fits z at) (sym (pushed_path c)) (fits_put is_same cells (length cs) (told c) at f s);
      }

  open_falls : Falls (with_told cells (length cs) unknown)
  open_falls =
      let path : with_told cells (length cs) unknown ≡ cells = λ z i. nothing_told cells (length cs) i (past cs) z in
      subst Falls (sym path) a.falling

  pub add_open : (n : ℕ) → Tells cs (cs ++ (cell.Open n ∷ [])) (λ at. ⊤)
  add_open n = add_tells (cell.Open n) (add_cells (cell.Open n) open_falls tt)

  -- ---- cells that are changed

  pub changed_path : (w : ℕ) (c : Cell) → w < length cs → told_at (slice_set cs w c) ≡ with_told cells w (told c)
  changed_path w c h = λ z i. changed cs w c i h z

  pub change_cells : (w : ℕ) (c : Cell) → w < length cs → cells w ≡ unknown → Falls (with_told cells w (told c)) → IsWithin (length cs) (told c) → AreCells (slice_set cs w c)
  change_cells w c h e f k =
      record {
        falling = subst Falls (sym (changed_path w c h)) f;
        within = λ i. subst (λ z. IsWithin z (told_at (slice_set cs w c) i)) (sym (length_changed cs w c h))
            (subst (λ z. IsWithin (length cs) z) (sym (changed cs w c i h)) (within_told cells (length cs) w (told c) a.within k i));
        base = changed cs w c 0 h ∙ other_told cells w 0 (told c) on_base e a.base;
      }

  pub change_tells : (w : ℕ) (c : Cell) → w < length cs → cells w ≡ unknown → AreCells (slice_set cs w c) → Tells cs (slice_set cs w c) (λ at. Says at w (told c))
  change_tells w c h e k =
      let l : length (slice_set cs w c) ≡ length cs = length_changed cs w c h in
      record {
        cells = k;
        longer = omega (arith, l);
        says = λ at f. put_fits is_same cells w (told c) at e (subst (λ z. Fits z at) (changed_path w c h) f);
        fits = λ at f s. subst (λ z. Fits z at) (sym (changed_path w c h)) (fits_put is_same cells w (told c) at f s);
      }

  -- An open clock is bound to one that does not end at it.
  pub bind_tells : (w j : ℕ) → w < length cs → j < length cs → cells w ≡ unknown → (end_at cs j ≡ w → ⊥) → Tells cs (slice_set cs w (cell.Same j)) (λ at. at w ≡ at j)
  bind_tells w j h k e g =
      let m : rank j ≤ length cs = at_most a.falling.rank (length cs) (a.falling.rank j) in
      let same : end_of (suc (rank j)) cells j ≡ end_at cs j = enough is_same cells rank falls (suc (rank j)) (suc (length cs)) j (omega arith) (omega (arith, m)) in
      change_tells w (cell.Same j) h e
      (change_cells w (cell.Same j) h e (still_falls is_same cells rank falls w j e (λ q. g (sym same ∙ q)) (same_as j) (λ x. x)) k)

  pub recount_tells : (w n : ℕ) → w < length cs → cells w ≡ unknown → Tells cs (slice_set cs w (cell.Open n)) (λ at. ⊤)
  recount_tells w n h e =
      let path : with_told cells w unknown ≡ cells = λ z i. nothing_told cells w i e z in
      change_tells w (cell.Open n) h e (change_cells w (cell.Open n) h e (subst Falls (sym path) a.falling) tt)

  pub step_falls : (o : On) (u : ℕ) → u < length cs → Falls (with_told cells (length cs) (step_on o u))
  step_falls o u h =
      let k : end_of (suc (rank u)) cells u < length cs = end_within (suc (rank u)) u h in
      still_falls is_same cells rank falls (length cs) u (past cs) (λ q. absurd (omega (arith, k, q))) (step_on o u) (λ x. x)

  -- the same, as a function that adds a cell wants it
  pub add_step : (c : Cell) (o : On) (u : ℕ) → told c ≡ step_on o u → u < length cs → Tells cs (cs ++ (c ∷ [])) (λ at. at (length cs) ≡ o ∷ at u)
  add_step c o u e h =
      let k : AreCells (cs ++ (c ∷ [])) = add_cells c (subst (λ z. Falls (with_told cells (length cs) z)) (sym e) (step_falls o u h)) (subst (IsWithin (length cs)) (sym e) h) in
      let t : Tells cs (cs ++ (c ∷ [])) (λ at. Says at (length cs) (told c)) = add_tells c k in
      record {
        cells = k;
        longer = t.longer;
        says = λ at f. ((t.says at f).0, subst (Says at (length cs)) e (t.says at f).1);
        fits = λ at f s. t.fits at f (subst (Says at (length cs)) (sym e) s);
      }

  pub end_open : (i : ℕ) → cells i ≡ unknown → end_at cs i ≡ i
  end_open i e = ap (end_by i (λ k. end_of (length cs) cells k)) e

  pub end_base : (i : ℕ) → cells i ≡ on_base → end_at cs i ≡ i
  end_base i e = ap (end_by i (λ k. end_of (length cs) cells k)) e

pub is_there : (cs : List Cell) (c : Cell) → length cs < length (cs ++ (c ∷ []))
is_there cs c =
    let e : length (cs ++ (c ∷ [])) ≡ suc (length cs) = length_pushed cs c in
    omega (arith, e)

-- the base clock alone
pub base_alone_cells : AreCells (cell.Base ∷ [])
base_alone_cells =
    record {
      falling = record { rank = λ i. 0; falls = λ i. less i };
      within = λ i. inside i;
      base = refl;
    }
  where
    less : (i : ℕ) → IsLess (λ i. 0) i (told_at (cell.Base ∷ []) i)
    less zero = tt
    less (suc i) = tt

    inside : (i : ℕ) → IsWithin (length (cell.Base ∷ [])) (told_at (cell.Base ∷ []) i)
    inside zero = tt
    inside (suc i) = tt
