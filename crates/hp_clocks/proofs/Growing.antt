-- What is told of expressions, one after another.
use Rattle.std.proofs.Common.{◌≡◌, ℕ, zero, suc, ◌<◌, ◌≤◌, List, [], ◌∷◌, length, refl, sym, ap, ◌∙◌, subst, arith}
use Rattle.std.specs.Prelude.{if◌then◌else◌, Some}
use Rattle.hp_tree.specs.Expressions.{Expr}
use Rattle.hp_tree.specs.Instant.{Clock}
use Rattle.hp_meaning.specs.Causal.Clocked.{base_alone, IsOn}
use Rattle.hp_meaning.specs.Clocking.Clocking.{On}
use Rattle.hp_meaning.proofs.ClockingLemmas.Unify.{decided}
use Rattle.hp_clocks.specs.declared.cell.Cell.{Cell}
use Rattle.hp_clocks.specs.declared.layer.Seen.{Seen}
use Rattle.hp_clocks.specs.declared.layer.Seen.TheVariants as seen
use Rattle.hp_clocks.specs.Cells.{Told, unknown, same_as, on_base, step_on, told_at, Clocks, Says, Fits, is_cell, IsWithin, AreCells, Tells, Never}
use Rattle.hp_clocks.specs.Scopes.{Sight, seen_clock, standing, IsThere, AreThere, Agree, Grows}
use Rattle.hp_clocks.proofs.Arrays.{is_same}

-- ---- one after another

pub tells_then : (cs ds es : List Cell) (P Q : Clocks → Type 0) → Tells cs ds P → Tells ds es Q → Tells cs es (λ at. P at × Q at)
tells_then cs ds es P Q t u =
    let p : length cs ≤ length ds = t.longer in
    let q : length ds ≤ length es = u.longer in
    record {
      cells = u.cells;
      longer = omega (arith, p, q);
      says = λ at f. ((t.says at (u.says at f).0).0, ((t.says at (u.says at f).0).1, (u.says at f).1));
      fits = λ at f h. u.fits at (t.fits at f h.0) h.1;
    }

pub never_then : (cs ds : List Cell) (P Q : Clocks → Type 0) → Tells cs ds P → Never ds Q → Never cs (λ at. P at × Q at)
never_then cs ds P Q t n at f h = n at (t.fits at f h.0) h.1

agree_here : (n : ℕ) (at : Clocks) → Agree n at at
agree_here n at i h = refl

pub grows_of_tells : (cs ds : List Cell) (P : Clocks → Type 0) → Tells cs ds P → Grows cs ds P
grows_of_tells cs ds P t =
    record { cells = t.cells; longer = t.longer; says = t.says; fits = λ at f h. (at, t.fits at f h, agree_here (length cs) at) }

-- It is told of the first cells alone.
abbrev pub IsLocal : ℕ → (Clocks → Type 0) → Type 0
IsLocal n P = (at more : Clocks) → Agree n at more → P at → P more

pub grows_then : (cs ds es : List Cell) (P Q : Clocks → Type 0) → IsLocal (length cs) Q → Grows cs ds P → Grows ds es Q → Grows cs es (λ at. P at × Q at)
grows_then cs ds es P Q l t u =
    let p : length cs ≤ length ds = t.longer in
    let q : length ds ≤ length es = u.longer in
    record {
      cells = u.cells;
      longer = omega (arith, p, q);
      says = λ at f. ((t.says at (u.says at f).0).0, ((t.says at (u.says at f).0).1, (u.says at f).1));
      fits = λ at f h.
          let first : (more : Clocks) × Fits (told_at ds) more × Agree (length cs) at more = t.fits at f h.0 in
          let second : (more : Clocks) × Fits (told_at es) more × Agree (length ds) first.0 more =
          u.fits first.0 first.1 (l at first.0 first.2 h.1) in
          (second.0, second.1, λ i k. second.2 i (omega (arith, p, k)) ∙ first.2 i k);
    }

pub grows_never : (cs ds : List Cell) (P Q : Clocks → Type 0) → IsLocal (length cs) Q → Grows cs ds P → Never ds Q → Never cs (λ at. P at × Q at)
grows_never cs ds P Q l t n at f h =
    let first : (more : Clocks) × Fits (told_at ds) more × Agree (length cs) at more = t.fits at f h.0 in
    n first.0 first.1 (l at first.0 first.2 h.1)

-- ---- clocks of the first cells

pub fits_local : (cs : List Cell) → AreCells cs → (at more : Clocks) → Agree (length cs) at more → Fits (told_at cs) at → Fits (told_at cs) more
fits_local cs a at more g f i = by (told_at cs i) refl (a.within i) (f i)
  where
    past_known : (es : List Cell) (j : ℕ) → (told_at es j ≡ unknown → ⊥) → j < length es
    past_known [] j h = absurd (h refl)
    past_known (c ∷ es) zero h = omega arith
    past_known (c ∷ es) (suc j) h =
        let k : j < length es = past_known es j h in
        omega (arith, k)

    by : (c : Told) → told_at cs i ≡ c → IsWithin (length cs) c → Says at i c → Says more i c
    by unknown e w s = tt
    by (same_as j) e w s = g i (past_known cs i (λ q. absurd (cc (sym e ∙ q)))) ∙ s ∙ sym (g j w)
    by on_base e w s = g i (past_known cs i (λ q. absurd (cc (sym e ∙ q)))) ∙ s
    by (step_on o u) e w s = g i (past_known cs i (λ q. absurd (cc (sym e ∙ q)))) ∙ s ∙ ap (λ z. o ∷ z) (sym (g u w))

seen_local : (n : ℕ) (at more : Clocks) (s : Seen) → Agree n at more → IsThere n s → seen_clock more s ≡ seen_clock at s
seen_local n at more seen.Nowhere g h = refl
seen_local n at more (seen.Own i) g h = ap Some (g i h)
seen_local n at more (seen.Further i) g h = ap (λ z. base_alone (Some z)) (g i h)

pub standing_local : (n : ℕ) (at more : Clocks) (sight : Sight) → Agree n at more → AreThere n sight → standing more sight ≡ standing at sight
standing_local n at more sight g h = λ z x. seen_local n at more (sight x) g (h x) z

pub on_local : (n : ℕ) (sight : Sight) (e : Expr) (t : ℕ) → AreThere n sight → t < n → IsLocal n (λ at. IsOn (standing at sight) e (at t))
on_local n sight e t h k at more g o =
    subst (λ z. IsOn z e (more t)) (sym (standing_local n at more sight g h)) (subst (λ z. IsOn (standing at sight) e z) (sym (g t k)) o)

-- ---- a clock for one more cell

with_clock : ℕ → Clock → Clocks → Clocks
with_clock n c at i = if is_cell n i then c else at i

with_there : (n : ℕ) (c : Clock) (at : Clocks) → with_clock n c at n ≡ c
unfolding with_clock
with_there n c at = ap (λ d. if d then c else at n) ((is_same n n).1 refl)

with_agrees : (n : ℕ) (c : Clock) (at : Clocks) → Agree n at (with_clock n c at)
unfolding with_clock
with_agrees n c at i h =
    decided (is_cell n i) (is_same n i) (λ d q. absurd (omega (arith, h, q))) (λ d q. ap (λ z. if z then c else at i) d)

-- A step is added and more is told of it.
pub step_grows : (cs ds es : List Cell) (n u : ℕ) (o : On) (Q R : Clocks → Type 0) → AreCells cs → n ≡ length cs → u < length cs → Tells cs ds (λ at. at n ≡ o ∷ at u) → Grows ds es Q → ((at more : Clocks) → Agree (length cs) at more → more n ≡ o ∷ at u → R at → Q more) → ((at : Clocks) → at n ≡ o ∷ at u → Q at → R at) → Grows cs es R
step_grows cs ds es n u o Q R a e h t g into back =
    let p : length cs ≤ length ds = t.longer in
    let q : length ds ≤ length es = g.longer in
    record {
      cells = g.cells;
      longer = omega (arith, p, q);
      says = λ at f.
          let d : Fits (told_at ds) at × Q at = g.says at f in
          ((t.says at d.0).0, back at (t.says at d.0).1 d.1);
      fits = λ at f r.
          let more : Clocks = with_clock n (o ∷ at u) at in
          let same : Agree (length cs) at more = subst (λ z. Agree z at more) e (with_agrees n (o ∷ at u) at) in
          let is : more n ≡ o ∷ at u = with_there n (o ∷ at u) at in
          let first : Fits (told_at ds) more = t.fits more (fits_local cs a at more same f) (is ∙ ap (λ z. o ∷ z) (sym (same u h))) in
          let second : (last : Clocks) × Fits (told_at es) last × Agree (length ds) more last = g.fits more first (into at more same is r) in
          (second.0, second.1, λ i k. second.2 i (omega (arith, p, k)) ∙ same i k);
    }

-- a step that is added, of which something is never
pub step_never : (cs ds : List Cell) (n u : ℕ) (o : On) (Q R : Clocks → Type 0) → AreCells cs → n ≡ length cs → u < length cs → Tells cs ds (λ at. at n ≡ o ∷ at u) → Never ds Q → ((at more : Clocks) → Agree (length cs) at more → more n ≡ o ∷ at u → R at → Q more) → Never cs R
step_never cs ds n u o Q R a e h t g into at f r =
    let more : Clocks = with_clock n (o ∷ at u) at in
    let same : Agree (length cs) at more = subst (λ z. Agree z at more) e (with_agrees n (o ∷ at u) at) in
    let is : more n ≡ o ∷ at u = with_there n (o ∷ at u) at in
    let first : Fits (told_at ds) more = t.fits more (fits_local cs a at more same f) (is ∙ ap (λ z. o ∷ z) (sym (same u h))) in
    g more first (into at more same is r)
