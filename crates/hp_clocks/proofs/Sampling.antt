-- What is told of a `when`, and of an operand of a `merge`.
use Rattle.std.proofs.Common.{◌≡◌, ℕ, ◌<◌, ◌≤◌, List, ◌∷◌, length, sym, ap, ◌∙◌, subst, arith}
use Rattle.std.specs.Prelude.{Some}
use Rattle.hp_base.specs.declared.span.Span.{Span}
use Rattle.hp_tree.specs.declared.decl.Cons.{Cons}
use Rattle.hp_tree.specs.Expressions.{Expr, when_is}
use Rattle.hp_tree.specs.Instant.{Clock, without}
use Rattle.hp_meaning.specs.Causal.Clocked.{IsOn}
use Rattle.hp_meaning.specs.Clocking.Clocking.{On}
use Rattle.hp_clocks.specs.declared.cell.Cell.{Cell}
use Rattle.hp_clocks.specs.declared.layer.Seen.{Seen}
use Rattle.hp_clocks.specs.declared.layer.Seen.TheVariants as seen
use Rattle.hp_clocks.specs.Cells.{told_at, Clocks, Fits, AreCells, Tells, Never}
use Rattle.hp_clocks.specs.Scopes.{Sight, standing, IsThere, AreThere, Grows}
use Rattle.hp_clocks.proofs.Growing.{IsLocal, grows_of_tells, grows_then, standing_local, on_local, step_grows, step_never, never_then}

pub grows_like : (cs ds : List Cell) (P Q : Clocks → Type 0) → Grows cs ds P → ((at : Clocks) → Fits (told_at cs) at → P at → Q at) → ((at : Clocks) → Fits (told_at cs) at → Q at → P at) → Grows cs ds Q
grows_like cs ds P Q g f h =
    record {
      cells = g.cells;
      longer = g.longer;
      says = λ at k. ((g.says at k).0, f at (g.says at k).0 (g.says at k).1);
      fits = λ at k q. g.fits at k (h at k q);
    }

still_there : (n m : ℕ) (s : Seen) → n ≤ m → IsThere n s → IsThere m s
still_there n m seen.Nowhere h k = tt
still_there n m (seen.Own i) h k = omega (arith, h, k)
still_there n m (seen.Further i) h k = omega (arith, h, k)

pub all_still_there : (n m : ℕ) (sight : Sight) → n ≤ m → AreThere n sight → AreThere m sight
all_still_there n m sight h k x = still_there n m (sight x) h (k x)

module _ (sight : Sight) where
  -- An operand of a `merge` on a clock.
  pub operand_grows : (cs ds es : List Cell) (n t : ℕ) (o : On) (e : Expr) → AreCells cs → AreThere (length cs) sight → n ≡ length cs → t < length cs → Tells cs ds (λ at. at n ≡ o ∷ at t) → Grows ds es (λ at. IsOn (standing at sight) e (at n)) → Grows cs es (λ at. IsOn (standing at sight) e (o ∷ at t))
  operand_grows cs ds es n t o e a k q h u g =
      step_grows cs ds es n t o (λ at. IsOn (standing at sight) e (at n)) (λ at. IsOn (standing at sight) e (o ∷ at t)) a q h u g
      (λ at more same is r.
      subst (λ z. IsOn z e (more n)) (sym (standing_local (length cs) at more sight same k)) (subst (λ z. IsOn (standing at sight) e z) (sym is) r))
      (λ at is r. subst (λ z. IsOn (standing at sight) e z) is r)

  -- A `when` on a clock, where the name that it reads is on the clock of u.
  pub when_grows : (bs cs ds es fs : List Cell) (n t u : ℕ) (s : Span) (c : Cons) (x : List ℕ) (e : Expr) → AreThere (length bs) sight → n ≡ length cs → t < length bs → u < length bs → Tells bs cs (λ at. standing at sight x ≡ Some (at u)) → ((at : Clocks) → Fits (told_at bs) at → (d : Clock) → standing at sight x ≡ Some d → d ≡ at u) → Tells cs ds (λ at. at n ≡ (c, x) ∷ at u) → Tells ds es (λ at. at t ≡ at n) → Grows es fs (λ at. IsOn (standing at sight) e (at u)) → Grows bs fs (λ at. IsOn (standing at sight) (when_is s e c x) (at t))
  when_grows bs cs ds es fs n t u s c x e k q ht hu t0 clock_is t1 t2 g =
      let l0 : length bs ≤ length cs = t0.longer in
      let l1 : length cs ≤ length ds = t1.longer in
      let uc : u < length cs = omega (arith, l0, hu) in
      let tc : t < length cs = omega (arith, l0, ht) in
      let ud : u < length ds = omega (arith, l1, uc) in
      let kc : AreThere (length cs) sight = all_still_there (length bs) (length cs) sight l0 k in
      let kd : AreThere (length ds) sight = all_still_there (length cs) (length ds) sight l1 kc in
      let body : Grows ds fs (λ at. (at t ≡ at n) × IsOn (standing at sight) e (at u)) =
      grows_then ds es fs (λ at. at t ≡ at n) (λ at. IsOn (standing at sight) e (at u)) (on_local (length ds) sight e u kd ud)
      (grows_of_tells ds es (λ at. at t ≡ at n) t2) g in
      let step : Grows cs fs (λ at. (at t ≡ (c, x) ∷ at u) × IsOn (standing at sight) e (at u)) =
      step_grows cs ds fs n u (c, x) (λ at. (at t ≡ at n) × IsOn (standing at sight) e (at u)) (λ at. (at t ≡ (c, x) ∷ at u) × IsOn (standing at sight) e (at u)) t0.cells q uc t1 body
      (λ at more same is r. (same t tc ∙ r.0 ∙ sym is, on_local (length cs) sight e u kc uc at more same r.1))
      (λ at is r. (r.0 ∙ is, r.1)) in
      let local : IsLocal (length bs) (λ at. (at t ≡ (c, x) ∷ at u) × IsOn (standing at sight) e (at u)) =
      λ at more same r. (same t ht ∙ r.0 ∙ ap (λ z. (c, x) ∷ z) (sym (same u hu)), on_local (length bs) sight e u k hu at more same r.1) in
      let all : Grows bs fs (λ at. (standing at sight x ≡ Some (at u)) × ((at t ≡ (c, x) ∷ at u) × IsOn (standing at sight) e (at u))) =
      grows_then bs cs fs (λ at. standing at sight x ≡ Some (at u)) (λ at. (at t ≡ (c, x) ∷ at u) × IsOn (standing at sight) e (at u)) local
      (grows_of_tells bs cs (λ at. standing at sight x ≡ Some (at u)) t0) step in
      grows_like bs fs (λ at. (standing at sight x ≡ Some (at u)) × ((at t ≡ (c, x) ∷ at u) × IsOn (standing at sight) e (at u))) (λ at. IsOn (standing at sight) (when_is s e c x) (at t)) all
      (λ at f p.
      let w : without (at t) ≡ at u = ap without p.1.0 in
      (p.1.0 ∙ ap (λ z. (c, x) ∷ z) (sym w), p.0 ∙ ap Some (sym w), subst (λ z. IsOn (standing at sight) e z) (sym w) p.1.1))
      (λ at f p.
      let w : without (at t) ≡ at u = clock_is at f (without (at t)) p.1 in
      (p.1 ∙ ap Some w, (p.0 ∙ ap (λ z. (c, x) ∷ z) w, subst (λ z. IsOn (standing at sight) e z) w p.2)))

  -- Where the clocks of a `when` and of its operand clash.
  pub when_never_here : (bs cs ds : List Cell) (n t u : ℕ) (s : Span) (c : Cons) (x : List ℕ) (e : Expr) → AreThere (length bs) sight → n ≡ length cs → t < length bs → u < length bs → Tells bs cs (λ at. standing at sight x ≡ Some (at u)) → ((at : Clocks) → Fits (told_at bs) at → (d : Clock) → standing at sight x ≡ Some d → d ≡ at u) → Tells cs ds (λ at. at n ≡ (c, x) ∷ at u) → Never ds (λ at. at t ≡ at n) → Never bs (λ at. IsOn (standing at sight) (when_is s e c x) (at t))
  when_never_here bs cs ds n t u s c x e k q ht hu t0 clock_is t1 never at f p =
      let l0 : length bs ≤ length cs = t0.longer in
      let w : without (at t) ≡ at u = clock_is at f (without (at t)) p.1 in
      let uc : u < length cs = omega (arith, l0, hu) in
      let tc : t < length cs = omega (arith, l0, ht) in
      step_never cs ds n u (c, x) (λ at. at t ≡ at n) (λ at. at t ≡ (c, x) ∷ at u) t0.cells q uc t1 never
      (λ at more same is r. same t tc ∙ r ∙ sym is) at (t0.fits at f (p.1 ∙ ap Some w)) (p.0 ∙ ap (λ z. (c, x) ∷ z) w)

  pub when_never : (bs cs ds es : List Cell) (n t u : ℕ) (s : Span) (c : Cons) (x : List ℕ) (e : Expr) → AreThere (length bs) sight → n ≡ length cs → t < length bs → u < length bs → Tells bs cs (λ at. standing at sight x ≡ Some (at u)) → ((at : Clocks) → Fits (told_at bs) at → (d : Clock) → standing at sight x ≡ Some d → d ≡ at u) → Tells cs ds (λ at. at n ≡ (c, x) ∷ at u) → Tells ds es (λ at. at t ≡ at n) → Never es (λ at. IsOn (standing at sight) e (at u)) → Never bs (λ at. IsOn (standing at sight) (when_is s e c x) (at t))
  when_never bs cs ds es n t u s c x e k q ht hu t0 clock_is t1 t2 never at f p =
      let l0 : length bs ≤ length cs = t0.longer in
      let l1 : length cs ≤ length ds = t1.longer in
      let uc : u < length cs = omega (arith, l0, hu) in
      let tc : t < length cs = omega (arith, l0, ht) in
      let kc : AreThere (length cs) sight = all_still_there (length bs) (length cs) sight l0 k in
      let w : without (at t) ≡ at u = clock_is at f (without (at t)) p.1 in
      step_never cs ds n u (c, x) (λ at. (at t ≡ at n) × IsOn (standing at sight) e (at u)) (λ at. (at t ≡ (c, x) ∷ at u) × IsOn (standing at sight) e (at u)) t0.cells q uc t1
      (never_then ds es (λ at. at t ≡ at n) (λ at. IsOn (standing at sight) e (at u)) t2 never)
      (λ at more same is r. (same t tc ∙ r.0 ∙ sym is, on_local (length cs) sight e u kc uc at more same r.1)) at (t0.fits at f (p.1 ∙ ap Some w))
      (p.0 ∙ ap (λ z. (c, x) ∷ z) w, subst (λ z. IsOn (standing at sight) e z) w p.2)
