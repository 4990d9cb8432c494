-- Gates that are left out where they are constant, and clocks.
use Rattle.std.proofs.Common.{◌≡◌, ℕ, nat_eq, Bool, true, false, not, ◌&&◌, ◌||◌, if◌then◌else◌, List, [], ◌∷◌, ◌++◌, refl, sym, ap, subst, ◌∙◌}
use Rattle.std.specs.Prelude.{slice_get}
use Rattle.std.proofs.lemmas.Bool.{eqb-true}
use Rattle.std.proofs.lemmas.List.{append-nil}
use Rattle.std.proofs.lemmas.Option.{same_Some}
use Rattle.hp_tree.specs.declared.decl.Cons.{Cons}
use Rattle.hp_tree.specs.Instant.{Instant, Clock, holds, without}
use Rattle.hp_tree.specs.Meaning.{Names}
use Rattle.hp_tree.specs.Operators.{is_cons}
use Rattle.hp_tree.specs.Programs.{TypeDecl}
use Rattle.hp_meaning.specs.Causal.Points.{Placed}
use Rattle.hp_circuit.specs.declared.circuit.Shape.{Shape}
use Rattle.hp_circuit.specs.declared.circuit.Shape.TheVariants.{Truth}
use Rattle.hp_circuit.specs.declared.circuit.Wire.TheVariants as wire
use Rattle.hp_circuit.specs.Meaning.{truth, holds as is_high}
use Rattle.hp_drawing.specs.declared.parts.Clock.{Clock as ClockLine}
use Rattle.hp_drawing.specs.declared.parts.Place.{Place}
use Rattle.hp_drawing.specs.Sketch as sketch
use Rattle.hp_drawing.specs.Sketch.{Sketch, low, high, base, push, not_gate, and_gate, or_gate, choose_gate, add_clock, inner_clock, outer_clock, holds_by, outer_by}
use Rattle.hp_drawing.specs.Places.{there}
use Rattle.law_drawing.specs.Carrying.Solving.{Has}
use Rattle.law_drawing.specs.Carrying.Drawing.{IsSolved, IsDrawn, IsClock, IsPlace}
use Rattle.law_drawing.proofs.CarryingLemmas.Numbers.{get-next, get-front}
use Rattle.law_drawing.proofs.CarryingLemmas.Steps.{Made, both, gate, nothing-drawn, high-truth, and-true, clock-stays, on-clock-still}

-- ---- numbers of truth values

pub truth-low : (b : Bool) → truth b ≡ 0 → b ≡ false
truth-low true e = absurd cc
truth-low false e = refl

pub truth-high : (b : Bool) → truth b ≡ 1 → b ≡ true
truth-high true e = refl
truth-high false e = absurd cc

same-number : (ns : List ℕ) (w j k : ℕ) → Has ns w j → Has ns w k → j ≡ k
same-number ns w j k h g = same_Some j k (sym h ∙ g)

and-false : (b : Bool) → b && false ≡ false
and-false true = refl
and-false false = refl

or-true : (b : Bool) → b || true ≡ true
or-true true = refl
or-true false = refl

or-false : (b : Bool) → b || false ≡ b
or-false true = refl
or-false false = refl

and-turned : (a b : Bool) → a && b ≡ b && a
and-turned true true = refl
and-turned true false = refl
and-turned false true = refl
and-turned false false = refl

module _ (slot : ℕ → ℕ) (next : Instant) (supposes owes : Placed → Bool) where
  low-is : (s : Sketch) (ns : List ℕ) → IsSolved slot s ns → (w : ℕ) (b : Bool) → nat_eq w low ≡ true → Has ns w (truth b) → b ≡ false
  low-is s ns g w b e h = truth-low b (same-number ns low (truth b) 0 (subst (λ i. Has ns i (truth b)) (eqb-true w low e) h) g.low_is)

  high-is : (s : Sketch) (ns : List ℕ) → IsSolved slot s ns → (w : ℕ) (b : Bool) → nat_eq w high ≡ true → Has ns w (truth b) → b ≡ true
  high-is s ns g w b e h = truth-high b (same-number ns high (truth b) 1 (subst (λ i. Has ns i (truth b)) (eqb-true w high e) h) g.high_is)

  -- a wire that is there already
  there-already : (s : Sketch) (ns : List ℕ) → IsSolved slot s ns → (w k : ℕ) → Has ns w k → Made slot next supposes owes s ns [] [] k (w, s)
  there-already s ns g w k h = (ns, nothing-drawn slot next supposes owes s ns g, h)

  if-made : (s : Sketch) (ns : List ℕ) (k : ℕ) (b : Bool) (x y : ℕ × Sketch) → (b ≡ true → Made slot next supposes owes s ns [] [] k x) → Made slot next supposes owes s ns [] [] k y → Made slot next supposes owes s ns [] [] k (if b then x else y)
  if-made s ns k true x y f g = f refl
  if-made s ns k false x y f g = g

  pub not-drawn : (a : ℕ) (x : Bool) (s : Sketch) (ns : List ℕ) → IsSolved slot s ns → Has ns a (truth x) → Made slot next supposes owes s ns [] [] (truth (not x)) (not_gate a s)
  unfolding not_gate
  not-drawn a x s ns g h =
      if-made s ns (truth (not x)) (nat_eq a low) (high, s) _
      (λ e. there-already s ns g high (truth (not x)) (subst (λ b. Has ns high (truth (not b))) (sym (low-is s ns g a x e h)) g.high_is))
      (if-made s ns (truth (not x)) (nat_eq a high) (low, s) (push (wire.Not a) Truth s)
      (λ e. there-already s ns g low (truth (not x)) (subst (λ b. Has ns low (truth (not b))) (sym (high-is s ns g a x e h)) g.low_is))
      (gate slot next supposes owes (wire.Not a) Truth s ns (truth (not x)) g (truth x, h, ap (λ b. truth (not b)) (sym (high-truth x)))))

  pub and-drawn : (a b : ℕ) (x y : Bool) (s : Sketch) (ns : List ℕ) → IsSolved slot s ns → Has ns a (truth x) → Has ns b (truth y) → Made slot next supposes owes s ns [] [] (truth (x && y)) (and_gate a b s)
  unfolding and_gate
  and-drawn a b x y s ns g h k =
      if-made s ns (truth (x && y)) (nat_eq a low) (low, s) _
      (λ e. there-already s ns g low (truth (x && y)) (subst (λ z. Has ns low (truth (z && y))) (sym (low-is s ns g a x e h)) g.low_is))
      (if-made s ns (truth (x && y)) (nat_eq b low) (low, s) _
      (λ e. there-already s ns g low (truth (x && y)) (subst (λ z. Has ns low (truth (x && z))) (sym (low-is s ns g b y e k)) (subst (λ z. Has ns low (truth z)) (sym (and-false x)) g.low_is)))
      (if-made s ns (truth (x && y)) (nat_eq a high) (b, s) _
      (λ e. there-already s ns g b (truth (x && y)) (subst (λ z. Has ns b (truth (z && y))) (sym (high-is s ns g a x e h)) k))
      (if-made s ns (truth (x && y)) (nat_eq b high) (a, s) (push (wire.And a b) Truth s)
      (λ e. there-already s ns g a (truth (x && y)) (subst (λ z. Has ns a (truth (x && z))) (sym (high-is s ns g b y e k)) (subst (λ z. Has ns a (truth z)) (sym (and-true x)) h)))
      (gate slot next supposes owes (wire.And a b) Truth s ns (truth (x && y)) g (truth x, truth y, h, k, ap (λ z. truth (z && y)) (sym (high-truth x)) ∙ ap (λ z. truth (is_high (truth x) && z)) (sym (high-truth y)))))))

  pub or-drawn : (a b : ℕ) (x y : Bool) (s : Sketch) (ns : List ℕ) → IsSolved slot s ns → Has ns a (truth x) → Has ns b (truth y) → Made slot next supposes owes s ns [] [] (truth (x || y)) (or_gate a b s)
  unfolding or_gate
  or-drawn a b x y s ns g h k =
      if-made s ns (truth (x || y)) (nat_eq a high) (high, s) _
      (λ e. there-already s ns g high (truth (x || y)) (subst (λ z. Has ns high (truth (z || y))) (sym (high-is s ns g a x e h)) g.high_is))
      (if-made s ns (truth (x || y)) (nat_eq b high) (high, s) _
      (λ e. there-already s ns g high (truth (x || y)) (subst (λ z. Has ns high (truth (x || z))) (sym (high-is s ns g b y e k)) (subst (λ z. Has ns high (truth z)) (sym (or-true x)) g.high_is)))
      (if-made s ns (truth (x || y)) (nat_eq a low) (b, s) _
      (λ e. there-already s ns g b (truth (x || y)) (subst (λ z. Has ns b (truth (z || y))) (sym (low-is s ns g a x e h)) k))
      (if-made s ns (truth (x || y)) (nat_eq b low) (a, s) (push (wire.Or a b) Truth s)
      (λ e. there-already s ns g a (truth (x || y)) (subst (λ z. Has ns a (truth (x || z))) (sym (low-is s ns g b y e k)) (subst (λ z. Has ns a (truth z)) (sym (or-false x)) h)))
      (gate slot next supposes owes (wire.Or a b) Truth s ns (truth (x || y)) g (truth x, truth y, h, k, ap (λ z. truth (z || y)) (sym (high-truth x)) ∙ ap (λ z. truth (is_high (truth x) || z)) (sym (high-truth y)))))))

  pub choose-drawn : (c a b : ℕ) (p : Shape) (z : Bool) (i j : ℕ) (s : Sketch) (ns : List ℕ) → IsSolved slot s ns → Has ns c (truth z) → Has ns a i → Has ns b j → Made slot next supposes owes s ns [] [] (if z then i else j) (choose_gate c a b p s)
  unfolding choose_gate
  choose-drawn c a b p z i j s ns g h k l =
      if-made s ns (if z then i else j) (nat_eq c low) (b, s) _
      (λ e. there-already s ns g b (if z then i else j) (subst (λ q. Has ns b (if q then i else j)) (sym (low-is s ns g c z e h)) l))
      (if-made s ns (if z then i else j) (nat_eq c high) (a, s) (push (wire.If c a b) p s)
      (λ e. there-already s ns g a (if z then i else j) (subst (λ q. Has ns a (if q then i else j)) (sym (high-is s ns g c z e h)) k))
      (gate slot next supposes owes (wire.If c a b) p s ns (if z then i else j) g (truth z, i, j, h, k, l, ap (λ q. if q then i else j) (sym (high-truth z)))))

  -- ---- clocks

  -- whether a clock holds, and its outer clock
  pub clock-holds : (types : List TypeDecl) (names : Names) (s : Sketch) (ns : List ℕ) → IsSolved slot s ns → (n : ℕ) (clock : Clock) → IsClock types names s.clocks ns n clock → Has ns (sketch.holds n s) (truth (holds types clock names))
  unfolding sketch.holds
  clock-holds types names s ns g n [] h = subst (λ w. Has ns w 1) (sym (ap (λ m. holds_by (slice_get s.clocks m)) h ∙ ap holds_by g.base_is)) g.high_is
  clock-holds types names s ns g n (step ∷ clock) h = subst (λ w. Has ns w (truth (holds types (step ∷ clock) names))) (sym (ap holds_by h.1)) h.2

  pub clock-outer : (types : List TypeDecl) (names : Names) (s : Sketch) (ns : List ℕ) → IsSolved slot s ns → (n : ℕ) (clock : Clock) → IsClock types names s.clocks ns n clock → IsClock types names s.clocks ns (outer_clock n s) (without clock)
  unfolding outer_clock
  clock-outer types names s ns g n [] h = ap (λ m. outer_by (slice_get s.clocks m)) h ∙ ap outer_by g.base_is
  clock-outer types names s ns g n (step ∷ clock) h = subst (λ m. IsClock types names s.clocks ns m clock) (sym (ap outer_by h.1)) h.3

  pub there-drawn : (types : List TypeDecl) (names : Names) (place : Place) (here cut kept : Bool) (clock : Clock) (s : Sketch) (ns : List ℕ) → IsSolved slot s ns → IsPlace ns place here cut kept → IsClock types names s.clocks ns place.clock clock
      → Made slot next supposes owes s ns [] [] (truth (here && holds types clock names)) (there place s)
  unfolding there
  there-drawn types names place here cut kept clock s ns g p c = and-drawn place.here (sketch.holds place.clock s) here (holds types clock names) s ns g p.here_is (clock-holds types names s ns g place.clock clock c)

  -- a clock more
  clock-added : (types : List TypeDecl) (names : Names) (w outer : ℕ) (s : Sketch) (ns : List ℕ) (step : Cons × List ℕ) (clock : Clock) → IsSolved slot s ns → Has ns w (truth (holds types (step ∷ clock) names)) → IsClock types names s.clocks ns outer clock
      → IsDrawn slot next supposes owes s ns [] [] (add_clock w outer s).1 ns × IsClock types names (add_clock w outer s).1.clocks ns (add_clock w outer s).0 (step ∷ clock)
  unfolding add_clock
  clock-added types names w outer s ns step clock g h c =
      let line : ClockLine = record { holds = w; outer = outer } in (
        record {
          more = [];
          grown = sym (append-nil ns);
          solved = record { solved = g.solved; low_is = g.low_is; high_is = g.high_is; base_is = get-front s.clocks (line ∷ []) base (record { holds = high; outer = base }) g.base_is; shaped = g.shaped; hyp_is = g.hyp_is; duty_is = g.duty_is };
          more_clocks = line ∷ [];
          clocks = refl;
          more_shapes = [];
          shapes = sym (append-nil s.shapes);
          laid = [];
          slots = sym (append-nil s.slots);
          are_laid = refl;
          told = λ supposed owed t. record { hyp = subst (λ q. Has ns s.hyp (truth q)) (sym (and-true supposed)) t.hyp; duty = subst (λ q. Has ns s.duty (truth q)) (sym (and-true owed)) t.duty };
        },
        (line, get-next s.clocks line, h, subst (λ l. IsClock types names (s.clocks ++ line ∷ []) l outer clock) (append-nil ns) (clock-stays types names s.clocks (line ∷ []) ns [] outer clock c)),
      )

  -- A clock with one step more, which holds where that and the step do.
  pub inner-drawn : (types : List TypeDecl) (names : Names) (n w : ℕ) (s : Sketch) (ns : List ℕ) (step : Cons × List ℕ) (clock : Clock) → IsSolved slot s ns → Has ns w (truth (is_cons types (names step.1) step.0)) → IsClock types names s.clocks ns n clock
      → (ns' : List ℕ) × IsDrawn slot next supposes owes s ns [] [] (inner_clock n w s).1 ns' × IsClock types names (inner_clock n w s).1.clocks ns' (inner_clock n w s).0 (step ∷ clock)
  unfolding inner_clock
  inner-drawn types names n w s ns step clock g h c =
      let a = and-drawn (sketch.holds n s) w (holds types clock names) (is_cons types (names step.1) step.0) s ns g (clock-holds types names s ns g n clock c) h in
      let s1 = (and_gate (sketch.holds n s) w s).1 in
      let e : holds types clock names && is_cons types (names step.1) step.0 ≡ holds types (step ∷ clock) names = and-turned (holds types clock names) (is_cons types (names step.1) step.0) in
      let more = clock-added types names (and_gate (sketch.holds n s) w s).0 n s1 a.0 step clock a.1.solved (subst (λ b. Has a.0 (and_gate (sketch.holds n s) w s).0 (truth b)) e a.2)
      (on-clock-still slot next supposes owes types names s ns [] [] s1 a.0 a.1 n clock c) in
      (a.0, both slot next supposes owes s ns [] [] s1 a.0 [] [] (inner_clock n w s).1 a.0 a.1 more.0, more.1)
