-- The flags of free slots go on with what is drawn, and clocks stay: what a single step does.
use Rattle.std.proofs.Common.{◌≡◌, ◌↔◌, ℕ, zero, suc, ◌+◌, ◌<◌, nat_eq, Bool, true, false, ◌&&◌, List, [], ◌∷◌, ◌++◌, length, reverse, Option, None, Some, refl, sym, ap, subst, ◌∙◌, arith}
use Rattle.std.specs.List.{slice_get}
use Rattle.std.proofs.lemmas.List.{append-nil, append_assoc, reverse-append}
use Rattle.std.proofs.Math.Dec.{eqb-suc-zero}
use Rattle.std.proofs.lemmas.Option.{same_Some, none-some}
use Rattle.hp_base.specs.declared.span.Span.{Span}
use Rattle.hp_circuit.specs.declared.circuit.Role.{Role}
use Rattle.hp_circuit.specs.declared.circuit.Role.TheVariants as role
use Rattle.hp_circuit.specs.declared.circuit.Shape.{Shape}
use Rattle.hp_circuit.specs.declared.circuit.Slot.{Slot}
use Rattle.hp_circuit.specs.declared.circuit.Wire.{Wire}
use Rattle.hp_circuit.specs.Forms.{slot_at}
use Rattle.hp_tree.specs.declared.decl.Cons.{Cons}
use Rattle.hp_tree.specs.Blocks.{Decl}
use Rattle.hp_tree.specs.Expressions.{Expr}
use Rattle.hp_tree.specs.Instant.{Place, Clock, without}
use Rattle.hp_tree.specs.Meaning as meaning
use Rattle.hp_tree.specs.Meaning.{clock_in, clock_told, or_base}
use Rattle.hp_meaning.specs.Contract.FreePlaces.{FreeClocks}
use Rattle.hp_drawing.specs.declared.parts.Clock.{Clock as Line}
use Rattle.hp_drawing.specs.declared.parts.Place.{Place as Spot}
use Rattle.hp_drawing.specs.Told.{Told}
use Rattle.hp_drawing.specs.Sketch.{Sketch, base, high, push, set, read, slot, set_next, set_next_at, with_next, next_as, next_slot, add_clock, inner_clock, and_gate, holds, outer_clock, outer_by, with_hyp, with_duty, with_assume, nothing, begun, empty}
use Rattle.hp_drawing.specs.Places.{on_clock, may_be_early}
use Rattle.hp_drawing.specs.Scopes.{Scope, value_in}
use Rattle.hp_drawing.specs.DrawnExpressions.{has_cons, step_clock, outside_of}
use Rattle.hp_drawing.specs.DrawnBlocks as blocks
use Rattle.hp_drawing.specs.DrawnBlocks.{Telling, untold, at_base, of_name, on_value, Path, path_of, clock_on, clock_by, tells}
use Rattle.hp_drawing.proofs.SetLaws.{set-is}
use Rattle.law_drawing.proofs.CarryingLemmas.Clocks.{telling_clock, same-told}
use Rattle.law_drawing.specs.Early.Flags.{IsFlagged, AreFlagged}
use Rattle.law_drawing.proofs.EarlyLemmas.Running.{IsHeld, Running, TellingRuns, and-runs, step-runs, cons-runs, clock_on-runs}

-- ---- clocks

get-front : {A : Type 0} (xs more : List A) (i : ℕ) (v : A) → slice_get xs i ≡ Some v → slice_get (xs ++ more) i ≡ Some v
get-front [] more i v h = absurd (none-some v h)
get-front (x ∷ xs) more zero v h = h
get-front (x ∷ xs) more (suc i) v h = get-front xs more i v h

get-last : {A : Type 0} (xs : List A) (v : A) → slice_get (xs ++ v ∷ []) (length xs) ≡ Some v
get-last [] v = refl
get-last (x ∷ xs) v = get-last xs v

-- clocks that are more
abbrev pub Later : List Line → List Line → Type 0
Later cs cs' = (more : List Line) × (cs' ≡ cs ++ more)

abbrev pub HasBase : List Line → Type 0
HasBase cs = slice_get cs base ≡ Some (record { holds = high; outer = base })

-- The number of a clock: that of the base clock is its own, and that of another one has the number of the clock around it.
abbrev pub IsClock : List Line → ℕ → Clock → Type 0
IsClock cs n [] = n ≡ base
IsClock cs n (step ∷ clock) = (line : Line) × (slice_get cs n ≡ Some line) × (nat_eq n base ≡ false) × IsClock cs line.outer clock

pub base-later : (cs cs' : List Line) → Later cs cs' → HasBase cs → HasBase cs'
base-later cs cs' l h = subst HasBase (sym l.1) (get-front cs l.0 base (record { holds = high; outer = base }) h)

pub clock-later : (cs cs' : List Line) → Later cs cs' → (n : ℕ) (clock : Clock) → IsClock cs n clock → IsClock cs' n clock
clock-later cs cs' l n [] h = h
clock-later cs cs' l n (step ∷ clock) h = (h.0, subst (λ xs. slice_get xs n ≡ Some h.0) (sym l.1) (get-front cs l.0 n h.0 h.1), h.2, clock-later cs cs' l h.0.outer clock h.3)

not-base : (cs : List Line) → HasBase cs → nat_eq (length cs) base ≡ false
not-base [] h = absurd (none-some (record { holds = high; outer = base }) h)
not-base (c ∷ cs) h = eqb-suc-zero (length cs)

-- the scope of a block knows the clocks of its names
abbrev pub KnowsClocks : Scope → List Decl → Type 0
KnowsClocks z ds = (x : List ℕ) → reverse (path_of z ds x) ≡ clock_in ds x

-- what is free in a part of the node itself, and nothing elsewhere
abbrev pub if_own : Bool → Option Clock → Option Clock
if_own true o = o
if_own false o = None

pub none-own : (own : Bool) → if_own own None ≡ None
none-own true = refl
none-own false = refl

-- ---- controllable variables

-- the slot of a number is that of a controllable variable with this wire
abbrev pub IsControlAt : List Slot → ℕ → ℕ → Type 0
IsControlAt cs i w = (c : Slot) × (slice_get cs i ≡ Some c) × (c.role ≡ role.Control) × (c.wire ≡ w)

pub control-front : (cs more : List Slot) (i w : ℕ) → IsControlAt cs i w → IsControlAt (cs ++ more) i w
control-front cs more i w h = (h.0, get-front cs more i h.0 h.1, h.2, h.3)

control-next : (cs : List Slot) (j next i w : ℕ) → IsControlAt cs i w → IsControlAt (set_next_at cs j next) i w
control-next [] j next i w h = h
control-next (c ∷ cs) zero next zero w h =
    let e : c ≡ h.0 = same_Some c h.0 h.1 in
    (with_next c next, refl, ap (λ r. next_as r next) (ap (λ x. x.role) e ∙ h.2), ap (λ x. x.wire) e ∙ h.3)
control-next (c ∷ cs) zero next (suc i) w h = h
control-next (c ∷ cs) (suc j) next zero w h = h
control-next (c ∷ cs) (suc j) next (suc i) w h = control-next cs j next i w h

-- ---- roles

role-next : (clocks : FreeClocks) (p : Place) (r : Role) (next : ℕ) → IsFlagged clocks p r → IsFlagged clocks p (next_as r next)
role-next clocks p (role.Register first old) next h = tt
role-next clocks p role.Input next h = tt
role-next clocks p role.Control next h = tt
role-next clocks p (role.Free early) next h = h

role-held : (clocks : FreeClocks) (p : Place) (r : Role) → IsHeld r → IsFlagged clocks p r
role-held clocks p (role.Register first next) h = tt
role-held clocks p role.Input h = tt
role-held clocks p role.Control h = tt
role-held clocks p (role.Free early) h = absurd h

module _ (place : ℕ → Place) (clocks : FreeClocks) where
  abbrev Flagged : ℕ → List Slot → Type 0
  Flagged i cs = AreFlagged place clocks i cs

  flags-next : (i : ℕ) (cs : List Slot) (j next : ℕ) → Flagged i cs → Flagged i (set_next_at cs j next)
  flags-next i [] j next h = tt
  flags-next i (c ∷ cs) zero next h = (role-next clocks (place i) c.role next h.0, h.1)
  flags-next i (c ∷ cs) (suc j) next h = (h.0, flags-next (suc i) cs j next h.1)

  flags-more : (i : ℕ) (cs : List Slot) (c : Slot) → Flagged i cs → IsFlagged clocks (place (length cs + i)) c.role → Flagged i (cs ++ c ∷ [])
  flags-more i [] c h r = (subst (λ j. IsFlagged clocks (place j) c.role) (let e : 0 + i ≡ i = omega arith in e) r, tt)
  flags-more i (d ∷ cs) c h r = (h.0, flags-more (suc i) cs c h.1 (subst (λ j. IsFlagged clocks (place j) c.role) (let e : suc (length cs) + i ≡ length cs + suc i = omega arith in e) r))

  flag-from : (i : ℕ) (cs : List Slot) (j : ℕ) → Flagged i cs → j < length cs → IsFlagged clocks (place (j + i)) (slot_at cs j).role
  flag-from i [] j h l = absurd (omega (arith, l))
  flag-from i (c ∷ cs) zero h l = subst (λ j. IsFlagged clocks (place j) c.role) (let e : i ≡ 0 + i = omega arith in e) h.0
  flag-from i (c ∷ cs) (suc j) h l = subst (λ k. IsFlagged clocks (place k) (slot_at cs j).role) (let e : j + suc i ≡ suc j + i = omega arith in e) (flag-from (suc i) cs j h.1 (omega (arith, l)))

  pub flag-of : (cs : List Slot) (j : ℕ) → Flagged 0 cs → j < length cs → (early : Bool) → (slot_at cs j).role ≡ role.Free early → early ≡ true ↔ clocks (place j) ≡ Some []
  flag-of cs j h l early e =
      let f = flag-from 0 cs j h l in
      subst (IsFlagged clocks (place j)) e (subst (λ k. IsFlagged clocks (place k) (slot_at cs j).role) (let z : j + 0 ≡ j = omega arith in z) f)

  -- ---- a step goes on with clocks and flags

  pub record Goes (s s' : Sketch) : Type 0 where
    pub later : Later s.clocks s'.clocks
    pub flags : Flagged 0 s.slots → Flagged 0 s'.slots
    pub controls : (i w : ℕ) → IsControlAt s.slots i w → IsControlAt s'.slots i w

  same-clocks : (cs : List Line) → Later cs cs
  same-clocks cs = ([], sym (append-nil cs))

  pub stays : (s : Sketch) → Goes s s
  stays s = record { later = same-clocks s.clocks; flags = λ h. h; controls = λ i w c. c }

  pub goes-both : (a b c : Sketch) → Goes a b → Goes b c → Goes a c
  goes-both a b c g h = record {
    later = (g.later.0 ++ h.later.0, h.later.1 ∙ ap (λ l. l ++ h.later.0) g.later.1 ∙ append_assoc a.clocks g.later.0 h.later.0);
    flags = λ f. h.flags (g.flags f);
    controls = λ i w k. h.controls i w (g.controls i w k);
  }

  push-goes : (w : Wire) (p : Shape) (s : Sketch) → Goes s (push w p s).1
  unfolding push
  push-goes w p s = record { later = same-clocks s.clocks; flags = λ h. h; controls = λ i w c. c }

  set-goes : (w : ℕ) (g : Wire) (s : Sketch) → Goes s (set w g s)
  set-goes w g s = subst (λ b. Goes s b) (sym (set-is w g s)) (record { later = same-clocks s.clocks; flags = λ h. h; controls = λ i w c. c })

  pub read-goes : (w v : ℕ) (s : Sketch) → Goes s (read w v s)
  unfolding read
  read-goes w v s = record { later = same-clocks s.clocks; flags = λ h. h; controls = λ i w c. c }

  clock-goes : (h o : ℕ) (s : Sketch) → Goes s (add_clock h o s).1
  unfolding add_clock
  clock-goes h o s = record { later = (record { holds = h; outer = o } ∷ [], refl); flags = λ f. f; controls = λ i w c. c }

  hyp-goes : (w : ℕ) (s : Sketch) → Goes s (with_hyp w s)
  unfolding with_hyp
  hyp-goes w s = record { later = same-clocks s.clocks; flags = λ h. h; controls = λ i w c. c }

  duty-goes : (w : ℕ) (s : Sketch) → Goes s (with_duty w s)
  unfolding with_duty
  duty-goes w s = record { later = same-clocks s.clocks; flags = λ h. h; controls = λ i w c. c }

  assume-goes : (w : ℕ) (s : Sketch) → Goes s (with_assume w s)
  unfolding with_assume
  assume-goes w s = record { later = same-clocks s.clocks; flags = λ h. h; controls = λ i w c. c }

  next-goes : (i next : ℕ) (s : Sketch) → Goes s (set_next i next s)
  unfolding set_next
  next-goes i next s = record { later = same-clocks s.clocks; flags = λ h. flags-next 0 s.slots i next h; controls = λ j w c. control-next s.slots i next j w c }

  -- a slot more, where its role is right
  pub slot-goes : (r : Role) (p : Shape) (s : Sketch) → IsFlagged clocks (place (next_slot s)) r → Goes s (slot r p s).1
  unfolding slot push next_slot
  slot-goes r p s f = record {
    later = same-clocks s.clocks;
    flags = λ h. flags-more 0 s.slots (record { role = r; shape = p; wire = length s.wires }) h (subst (λ j. IsFlagged clocks (place j) r) (let e : length s.slots ≡ length s.slots + 0 = omega arith in e) f);
    controls = λ i w c. control-front s.slots (record { role = r; shape = p; wire = length s.wires } ∷ []) i w c;
  }

  pub going : Running Goes
  going = record {
    none_runs = stays;
    both_run = goes-both;
    push_runs = push-goes;
    set_runs = set-goes;
    read_runs = read-goes;
    clock_runs = clock-goes;
    next_runs = next-goes;
    slot_runs = λ r p s h. slot-goes r p s (role-held clocks (place (next_slot s)) r h);
  }

  pub going-told : TellingRuns Goes
  going-told = record { hyp_runs = hyp-goes; duty_runs = duty-goes; assume_runs = assume-goes }

  pub empty-flagged : Flagged 0 empty.slots × HasBase empty.clocks
  unfolding empty begun push add_clock nothing
  empty-flagged = (tt, refl)

  -- ---- where something is drawn: a place on a clock, in the node itself or not

  pub record Stands (s : Sketch) (spot : Spot) (own : Bool) (clock : Clock) : Type 0 where
    pub based : HasBase s.clocks
    pub clock_is : IsClock s.clocks spot.clock clock
    pub outside : spot.outside ≡ own

  pub stands-behind : (s s' : Sketch) (spot : Spot) (own : Bool) (clock : Clock) → Goes s s' → Stands s spot own clock → Stands s' spot own clock
  stands-behind s s' spot own clock g h = record { based = base-later s.clocks s'.clocks g.later h.based; clock_is = clock-later s.clocks s'.clocks g.later spot.clock clock h.clock_is; outside = h.outside }

  -- the same place on the clock without its innermost step
  pub stands-outside : (s : Sketch) (spot : Spot) (own : Bool) (clock : Clock) → Stands s spot own clock → Stands s (outside_of spot s) own (without clock)
  unfolding outer_clock
  stands-outside s spot own [] h = record { based = h.based; clock_is = ap (λ n. outer_by (slice_get s.clocks n)) h.clock_is ∙ ap outer_by h.based; outside = h.outside }
  stands-outside s spot own (step ∷ clock) h = record { based = h.based; clock_is = subst (λ n. IsClock s.clocks n clock) (sym (ap outer_by h.clock_is.1)) h.clock_is.3; outside = h.outside }

  inner-clock : (n : ℕ) (clock : Clock) (step : Cons × List ℕ) (w : ℕ) (s : Sketch) → HasBase s.clocks → IsClock s.clocks n clock → IsClock (inner_clock n w s).1.clocks (inner_clock n w s).0 (step ∷ clock)
  unfolding inner_clock add_clock
  inner-clock n clock step w s b h =
      let g = and_gate (holds n s) w s in
      let l = (and-runs Goes going (holds n s) w s).later in
      let line : Line = record { holds = g.0; outer = n } in
      (line, get-last g.1.clocks line, not-base g.1.clocks (base-later s.clocks g.1.clocks l b), clock-later g.1.clocks (g.1.clocks ++ line ∷ []) (line ∷ [], refl) n clock (clock-later s.clocks g.1.clocks l n clock h))

  -- a clock with a step more
  step-clock : (t : Told) (z : Scope) (n : ℕ) (clock : Clock) (c : Cons) (x : List ℕ) (s : Sketch) → HasBase s.clocks → IsClock s.clocks n clock → IsClock (step_clock t z n c x s).1.clocks (step_clock t z n c x s).0 ((c, x) ∷ clock)
  unfolding step_clock
  step-clock t z n clock c x s b h =
      let is = has_cons t (value_in z x).wire c s in
      let l = (cons-runs Goes going t (value_in z x).wire c s).later in
      inner-clock n clock (c, x) is.0 is.1 (base-later s.clocks is.1.clocks l b) (clock-later s.clocks is.1.clocks l n clock h)

  pub stands-stepped : (t : Told) (z : Scope) (spot : Spot) (own : Bool) (clock : Clock) (c : Cons) (x : List ℕ) (s : Sketch) → Stands s spot own clock → let inner = step_clock t z spot.clock c x s in Stands inner.1 (on_clock spot inner.0) own ((c, x) ∷ clock)
  stands-stepped t z spot own clock c x s h = record {
    based = base-later s.clocks (step_clock t z spot.clock c x s).1.clocks (step-runs Goes going t z spot.clock c x s).later h.based;
    clock_is = step-clock t z spot.clock clock c x s h.based h.clock_is;
    outside = h.outside;
  }

  -- ---- the clock of a definition

  path-clock : (t : Told) (z : Scope) (path : Path) (n : ℕ) (clock : Clock) (s : Sketch) → HasBase s.clocks → IsClock s.clocks n clock → IsClock (clock_on t z n path s).1.clocks (clock_on t z n path s).0 (reverse path ++ clock)
  path-clock t z [] n clock s b h = h
  path-clock t z (p ∷ ps) n clock s b h =
      let c = step_clock t z n p.0 p.1 s in
      let e : reverse ps ++ (p ∷ clock) ≡ reverse (p ∷ ps) ++ clock = sym (append_assoc (reverse ps) (p ∷ []) clock) ∙ sym (ap (λ l. l ++ clock) (reverse-append (p ∷ []) ps)) in
      subst (IsClock (clock_on t z c.0 ps c.1).1.clocks (clock_on t z c.0 ps c.1).0) e
      (path-clock t z ps c.0 (p ∷ clock) c.1 (base-later s.clocks c.1.clocks (step-runs Goes going t z n p.0 p.1 s).later b) (step-clock t z n clock p.0 p.1 s b h))

  name-clock : (t : Told) (z : Scope) (ds : List Decl) (x : List ℕ) (s : Sketch) → KnowsClocks z ds → HasBase s.clocks → IsClock (clock_on t z base (path_of z ds x) s).1.clocks (clock_on t z base (path_of z ds x) s).0 (clock_in ds x)
  name-clock t z ds x s k b =
      let c = clock_on t z base (path_of z ds x) s in
      subst (IsClock c.1.clocks c.0) (append-nil (reverse (path_of z ds x)) ∙ k x) (path-clock t z (path_of z ds x) base [] s b refl)

  telling-clock : (t : Told) (z : Scope) (ds : List Decl) (told : Telling) (s : Sketch) → KnowsClocks z ds → HasBase s.clocks → IsClock (clock_by t z ds told s).1.clocks (clock_by t z ds told s).0 (or_base (telling_clock ds told))
  telling-clock t z ds untold s k b = refl
  telling-clock t z ds at_base s k b = refl
  telling-clock t z ds (of_name x) s k b = name-clock t z ds x s k b
  telling-clock t z ds (on_value c x) s k b =
      let outer = clock_on t z base (path_of z ds x) s in
      step-clock t z outer.0 (clock_in ds x) c x outer.1 (base-later s.clocks outer.1.clocks (clock_on-runs Goes going t z base (path_of z ds x) s).later b) (name-clock t z ds x s k b)

  pub defined-clock : (t : Told) (z : Scope) (ds : List Decl) (xs : List (List ℕ × Span)) (e : Expr) (s : Sketch) → KnowsClocks z ds → HasBase s.clocks → IsClock (blocks.clock_of t z ds xs e s).1.clocks (blocks.clock_of t z ds xs e s).0 (meaning.clock_of ds xs e)
  unfolding blocks.clock_of
  defined-clock t z ds [] e s k b = subst (λ ck. IsClock (clock_by t z ds (tells e) s).1.clocks (clock_by t z ds (tells e) s).0 ck) (sym (ap or_base (same-told ds e))) (telling-clock t z ds (tells e) s k b)
  defined-clock t z ds (x ∷ xs) e s k b = telling-clock t z ds (of_name x.0) s k b

  -- ---- a free slot is flagged where its place stands on the base clock

  pub flag-right : (s : Sketch) (spot : Spot) (own : Bool) (clock : Clock) (p : Place) → Stands s spot own clock → clocks p ≡ if_own own (Some clock) → place (next_slot s) ≡ p → IsFlagged clocks (place (next_slot s)) (role.Free (may_be_early spot))
  flag-right s spot false clock p h c e =
      let off : may_be_early spot ≡ false = ap (λ b. b && nat_eq spot.clock base) h.outside in
      (λ k. absurd (let z : true ≡ false = sym k ∙ off in cc), λ k. absurd (none-some [] (sym c ∙ sym (ap clocks e) ∙ k)))
  flag-right s spot true [] p h c e =
      (λ k. ap clocks e ∙ c, λ k. ap (λ b. b && nat_eq spot.clock base) h.outside ∙ ap (λ n. nat_eq n base) h.clock_is)
  flag-right s spot true (step ∷ clock) p h c e =
      let off : may_be_early spot ≡ false = ap (λ b. b && nat_eq spot.clock base) h.outside ∙ h.clock_is.2 in
      (λ k. absurd (let z : true ≡ false = sym k ∙ off in cc), λ k. absurd (let z : step ∷ clock ≡ [] = same_Some (step ∷ clock) [] (sym c ∙ sym (ap clocks e) ∙ k) in cc))
