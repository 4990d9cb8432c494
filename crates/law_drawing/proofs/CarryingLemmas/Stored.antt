-- What registers read, keep and take, by what a part stores; registers and given values among slots, and chains.
use Rattle.std.proofs.Common.{◌≡◌, ℕ, suc, Bool, true, false, ◌&&◌, if◌then◌else◌, List, [], ◌∷◌, length, refl, sym, ap, subst, ◌∙◌}
use Rattle.hp_base.specs.declared.ty.Ty.{Ty}
use Rattle.hp_base.specs.declared.ty.Ty.TheVariants as ty
use Rattle.hp_base.specs.declared.value.Value.{Value}
use Rattle.hp_base.specs.declared.value.Value.TheVariants.{Absent, Nil, B, E, I, Star}
use Rattle.hp_tree.specs.Instant.{Step, Instant, Clock, part, Place as TreePlace}
use Rattle.hp_tree.specs.Meaning.{Names}
use Rattle.hp_tree.specs.Programs.{TypeDecl}
use Rattle.hp_meaning.specs.Causal.Points.{Placed}
use Rattle.hp_meaning.specs.Contract.Memory.{number_in}
use Rattle.hp_meaning.specs.Contract.Slots as slots
use Rattle.hp_meaning.specs.Contract.Slots.{register, free, is_int, shape_of}
use Rattle.hp_circuit.specs.declared.circuit.Role.{Role}
use Rattle.hp_circuit.specs.declared.circuit.Shape.{Shape}
use Rattle.hp_circuit.specs.declared.circuit.Shape.TheVariants.{Truth, Cons, Mark}
use Rattle.hp_circuit.specs.declared.circuit.Slot.{Slot}
use Rattle.hp_circuit.specs.declared.circuit.Wire.TheVariants as wire
use Rattle.hp_circuit.specs.Meaning.{truth, holds}
use Rattle.law_games.specs.Wires.Wired.{blank}
use Rattle.hp_drawing.specs.declared.parts.Place.{Place}
use Rattle.hp_drawing.specs.declared.parts.Value.{Value as Carried}
use Rattle.hp_drawing.specs.Kept.{is_mark}
use Rattle.hp_drawing.specs.Scopes.{Scope, value_in, last_in}
use Rattle.hp_drawing.specs.Sketch.{Sketch, slot as slot_step, set, read, hole}
use Rattle.hp_drawing.specs.Places.{on_clock, chain_add, chain_add_as, chain_end}
use Rattle.law_drawing.specs.Carrying.Solving.{Has}
use Rattle.law_drawing.specs.Carrying.Drawing.{AreHeld, Takes, AreLaid, IsSolved, IsDrawn, IsClock, IsStored, IsReady}
use Rattle.law_drawing.proofs.CarryingLemmas.Steps.{Made, stays, both, set-drawn, read-drawn, hole-drawn, high-truth, on-clock-still}
use Rattle.law_drawing.proofs.CarryingLemmas.Registers.{begins, closed, slot-opened}

-- ---- what a part stores

pub stored-part : (step : Step) (here cut kept : Bool) (begin memory stays after raw next : Instant) → IsStored here cut kept begin memory stays after raw next
    → IsStored here cut kept (part step begin) (part step memory) (part step stays) (part step after) (part step raw) (part step next)
stored-part step here cut kept begin memory stays after raw next h = record { reads = λ p. h.reads (step ∷ p); keeps = λ p. h.keeps (step ∷ p); nexts = λ p. h.nexts (step ∷ p) }

either-number : (b : Bool) (i j k l : ℕ) → i ≡ k → j ≡ l → (if b then i else j) ≡ (if b then k else l)
either-number true i j k l e f = e
either-number false i j k l e f = f

-- what is read of a register is what memory holds
pub read-number : (here cut kept : Bool) (begin memory stays after raw next : Instant) (p : TreePlace) (first held : ℕ) → IsStored here cut kept begin memory stays after raw next → first ≡ number_in (begin p) → held ≡ number_in (raw p)
    → (if cut then first else held) ≡ number_in (memory p)
read-number here cut kept begin memory stays after raw next p first held h e f = either-number cut first held (number_in (begin p)) (number_in (raw p)) e f ∙ sym (h.reads p)

-- and what it takes is what memory holds next
pub take-number : (here cut kept holds : Bool) (begin memory stays after raw next : Instant) (p : TreePlace) (first held i : ℕ) → IsStored here cut kept begin memory stays after raw next → (here ≡ true → kept ≡ cut)
    → first ≡ number_in (begin p) → held ≡ number_in (raw p) → number_in (after p) ≡ (if holds then i else number_in (memory p))
    → (if here && holds then i else (if kept then first else held)) ≡ number_in (next p)
take-number here cut kept holds begin memory stays after raw next p first held i h same e f a = by here holds h.nexts same a
  where
    keeps : (if kept then first else held) ≡ (if kept then number_in (begin p) else number_in (raw p))
    keeps = either-number kept first held (number_in (begin p)) (number_in (raw p)) e f

    by : (here holds : Bool) → ((p : TreePlace) → number_in (next p) ≡ (if here then number_in (after p) else number_in (stays p))) → (here ≡ true → kept ≡ cut) → number_in (after p) ≡ (if holds then i else number_in (memory p))
        → (if here && holds then i else (if kept then first else held)) ≡ number_in (next p)
    by true true n s a = sym (n p ∙ a)
    by true false n s a = keeps ∙ ap (λ b. if b then number_in (begin p) else number_in (raw p)) (s refl) ∙ sym (h.reads p) ∙ sym (n p ∙ a)
    by false holds n s a = keeps ∙ sym (h.keeps p) ∙ sym (n p)

-- ---- registers and given values among slots

module _ (types : List TypeDecl) (ns : List ℕ) (next : Instant) where
  pub lay-register : (t : Ty) (p : TreePlace) (ss : List slots.Slot) (o : Slot) (os : List Slot) (k : ℕ) → is_int t ≡ false → Takes ns k o.role → k ≡ number_in (next p) → AreLaid ns next ss os → AreLaid ns next (register p (shape_of types t) ∷ ss) (o ∷ os)
  lay-register ty.Bool p ss o os k e h f l = (subst (λ n. Takes ns n o.role) f h, l)
  lay-register ty.Int p ss o os k e h f l = absurd cc
  lay-register (ty.Enum x) p ss o os k e h f l = (subst (λ n. Takes ns n o.role) f h, l)

module _ (slot : ℕ → ℕ) (memory given : Instant) where
  pub held-register : (types : List TypeDecl) (t : Ty) (p : TreePlace) (ss : List slots.Slot) (n : ℕ) → is_int t ≡ false → AreHeld slot memory given (register p (shape_of types t) ∷ ss) n → (slot n ≡ number_in (memory p)) × AreHeld slot memory given ss (suc n)
  held-register types ty.Bool p ss n e h = (h.0, h.1)
  held-register types ty.Int p ss n e h = absurd cc
  held-register types (ty.Enum x) p ss n e h = (h.0, h.1)

  pub held-mark : (types : List TypeDecl) (t : Ty) (p : TreePlace) (ss : List slots.Slot) (n : ℕ) → is_int t ≡ true → AreHeld slot memory given (register p (shape_of types t) ∷ ss) n → AreHeld slot memory given ss n
  held-mark types ty.Bool p ss n e h = absurd cc
  held-mark types ty.Int p ss n e h = h
  held-mark types (ty.Enum x) p ss n e h = absurd cc

module _ (slot : ℕ → ℕ) (next : Instant) (supposes owes : Placed → Bool) where
  -- an integer has no slot
  pub as-mark : (types : List TypeDecl) (t : Ty) (p : TreePlace) (s : Sketch) (ns : List ℕ) (ss : List slots.Slot) (cs : List Placed) (s1 : Sketch) (ns1 : List ℕ) → is_int t ≡ true → IsDrawn slot next supposes owes s ns ss cs s1 ns1 → IsDrawn slot next supposes owes s ns (register p (shape_of types t) ∷ ss) cs s1 ns1
  as-mark types ty.Bool p s ns ss cs s1 ns1 e d = absurd cc
  as-mark types (ty.Enum x) p s ns ss cs s1 ns1 e d = absurd cc
  as-mark types ty.Int p s ns ss cs s1 ns1 e d = record {
    more = d.more;
    grown = d.grown;
    solved = d.solved;
    more_clocks = d.more_clocks;
    clocks = d.clocks;
    more_shapes = d.more_shapes;
    shapes = d.shapes;
    laid = d.laid;
    slots = d.slots;
    are_laid = d.are_laid;
    told = d.told;
  }

  -- something that is given
  pub free-drawn : (s : Sketch) (ns : List ℕ) (p : TreePlace) (t : Ty) (r : Role) (shape : Shape) (k : ℕ) → IsSolved slot s ns → slot (length s.slots) ≡ k → Made slot next supposes owes s ns (free p t ∷ []) [] k (slot_step r shape s)
  free-drawn s ns p t r shape k g e =
      let a = slot-opened slot next supposes owes s ns [] s ns r shape (begins slot next supposes owes s ns g) in
      (a.0, closed slot next supposes owes s ns (a.1 ∷ []) (free p t ∷ []) [] [] (slot_step r shape s).1 a.0 a.3 (tt, refl), subst (λ n. Has a.0 (slot_step r shape s).0 n) e a.4)

  -- ---- chains

  pub chain-drawn : (h c : ℕ) (v : Carried) (b : Bool) (i j : ℕ) (s : Sketch) (ns : List ℕ) → IsSolved slot s ns → Has ns h (if b then i else j) → Has ns c (truth b) → Has ns v.wire i → (is_mark v.shape ≡ true → (i ≡ 0) × (j ≡ 0))
      → Made slot next supposes owes s ns [] [] j (chain_add h c v s)
  unfolding chain_add
  chain-drawn h c v b i j s ns g k l e f = by v.shape f
    where
      same : (b : Bool) → (i ≡ 0) × (j ≡ 0) → (if b then i else j) ≡ j
      same true z = z.0 ∙ sym z.1
      same false z = refl

      put : (p : Shape) → (p ≡ Mark → j ≡ 0) → Made slot next supposes owes s ns [] [] j ((hole p s).0, set h (wire.If c v.wire (hole p s).0) (hole p s).1)
      put p z =
          let m = hole-drawn slot next supposes owes p s ns j g z in
          let d = (hole p s).1 in
          let more : (w k : ℕ) → Has ns w k → Has m.0 w k = stays slot next supposes owes s ns [] [] d m.0 m.1 in
          let x = set-drawn slot next supposes owes h (wire.If c v.wire (hole p s).0) d m.0 (if b then i else j) m.1.solved (more h (if b then i else j) k)
          (truth b, i, j, more c (truth b) l, more v.wire i e, m.2, ap (λ q. if q then i else j) (sym (high-truth b))) in
          (m.0, both slot next supposes owes s ns [] [] d m.0 [] [] (set h (wire.If c v.wire (hole p s).0) d) m.0 m.1 x, m.2)

      by : (p : Shape) → (is_mark p ≡ true → (i ≡ 0) × (j ≡ 0)) → Made slot next supposes owes s ns [] [] j (chain_add_as p h c v.wire s)
      by Mark f =
          let d = read-drawn slot next supposes owes h c s ns g in
          let x = read-drawn slot next supposes owes h v.wire (read h c s) ns d.solved in
          (ns, both slot next supposes owes s ns [] [] (read h c s) ns [] [] (read h v.wire (read h c s)) ns d x, subst (λ n. Has ns h n) (same b (f refl)) k)
      by Truth f = put Truth (λ e. absurd cc)
      by (Cons m) f = put (Cons m) (λ e. absurd cc)

  pub chain-ended : (h : ℕ) (s : Sketch) (ns : List ℕ) → IsSolved slot s ns → Has ns h 0 → IsDrawn slot next supposes owes s ns [] [] (chain_end h s) ns
  unfolding chain_end
  chain-ended h s ns g e = set-drawn slot next supposes owes h (wire.Constant 0) s ns 0 g e refl

  -- ---- where something stands

  pub ready-more : (types : List TypeDecl) (names last : Names) (z : Scope) (place : Place) (clock : Clock) (here cut kept : Bool) (s : Sketch) (ns : List ℕ) (ss : List slots.Slot) (cs : List Placed) (s1 : Sketch) (ns1 : List ℕ)
      → IsDrawn slot next supposes owes s ns ss cs s1 ns1 → IsReady slot types names last z place clock here cut kept s ns → IsReady slot types names last z place clock here cut kept s1 ns1
  ready-more types names last z place clock here cut kept s ns ss cs s1 ns1 d r =
      let more : (w k : ℕ) → Has ns w k → Has ns1 w k = stays slot next supposes owes s ns ss cs s1 ns1 d in
      record {
        solved = d.solved;
        place_is = record { here_is = more place.here (truth here) r.place_is.here_is; cut_is = more place.cut (truth cut) r.place_is.cut_is; kept_is = more place.kept (truth kept) r.place_is.kept_is; same = r.place_is.same };
        clock_is = on-clock-still slot next supposes owes types names s ns ss cs s1 ns1 d place.clock clock r.clock_is;
        values = λ x. more (value_in z x).wire (number_in (names x)) (r.values x);
        lasts = λ x. more (last_in z x).wire (number_in (last x)) (r.lasts x);
      }

-- the same on another clock
pub ready-on : (slot : ℕ → ℕ) (types : List TypeDecl) (names last : Names) (z : Scope) (place : Place) (clock other : Clock) (here cut kept : Bool) (s : Sketch) (ns : List ℕ) (n : ℕ)
    → IsReady slot types names last z place clock here cut kept s ns → IsClock types names s.clocks ns n other → IsReady slot types names last z (on_clock place n) other here cut kept s ns
ready-on slot types names last z place clock other here cut kept s ns n r c = record {
  solved = r.solved;
  place_is = record { here_is = r.place_is.here_is; cut_is = r.place_is.cut_is; kept_is = r.place_is.kept_is; same = r.place_is.same };
  clock_is = c;
  values = r.values;
  lasts = r.lasts;
}

pub blank-zero : (v : Value) → number_in (blank v) ≡ 0
blank-zero Absent = refl
blank-zero Nil = refl
blank-zero (B b) = refl
blank-zero (E t n) = refl
blank-zero (I n) = refl
blank-zero Star = refl
