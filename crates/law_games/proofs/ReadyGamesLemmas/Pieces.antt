-- The registers of a part of a node: their places are below the part and apart from those of other parts, so that each holds zeros at the start.
use Rattle.std.proofs.Common.{◌≡◌, List, [], ◌∷◌, ◌++◌, refl, sym, ap, subst, ◌∙◌, ◌⊎◌, inl, inr}
use Rattle.std.specs.Prelude.{Bool, true, false, if◌then◌else◌, Option, None, Some, ⊤}
use Rattle.hp_base.specs.declared.value.Value.{Value}
use Rattle.hp_base.specs.declared.value.Value.TheVariants.{Absent}
use Rattle.hp_tree.specs.Instant.{Step, Place, Instant, part, or_else}
use Rattle.hp_meaning.specs.Causal.Sources.{below}
use Rattle.hp_meaning.specs.Causal.RanksOfPoints.{same_place}
use Rattle.hp_meaning.proofs.CausalLemmas.Ranking.{place_same, same_place_refl}
use Rattle.hp_meaning.specs.Contract.Slots.{Shape, truth, mark, cons, Slot, register, free, input, control, Register, registers_among, zero_of, zero_at}

-- ---- places below a part

-- the step with which a place begins
abbrev pub head : Place → Option Step
head [] = None
head (s ∷ p) = Some s

-- ways to a part that lead to different places
abbrev pub Apart : (Place → Place) → Type 0
Apart w = (p q : Place) → w p ≡ w q → p ≡ q

pub apart_below : (s : Step) (w : Place → Place) → Apart w → Apart (below s w)
apart_below s w a p q e = let h : s ∷ p ≡ s ∷ q = a (s ∷ p) (s ∷ q) e in cc

-- a place of a part, by its first step
abbrev pub Within : (Option Step → Type 0) → (Place → Place) → Place → Type 0
Within K w p = (q : Place) × (p ≡ w q) × K (head q)

abbrev pub AllWithin : (Option Step → Type 0) → (Place → Place) → List Register → Type 0
AllWithin K w [] = ⊤
AllWithin K w (r ∷ rs) = Within K w r.0 × AllWithin K w rs

abbrev pub anywhere : Option Step → Type 0
anywhere k = ⊤

abbrev pub nowhere : Option Step → Type 0
nowhere k = ⊥

abbrev pub begins : Step → Option Step → Type 0
begins s k = k ≡ Some s

abbrev pub either : (Option Step → Type 0) → (Option Step → Type 0) → Option Step → Type 0
either K L k = K k ⊎ L k

all_loose : (K L : Option Step → Type 0) (w : Place → Place) (rs : List Register) → ((k : Option Step) → K k → L k) → AllWithin K w rs → AllWithin L w rs
all_loose K L w [] f h = tt
all_loose K L w (r ∷ rs) f h = ((h.0.0, h.0.1, f (head h.0.0) h.0.2), all_loose K L w rs f h.1)

all_joined : (K : Option Step → Type 0) (w : Place → Place) (rs ts : List Register) → AllWithin K w rs → AllWithin K w ts → AllWithin K w (rs ++ ts)
all_joined K w [] ts h k = k
all_joined K w (r ∷ rs) ts h k = (h.0, all_joined K w rs ts h.1 k)

all_below : (K : Option Step → Type 0) (s : Step) (w : Place → Place) (rs : List Register) → AllWithin K (below s w) rs → AllWithin (begins s) w rs
all_below K s w [] h = tt
all_below K s w (r ∷ rs) h = ((s ∷ h.0.0, h.0.1, refl), all_below K s w rs h.1)

-- ---- zeros

-- Each register holds zeros.
abbrev pub HoldsZeros : Instant → List Register → Type 0
HoldsZeros start [] = ⊤
HoldsZeros start (r ∷ rs) = (start r.0 ≡ zero_of r.1) × HoldsZeros start rs

holds_front : (start : Instant) (rs ts : List Register) → HoldsZeros start (rs ++ ts) → HoldsZeros start rs
holds_front start [] ts h = tt
holds_front start (r ∷ rs) ts h = (h.0, holds_front start rs ts h.1)

holds_behind : (start : Instant) (rs ts : List Register) → HoldsZeros start (rs ++ ts) → HoldsZeros start ts
holds_behind start [] ts h = h
holds_behind start (r ∷ rs) ts h = holds_behind start rs ts h.1

holds_joined : (start : Instant) (rs ts : List Register) → HoldsZeros start rs → HoldsZeros start ts → HoldsZeros start (rs ++ ts)
holds_joined start [] ts h k = k
holds_joined start (r ∷ rs) ts h k = (h.0, holds_joined start rs ts h.1 k)

zero_first : (k : Shape) (v : Value) → or_else (zero_of k) v ≡ zero_of k
zero_first truth v = refl
zero_first mark v = refl
zero_first (cons t m) v = refl

zero_joined : (rs ts : List Register) (p : Place) → zero_at (rs ++ ts) p ≡ or_else (zero_at rs p) (zero_at ts p)
zero_joined [] ts p = refl
zero_joined (r ∷ rs) ts p = by (same_place r.0 p) (zero_joined rs ts p)
  where
    by : (b : Bool) → zero_at (rs ++ ts) p ≡ or_else (zero_at rs p) (zero_at ts p) → (if b then zero_of r.1 else zero_at (rs ++ ts) p) ≡ or_else (if b then zero_of r.1 else zero_at rs p) (zero_at ts p)
    by true e = sym (zero_first r.1 (zero_at ts p))
    by false e = e

-- elsewhere there is no register
elsewhere : (K L : Option Step → Type 0) (w : Place → Place) → Apart w → ((k : Option Step) → K k → L k → ⊥) → (rs : List Register) (p : Place) → AllWithin K w rs → Within L w p → zero_at rs p ≡ Absent
elsewhere K L w a d [] p h k = refl
elsewhere K L w a d (r ∷ rs) p h k = by (same_place r.0 p) refl (elsewhere K L w a d rs p h.1 k)
  where
    by : (b : Bool) → same_place r.0 p ≡ b → zero_at rs p ≡ Absent → (if b then zero_of r.1 else zero_at rs p) ≡ Absent
    by true e z =
        let same : w h.0.0 ≡ w k.0 = sym h.0.1 ∙ place_same r.0 p e ∙ k.1 in
        absurd (d (head k.0) (subst (λ q. K (head q)) (a h.0.0 k.0 same) h.0.2) k.2)
    by false e z = z

holds_in_front : (rs ts qs : List Register) → HoldsZeros (zero_at rs) qs → HoldsZeros (zero_at (rs ++ ts)) qs
holds_in_front rs ts [] h = tt
holds_in_front rs ts (q ∷ qs) h =
    (zero_joined rs ts q.0 ∙ ap (λ v. or_else v (zero_at ts q.0)) h.0 ∙ zero_first q.1 (zero_at ts q.0), holds_in_front rs ts qs h.1)

holds_in_back : (K L : Option Step → Type 0) (w : Place → Place) → Apart w → ((k : Option Step) → K k → L k → ⊥) → (rs ts qs : List Register) → AllWithin K w rs → AllWithin L w qs → HoldsZeros (zero_at ts) qs → HoldsZeros (zero_at (rs ++ ts)) qs
holds_in_back K L w a d rs ts [] m n h = tt
holds_in_back K L w a d rs ts (q ∷ qs) m n h =
    (zero_joined rs ts q.0 ∙ ap (λ v. or_else v (zero_at ts q.0)) (elsewhere K L w a d rs q.0 m n.0) ∙ h.0, holds_in_back K L w a d rs ts qs m n.1 h.1)

registers_joined : (ss ts : List Slot) → registers_among (ss ++ ts) ≡ registers_among ss ++ registers_among ts
registers_joined [] ts = refl
registers_joined (register p k ∷ ss) ts = ap (λ rs. (p, k) ∷ rs) (registers_joined ss ts)
registers_joined (free p t ∷ ss) ts = registers_joined ss ts
registers_joined (input p t ∷ ss) ts = registers_joined ss ts
registers_joined (control p t ∷ ss) ts = registers_joined ss ts

-- ---- pieces

-- The registers of a part: their places, that these are told apart, and what an instant is in which they hold zeros.
pub record Piece (K : Option Step → Type 0) (w : Place → Place) (ss : List Slot) (P : Instant → Type 0) : Type 0 where
  pub within : AllWithin K w (registers_among ss)
  pub told : HoldsZeros (zero_at (registers_among ss)) (registers_among ss)
  pub kept : (start : Instant) → HoldsZeros start (registers_among ss) → P (λ p. start (w p))

pub loose : (K L : Option Step → Type 0) (w : Place → Place) (ss : List Slot) (P Q : Instant → Type 0) → Piece K w ss P → ((k : Option Step) → K k → L k) → ((i : Instant) → P i → Q i) → Piece L w ss Q
loose K L w ss P Q x f g = record { within = all_loose K L w (registers_among ss) f x.within; told = x.told; kept = λ start h. g (λ p. start (w p)) (x.kept start h) }

pub none : (w : Place → Place) (P : Instant → Type 0) → ((i : Instant) → P i) → Piece nowhere w [] P
none w P f = record { within = tt; told = tt; kept = λ start h. f (λ p. start (w p)) }

pub under : (K : Option Step → Type 0) (s : Step) (w : Place → Place) (ss : List Slot) (P : Instant → Type 0) → Piece K (below s w) ss P → Piece (begins s) w ss (λ i. P (part s i))
under K s w ss P x = record { within = all_below K s w (registers_among ss) x.within; told = x.told; kept = x.kept }

pub single : (w : Place → Place) (q : Place) (k : Shape) → Piece (λ h. h ≡ head q) w (register (w q) k ∷ []) (λ i. i q ≡ zero_of k)
single w q k =
    record {
      within = ((q, refl, refl), tt);
      told = (ap (λ (b : Bool). if b then zero_of k else Absent) (same_place_refl (w q)), tt);
      kept = λ start h. h.0;
    }

pub join : (K L : Option Step → Type 0) (w : Place → Place) (ss ts : List Slot) (P Q : Instant → Type 0) → Apart w → Piece K w ss P → Piece L w ts Q → ((k : Option Step) → K k → L k → ⊥) → Piece (either K L) w (ss ++ ts) (λ i. P i × Q i)
join K L w ss ts P Q a x y d =
    let rs = registers_among ss in
    let us = registers_among ts in
    let e = registers_joined ss ts in
    record {
      within = subst (AllWithin (either K L) w) (sym e) (all_joined (either K L) w rs us (all_loose K (either K L) w rs (λ k h. inl h) x.within) (all_loose L (either K L) w us (λ k h. inr h) y.within));
      told = subst (λ zs. HoldsZeros (zero_at zs) zs) (sym e) (holds_joined (zero_at (rs ++ us)) rs us (holds_in_front rs us rs x.told) (holds_in_back K L w a d rs us us x.within y.within y.told));
      kept = λ start h.
          let g : HoldsZeros start (rs ++ us) = subst (HoldsZeros start) e h in
          (x.kept start (holds_front start rs us g), y.kept start (holds_behind start rs us g));
    }

-- slots that are no registers
pub beside : (K : Option Step → Type 0) (w : Place → Place) (ss ts : List Slot) (P : Instant → Type 0) → registers_among ss ≡ [] → Piece K w ts P → Piece K w (ss ++ ts) P
beside K w ss ts P n x =
    let e : registers_among ts ≡ registers_among (ss ++ ts) = sym (registers_joined ss ts ∙ ap (λ rs. rs ++ registers_among ts) n) in
    record {
      within = subst (AllWithin K w) e x.within;
      told = subst (λ zs. HoldsZeros (zero_at zs) zs) e x.told;
      kept = λ start h. x.kept start (subst (HoldsZeros start) (sym e) h);
    }
