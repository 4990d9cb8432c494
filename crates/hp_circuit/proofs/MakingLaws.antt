-- The gates of wires have the numbers of wires.
use Rattle.std.proofs.Common.{◌≡◌, ◌≢◌, ◌≤◌, ◌<◌, ◌⊎◌, inl, inr, ℕ, zero, suc, ◌+◌, List, [], ◌∷◌, length, get_or, set, refl, sym, ap, ap₂, subst, ◌∙◌, arith}
use Rattle.std.specs.Prelude.{Bool, true, false, not, ◌&&◌, ◌||◌, if◌then◌else◌, nat_eq, nat_le, Option, Some, None}
use Rattle.std.proofs.lemmas.List.{get_or-set_same, get_or-set_other, length-set}
use Rattle.hp_boolx.specs.declared.gate.Gate.{Gate}
use Rattle.hp_boolx.specs.Search.{Bits}
use Rattle.hp_circuit.specs.declared.circuit.Shape.{Shape}
use Rattle.hp_circuit.specs.declared.circuit.Shape.TheVariants.{Truth, Cons, Mark}
use Rattle.hp_circuit.specs.declared.circuit.Slot.{Slot}
use Rattle.hp_circuit.specs.declared.circuit.Wire.{Wire}
use Rattle.hp_circuit.specs.declared.circuit.Wire.TheVariants as wire
use Rattle.hp_circuit.specs.Numbers.{pow2, to_bits, number, are_same, compared}
use Rattle.hp_circuit.specs.Shapes.{shape_width}
use Rattle.hp_circuit.specs.Forms.{shape_at, slot_at, wire_at, IsValue, WireFits, AreWires}
use Rattle.hp_circuit.specs.Meaning.{holds, truth, wire_value, Solves}
use Rattle.hp_circuit.specs.Adding.{at, row, word, HasFirst, AddsRow}
use Rattle.hp_circuit.specs.Making.{start_at, or_zero, moved, AtReads, IsMade, compared_width, place_at, wire_bits, named_by, AreBelow, AreThere, slot_number, wire_number, ArePlaced, Stands, Makes}
use Rattle.hp_circuit.specs.Ordering.{IsAmong, AreInOrder}
use Rattle.hp_circuit.proofs.NumberLaws.{length_bits, number_of_bits, width_fits, le_true, le_false, tests}
use Rattle.hp_circuit.proofs.ComparedLaws.{same_is, equal_is}
use Rattle.hp_circuit.proofs.AddingLaws.{row_kept, row_long}

-- an element that is read
pub read : {A : Type 0} → (xs : List A) (i : ℕ) (x d : A) → x ≡ get_or xs i x → i < length xs → x ≡ get_or xs i d
read [] i x d e l = absurd (omega (arith, l))
read (y ∷ xs) zero x d e l = e
read (y ∷ xs) (suc i) x d e l = read xs i x d e (omega (arith, l))

-- ---- what a wire reads

pub reads_of : (P Q : ℕ → Type 0) → ((a : ℕ) → P a → Q a) → (w : Wire) → AtReads P w → AtReads Q w
reads_of P Q f (wire.Slot i) h = h
reads_of P Q f (wire.Constant k) h = h
reads_of P Q f (wire.Copy a) h = f a h
reads_of P Q f (wire.Not a) h = f a h
reads_of P Q f (wire.And a b) h = (f a h.0, f b h.1)
reads_of P Q f (wire.Or a b) h = (f a h.0, f b h.1)
reads_of P Q f (wire.Xor a b) h = (f a h.0, f b h.1)
reads_of P Q f (wire.Equal a b) h = (f a h.0, f b h.1)
reads_of P Q f (wire.Is a k) h = f a h
reads_of P Q f (wire.If t a b) h = (f t h.0, f a h.1, f b h.2)

-- a wire's number is a function of those that it reads
pub value_same : (s f g : ℕ → ℕ) (w : Wire) → AtReads (λ a. f a ≡ g a) w → wire_value s f w ≡ wire_value s g w
value_same s f g (wire.Slot i) h = refl
value_same s f g (wire.Constant k) h = refl
value_same s f g (wire.Copy a) h = h
value_same s f g (wire.Not a) h = ap (λ x. truth (not (holds x))) h
value_same s f g (wire.And a b) h = ap₂ (λ x y. truth (holds x && holds y)) h.0 h.1
value_same s f g (wire.Or a b) h = ap₂ (λ x y. truth (holds x || holds y)) h.0 h.1
value_same s f g (wire.Xor a b) h = ap₂ (λ x y. truth (if holds x then not (holds y) else holds y)) h.0 h.1
value_same s f g (wire.Equal a b) h = ap₂ (λ x y. truth (nat_eq x y)) h.0 h.1
value_same s f g (wire.Is a k) h = ap (λ x. truth (nat_eq x k)) h
value_same s f g (wire.If t a b) h = ap₂ (λ x y. if holds x then y else f b) h.0 h.1 ∙ ap (λ y. if holds (g t) then g a else y) h.2

-- ---- numbers of one bit

one_bit : (b : Bool) → number (b ∷ []) ≡ truth b
one_bit true = refl
one_bit false = refl

held : (b : Bool) → holds (truth b) ≡ b
held true = refl
held false = refl

choose : (t : Bool) (xs ys : Bits) → number (if t then xs else ys) ≡ (if t then number xs else number ys)
choose true xs ys = refl
choose false xs ys = refl

value_below : (shape : Shape) (k : ℕ) → IsValue shape k → k < pow2 (shape_width shape)
value_below Truth k h = omega (arith, h)
value_below (Cons count) k h = let w = width_fits count in omega (arith, h, w)
value_below Mark k h = omega (arith, h)

module _ (slots : List Slot) (shapes : List Shape) (places : List ℕ) (gates : List Gate) (starts : List (Option ℕ)) where
  abbrev start : ℕ → ℕ
  start a = or_zero (start_at starts a)

  abbrev width_at : ℕ → ℕ
  width_at a = shape_width (shape_at shapes a)

  module _ (all : (a s : ℕ) → start_at starts a ≡ Some s → s + shape_width (shape_at shapes a) ≤ length gates) where
    -- the gates of a wire that has gates
    whole : (a : ℕ) → IsMade starts a → start a + width_at a ≤ length gates
    whole a m = subst (λ (o : Option ℕ). or_zero o + width_at a ≤ length gates) (sym m.1) (all a m.0 m.1)

    shaped : (a : ℕ) (shape : Shape) → shape_at shapes a ≡ shape → IsMade starts a → start a + shape_width shape ≤ length gates
    shaped a shape e m = subst (λ (s : Shape). start a + shape_width s ≤ length gates) e (whole a m)

    single : (a : ℕ) → shape_at shapes a ≡ Truth → IsMade starts a → start a < length gates
    single a e m = let l : start a + 1 ≤ length gates = shaped a Truth e m in omega (arith, l)

    pub all_there : (shape : Shape) (w : Wire) → (length places ≡ length slots) × ((i : ℕ) → i < length slots → place_at places i + shape_width (slot_at slots i).shape ≤ 65535)
        → WireFits slots shapes shape w → AtReads (IsMade starts) w → compared_width shapes w ≤ 64
        → AreThere places (length gates) (shape_width shape) (compared_width shapes w) (moved (λ a. or_zero (start_at starts a)) w)
    all_there shape (wire.Slot i) p f m c = (let l : i < length slots = f.0 in omega (arith, l, p.0), subst (λ (s : Shape). place_at places i + shape_width s ≤ 65535) f.1 (p.1 i f.0))
    all_there shape (wire.Constant k) p f m c = value_below shape k f
    all_there shape (wire.Copy a) p f m c = shaped a shape f.1 m
    all_there shape (wire.Not a) p f m c = (ap shape_width f.0, single a f.1.1 m)
    all_there shape (wire.And a b) p f m c = (ap shape_width f.0, single a f.1.1 m.0, single b f.2.1 m.1)
    all_there shape (wire.Or a b) p f m c = (ap shape_width f.0, single a f.1.1 m.0, single b f.2.1 m.1)
    all_there shape (wire.Xor a b) p f m c = (ap shape_width f.0, single a f.1.1 m.0, single b f.2.1 m.1)
    all_there shape (wire.Equal a b) p f m c = (ap shape_width f.0, whole a m.0, shaped b (shape_at shapes a) f.2.1 m.1)
    all_there shape (wire.Is a k) p f m c = (ap shape_width f.0, whole a m, c)
    all_there shape (wire.If t a b) p f m c = (single t f.0.1 m.0, shaped a shape f.1.1 m.1, shaped b shape f.2.1 m.2)

  -- the number of a truth value
  true_number : (v : Bits) (a : ℕ) → shape_at shapes a ≡ Truth → wire_number shapes gates starts v a ≡ truth (at gates v (start a))
  true_number v a e = ap (λ (s : Shape). number (word gates v (start a) (shape_width s))) e ∙ one_bit (at gates v (start a))

  true_held : (v : Bits) (a : ℕ) → shape_at shapes a ≡ Truth → at gates v (start a) ≡ holds (wire_number shapes gates starts v a)
  true_held v a e = sym (held (at gates v (start a))) ∙ ap holds (sym (true_number v a e))

  shaped_number : (v : Bits) (a : ℕ) (shape : Shape) → shape_at shapes a ≡ shape → number (word gates v (start a) (shape_width shape)) ≡ wire_number shapes gates starts v a
  shaped_number v a shape e = ap (λ (s : Shape). number (word gates v (start a) (shape_width s))) (sym e)

  pub all_meant : (v : Bits) (shape : Shape) (w : Wire) → HasFirst gates → WireFits slots shapes shape w
      → number (wire_bits places gates v (shape_width shape) (compared_width shapes w) (moved (λ a. or_zero (start_at starts a)) w)) ≡ wire_value (slot_number slots places v) (wire_number shapes gates starts v) w
  all_meant v shape (wire.Slot i) h f = ap (λ (s : Shape). number (row v (place_at places i) (shape_width s))) (sym f.1)
  all_meant v shape (wire.Constant k) h f = number_of_bits (shape_width shape) k (value_below shape k f)
  all_meant v shape (wire.Copy a) h f = shaped_number v a shape f.1
  all_meant v shape (wire.Not a) h f = one_bit (not (at gates v (start a))) ∙ ap (λ x. truth (not x)) (true_held v a f.1.1)
  all_meant v shape (wire.And a b) h f = one_bit (at gates v (start a) && at gates v (start b)) ∙ ap₂ (λ x y. truth (x && y)) (true_held v a f.1.1) (true_held v b f.2.1)
  all_meant v shape (wire.Or a b) h f = one_bit (at gates v (start a) || at gates v (start b)) ∙ ap₂ (λ x y. truth (x || y)) (true_held v a f.1.1) (true_held v b f.2.1)
  all_meant v shape (wire.Xor a b) h f =
      one_bit (if at gates v (start a) then not (at gates v (start b)) else at gates v (start b)) ∙ ap₂ (λ (x y : Bool). truth (if x then not y else y)) (true_held v a f.1.1) (true_held v b f.2.1)
  all_meant v shape (wire.Equal a b) h f =
      one_bit (are_same (word gates v (start a) (width_at a)) (word gates v (start b) (width_at a)))
      ∙ ap truth (same_is (word gates v (start a) (width_at a)) (word gates v (start b) (width_at a)) (row_long _ (width_at a) (start a) ∙ sym (row_long _ (width_at a) (start b))))
      ∙ ap (λ y. truth (nat_eq (wire_number shapes gates starts v a) y)) (shaped_number v b (shape_at shapes a) f.2.1)
  all_meant v shape (wire.Is a k) h f =
      one_bit (compared (at gates v 0) (at gates v 1) (word gates v (start a) (width_at a)) (to_bits (width_at a) k))
      ∙ ap₂ (λ (x y : Bool). truth (compared x y (word gates v (start a) (width_at a)) (to_bits (width_at a) k))) (h.low v) (h.high v)
      ∙ ap truth (equal_is (word gates v (start a) (width_at a)) (to_bits (width_at a) k) (row_long _ (width_at a) (start a) ∙ sym (length_bits (width_at a) k)))
      ∙ ap (λ y. truth (nat_eq (wire_number shapes gates starts v a) y)) (number_of_bits (width_at a) k (value_below (shape_at shapes a) k f.2))
  all_meant v shape (wire.If t a b) h f =
      choose (at gates v (start t)) (word gates v (start a) (shape_width shape)) (word gates v (start b) (shape_width shape))
      ∙ ap (λ (x : Bool). if x then number (word gates v (start a) (shape_width shape)) else number (word gates v (start b) (shape_width shape))) (true_held v t f.0.1)
      ∙ ap₂ (λ x y. if holds (wire_number shapes gates starts v t) then x else y) (shaped_number v a shape f.1.1) (shaped_number v b shape f.2.1)

-- ---- the gates of one wire

-- the variables of a slot's wire are those of the slot
named_below : (slots : List Slot) (shapes : List Shape) (places : List ℕ) (all : ℕ) (f : ℕ → ℕ) → AreBelow slots places all → (shape : Shape) (w : Wire) → WireFits slots shapes shape w
    → named_by places (shape_width shape) (moved f w) ≤ all
named_below slots shapes places all f below shape (wire.Slot i) fits = subst (λ (s : Shape). place_at places i + shape_width s ≤ all) fits.1 (below i fits.0)
named_below slots shapes places all f below shape (wire.Constant k) fits = omega arith
named_below slots shapes places all f below shape (wire.Copy a) fits = omega arith
named_below slots shapes places all f below shape (wire.Not a) fits = omega arith
named_below slots shapes places all f below shape (wire.And a b) fits = omega arith
named_below slots shapes places all f below shape (wire.Or a b) fits = omega arith
named_below slots shapes places all f below shape (wire.Xor a b) fits = omega arith
named_below slots shapes places all f below shape (wire.Equal a b) fits = omega arith
named_below slots shapes places all f below shape (wire.Is a k) fits = omega arith
named_below slots shapes places all f below shape (wire.If t a b) fits = omega arith

module _ (slots : List Slot) (wires : List Wire) (shapes : List Shape) (places : List ℕ) (old new : List Gate) (starts : List (Option ℕ)) where
  pub makes : (i r width many : ℕ) (w p : Wire) → AreWires slots wires shapes → length shapes ≡ length wires → i < length wires → HasFirst old
      → w ≡ wire_at wires i → width ≡ shape_width (shape_at shapes i) → many ≡ compared_width shapes w → p ≡ moved (λ a. or_zero (start_at starts a)) w → AtReads (IsMade starts) w
      → AddsRow (named_by places width p) old new r width (λ v. wire_bits places old v width many p) → Makes slots wires shapes places starts old new i r
  makes i r width many w p fit e l h ew ewidth emany ep m adds =
      let there : r + width ≤ length new = adds.there in
      record {
        keeps = adds.keeps;
        fit = λ all below.
            let fits : WireFits slots shapes (shape_at shapes i) w = subst (WireFits slots shapes (shape_at shapes i)) (sym ew) (fit.fit i (omega (arith, l, e))) in
            adds.fit all
            (subst (λ n. named_by places n p ≤ all) (sym ewidth)
            (subst (λ (q : Wire). named_by places (shape_width (shape_at shapes i)) q ≤ all) (sym ep)
            (named_below slots shapes places all (λ a. or_zero (start_at starts a)) below (shape_at shapes i) w fits)));
        there = subst (λ n. r + n ≤ length new) ewidth there;
        reads = subst (AtReads (IsMade starts)) ew m;
        value = λ v.
            ap (λ n. number (word new v r n)) (sym ewidth)
            ∙ ap number (adds.value v)
            ∙ ap₂ (λ n (q : Wire). number (wire_bits places old v n many q)) ewidth (ep ∙ ap (moved (λ a. or_zero (start_at starts a))) ew)
            ∙ ap (λ n. number (wire_bits places old v (shape_width (shape_at shapes i)) n (moved (λ a. or_zero (start_at starts a)) (wire_at wires i)))) (emany ∙ ap (compared_width shapes) ew)
            ∙ all_meant slots shapes places old starts v (shape_at shapes i) (wire_at wires i) h (fit.fit i (omega (arith, l, e)));
      }

pub placed_there : (slots : List Slot) (wires : List Wire) (shapes : List Shape) (places : List ℕ) (gates : List Gate) (starts : List (Option ℕ)) (i width many : ℕ) (w p : Wire)
    → AreWires slots wires shapes → length shapes ≡ length wires → i < length wires → Stands slots wires shapes places gates starts → ArePlaced slots wires shapes places
    → w ≡ wire_at wires i → width ≡ shape_width (shape_at shapes i) → many ≡ compared_width shapes w → many ≤ 64 → p ≡ moved (λ a. or_zero (start_at starts a)) w → AtReads (IsMade starts) w
    → AreThere places (length gates) width many p
placed_there slots wires shapes places gates starts i width many w p fit e l stands placed ew ewidth emany few ep m =
    let fits : WireFits slots shapes (shape_at shapes i) w = subst (WireFits slots shapes (shape_at shapes i)) (sym ew) (fit.fit i (omega (arith, l, e))) in
    let there : AreThere places (length gates) (shape_width (shape_at shapes i)) (compared_width shapes w) (moved (λ a. or_zero (start_at starts a)) w) =
    all_there slots shapes places gates starts stands.there (shape_at shapes i) w placed fits m (subst (λ n. n ≤ 64) emany few) in
    subst (λ n. AreThere places (length gates) n many p) (sym ewidth)
    (subst (λ n. AreThere places (length gates) (shape_width (shape_at shapes i)) n p) (sym emany)
    (subst (λ (q : Wire). AreThere places (length gates) (shape_width (shape_at shapes i)) (compared_width shapes w) q) (sym ep) there))

-- ---- one wire more

cases : (a b : ℕ) → (a ≡ b) ⊎ (a ≢ b)
cases a b = elim (below a b) [ inl l ↦ inr (λ e. absurd (omega (arith, l, e))) | inr l ↦ elim (below b a) [ inl k ↦ inr (λ e. absurd (omega (arith, k, e))) | inr k ↦ inl (omega (arith, l, k)) ] ]
  where
    below : (a b : ℕ) → (a < b) ⊎ (b ≤ a)
    below a b = tests (nat_le b a) (λ t. inr (le_true b a t)) (λ t. inl (le_false b a t))

module _ (slots : List Slot) (wires : List Wire) (shapes : List Shape) (places : List ℕ) (old new : List Gate) (starts : List (Option ℕ)) (i r : ℕ)
    (l : i < length wires) (was : Stands slots wires shapes places old starts) (one : Makes slots wires shapes places starts old new i r) where
  abbrev after : List (Option ℕ)
  after = set starts i (Some r)

  pub mine : start_at after i ≡ Some r
  mine = get_or-set_same starts i (Some r) None (let e = was.many in omega (arith, l, e))

  other : (w : ℕ) → w ≢ i → start_at after w ≡ start_at starts w
  other w n = get_or-set_other starts i w (Some r) None n

  started : (s : ℕ) → start_at after i ≡ Some s → r ≡ s
  started s e = let m = mine in cc

  pub stays : (a : ℕ) → IsMade starts a → IsMade after a
  stays a m = elim (cases a i) [ inl e ↦ (r, ap (start_at after) e ∙ mine) | inr n ↦ (m.0, other a n ∙ m.1) ]

  here : (v : Bits) → wire_number shapes new after v i ≡ wire_value (slot_number slots places v) (wire_number shapes old starts v) (wire_at wires i)
  here v = ap (λ (o : Option ℕ). number (word new v (or_zero o) (shape_width (shape_at shapes i)))) mine ∙ one.value v

  agree_there : (v : Bits) (a : ℕ) → IsMade starts a → (a ≡ i) ⊎ (a ≢ i) → wire_number shapes new after v a ≡ wire_number shapes old starts v a
  agree_there v a m (inl e) =
      ap (wire_number shapes new after v) e ∙ here v
      ∙ sym (was.solved v i m.0 (ap (start_at starts) (sym e) ∙ m.1))
      ∙ ap (wire_number shapes old starts v) (sym e)
  agree_there v a m (inr n) =
      ap (λ (o : Option ℕ). number (word new v (or_zero o) (shape_width (shape_at shapes a)))) (other a n ∙ m.1)
      ∙ ap number (row_kept old new one.keeps v (shape_width (shape_at shapes a)) m.0 (was.there a m.0 m.1))
      ∙ ap (λ (o : Option ℕ). number (word old v (or_zero o) (shape_width (shape_at shapes a)))) (sym m.1)

  agree : (v : Bits) (a : ℕ) → IsMade starts a → wire_number shapes new after v a ≡ wire_number shapes old starts v a
  agree v a m = agree_there v a m (cases a i)

  same_value : (v : Bits) (w : Wire) → AtReads (IsMade starts) w
      → wire_value (slot_number slots places v) (wire_number shapes old starts v) w ≡ wire_value (slot_number slots places v) (wire_number shapes new after v) w
  same_value v w m = value_same (slot_number slots places v) (wire_number shapes old starts v) (wire_number shapes new after v) w (reads_of (IsMade starts) (λ a. wire_number shapes old starts v a ≡ wire_number shapes new after v a) (λ a k. sym (agree v a k)) w m)

  solved_at : (v : Bits) (w s : ℕ) → start_at after w ≡ Some s → (w ≡ i) ⊎ (w ≢ i) → wire_number shapes new after v w ≡ wire_value (slot_number slots places v) (wire_number shapes new after v) (wire_at wires w)
  solved_at v w s e (inl same) =
      ap (wire_number shapes new after v) same ∙ here v ∙ same_value v (wire_at wires i) one.reads
      ∙ ap (λ k. wire_value (slot_number slots places v) (wire_number shapes new after v) (wire_at wires k)) (sym same)
  solved_at v w s e (inr n) =
      let m : start_at starts w ≡ Some s = sym (other w n) ∙ e in
      agree v w (s, m) ∙ was.solved v w s m ∙ same_value v (wire_at wires w) (was.reads w s m)

  only_at : (v : Bits) (numbers : ℕ → ℕ) → Solves wires (slot_number slots places v) numbers → (w s : ℕ) → start_at after w ≡ Some s → (w ≡ i) ⊎ (w ≢ i) → numbers w ≡ wire_number shapes new after v w
  only_at v numbers solves w s e (inl same) =
      ap numbers same ∙ solves i l
      ∙ value_same (slot_number slots places v) numbers (wire_number shapes old starts v) (wire_at wires i) (reads_of (IsMade starts) (λ a. numbers a ≡ wire_number shapes old starts v a) (λ a k. was.only v numbers solves a k.0 k.1) (wire_at wires i) one.reads)
      ∙ sym (here v) ∙ ap (wire_number shapes new after v) (sym same)
  only_at v numbers solves w s e (inr n) =
      let m : start_at starts w ≡ Some s = sym (other w n) ∙ e in
      was.only v numbers solves w s m ∙ sym (agree v w (s, m))

  there_at : (w s : ℕ) → start_at after w ≡ Some s → (w ≡ i) ⊎ (w ≢ i) → s + shape_width (shape_at shapes w) ≤ length new
  there_at w s e (inl same) =
      let f : r ≡ s = started s (ap (start_at after) (sym same) ∙ e) in
      subst (λ k. s + shape_width (shape_at shapes k) ≤ length new) (sym same) (subst (λ k. k + shape_width (shape_at shapes i) ≤ length new) f one.there)
  there_at w s e (inr n) =
      let k : length old ≤ length new = one.keeps.longer in
      let b : s + shape_width (shape_at shapes w) ≤ length old = was.there w s (sym (other w n) ∙ e) in
      omega (arith, k, b)

  reads_at : (w s : ℕ) → start_at after w ≡ Some s → (w ≡ i) ⊎ (w ≢ i) → AtReads (IsMade after) (wire_at wires w)
  reads_at w s e (inl same) = reads_of (IsMade starts) (IsMade after) stays (wire_at wires w) (subst (λ k. AtReads (IsMade starts) (wire_at wires k)) (sym same) one.reads)
  reads_at w s e (inr n) = reads_of (IsMade starts) (IsMade after) stays (wire_at wires w) (was.reads w s (sym (other w n) ∙ e))

  pub stands_more : Stands slots wires shapes places new after
  stands_more = record {
    first = one.keeps.first was.first;
    fit = λ all below. one.fit all below (was.fit all below);
    many = length-set starts i (Some r) ∙ was.many;
    there = λ w s e. there_at w s e (cases w i);
    reads = λ w s e. reads_at w s e (cases w i);
    solved = λ v w s e. solved_at v w s e (cases w i);
    only = λ v numbers solves w s e. only_at v numbers solves w s e (cases w i);
  }

  -- one wire more has gates
  pub made_more : (order : List (ℕ × ℕ)) (n : ℕ) → (get_or order n (0, 0)).1 ≡ i → ((k : ℕ) → k < n → IsMade starts (get_or order k (0, 0)).1) → (k : ℕ) → k < n + 1 → IsMade after (get_or order k (0, 0)).1
  made_more order n e h k m = tests (nat_le n k)
      (λ t.
      let s : k ≡ n = (let u = le_true n k t in omega (arith, m, u)) in
      (r, ap (start_at after) (ap (λ j. (get_or order j (0, 0)).1) s ∙ e) ∙ mine))
      (λ t. stays (get_or order k (0, 0)).1 (h k (le_false n k t)))

-- what the next wire of an order reads has gates
pub order_made : (wires : List Wire) (order : List (ℕ × ℕ)) (starts : List (Option ℕ)) (i : ℕ) → AreInOrder wires order → i < length order → ((k : ℕ) → k < i → IsMade starts (get_or order k (0, 0)).1)
    → AtReads (IsMade starts) (wire_at wires (get_or order i (0, 0)).1)
order_made wires order starts i is l h =
    reads_of (IsAmong order i) (IsMade starts) (λ a m. subst (IsMade starts) m.2 (h m.0 m.1)) (wire_at wires (get_or order i (0, 0)).1) (is.behind i l)

pub all_made : (wires : List Wire) (order : List (ℕ × ℕ)) (starts : List (Option ℕ)) (i : ℕ) → AreInOrder wires order → i ≡ length order → ((k : ℕ) → k < i → IsMade starts (get_or order k (0, 0)).1)
    → (w : ℕ) → w < length wires → IsMade starts w
all_made wires order starts i is e h w l = let m = is.whole w l in subst (IsMade starts) m.2 (h m.0 (let k = m.1 in omega (arith, k, e)))

-- ---- the first gates, one after another

-- a wire that has gates has a first one
made_start : (starts : List (Option ℕ)) (w : ℕ) → IsMade starts w → start_at starts w ≡ Some (or_zero (start_at starts w))
made_start starts w m = m.1 ∙ ap (λ (o : Option ℕ). Some (or_zero o)) (sym m.1)

pub starts_more : (starts : List (Option ℕ)) (all : List ℕ) (i s : ℕ) → length all ≡ length starts → i < length starts → IsMade starts i → s ≡ or_zero (start_at starts i)
    → ((w : ℕ) → w < i → start_at starts w ≡ Some (get_or all w 0)) → (length (set all i s) ≡ length starts) × ((w : ℕ) → w < i + 1 → start_at starts w ≡ Some (get_or (set all i s) w 0))
starts_more starts all i s many l m e h = (length-set all i s ∙ many, λ w k. at w k (cases w i))
  where
    at : (w : ℕ) → w < i + 1 → (w ≡ i) ⊎ (w ≢ i) → start_at starts w ≡ Some (get_or (set all i s) w 0)
    at w k (inl same) =
        ap (start_at starts) same ∙ made_start starts i m
        ∙ ap Some (sym e ∙ sym (get_or-set_same all i s 0 (omega (arith, l, many))) ∙ ap (λ n. get_or (set all i s) n 0) (sym same))
    at w k (inr n) = h w (below w i k n) ∙ ap Some (sym (get_or-set_other all i w s 0 n))
      where
        below : (w i : ℕ) → w < i + 1 → w ≢ i → w < i
        below w i k n = tests (nat_le i w) (λ t. absurd (n (let u = le_true i w t in omega (arith, k, u)))) (λ t. le_false i w t)
