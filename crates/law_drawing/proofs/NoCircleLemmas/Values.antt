-- Values that are drawn, with marks: operators, and what stands before and behind operands.
use Rattle.std.proofs.Common.{◌≡◌, refl, subst, if◌then◌else◌, ℕ, suc, ◌≤◌, ◌<◌, max, Bool, true, false, inr, arith}
use Rattle.hp_tree.specs.declared.expr.Op1.{Op1}
use Rattle.hp_tree.specs.declared.expr.Op1.TheVariants.{Not, Neg}
use Rattle.hp_tree.specs.declared.expr.Op2.{Op2}
use Rattle.hp_tree.specs.declared.expr.Op2.TheVariants.{And, Or, Xor, Imp, Eq, Ne, Lt, Le, Gt, Ge, Add, Sub, Mul, Div, Rem}
use Rattle.hp_tree.specs.Instant.{Place as TreePlace}
use Rattle.hp_meaning.specs.Causal.Sources.{Sources, both, NameSources}
use Rattle.hp_circuit.specs.declared.circuit.Role.TheVariants as role
use Rattle.hp_circuit.specs.declared.circuit.Shape.{Shape}
use Rattle.hp_circuit.specs.declared.circuit.Shape.TheVariants.{Truth, Cons, Mark as Whole}
use Rattle.hp_circuit.specs.declared.circuit.Wire.TheVariants as wire
use Rattle.hp_drawing.specs.declared.parts.Place.{Place}
use Rattle.hp_drawing.specs.declared.parts.Value.{Value}
use Rattle.hp_typing.specs.Types.{type_of_one}
use Rattle.hp_meaning.specs.Contract.Slots.{is_int}
use Rattle.hp_drawing.specs.Kept.{is_mark}
use Rattle.hp_drawing.specs.Sketch.{Sketch, truth, push, read, mark_of, slot}
use Rattle.hp_drawing.specs.Places.{may_be_early}
use Rattle.hp_drawing.specs.Scopes.{Scope, value_in, last_in}
use Rattle.hp_drawing.specs.DrawnExpressions.{carried, gate, mark_of_two, mark_of_three, drawn_one, drawn_two, drawn_choice, chosen_as, two_begin, two_end}
use Rattle.law_drawing.specs.NoCircle.Marks.{Mark, Marks, Most, up, Grows, Has, Low, Under, Frame, AreMarked, IsPlaced, top, around}
use Rattle.law_drawing.specs.NoCircle.Asked.{AreSeen}
use Rattle.law_drawing.proofs.NoCircleLemmas.Orders.{most-up, less-up}
use Rattle.law_drawing.proofs.NoCircleLemmas.Steps.{grows-none, grows-both, has-grows, low-grows, under-grows, low-up, low-under, low-own, under-up, has-under, Step, Made, Holed}
use Rattle.law_drawing.proofs.NoCircleLemmas.Steps as steps
use Rattle.law_drawing.proofs.NoCircleLemmas.Parts.{slot-marked, placed-grows}

-- ---- values

-- a value, which is an integer or none
abbrev pub Valued : Frame → Marks → Mark → Bool → Value × Sketch → Type 0
Valued F ms m whole d = (ms' : Marks) × Grows ms ms' × AreMarked F d.1 ms' × Low ms' d.0.wire m × (is_mark d.0.shape ≡ whole)

-- one whose wire has this very mark
abbrev pub Owned : Frame → Marks → Mark → Bool → Value × Sketch → Type 0
Owned F ms m whole d = (ms' : Marks) × Grows ms ms' × AreMarked F d.1 ms' × Has ms' d.0.wire m × (is_mark d.0.shape ≡ whole)

pub owned-valued : {F : Frame} (ms : Marks) (m : Mark) (whole : Bool) (d : Value × Sketch) → Owned F ms m whole d → Valued F ms m whole d
owned-valued ms m whole d h = (h.0, h.1, h.2, low-own h.0 d.0.wire m h.3, h.4)

pub holed-valued : {F : Frame} (ms : Marks) (m : Mark) (p : Shape) (d : ℕ × Sketch) → Holed F ms m d → Valued F ms m (is_mark p) (carried p d)
holed-valued ms m p d h = (h.0, h.1, h.2, low-own h.0 d.0 m h.3, refl)

pub valued-up : {F : Frame} (ms : Marks) (m n : Mark) (whole : Bool) (d : Value × Sketch) → Most m n → Valued F ms m whole d → Valued F ms n whole d
valued-up ms m n whole d f h = (h.0, h.1, h.2, low-up h.0 d.0.wire m n f h.3, h.4)

pub onward : {F : Frame} (ms ms1 : Marks) (m : Mark) (whole : Bool) (d : Value × Sketch) → Grows ms ms1 → Valued F ms1 m whole d → Valued F ms m whole d
onward ms ms1 m whole d g h = (h.0, grows-both ms ms1 h.0 g h.1, h.2, h.3, h.4)

-- ---- operators

pub one-marked : {F : Frame} (o : Op1) (a : Value) (s : Sketch) (ms : Marks) (m : Mark) → AreMarked F s ms → Under ms a.wire m → Valued F ms m (is_int (type_of_one o)) (drawn_one o a s)
unfolding drawn_one
one-marked Not a s ms m h l = holed-valued ms m Truth (push (wire.Not a.wire) Truth s) (steps.gate (wire.Not a.wire) Truth s ms m h l)
one-marked Neg a s ms m h l = holed-valued ms m Whole (mark_of a.wire s) (steps.mark-of-marked a.wire s ms m h l)

pub mark-two-marked : {F : Frame} (a b : Value) (s : Sketch) (ms : Marks) (m : Mark) → AreMarked F s ms → Under ms a.wire m → Under ms b.wire m → Owned F ms m true (mark_of_two a b s)
unfolding mark_of_two
mark-two-marked a b s ms m h l k =
    let d = steps.mark-of-marked a.wire s ms m h l in
    (d.0, d.1, steps.read-marked (mark_of a.wire s).0 b.wire (mark_of a.wire s).1 d.0 m d.2 d.3 (under-grows ms d.0 d.1 b.wire m k), d.3, refl)

pub mark-three-marked : {F : Frame} (a b c : Value) (s : Sketch) (ms : Marks) (m : Mark) → AreMarked F s ms → Under ms a.wire m → Under ms b.wire m → Under ms c.wire m → Owned F ms m true (mark_of_three a b c s)
unfolding mark_of_three
mark-three-marked a b c s ms m h l k j =
    let d = mark-two-marked a b s ms m h l k in
    (d.0, d.1, steps.read-marked (mark_of_two a b s).0.wire c.wire (mark_of_two a b s).1 d.0 m d.2 d.3 (under-grows ms d.0 d.1 c.wire m j), d.3, d.4)

not-behind : {F : Frame} (ms : Marks) (m : Mark) (d : ℕ × Sketch) → Holed F ms m d → Valued F ms (up 1 m) false (gate (push (wire.Not d.0) Truth d.1))
not-behind ms m d h =
    onward ms h.0 (up 1 m) false (gate (push (wire.Not d.0) Truth d.1)) h.1
    (holed-valued h.0 (up 1 m) Truth (push (wire.Not d.0) Truth d.1) (steps.gate (wire.Not d.0) Truth d.1 h.0 (up 1 m) h.2 (has-under h.0 d.0 m (up 1 m) (less-up 0 m) h.3)))

or-behind : {F : Frame} (ms : Marks) (m : Mark) (d : ℕ × Sketch) (b : ℕ) → Holed F ms m d → Under ms b m → Valued F ms (up 1 m) false (gate (push (wire.Or d.0 b) Truth d.1))
or-behind ms m d b h k =
    onward ms h.0 (up 1 m) false (gate (push (wire.Or d.0 b) Truth d.1)) h.1
    (holed-valued h.0 (up 1 m) Truth (push (wire.Or d.0 b) Truth d.1)
    (steps.gate (wire.Or d.0 b) Truth d.1 h.0 (up 1 m) h.2 (has-under h.0 d.0 m (up 1 m) (less-up 0 m) h.3, under-up h.0 b m (up 1 m) (most-up 1 m) (under-grows ms h.0 h.1 b m k))))

-- a gate, and two of them
one-step : {F : Frame} (ms : Marks) (m : Mark) (d : ℕ × Sketch) → Holed F ms m d → Valued F ms (up 1 m) false (gate d)
one-step ms m d h = valued-up ms m (up 1 m) false (gate d) (most-up 1 m) (holed-valued ms m Truth d h)

two-reads : {F : Frame} (a b : Value) (s : Sketch) (ms : Marks) (m : Mark) → AreMarked F s ms → Under ms a.wire m → Under ms b.wire m → Valued F ms (up 1 m) true (mark_of_two a b s)
two-reads a b s ms m h l k = valued-up ms m (up 1 m) true (mark_of_two a b s) (most-up 1 m) (owned-valued ms m true (mark_of_two a b s) (mark-two-marked a b s ms m h l k))

-- whether an operator gives an integer, where it is no comparison of integers
abbrev pub two_whole : Op2 → Bool
two_whole And = false
two_whole Or = false
two_whole Xor = false
two_whole Imp = false
two_whole Eq = false
two_whole Ne = false
two_whole o = true

pub two-marked : {F : Frame} (o : Op2) (a b : Value) (s : Sketch) (ms : Marks) (m : Mark) → AreMarked F s ms → Under ms a.wire m → Under ms b.wire m → Valued F ms (up 1 m) (two_whole o) (drawn_two o a b s)
unfolding drawn_two
two-marked And a b s ms m h l k = one-step ms m (push (wire.And a.wire b.wire) Truth s) (steps.gate (wire.And a.wire b.wire) Truth s ms m h (l, k))
two-marked Or a b s ms m h l k = one-step ms m (push (wire.Or a.wire b.wire) Truth s) (steps.gate (wire.Or a.wire b.wire) Truth s ms m h (l, k))
two-marked Xor a b s ms m h l k = one-step ms m (push (wire.Xor a.wire b.wire) Truth s) (steps.gate (wire.Xor a.wire b.wire) Truth s ms m h (l, k))
two-marked Imp a b s ms m h l k = or-behind ms m (push (wire.Not a.wire) Truth s) b.wire (steps.gate (wire.Not a.wire) Truth s ms m h l) k
two-marked Eq a b s ms m h l k = one-step ms m (push (wire.Equal a.wire b.wire) Truth s) (steps.gate (wire.Equal a.wire b.wire) Truth s ms m h (l, k))
two-marked Ne a b s ms m h l k = not-behind ms m (push (wire.Equal a.wire b.wire) Truth s) (steps.gate (wire.Equal a.wire b.wire) Truth s ms m h (l, k))
two-marked Lt a b s ms m h l k = two-reads a b s ms m h l k
two-marked Le a b s ms m h l k = two-reads a b s ms m h l k
two-marked Gt a b s ms m h l k = two-reads a b s ms m h l k
two-marked Ge a b s ms m h l k = two-reads a b s ms m h l k
two-marked Add a b s ms m h l k = two-reads a b s ms m h l k
two-marked Sub a b s ms m h l k = two-reads a b s ms m h l k
two-marked Mul a b s ms m h l k = two-reads a b s ms m h l k
two-marked Div a b s ms m h l k = two-reads a b s ms m h l k
two-marked Rem a b s ms m h l k = two-reads a b s ms m h l k

pub choice-marked : {F : Frame} (c : ℕ) (a b : Value) (s : Sketch) (ms : Marks) (m : Mark) → AreMarked F s ms → Under ms c m → Under ms a.wire m → Under ms b.wire m → Valued F ms m (is_mark a.shape) (drawn_choice c a b s)
unfolding drawn_choice
choice-marked {F} c a b s ms m h l k j = by a.shape
  where
    by : (p : Shape) → Valued F ms m (is_mark p) (chosen_as p c a b s)
    by Whole = owned-valued ms m true (mark_of_three (truth c) a b s) (mark-three-marked (truth c) a b s ms m h l k j)
    by Truth = holed-valued ms m Truth (push (wire.If c a.wire b.wire) Truth s) (steps.gate (wire.If c a.wire b.wire) Truth s ms m h (l, k, j))
    by (Cons n) = holed-valued ms m (Cons n) (push (wire.If c a.wire b.wire) (Cons n) s) (steps.gate (wire.If c a.wire b.wire) (Cons n) s ms m h (l, k, j))

module _ (rank : TreePlace → ℕ) (z : Scope) (context : Mark) (names : NameSources) where
  pub seen-grows : (ms ms' : Marks) → Grows ms ms' → AreSeen rank ms z context names → AreSeen rank ms' z context names
  seen-grows ms ms' g h = record { values = λ x. low-grows ms ms' g (value_in z x).wire (around rank context (names x)) (h.values x); lasts = λ x. low-grows ms ms' g (last_in z x).wire context (h.lasts x) }

  -- where something is drawn: a sketch with marks, a place and names
  pub record IsAt (F : Frame) (ms : Marks) (s : Sketch) (spot : Place) : Type 0 where
    pub marks : AreMarked F s ms
    pub placed : IsPlaced ms spot context
    pub seen : AreSeen rank ms z context names

  -- behind a step
  pub at-behind : {F G : Frame} (ms ms' : Marks) (s s' : Sketch) (spot : Place) → IsAt F ms s spot → Grows ms ms' → AreMarked G s' ms' → IsAt G ms' s' spot
  at-behind ms ms' s s' spot h g a = record { marks = a; placed = placed-grows ms ms' g spot context h.placed; seen = seen-grows ms ms' g h.seen }

  -- the mark of what is read, and so many steps
  abbrev pub bound : ℕ → Sources → Mark
  bound n m = up n (around rank context m)

  -- what is drawn at a place has a value whose wire stands no higher than these sources and so many steps
  abbrev pub Draws : Frame → Place → Sources → ℕ → Bool → (Sketch → Value × Sketch) → Type 0
  Draws F spot m n whole f = (s : Sketch) (ms : Marks) → IsAt F ms s spot → Valued F ms (bound n m) whole (f s)

  pub under-in : (ms : Marks) (w : ℕ) (i j : ℕ) (a b : Sources) → i < j → top rank a ≤ top rank b → Low ms w (bound i a) → Under ms w (bound j b)
  under-in ms w i j a b h k l = low-under ms w (bound i a) (bound j b) (inr (omega (arith, k), omega (arith, h))) l

  -- a name, and what cuts the place
  pub under-name : (ms : Marks) (w : ℕ) (j : ℕ) (a b : Sources) → 0 < j → top rank a ≤ top rank b → Low ms w (around rank context a) → Under ms w (bound j b)
  under-name ms w j a b h k l = low-under ms w (around rank context a) (bound j b) (inr (omega (arith, k), omega (arith, h))) l

  pub low-context : (ms : Marks) (w : ℕ) (j : ℕ) (a : Sources) → Low ms w context → Low ms w (bound j a)
  low-context ms w j a l = low-up ms w context (bound j a) (inr (omega arith, omega arith)) l

  pub low-around : (ms : Marks) (w : ℕ) (a : Sources) → Low ms w context → Low ms w (around rank context a)
  low-around ms w a l = low-up ms w context (around rank context a) (inr (omega arith, omega arith)) l

  pub under-context : (ms : Marks) (w : ℕ) (j : ℕ) (a : Sources) → 0 < j → Low ms w context → Under ms w (bound j a)
  under-context ms w j a h l = low-under ms w context (bound j a) (inr (omega arith, omega (arith, h))) l

  -- ---- operands

  pub draws-one : {F : Frame} (spot : Place) (o : Op1) (m : Sources) (n : ℕ) (whole : Bool) (f : Sketch → Value × Sketch) → Draws F spot m n whole f → Draws F spot m (suc n) (is_int (type_of_one o)) (λ s. drawn_one o (f s).0 (f s).1)
  draws-one spot o m n whole f d s ms h =
      let v = d s ms h in
      onward ms v.0 (bound (suc n) m) (is_int (type_of_one o)) (drawn_one o (f s).0 (f s).1) v.1 (one-marked o (f s).0 (f s).1 v.0 (bound (suc n) m) v.2 (under-in v.0 (f s).0.wire n (suc n) m m (omega arith) (omega arith) v.3))

  abbrev pub two_of : Bool → Place → Op2 → (Sketch → Value × Sketch) → (Sketch → Value × Sketch) → Sketch → Value × Sketch
  two_of flag spot o f g s =
      let w = two_begin flag spot s in
      let first = f w.1 in
      let second = g first.1 in
      two_end flag w.0 o first.0 second.0 second.1

  pub draws-two : {F : Frame} (flag : Bool) (spot : Place) (o : Op2) (a b : Sources) (i j : ℕ) (p q : Bool) (f g : Sketch → Value × Sketch) → Draws F spot a i p f → Draws F spot b j q g → Draws F spot (both a b) (suc (suc (max i j))) (if flag then false else two_whole o) (two_of flag spot o f g)
  draws-two false spot o a b i j p q f g d e s ms h =
      let n = suc (max i j) in
      let m = bound n (both a b) in
      let v = d s ms h in
      let w = e (f s).1 v.0 (at-behind ms v.0 s (f s).1 spot h v.1 v.2) in
      let second = g (f s).1 in
      let grown = grows-both ms v.0 w.0 v.1 w.1 in
      onward ms w.0 (bound (suc n) (both a b)) (two_whole o) (drawn_two o (f s).0 second.0 second.1) grown
      (valued-up w.0 (up 1 m) (bound (suc n) (both a b)) (two_whole o) (drawn_two o (f s).0 second.0 second.1) (inr (omega arith, omega arith))
      (two-marked o (f s).0 second.0 second.1 w.0 m w.2
      (under-in w.0 (f s).0.wire i n a (both a b) (omega arith) (omega arith) (low-grows v.0 w.0 w.1 (f s).0.wire (bound i a) v.3))
      (under-in w.0 second.0.wire j n b (both a b) (omega arith) (omega arith) w.3)))
  draws-two true spot o a b i j p q f g d e s ms h =
      let n = suc (suc (max i j)) in
      let m = bound n (both a b) in
      let free = slot (role.Free (may_be_early spot)) Truth s in
      let u = slot-marked (role.Free (may_be_early spot)) Truth s ms m h.marks in
      let v = d free.1 u.0 (at-behind ms u.0 s free.1 spot h u.1 u.2) in
      let first = f free.1 in
      let w = e first.1 v.0 (at-behind ms v.0 s first.1 spot h (grows-both ms u.0 v.0 u.1 v.1) v.2) in
      let second = g first.1 in
      let has = has-grows u.0 w.0 (grows-both u.0 v.0 w.0 v.1 w.1) free.0 m u.3 in
      let one = steps.read-marked free.0 first.0.wire second.1 w.0 m w.2 has (under-in w.0 first.0.wire i n a (both a b) (omega arith) (omega arith) (low-grows v.0 w.0 w.1 first.0.wire (bound i a) v.3)) in (
        w.0,
        grows-both ms v.0 w.0 (grows-both ms u.0 v.0 u.1 v.1) w.1,
        steps.read-marked free.0 second.0.wire (read free.0 first.0.wire second.1) w.0 m one has (under-in w.0 second.0.wire j n b (both a b) (omega arith) (omega arith) w.3),
        low-own w.0 free.0 m has,
        refl,
      )

  abbrev pub choice_of : (Sketch → Value × Sketch) → (Sketch → Value × Sketch) → (Sketch → Value × Sketch) → Sketch → Value × Sketch
  choice_of f g e s =
      let condition = f s in
      let first = g condition.1 in
      let second = e first.1 in
      drawn_choice condition.0.wire first.0 second.0 second.1

  pub draws-choice : {F : Frame} (spot : Place) (a b c : Sources) (i j k : ℕ) (p q r : Bool) (f g e : Sketch → Value × Sketch) → Draws F spot a i p f → Draws F spot b j q g → Draws F spot c k r e → Draws F spot (both a (both b c)) (suc (max i (max j k))) q (choice_of f g e)
  draws-choice {F} spot a b c i j k p q r f g e df dg de s ms h =
      let m = both a (both b c) in
      let n = suc (max i (max j k)) in
      let u = df s ms h in
      let condition = f s in
      let v = dg condition.1 u.0 (at-behind ms u.0 s condition.1 spot h u.1 u.2) in
      let first = g condition.1 in
      let gv = grows-both ms u.0 v.0 u.1 v.1 in
      let w = de first.1 v.0 (at-behind ms v.0 s first.1 spot h gv v.2) in
      let second = e first.1 in
      subst (λ b. Valued F ms (bound n m) b (drawn_choice condition.0.wire first.0 second.0 second.1)) v.4
      (onward ms w.0 (bound n m) (is_mark first.0.shape) (drawn_choice condition.0.wire first.0 second.0 second.1) (grows-both ms v.0 w.0 gv w.1)
      (choice-marked condition.0.wire first.0 second.0 second.1 w.0 (bound n m) w.2
      (under-in w.0 condition.0.wire i n a m (omega arith) (omega arith) (low-grows u.0 w.0 (grows-both u.0 v.0 w.0 v.1 w.1) condition.0.wire (bound i a) u.3))
      (under-in w.0 first.0.wire j n b m (omega arith) (omega arith) (low-grows v.0 w.0 w.1 first.0.wire (bound j b) v.3))
      (under-in w.0 second.0.wire k n c m (omega arith) (omega arith) w.3)))
