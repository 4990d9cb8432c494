-- Values that are drawn, with marks: operators, and what stands before and behind operands.
use Rattle.std.proofs.Common.{ℕ, Bool, true, false, inl, inr}
use Rattle.hp_tree.specs.declared.expr.Op1.{Op1}
use Rattle.hp_tree.specs.declared.expr.Op1.TheVariants.{Not, Neg}
use Rattle.hp_tree.specs.declared.expr.Op2.{Op2}
use Rattle.hp_tree.specs.declared.expr.Op2.TheVariants.{And, Or, Xor, Imp, Eq, Ne, Lt, Le, Gt, Ge, Add, Sub, Mul, Div, Rem}
use Rattle.hp_meaning.specs.Causal.Sources.{Sources, both, NameSources}
use Rattle.hp_circuit.specs.declared.circuit.Role.TheVariants as role
use Rattle.hp_circuit.specs.declared.circuit.Shape.{Shape}
use Rattle.hp_circuit.specs.declared.circuit.Shape.TheVariants.{Truth, Cons, Mark}
use Rattle.hp_circuit.specs.declared.circuit.Wire.TheVariants as wire
use Rattle.hp_drawing.specs.declared.parts.Place.{Place}
use Rattle.hp_drawing.specs.declared.parts.Value.{Value}
use Rattle.hp_drawing.specs.Sketch.{Sketch, truth, push, read, mark_of, slot}
use Rattle.hp_drawing.specs.Places.{may_be_early}
use Rattle.hp_drawing.specs.Scopes.{Scope, value_in, last_in}
use Rattle.hp_drawing.specs.DrawnExpressions.{carried, gate, mark_of_two, mark_of_three, drawn_one, drawn_two, drawn_choice, chosen_as, two_begin, two_end}
use Rattle.law_drawing.specs.Steered.Marks.{Steering, Marks, Grows, Has, Leads, Low, AreMarked, IsPlaced}
use Rattle.law_drawing.specs.Steered.Placed.{IsCompared}
use Rattle.law_drawing.specs.Steered.Asked.{AreSeen}
use Rattle.law_drawing.proofs.SteeredLemmas.Steps.{grows-none, grows-both, has-grows, low-grows, there-grows, low-up, low-there, low-own, Step, Made, Holed, holed-made}
use Rattle.law_drawing.proofs.SteeredLemmas.Steps as steps
use Rattle.law_drawing.proofs.SteeredLemmas.Parts.{slot-marked, placed-grows}

module _ (steers : Steering) where
  -- ---- values

  abbrev pub Valued : Marks → Sources → Value × Sketch → Type 0
  Valued ms m d = (ms' : Marks) × Grows ms ms' × AreMarked steers d.1 ms' × Low steers ms' d.0.wire m

  -- one whose wire has this very mark
  abbrev pub Owned : Marks → Sources → Value × Sketch → Type 0
  Owned ms m d = (ms' : Marks) × Grows ms ms' × AreMarked steers d.1 ms' × Has ms' d.0.wire m

  pub owned-valued : (ms : Marks) (m : Sources) (d : Value × Sketch) → Owned ms m d → Valued ms m d
  owned-valued ms m d h = (h.0, h.1, h.2, low-own steers h.0 d.0.wire m h.3)

  pub made-valued : (ms : Marks) (m : Sources) (p : Shape) (d : ℕ × Sketch) → Made steers ms m d → Valued ms m (carried p d)
  made-valued ms m p d h = h

  pub holed-valued : (ms : Marks) (m : Sources) (p : Shape) (d : ℕ × Sketch) → Holed steers ms m d → Valued ms m (carried p d)
  holed-valued ms m p d h = (h.0, h.1, h.2, low-own steers h.0 d.0 m h.3)

  pub onward : (ms ms1 : Marks) (m : Sources) (d : Value × Sketch) → Grows ms ms1 → Valued ms1 m d → Valued ms m d
  onward ms ms1 m d g h = (h.0, grows-both ms ms1 h.0 g h.1, h.2, h.3)

  -- ---- operators

  pub one-marked : (o : Op1) (a : Value) (s : Sketch) (ms : Marks) (m : Sources) → AreMarked steers s ms → Low steers ms a.wire m → Valued ms m (drawn_one o a s)
  unfolding drawn_one
  one-marked Not a s ms m h l = holed-valued ms m Truth (push (wire.Not a.wire) Truth s) (steps.gate steers (wire.Not a.wire) Truth s ms m h l)
  one-marked Neg a s ms m h l = holed-valued ms m Mark (mark_of a.wire s) (steps.mark-of-marked steers a.wire s ms m h l)

  pub mark-two-marked : (a b : Value) (s : Sketch) (ms : Marks) (m : Sources) → AreMarked steers s ms → Low steers ms a.wire m → Low steers ms b.wire m → Owned ms m (mark_of_two a b s)
  unfolding mark_of_two
  mark-two-marked a b s ms m h l k =
      let d = steps.mark-of-marked steers a.wire s ms m h l in
      (d.0, d.1, steps.read-marked steers (mark_of a.wire s).0 b.wire (mark_of a.wire s).1 d.0 m d.2 d.3 (low-grows steers ms d.0 d.1 b.wire m k), d.3)

  pub mark-three-marked : (a b c : Value) (s : Sketch) (ms : Marks) (m : Sources) → AreMarked steers s ms → Low steers ms a.wire m → Low steers ms b.wire m → Low steers ms c.wire m → Owned ms m (mark_of_three a b c s)
  unfolding mark_of_three
  mark-three-marked a b c s ms m h l k j =
      let d = mark-two-marked a b s ms m h l k in
      (d.0, d.1, steps.read-marked steers (mark_of_two a b s).0.wire c.wire (mark_of_two a b s).1 d.0 m d.2 d.3 (low-grows steers ms d.0 d.1 c.wire m j), d.3)

  not-behind : (ms : Marks) (m : Sources) (d : ℕ × Sketch) → Holed steers ms m d → Valued ms m (gate (push (wire.Not d.0) Truth d.1))
  not-behind ms m d h =
      onward ms h.0 m (gate (push (wire.Not d.0) Truth d.1)) h.1
      (holed-valued h.0 m Truth (push (wire.Not d.0) Truth d.1) (steps.gate steers (wire.Not d.0) Truth d.1 h.0 m h.2 (low-own steers h.0 d.0 m h.3)))

  or-behind : (ms : Marks) (m : Sources) (d : ℕ × Sketch) (b : ℕ) → Holed steers ms m d → Low steers ms b m → Valued ms m (gate (push (wire.Or d.0 b) Truth d.1))
  or-behind ms m d b h k =
      onward ms h.0 m (gate (push (wire.Or d.0 b) Truth d.1)) h.1
      (holed-valued h.0 m Truth (push (wire.Or d.0 b) Truth d.1)
      (steps.gate steers (wire.Or d.0 b) Truth d.1 h.0 m h.2 (low-own steers h.0 d.0 m h.3, low-grows steers ms h.0 h.1 b m k)))

  pub two-marked : (o : Op2) (a b : Value) (s : Sketch) (ms : Marks) (m : Sources) → AreMarked steers s ms → Low steers ms a.wire m → Low steers ms b.wire m → Valued ms m (drawn_two o a b s)
  unfolding drawn_two
  two-marked And a b s ms m h l k = holed-valued ms m Truth (push (wire.And a.wire b.wire) Truth s) (steps.gate steers (wire.And a.wire b.wire) Truth s ms m h (l, k))
  two-marked Or a b s ms m h l k = holed-valued ms m Truth (push (wire.Or a.wire b.wire) Truth s) (steps.gate steers (wire.Or a.wire b.wire) Truth s ms m h (l, k))
  two-marked Xor a b s ms m h l k = holed-valued ms m Truth (push (wire.Xor a.wire b.wire) Truth s) (steps.gate steers (wire.Xor a.wire b.wire) Truth s ms m h (l, k))
  two-marked Imp a b s ms m h l k = or-behind ms m (push (wire.Not a.wire) Truth s) b.wire (steps.gate steers (wire.Not a.wire) Truth s ms m h l) k
  two-marked Eq a b s ms m h l k = holed-valued ms m Truth (push (wire.Equal a.wire b.wire) Truth s) (steps.gate steers (wire.Equal a.wire b.wire) Truth s ms m h (l, k))
  two-marked Ne a b s ms m h l k = not-behind ms m (push (wire.Equal a.wire b.wire) Truth s) (steps.gate steers (wire.Equal a.wire b.wire) Truth s ms m h (l, k))
  two-marked Lt a b s ms m h l k = owned-valued ms m (mark_of_two a b s) (mark-two-marked a b s ms m h l k)
  two-marked Le a b s ms m h l k = owned-valued ms m (mark_of_two a b s) (mark-two-marked a b s ms m h l k)
  two-marked Gt a b s ms m h l k = owned-valued ms m (mark_of_two a b s) (mark-two-marked a b s ms m h l k)
  two-marked Ge a b s ms m h l k = owned-valued ms m (mark_of_two a b s) (mark-two-marked a b s ms m h l k)
  two-marked Add a b s ms m h l k = owned-valued ms m (mark_of_two a b s) (mark-two-marked a b s ms m h l k)
  two-marked Sub a b s ms m h l k = owned-valued ms m (mark_of_two a b s) (mark-two-marked a b s ms m h l k)
  two-marked Mul a b s ms m h l k = owned-valued ms m (mark_of_two a b s) (mark-two-marked a b s ms m h l k)
  two-marked Div a b s ms m h l k = owned-valued ms m (mark_of_two a b s) (mark-two-marked a b s ms m h l k)
  two-marked Rem a b s ms m h l k = owned-valued ms m (mark_of_two a b s) (mark-two-marked a b s ms m h l k)

  pub choice-marked : (c : ℕ) (a b : Value) (s : Sketch) (ms : Marks) (m : Sources) → AreMarked steers s ms → Low steers ms c m → Low steers ms a.wire m → Low steers ms b.wire m → Valued ms m (drawn_choice c a b s)
  unfolding drawn_choice
  choice-marked c a b s ms m h l k j = by a.shape
    where
      by : (p : Shape) → Valued ms m (chosen_as p c a b s)
      by Mark = owned-valued ms m (mark_of_three (truth c) a b s) (mark-three-marked (truth c) a b s ms m h l k j)
      by Truth = holed-valued ms m Truth (push (wire.If c a.wire b.wire) Truth s) (steps.gate steers (wire.If c a.wire b.wire) Truth s ms m h (l, k, j))
      by (Cons n) = holed-valued ms m (Cons n) (push (wire.If c a.wire b.wire) (Cons n) s) (steps.gate steers (wire.If c a.wire b.wire) (Cons n) s ms m h (l, k, j))

  module _ (z : Scope) (context : Sources) (names : NameSources) where
    pub seen-grows : (ms ms' : Marks) → Grows ms ms' → AreSeen steers ms z context names → AreSeen steers ms' z context names
    seen-grows ms ms' g h = record { values = λ x. low-grows steers ms ms' g (value_in z x).wire (both context (names x)) (h.values x); lasts = λ x. low-grows steers ms ms' g (last_in z x).wire context (h.lasts x) }

    -- where something is drawn: a sketch with marks, a place and names
    pub record IsAt (ms : Marks) (s : Sketch) (spot : Place) : Type 0 where
      pub marks : AreMarked steers s ms
      pub placed : IsPlaced steers ms spot context
      pub seen : AreSeen steers ms z context names

    -- behind a step
    pub at-behind : (ms ms' : Marks) (s s' : Sketch) (spot : Place) → IsAt ms s spot → Grows ms ms' → AreMarked steers s' ms' → IsAt ms' s' spot
    at-behind ms ms' s s' spot h g a = record { marks = a; placed = placed-grows steers ms ms' g spot context h.placed; seen = seen-grows ms ms' g h.seen }

    -- what is drawn at a place, where its slots are placed, has a value whose wire leads to a controllable variable only where these sources do
    abbrev pub Draws : Place → Sources → (Sketch → Type 0) → (Sketch → Value × Sketch) → Type 0
    Draws spot m P f = (s : Sketch) (ms : Marks) → P s → IsAt ms s spot → Valued ms (both context m) (f s)

    abbrev pub Into : Sources → Sources → Type 0
    Into a b = Leads steers a → Leads steers b

    pub widen : (a b : Sources) → Into a b → Into (both context a) (both context b)
    widen a b f (inl h) = inl h
    widen a b f (inr h) = inr (f h)

    pub low-in : (ms : Marks) (w : ℕ) (a b : Sources) → Into a b → Low steers ms w (both context a) → Low steers ms w (both context b)
    low-in ms w a b f l = low-up steers ms w (both context a) (both context b) (widen a b f) l

    pub low-context : (ms : Marks) (w : ℕ) (a : Sources) → Low steers ms w context → Low steers ms w (both context a)
    low-context ms w a l = low-up steers ms w context (both context a) (λ h. inl h) l

    -- ---- operands

    pub draws-one : (spot : Place) (o : Op1) (m : Sources) (P : Sketch → Type 0) (f : Sketch → Value × Sketch) → Draws spot m P f → Draws spot m P (λ s. drawn_one o (f s).0 (f s).1)
    draws-one spot o m P f d s ms q h =
        let v = d s ms q h in
        onward ms v.0 (both context m) (drawn_one o (f s).0 (f s).1) v.1 (one-marked o (f s).0 (f s).1 v.0 (both context m) v.2 v.3)

    abbrev pub two_of : Bool → Place → Op2 → (Sketch → Value × Sketch) → (Sketch → Value × Sketch) → Sketch → Value × Sketch
    two_of flag spot o f g s =
        let w = two_begin flag spot s in
        let first = f w.1 in
        let second = g first.1 in
        two_end flag w.0 o first.0 second.0 second.1

    -- a comparison has a slot, which stands for a place that reads no less
    abbrev pub two_placed : Bool → Place → Sources → (Sketch → Type 0) → (Sketch → Type 0) → (Sketch → Value × Sketch) → Sketch → Type 0
    two_placed flag spot own P Q f s = let w = two_begin flag spot s in IsCompared steers flag own s × P w.1 × Q (f w.1).1

    pub draws-two : (flag : Bool) (spot : Place) (o : Op2) (a b own : Sources) (P Q : Sketch → Type 0) (f g : Sketch → Value × Sketch) → Into (both context (both a b)) own → Draws spot a P f → Draws spot b Q g → Draws spot (both a b) (two_placed flag spot own P Q f) (two_of flag spot o f g)
    draws-two false spot o a b own P Q f g i d e s ms q h =
        let m = both context (both a b) in
        let v = d s ms q.1 h in
        let w = e (f s).1 v.0 q.2 (at-behind ms v.0 s (f s).1 spot h v.1 v.2) in
        let second = g (f s).1 in
        let grown = grows-both ms v.0 w.0 v.1 w.1 in
        onward ms w.0 m (drawn_two o (f s).0 second.0 second.1) grown
        (two-marked o (f s).0 second.0 second.1 w.0 m w.2
        (low-in w.0 (f s).0.wire a (both a b) (λ k. inl k) (low-grows steers v.0 w.0 w.1 (f s).0.wire (both context a) v.3))
        (low-in w.0 second.0.wire b (both a b) (λ k. inr k) w.3))
    draws-two true spot o a b own P Q f g i d e s ms q h =
        let m = both context (both a b) in
        let free = slot (role.Free (may_be_early spot)) Truth s in
        let u = slot-marked steers (role.Free (may_be_early spot)) Truth s ms m h.marks (λ l. q.0 (i l)) in
        let v = d free.1 u.0 q.1 (at-behind ms u.0 s free.1 spot h u.1 u.2) in
        let first = f free.1 in
        let w = e first.1 v.0 q.2 (at-behind ms v.0 s first.1 spot h (grows-both ms u.0 v.0 u.1 v.1) v.2) in
        let second = g first.1 in
        let has = has-grows u.0 w.0 (grows-both u.0 v.0 w.0 v.1 w.1) free.0 m u.3 in
        let one = steps.read-marked steers free.0 first.0.wire second.1 w.0 m w.2 has (low-in w.0 first.0.wire a (both a b) (λ k. inl k) (low-grows steers v.0 w.0 w.1 first.0.wire (both context a) v.3)) in (
          w.0,
          grows-both ms v.0 w.0 (grows-both ms u.0 v.0 u.1 v.1) w.1,
          steps.read-marked steers free.0 second.0.wire (read free.0 first.0.wire second.1) w.0 m one has (low-in w.0 second.0.wire b (both a b) (λ k. inr k) w.3),
          low-own steers w.0 free.0 m has,
        )

    abbrev pub choice_of : (Sketch → Value × Sketch) → (Sketch → Value × Sketch) → (Sketch → Value × Sketch) → Sketch → Value × Sketch
    choice_of f g e s =
        let condition = f s in
        let first = g condition.1 in
        let second = e first.1 in
        drawn_choice condition.0.wire first.0 second.0 second.1

    abbrev pub choice_placed : (Sketch → Type 0) → (Sketch → Type 0) → (Sketch → Type 0) → (Sketch → Value × Sketch) → (Sketch → Value × Sketch) → Sketch → Type 0
    choice_placed P Q R f g s = P s × Q (f s).1 × R (g (f s).1).1

    pub draws-choice : (spot : Place) (a b c : Sources) (P Q R : Sketch → Type 0) (f g e : Sketch → Value × Sketch) → Draws spot a P f → Draws spot b Q g → Draws spot c R e → Draws spot (both a (both b c)) (choice_placed P Q R f g) (choice_of f g e)
    draws-choice spot a b c P Q R f g e df dg de s ms q h =
        let m = both a (both b c) in
        let u = df s ms q.0 h in
        let condition = f s in
        let v = dg condition.1 u.0 q.1 (at-behind ms u.0 s condition.1 spot h u.1 u.2) in
        let first = g condition.1 in
        let gv = grows-both ms u.0 v.0 u.1 v.1 in
        let w = de first.1 v.0 q.2 (at-behind ms v.0 s first.1 spot h gv v.2) in
        let second = e first.1 in
        onward ms w.0 (both context m) (drawn_choice condition.0.wire first.0 second.0 second.1) (grows-both ms v.0 w.0 gv w.1)
        (choice-marked condition.0.wire first.0 second.0 second.1 w.0 (both context m) w.2
        (low-in w.0 condition.0.wire a m (λ k. inl k) (low-grows steers u.0 w.0 (grows-both u.0 v.0 w.0 v.1 w.1) condition.0.wire (both context a) u.3))
        (low-in w.0 first.0.wire b m (λ k. inr (inl k)) (low-grows steers v.0 w.0 w.1 first.0.wire (both context b) v.3))
        (low-in w.0 second.0.wire c m (λ k. inr (inr k)) w.3))
