-- The steps of drawing, with marks: a wire more, a wire defined anew, what is read besides, gates, slots, registers and clocks.
use Rattle.std.proofs.Common.{◌≡◌, ℕ, zero, suc, nat_eq, Bool, true, false, if◌then◌else◌, List, [], ◌∷◌, ◌++◌, length, Option, None, Some, refl, sym, ap, subst, ◌∙◌}
use Rattle.std.specs.Prelude.{slice_set}
use Rattle.std.specs.List.{slice_get}
use Rattle.std.proofs.lemmas.List.{append-nil, append_assoc}
use Rattle.std.proofs.lemmas.Option.{same_Some, none-some}
use Rattle.hp_meaning.specs.Causal.Sources.{Sources, none}
use Rattle.hp_circuit.specs.declared.circuit.Role.{Role}
use Rattle.hp_circuit.specs.declared.circuit.Role.TheVariants as role
use Rattle.hp_circuit.specs.declared.circuit.Shape.{Shape}
use Rattle.hp_circuit.specs.declared.circuit.Shape.TheVariants.{Truth, Cons, Mark}
use Rattle.hp_circuit.specs.declared.circuit.Slot.{Slot}
use Rattle.hp_circuit.specs.declared.circuit.Wire.{Wire}
use Rattle.hp_circuit.specs.declared.circuit.Wire.TheVariants as wire
use Rattle.hp_drawing.specs.declared.parts.Clock.{Clock}
use Rattle.hp_drawing.specs.declared.parts.Value.{Value}
use Rattle.hp_drawing.specs.Sketch as sketch
use Rattle.hp_drawing.specs.Sketch.{Sketch, low, high, push, write, set, set_over, is_open, read, read_all, mark, mark_of, hole, define, define_as, copy, not_gate, and_gate, or_gate, choose_gate, is_gate, slot, given, with_slot, set_next, set_next_at, with_next, next_as, add_clock, inner_clock, holds, holds_by}
use Rattle.law_drawing.specs.Steered.Marks.{Steering, Marks, Each, Has, Grows, Leads, Low, Bound, AllBound, IsReadBound, IsRoleMarked, AreSlotsMarked, There, IsClockMarked, AreMarked}

-- ---- lists

module _ {A : Type 0} where
  get-front : (xs more : List A) (i : ℕ) (v : A) → slice_get xs i ≡ Some v → slice_get (xs ++ more) i ≡ Some v
  get-front [] more i v h = absurd (none-some v h)
  get-front (x ∷ xs) more zero v h = h
  get-front (x ∷ xs) more (suc i) v h = get-front xs more i v h

  get-next : (xs : List A) (v : A) → slice_get (xs ++ v ∷ []) (length xs) ≡ Some v
  get-next [] v = refl
  get-next (x ∷ xs) v = get-next xs v

  all-into : (P Q : A → Type 0) → ((x : A) → P x → Q x) → (xs : List A) → Each P xs → Each Q xs
  all-into P Q f [] h = tt
  all-into P Q f (x ∷ xs) h = (f x h.0, all-into P Q f xs h.1)

  pub all-next : (P : A → Type 0) (xs : List A) (x : A) → Each P xs → P x → Each P (xs ++ x ∷ [])
  all-next P [] x h p = (p, tt)
  all-next P (y ∷ ys) x h p = (h.0, all-next P ys x h.1 p)

pub grows-none : (ms : Marks) → Grows ms ms
grows-none ms = ([], sym (append-nil ms))

pub grows-both : (ms ms1 ms2 : Marks) → Grows ms ms1 → Grows ms1 ms2 → Grows ms ms2
grows-both ms ms1 ms2 a b = (a.0 ++ b.0, b.1 ∙ ap (λ l. l ++ b.0) a.1 ∙ append_assoc ms a.0 b.0)

pub has-grows : (ms ms' : Marks) → Grows ms ms' → (w : ℕ) (m : Sources) → Has ms w m → Has ms' w m
has-grows ms ms' g w m h = subst (λ l. Has l w m) (sym g.1) (get-front ms g.0 w m h)

module _ (steers : Steering) where
  -- ---- what stays as marks grow

  pub low-grows : (ms ms' : Marks) → Grows ms ms' → (w : ℕ) (s : Sources) → Low steers ms w s → Low steers ms' w s
  low-grows ms ms' g w s l = record { mark = l.mark; has = has-grows ms ms' g w l.mark l.has; leads = l.leads }

  pub there-grows : (ms ms' : Marks) → Grows ms ms' → (w : ℕ) → There steers ms w → There steers ms' w
  there-grows ms ms' g w t = record { mark = t.mark; has = has-grows ms ms' g w t.mark t.has }

  -- a bound that is greater
  pub low-up : (ms : Marks) (w : ℕ) (s t : Sources) → (Leads steers s → Leads steers t) → Low steers ms w s → Low steers ms w t
  low-up ms w s t f l = record { mark = l.mark; has = l.has; leads = λ h. f (l.leads h) }

  pub low-there : (ms : Marks) (w : ℕ) (s : Sources) → Low steers ms w s → There steers ms w
  low-there ms w s l = record { mark = l.mark; has = l.has }

  pub low-own : (ms : Marks) (w : ℕ) (m : Sources) → Has ms w m → Low steers ms w m
  low-own ms w m h = record { mark = m; has = h; leads = λ k. k }

  pub there-low : (ms : Marks) (w : ℕ) (t : There steers ms w) → Low steers ms w t.mark
  there-low ms w t = record { mark = t.mark; has = t.has; leads = λ k. k }

  bound-grows : (ms ms' : Marks) → Grows ms ms' → (m : Sources) (w : Wire) → Bound steers ms m w → Bound steers ms' m w
  bound-grows ms ms' g m (wire.Slot i) h = tt
  bound-grows ms ms' g m (wire.Constant k) h = tt
  bound-grows ms ms' g m (wire.Copy a) h = low-grows ms ms' g a m h
  bound-grows ms ms' g m (wire.Not a) h = low-grows ms ms' g a m h
  bound-grows ms ms' g m (wire.And a b) h = (low-grows ms ms' g a m h.0, low-grows ms ms' g b m h.1)
  bound-grows ms ms' g m (wire.Or a b) h = (low-grows ms ms' g a m h.0, low-grows ms ms' g b m h.1)
  bound-grows ms ms' g m (wire.Xor a b) h = (low-grows ms ms' g a m h.0, low-grows ms ms' g b m h.1)
  bound-grows ms ms' g m (wire.Equal a b) h = (low-grows ms ms' g a m h.0, low-grows ms ms' g b m h.1)
  bound-grows ms ms' g m (wire.Is a k) h = low-grows ms ms' g a m h
  bound-grows ms ms' g m (wire.If t a b) h = (low-grows ms ms' g t m h.0, low-grows ms ms' g a m h.1, low-grows ms ms' g b m h.2)

  all-bound-grows : (ms ms' : Marks) → Grows ms ms' → (ws : List Wire) (rest : Marks) → AllBound steers ms ws rest → AllBound steers ms' ws rest
  all-bound-grows ms ms' g [] [] h = tt
  all-bound-grows ms ms' g [] (m ∷ rest) h = absurd h
  all-bound-grows ms ms' g (w ∷ ws) [] h = absurd h
  all-bound-grows ms ms' g (w ∷ ws) (m ∷ rest) h = (bound-grows ms ms' g m w h.0, all-bound-grows ms ms' g ws rest h.1)

  all-bound-next : (ms : Marks) (ws : List Wire) (rest : Marks) (w : Wire) (m : Sources) → AllBound steers ms ws rest → Bound steers ms m w → AllBound steers ms (ws ++ w ∷ []) (rest ++ m ∷ [])
  all-bound-next ms [] [] w m h b = (b, tt)
  all-bound-next ms [] (n ∷ rest) w m h b = absurd h
  all-bound-next ms (v ∷ ws) [] w m h b = absurd h
  all-bound-next ms (v ∷ ws) (n ∷ rest) w m h b = (h.0, all-bound-next ms ws rest w m h.1 b)

  all-bound-set : (ms : Marks) (ws : List Wire) (rest : Marks) (i : ℕ) (w : Wire) (m : Sources) → AllBound steers ms ws rest → Has rest i m → Bound steers ms m w → AllBound steers ms (slice_set ws i w) rest
  all-bound-set ms [] [] i w m h e b = tt
  all-bound-set ms [] (n ∷ rest) i w m h e b = absurd h
  all-bound-set ms (v ∷ ws) [] i w m h e b = absurd h
  all-bound-set ms (v ∷ ws) (n ∷ rest) zero w m h e b = (subst (λ k. Bound steers ms k w) (sym (same_Some n m e)) b, h.1)
  all-bound-set ms (v ∷ ws) (n ∷ rest) (suc i) w m h e b = (h.0, all-bound-set ms ws rest i w m h.1 e b)

  all-bound-length : (ms : Marks) (ws : List Wire) (rest : Marks) → AllBound steers ms ws rest → length ws ≡ length rest
  all-bound-length ms [] [] h = refl
  all-bound-length ms [] (m ∷ rest) h = absurd h
  all-bound-length ms (w ∷ ws) [] h = absurd h
  all-bound-length ms (w ∷ ws) (m ∷ rest) h = ap suc (all-bound-length ms ws rest h.1)

  read-grows : (ms ms' : Marks) → Grows ms ms' → (r : ℕ × ℕ) → IsReadBound steers ms r → IsReadBound steers ms' r
  read-grows ms ms' g r h = record { mark = h.mark; has = has-grows ms ms' g r.0 h.mark h.has; reads = low-grows ms ms' g r.1 h.mark h.reads }

  role-grows : (ms ms' : Marks) → Grows ms ms' → (w i : ℕ) (r : Role) → IsRoleMarked steers ms w i r → IsRoleMarked steers ms' w i r
  role-grows ms ms' g w i (role.Register first next) h = tt
  role-grows ms ms' g w i role.Input h = tt
  role-grows ms ms' g w i role.Control h = record { mark = h.mark; has = has-grows ms ms' g w h.mark h.has; leads = h.leads }
  role-grows ms ms' g w i (role.Free early) h = low-grows ms ms' g w (steers.slots i) h

  slots-grow : (ms ms' : Marks) → Grows ms ms' → (i : ℕ) (cs : List Slot) → AreSlotsMarked steers ms i cs → AreSlotsMarked steers ms' i cs
  slots-grow ms ms' g i [] h = tt
  slots-grow ms ms' g i (c ∷ cs) h = (role-grows ms ms' g c.wire i c.role h.0, slots-grow ms ms' g (suc i) cs h.1)

  clock-grows : (ms ms' : Marks) → Grows ms ms' → (c : Clock) → IsClockMarked steers ms c → IsClockMarked steers ms' c
  clock-grows ms ms' g c h = there-grows ms ms' g c.holds h

  -- ---- steps: the marks behind one, and a wire that it makes

  abbrev pub Step : Marks → Sketch → Type 0
  Step ms s' = (ms' : Marks) × Grows ms ms' × AreMarked steers s' ms'

  abbrev pub Made : Marks → Sources → ℕ × Sketch → Type 0
  Made ms m d = (ms' : Marks) × Grows ms ms' × AreMarked steers d.1 ms' × Low steers ms' d.0 m

  -- one with this very mark
  abbrev pub Holed : Marks → Sources → ℕ × Sketch → Type 0
  Holed ms m d = (ms' : Marks) × Grows ms ms' × AreMarked steers d.1 ms' × Has ms' d.0 m

  pub holed-made : (ms : Marks) (m : Sources) (d : ℕ × Sketch) → Holed ms m d → Made ms m d
  holed-made ms m d h = (h.0, h.1, h.2, low-own h.0 d.0 m h.3)

  pub made-up : (ms : Marks) (m n : Sources) (d : ℕ × Sketch) → (Leads steers m → Leads steers n) → Made ms m d → Made ms n d
  made-up ms m n d f h = (h.0, h.1, h.2, low-up h.0 d.0 m n f h.3)

  -- a wire more, of a mark
  pub pushed : (w : Wire) (p : Shape) (s : Sketch) (ms : Marks) (m : Sources) → AreMarked steers s ms → Bound steers (ms ++ m ∷ []) m w → Holed ms m (push w p s)
  unfolding push
  pushed w p s ms m a b =
      let g : Grows ms (ms ++ m ∷ []) = (m ∷ [], refl) in (
        ms ++ m ∷ [],
        g,
        record {
          wires = all-bound-next (ms ++ m ∷ []) s.wires ms w m (all-bound-grows ms (ms ++ m ∷ []) g s.wires ms a.wires) b;
          reads = all-into (IsReadBound steers ms) (IsReadBound steers (ms ++ m ∷ [])) (read-grows ms (ms ++ m ∷ []) g) s.reads a.reads;
          slots = slots-grow ms (ms ++ m ∷ []) g 0 s.slots a.slots;
          clocks = all-into (IsClockMarked steers ms) (IsClockMarked steers (ms ++ m ∷ [])) (clock-grows ms (ms ++ m ∷ []) g) s.clocks a.clocks;
          low_is = low-grows ms (ms ++ m ∷ []) g low none a.low_is;
          high_is = low-grows ms (ms ++ m ∷ []) g high none a.high_is;
          hyp_is = there-grows ms (ms ++ m ∷ []) g s.hyp a.hyp_is;
          duty_is = there-grows ms (ms ++ m ∷ []) g s.duty a.duty_is;
        },
        subst (λ i. Has (ms ++ m ∷ []) i m) (sym (all-bound-length ms s.wires ms a.wires)) (get-next ms m),
      )

  -- one whose operands are there already
  pub gate : (w : Wire) (p : Shape) (s : Sketch) (ms : Marks) (m : Sources) → AreMarked steers s ms → Bound steers ms m w → Holed ms m (push w p s)
  gate w p s ms m a b = pushed w p s ms m a (bound-grows ms (ms ++ m ∷ []) (m ∷ [], refl) m w b)

  pub read-marked : (w other : ℕ) (s : Sketch) (ms : Marks) (m : Sources) → AreMarked steers s ms → Has ms w m → Low steers ms other m → AreMarked steers (read w other s) ms
  unfolding read
  read-marked w other s ms m a h l = record {
    wires = a.wires;
    reads = all-next (IsReadBound steers ms) s.reads (w, other) a.reads (record { mark = m; has = h; reads = l });
    slots = a.slots;
    clocks = a.clocks;
    low_is = a.low_is;
    high_is = a.high_is;
    hyp_is = a.hyp_is;
    duty_is = a.duty_is;
  }

  -- a wire reads all that gives it a value
  all-marked : (i : ℕ) (w : Wire) (s : Sketch) (ms : Marks) (m : Sources) → AreMarked steers s ms → Has ms i m → Bound steers ms m w → AreMarked steers (read_all i w s) ms
  unfolding read_all
  all-marked i (wire.Slot k) s ms m a h b = a
  all-marked i (wire.Constant k) s ms m a h b = a
  all-marked i (wire.Copy x) s ms m a h b = read-marked i x s ms m a h b
  all-marked i (wire.Not x) s ms m a h b = read-marked i x s ms m a h b
  all-marked i (wire.And x y) s ms m a h b = read-marked i y (read i x s) ms m (read-marked i x s ms m a h b.0) h b.1
  all-marked i (wire.Or x y) s ms m a h b = read-marked i y (read i x s) ms m (read-marked i x s ms m a h b.0) h b.1
  all-marked i (wire.Xor x y) s ms m a h b = read-marked i y (read i x s) ms m (read-marked i x s ms m a h b.0) h b.1
  all-marked i (wire.Equal x y) s ms m a h b = read-marked i y (read i x s) ms m (read-marked i x s ms m a h b.0) h b.1
  all-marked i (wire.Is x k) s ms m a h b = read-marked i x s ms m a h b
  all-marked i (wire.If t x y) s ms m a h b = read-marked i y (read i x (read i t s)) ms m (read-marked i x (read i t s) ms m (read-marked i t s ms m a h b.0) h b.1) h b.2

  bound-at : (ms : Marks) (ws : List Wire) (rest : Marks) (i : ℕ) (w : Wire) (m : Sources) → AllBound steers ms ws rest → slice_get ws i ≡ Some w → Has rest i m → Bound steers ms m w
  bound-at ms [] rest i w m h e k = absurd (none-some w e)
  bound-at ms (v ∷ ws) [] i w m h e k = absurd h
  bound-at ms (v ∷ ws) (n ∷ rest) zero w m h e k = subst (λ x. Bound steers ms x w) (same_Some n m k) (subst (Bound steers ms n) (same_Some v w e) h.0)
  bound-at ms (v ∷ ws) (n ∷ rest) (suc i) w m h e k = bound-at ms ws rest i w m h.1 e k

  -- a wire is defined anew
  write-marked : (i : ℕ) (w : Wire) (s : Sketch) (ms : Marks) (m : Sources) → AreMarked steers s ms → Has ms i m → Bound steers ms m w → AreMarked steers (write i w s) ms
  unfolding write
  write-marked i w s ms m a h b = record {
    wires = all-bound-set ms s.wires ms i w m a.wires h b;
    reads = a.reads;
    slots = a.slots;
    clocks = a.clocks;
    low_is = a.low_is;
    high_is = a.high_is;
    hyp_is = a.hyp_is;
    duty_is = a.duty_is;
  }

  over-marked : (i : ℕ) (w : Wire) (o : Option Wire) (s : Sketch) (ms : Marks) (m : Sources) → slice_get s.wires i ≡ o → AreMarked steers s ms → Has ms i m → Bound steers ms m w → AreMarked steers (set_over i w o s) ms
  over-marked i w None s ms m e a h b = all-marked i w s ms m a h b
  over-marked i w (Some old) s ms m e a h b = write-marked i w (if is_open i old then s else read_all i old s) ms m (by (is_open i old)) h b
    where
      by : (c : Bool) → AreMarked steers (if c then s else read_all i old s) ms
      by true = a
      by false = all-marked i old s ms m a h (bound-at ms s.wires ms i old m a.wires e h)

  pub set-marked : (i : ℕ) (w : Wire) (s : Sketch) (ms : Marks) (m : Sources) → AreMarked steers s ms → Has ms i m → Bound steers ms m w → AreMarked steers (set i w s) ms
  unfolding set
  set-marked i w s ms m a h b = over-marked i w (slice_get s.wires i) s ms m refl a h b

  pub mark-marked : (s : Sketch) (ms : Marks) (m : Sources) → AreMarked steers s ms → Holed ms m (mark s)
  unfolding mark
  mark-marked s ms m a = gate (wire.Constant 0) Mark s ms m a tt

  pub mark-of-marked : (source : ℕ) (s : Sketch) (ms : Marks) (m : Sources) → AreMarked steers s ms → Low steers ms source m → Holed ms m (mark_of source s)
  unfolding mark_of
  mark-of-marked source s ms m a l =
      let d = mark-marked s ms m a in
      (d.0, d.1, read-marked (mark s).0 source (mark s).1 d.0 m d.2 d.3 (low-grows ms d.0 d.1 source m l), d.3)

  pub hole-marked : (p : Shape) (s : Sketch) (ms : Marks) (m : Sources) → AreMarked steers s ms → Holed ms m (hole p s)
  unfolding hole sketch.next_wire
  hole-marked Mark s ms m a = mark-marked s ms m a
  hole-marked Truth s ms m a = pushed (wire.Copy (length s.wires)) Truth s ms m a (low-own (ms ++ m ∷ []) (length s.wires) m (subst (λ i. Has (ms ++ m ∷ []) i m) (sym (all-bound-length ms s.wires ms a.wires)) (get-next ms m)))
  hole-marked (Cons n) s ms m a = pushed (wire.Copy (length s.wires)) (Cons n) s ms m a (low-own (ms ++ m ∷ []) (length s.wires) m (subst (λ i. Has (ms ++ m ∷ []) i m) (sym (all-bound-length ms s.wires ms a.wires)) (get-next ms m)))

  pub define-marked : (w : ℕ) (v : Value) (s : Sketch) (ms : Marks) (m : Sources) → AreMarked steers s ms → Has ms w m → Low steers ms v.wire m → AreMarked steers (define w v s) ms
  unfolding define
  define-marked w v s ms m a h l = by v.shape
    where
      by : (p : Shape) → AreMarked steers (define_as p w v.wire s) ms
      by Mark = read-marked w v.wire s ms m a h l
      by Truth = set-marked w (wire.Copy v.wire) s ms m a h l
      by (Cons n) = set-marked w (wire.Copy v.wire) s ms m a h l

  pub copy-marked : (v : Value) (s : Sketch) (ms : Marks) (m : Sources) → AreMarked steers s ms → Low steers ms v.wire m → Holed ms m (copy v s)
  unfolding copy
  copy-marked v s ms m a l =
      let d = hole-marked v.shape s ms m a in
      (d.0, d.1, define-marked (hole v.shape s).0 v (hole v.shape s).1 d.0 m d.2 d.3 (low-grows ms d.0 d.1 v.wire m l), d.3)

  -- ---- gates that are left out where they are constant

  -- nothing is drawn
  still : (s : Sketch) (ms : Marks) (m : Sources) (w : ℕ) → AreMarked steers s ms → Low steers ms w m → Made ms m (w, s)
  still s ms m w a l = (ms, grows-none ms, a, l)

  constant_low : (ms : Marks) (w : ℕ) (m : Sources) → Low steers ms w none → Low steers ms w m
  constant_low ms w m l = low-up ms w none m (λ h. absurd h) l

  made_if : (b : Bool) (ms : Marks) (m : Sources) (d e : ℕ × Sketch) → Made ms m d → Made ms m e → Made ms m (if b then d else e)
  made_if true ms m d e h k = h
  made_if false ms m d e h k = k

  pub not-marked : (x : ℕ) (s : Sketch) (ms : Marks) (m : Sources) → AreMarked steers s ms → Low steers ms x m → Made ms m (not_gate x s)
  unfolding not_gate
  not-marked x s ms m a l =
      made_if (nat_eq x low) ms m (high, s) (if nat_eq x high then (low, s) else push (wire.Not x) Truth s) (still s ms m high a (constant_low ms high m a.high_is))
      (made_if (nat_eq x high) ms m (low, s) (push (wire.Not x) Truth s) (still s ms m low a (constant_low ms low m a.low_is)) (holed-made ms m (push (wire.Not x) Truth s) (gate (wire.Not x) Truth s ms m a l)))

  pub and-marked : (x y : ℕ) (s : Sketch) (ms : Marks) (m : Sources) → AreMarked steers s ms → Low steers ms x m → Low steers ms y m → Made ms m (and_gate x y s)
  unfolding and_gate
  and-marked x y s ms m a l k =
      let g = holed-made ms m (push (wire.And x y) Truth s) (gate (wire.And x y) Truth s ms m a (l, k)) in
      let fourth = made_if (nat_eq y high) ms m (x, s) (push (wire.And x y) Truth s) (still s ms m x a l) g in
      let third = made_if (nat_eq x high) ms m (y, s) (if nat_eq y high then (x, s) else push (wire.And x y) Truth s) (still s ms m y a k) fourth in
      let second = made_if (nat_eq y low) ms m (low, s) (if nat_eq x high then (y, s) else if nat_eq y high then (x, s) else push (wire.And x y) Truth s) (still s ms m low a (constant_low ms low m a.low_is)) third in
      made_if (nat_eq x low) ms m (low, s) (if nat_eq y low then (low, s) else if nat_eq x high then (y, s) else if nat_eq y high then (x, s) else push (wire.And x y) Truth s) (still s ms m low a (constant_low ms low m a.low_is)) second

  pub or-marked : (x y : ℕ) (s : Sketch) (ms : Marks) (m : Sources) → AreMarked steers s ms → Low steers ms x m → Low steers ms y m → Made ms m (or_gate x y s)
  unfolding or_gate
  or-marked x y s ms m a l k =
      let g = holed-made ms m (push (wire.Or x y) Truth s) (gate (wire.Or x y) Truth s ms m a (l, k)) in
      let fourth = made_if (nat_eq y low) ms m (x, s) (push (wire.Or x y) Truth s) (still s ms m x a l) g in
      let third = made_if (nat_eq x low) ms m (y, s) (if nat_eq y low then (x, s) else push (wire.Or x y) Truth s) (still s ms m y a k) fourth in
      let second = made_if (nat_eq y high) ms m (high, s) (if nat_eq x low then (y, s) else if nat_eq y low then (x, s) else push (wire.Or x y) Truth s) (still s ms m high a (constant_low ms high m a.high_is)) third in
      made_if (nat_eq x high) ms m (high, s) (if nat_eq y high then (high, s) else if nat_eq x low then (y, s) else if nat_eq y low then (x, s) else push (wire.Or x y) Truth s) (still s ms m high a (constant_low ms high m a.high_is)) second

  pub choose-marked : (t x y : ℕ) (p : Shape) (s : Sketch) (ms : Marks) (m : Sources) → AreMarked steers s ms → Low steers ms t m → Low steers ms x m → Low steers ms y m → Made ms m (choose_gate t x y p s)
  unfolding choose_gate
  choose-marked t x y p s ms m a l k j =
      let g = holed-made ms m (push (wire.If t x y) p s) (gate (wire.If t x y) p s ms m a (l, k, j)) in
      let second = made_if (nat_eq t high) ms m (x, s) (push (wire.If t x y) p s) (still s ms m x a k) g in
      made_if (nat_eq t low) ms m (y, s) (if nat_eq t high then (x, s) else push (wire.If t x y) p s) (still s ms m y a j) second

  pub is-marked : (w number : ℕ) (s : Sketch) (ms : Marks) (m : Sources) → AreMarked steers s ms → Low steers ms w m → Made ms m (is_gate w number s)
  unfolding is_gate
  is-marked w number s ms m a l = holed-made ms m (push (wire.Is w number) Truth s) (gate (wire.Is w number) Truth s ms m a l)
