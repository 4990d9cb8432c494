-- The steps of drawing keep that each wire fits: a wire more, a wire whose value is said, what is read besides, and gates.
use Rattle.std.proofs.Common.{◌≡◌, ℕ, zero, suc, nat_eq, Bool, true, false, if◌then◌else◌, List, [], ◌∷◌, ◌++◌, length, map, Option, None, Some, refl, sym, ap, subst, ◌∙◌}
use Rattle.std.specs.Prelude.{slice_set}
use Rattle.std.specs.List.{slice_get}
use Rattle.std.proofs.lemmas.Option.{same_Some, none-some}
use Rattle.hp_circuit.specs.declared.circuit.Shape.{Shape}
use Rattle.hp_circuit.specs.declared.circuit.Shape.TheVariants.{Truth, Cons, Mark}
use Rattle.hp_circuit.specs.declared.circuit.Wire.{Wire}
use Rattle.hp_circuit.specs.declared.circuit.Wire.TheVariants as wire
use Rattle.hp_circuit.specs.Forms.{IsShape, IsValue}
use Rattle.hp_drawing.specs.declared.parts.Value.{Value}
use Rattle.hp_drawing.specs.Sketch as sketch
use Rattle.hp_drawing.specs.Sketch.{Sketch, low, high, push, write, set, set_over, is_open, read, read_all, mark, mark_of, hole, define, define_as, copy, not_gate, and_gate, or_gate, choose_gate, is_gate}
use Rattle.law_drawing.proofs.SteeredLemmas.Steps.{all-next}
use Rattle.law_drawing.proofs.FormLemmas.Views.{Has, get-front, get-next, each-into, map-next, map-last, slot_by, shape_of, View, view_of, Grows, grows-none, Fits, AllFit, IsThere, IsReadThere, IsTruthClock, AreFormed, IsFormed, IsHole, fits-grows, all-fit-grows, slots-grow, reads-grow, clock-grows, Step, Made, Holed, still, onward, has-on, hole-on, shape-is, fit-length}

-- ---- a wire more

abbrev next_view : Wire → Shape → Sketch → View
next_view w p s = record { shapes = s.shapes ++ p ∷ []; owners = map slot_by (s.wires ++ w ∷ []); slots = map shape_of s.slots }

grows-next : (w : Wire) (p : Shape) (s : Sketch) → Grows (view_of s) (next_view w p s)
grows-next w p s = record {
  shapes = λ i q h. get-front s.shapes (p ∷ []) i q h;
  owners = λ i o h. subst (λ l. Has l i o) (sym (map-next slot_by s.wires w)) (get-front (map slot_by s.wires) (slot_by w ∷ []) i o h);
  slots = λ i q h. h;
}

pub fit-next : (v : View) (ws : List Wire) (ps : List Shape) (w : Wire) (p : Shape) → AllFit v ws ps → Fits v p w → AllFit v (ws ++ w ∷ []) (ps ++ p ∷ [])
fit-next v [] [] w p h f = (f, tt)
fit-next v [] (q ∷ ps) w p h f = absurd h
fit-next v (x ∷ ws) [] w p h f = absurd h
fit-next v (x ∷ ws) (q ∷ ps) w p h f = (h.0, fit-next v ws ps w p h.1 f)

pub next-has : (P : List ℕ) (p : Shape) (s : Sketch) → IsFormed P s → Has (s.shapes ++ p ∷ []) (length s.wires) p
next-has P p s a = subst (λ k. Has (s.shapes ++ p ∷ []) k p) (sym (fit-length (view_of s) s.wires s.shapes a.wires)) (get-next s.shapes p)

pub pushed : (P : List ℕ) (w : Wire) (p : Shape) (s : Sketch) → IsFormed P s → IsShape p → Fits (next_view w p s) p w → Made P s p (push w p s) × Has (map slot_by (push w p s).1.wires) (push w p s).0 (slot_by w)
unfolding push
pushed P w p s a i f =
    let v = next_view w p s in
    let g = grows-next w p s in
    let formed : AreFormed v P (push w p s).1 = record {
      wires = fit-next v s.wires s.shapes w p (all-fit-grows (view_of s) v g s.wires s.shapes a.wires) f;
      shaped = all-next IsShape s.shapes p a.shaped i;
      slots = slots-grow (view_of s) v g P 0 s.slots a.slots;
      reads = each-into (IsReadThere (view_of s)) (IsReadThere v) (reads-grow (view_of s) v g) s.reads a.reads;
      clocks = each-into (IsTruthClock (view_of s)) (IsTruthClock v) (clock-grows (view_of s) v g) s.clocks a.clocks;
      low_is = g.shapes low Truth a.low_is;
      high_is = g.shapes high Truth a.high_is;
      assume_is = g.shapes s.assume Truth a.assume_is;
      hyp_is = g.shapes s.hyp Truth a.hyp_is;
      duty_is = g.shapes s.duty Truth a.duty_is;
    } in
    ((record { grows = g; formed = formed }, next-has P p s a), map-last slot_by s.wires w)

-- one whose operands are there already
pub gate : (P : List ℕ) (w : Wire) (p : Shape) (s : Sketch) → IsFormed P s → IsShape p → Fits (view_of s) p w → Made P s p (push w p s)
gate P w p s a i f = (pushed P w p s a i (fits-grows (view_of s) (next_view w p s) (grows-next w p s) p w f)).0

-- ---- what is read besides

pub read-step : (P : List ℕ) (w other : ℕ) (s : Sketch) → IsFormed P s → IsThere (view_of s) w → IsThere (view_of s) other → Step P s (read w other s)
unfolding read
read-step P w other s a h k = record {
  grows = grows-none (view_of s);
  formed = record {
    wires = a.wires;
    shaped = a.shaped;
    slots = a.slots;
    reads = all-next (IsReadThere (view_of s)) s.reads (w, other) a.reads (h, k);
    clocks = a.clocks;
    low_is = a.low_is;
    high_is = a.high_is;
    assume_is = a.assume_is;
    hyp_is = a.hyp_is;
    duty_is = a.duty_is;
  };
}

-- the same, in a row
read-on : (P : List ℕ) (s s1 : Sketch) (w other : ℕ) → IsThere (view_of s) w → IsThere (view_of s) other → Step P s s1 → Step P s (read w other s1)
read-on P s s1 w other h k st = onward P P s s1 (read w other s1) st (read-step P w other s1 st.formed (h.0, has-on P s s1 w h.0 st h.1) (k.0, has-on P s s1 other k.0 st k.1))

all-read : (P : List ℕ) (i : ℕ) (w : Wire) (p : Shape) (s : Sketch) → IsFormed P s → IsThere (view_of s) i → Fits (view_of s) p w → Step P s (read_all i w s)
unfolding read_all
all-read P i (wire.Slot k) p s a h f = still P s a
all-read P i (wire.Constant k) p s a h f = still P s a
all-read P i (wire.Copy x) p s a h f = read-step P i x s a h (p, f)
all-read P i (wire.Not x) p s a h f = read-step P i x s a h (Truth, f.1)
all-read P i (wire.And x y) p s a h f = read-on P s (read i x s) i y h (Truth, f.2) (read-step P i x s a h (Truth, f.1))
all-read P i (wire.Or x y) p s a h f = read-on P s (read i x s) i y h (Truth, f.2) (read-step P i x s a h (Truth, f.1))
all-read P i (wire.Xor x y) p s a h f = read-on P s (read i x s) i y h (Truth, f.2) (read-step P i x s a h (Truth, f.1))
all-read P i (wire.Equal x y) p s a h f = read-on P s (read i x s) i y h (f.1, f.3) (read-step P i x s a h (f.1, f.2))
all-read P i (wire.Is x k) p s a h f = read-step P i x s a h (f.1, f.2)
all-read P i (wire.If t x y) p s a h f = read-on P s (read i x (read i t s)) i y h (p, f.2) (read-on P s (read i t s) i x h (p, f.1) (read-step P i t s a h (Truth, f.0)))

-- ---- a wire whose value is said

pub fit-at : (v : View) (ws : List Wire) (ps : List Shape) (i : ℕ) (w : Wire) (p : Shape) → AllFit v ws ps → Has ws i w → Has ps i p → Fits v p w
fit-at v [] ps i w p h e k = absurd (none-some w e)
fit-at v (x ∷ ws) [] i w p h e k = absurd h
fit-at v (x ∷ ws) (q ∷ ps) zero w p h e k = subst (λ r. Fits v r w) (same_Some q p k) (subst (Fits v q) (same_Some x w e) h.0)
fit-at v (x ∷ ws) (q ∷ ps) (suc i) w p h e k = fit-at v ws ps i w p h.1 e k

fit-set : (v : View) (ws : List Wire) (ps : List Shape) (i : ℕ) (w : Wire) (p : Shape) → AllFit v ws ps → Has ps i p → Fits v p w → AllFit v (slice_set ws i w) ps
fit-set v [] [] i w p h e f = tt
fit-set v [] (q ∷ ps) i w p h e f = absurd h
fit-set v (x ∷ ws) [] i w p h e f = absurd h
fit-set v (x ∷ ws) (q ∷ ps) zero w p h e f = (subst (λ r. Fits v r w) (sym (same_Some q p e)) f, h.1)
fit-set v (x ∷ ws) (q ∷ ps) (suc i) w p h e f = (h.0, fit-set v ws ps i w p h.1 e f)

owners-same : (ws : List Wire) (i : ℕ) (w : Wire) → Has (map slot_by ws) i None → slot_by w ≡ None → map slot_by (slice_set ws i w) ≡ map slot_by ws
owners-same [] i w h e = refl
owners-same (x ∷ ws) zero w h e = ap (λ o. o ∷ map slot_by ws) (e ∙ sym (same_Some (slot_by x) None h))
owners-same (x ∷ ws) (suc i) w h e = ap (λ l. slot_by x ∷ l) (owners-same ws i w h e)

view-same : (i : ℕ) (w : Wire) (s : Sketch) → Has (map slot_by s.wires) i None → slot_by w ≡ None → view_of s ≡ view_of (write i w s)
unfolding write
view-same i w s h e = ap (λ l. record { shapes = s.shapes; owners = l; slots = map shape_of s.slots }) (sym (owners-same s.wires i w h e))

written : (P : List ℕ) (i : ℕ) (w : Wire) (p : Shape) (s : Sketch) → IsFormed P s → Has s.shapes i p → Fits (view_of s) p w → AreFormed (view_of s) P (write i w s)
unfolding write
written P i w p s a h f = record {
  wires = fit-set (view_of s) s.wires s.shapes i w p a.wires h f;
  shaped = a.shaped;
  slots = a.slots;
  reads = a.reads;
  clocks = a.clocks;
  low_is = a.low_is;
  high_is = a.high_is;
  assume_is = a.assume_is;
  hyp_is = a.hyp_is;
  duty_is = a.duty_is;
}

write-step : (P : List ℕ) (i : ℕ) (w : Wire) (p : Shape) (s : Sketch) → IsFormed P s → IsHole s i p → slot_by w ≡ None → Fits (view_of s) p w → Step P s (write i w s)
write-step P i w p s a h e f =
    let same = view-same i w s h.1 e in
    record { grows = subst (Grows (view_of s)) same (grows-none (view_of s)); formed = subst (λ v. AreFormed v P (write i w s)) same (written P i w p s a h.0 f) }

over-step : (P : List ℕ) (i : ℕ) (w : Wire) (o : Option Wire) (p : Shape) (s : Sketch) → slice_get s.wires i ≡ o → IsFormed P s → IsHole s i p → slot_by w ≡ None → Fits (view_of s) p w → Step P s (set_over i w o s)
over-step P i w None p s q a h e f = all-read P i w p s a (p, h.0) f
over-step P i w (Some old) p s q a h e f =
    let before = if is_open i old then s else read_all i old s in
    let st = by (is_open i old) in
    onward P P s before (write i w before) st (write-step P i w p before st.formed (hole-on P s before i p st h) e (fits-grows (view_of s) (view_of before) st.grows p w f))
  where
    by : (c : Bool) → Step P s (if c then s else read_all i old s)
    by true = still P s a
    by false = all-read P i old p s a (p, h.0) (fit-at (view_of s) s.wires s.shapes i old p a.wires q h.0)

pub set-step : (P : List ℕ) (i : ℕ) (w : Wire) (p : Shape) (s : Sketch) → IsFormed P s → IsHole s i p → slot_by w ≡ None → Fits (view_of s) p w → Step P s (set i w s)
unfolding set
set-step P i w p s a h e f = over-step P i w (slice_get s.wires i) p s refl a h e f

-- ---- integers, wires whose value is said later, and copies

pub mark-step : (P : List ℕ) (s : Sketch) → IsFormed P s → Holed P s Mark (mark s)
unfolding mark
mark-step P s a = let d = pushed P (wire.Constant 0) Mark s a tt refl in (d.0.0, (d.0.1, d.1))

pub mark-of-step : (P : List ℕ) (source : ℕ) (s : Sketch) → IsFormed P s → IsThere (view_of s) source → Holed P s Mark (mark_of source s)
unfolding mark_of
mark-of-step P source s a l =
    let m = mark s in
    let d = mark-step P s a in
    let r = read-step P m.0 source m.1 d.0.formed (Mark, d.1.0) (l.0, has-on P s m.1 source l.0 d.0 l.1) in
    (onward P P s m.1 (read m.0 source m.1) d.0 r, hole-on P m.1 (read m.0 source m.1) m.0 Mark r d.1)

pub hole-step : (P : List ℕ) (p : Shape) (s : Sketch) → IsFormed P s → IsShape p → Holed P s p (hole p s)
unfolding hole sketch.next_wire
hole-step P Mark s a i = mark-step P s a
hole-step P Truth s a i = let d = pushed P (wire.Copy (length s.wires)) Truth s a i (next-has P Truth s a) in (d.0.0, (d.0.1, d.1))
hole-step P (Cons n) s a i = let d = pushed P (wire.Copy (length s.wires)) (Cons n) s a i (next-has P (Cons n) s a) in (d.0.0, (d.0.1, d.1))

pub define-step : (P : List ℕ) (w : ℕ) (v : Value) (s : Sketch) → IsFormed P s → IsHole s w v.shape → Has s.shapes v.wire v.shape → Step P s (define w v s)
unfolding define
define-step P w v s a h k = by v.shape h k
  where
    by : (p : Shape) → IsHole s w p → Has s.shapes v.wire p → Step P s (define_as p w v.wire s)
    by Mark h k = read-step P w v.wire s a (Mark, h.0) (Mark, k)
    by Truth h k = set-step P w (wire.Copy v.wire) Truth s a h refl k
    by (Cons n) h k = set-step P w (wire.Copy v.wire) (Cons n) s a h refl k

pub copy-step : (P : List ℕ) (v : Value) (s : Sketch) → IsFormed P s → Has s.shapes v.wire v.shape → Holed P s v.shape (copy v s)
unfolding copy
copy-step P v s a k =
    let h = hole v.shape s in
    let d = hole-step P v.shape s a (shape-is P s v.wire v.shape a k) in
    let e = define-step P h.0 v h.1 d.0.formed d.1 (has-on P s h.1 v.wire v.shape d.0 k) in
    (onward P P s h.1 (define h.0 v h.1) d.0 e, hole-on P h.1 (define h.0 v h.1) h.0 v.shape e d.1)

-- ---- gates that are left out where they are constant

made-if : (b : Bool) (P : List ℕ) (s : Sketch) (p : Shape) (d e : ℕ × Sketch) → Made P s p d → Made P s p e → Made P s p (if b then d else e)
made-if true P s p d e h k = h
made-if false P s p d e h k = k

pub not-step : (P : List ℕ) (x : ℕ) (s : Sketch) → IsFormed P s → Has s.shapes x Truth → Made P s Truth (not_gate x s)
unfolding not_gate
not-step P x s a l =
    made-if (nat_eq x low) P s Truth (high, s) (if nat_eq x high then (low, s) else push (wire.Not x) Truth s) (still P s a, a.high_is)
    (made-if (nat_eq x high) P s Truth (low, s) (push (wire.Not x) Truth s) (still P s a, a.low_is) (gate P (wire.Not x) Truth s a tt (refl, l)))

pub and-step : (P : List ℕ) (x y : ℕ) (s : Sketch) → IsFormed P s → Has s.shapes x Truth → Has s.shapes y Truth → Made P s Truth (and_gate x y s)
unfolding and_gate
and-step P x y s a l k =
    let g = gate P (wire.And x y) Truth s a tt (refl, l, k) in
    let fourth = made-if (nat_eq y high) P s Truth (x, s) (push (wire.And x y) Truth s) (still P s a, l) g in
    let third = made-if (nat_eq x high) P s Truth (y, s) (if nat_eq y high then (x, s) else push (wire.And x y) Truth s) (still P s a, k) fourth in
    let second = made-if (nat_eq y low) P s Truth (low, s) (if nat_eq x high then (y, s) else if nat_eq y high then (x, s) else push (wire.And x y) Truth s) (still P s a, a.low_is) third in
    made-if (nat_eq x low) P s Truth (low, s) (if nat_eq y low then (low, s) else if nat_eq x high then (y, s) else if nat_eq y high then (x, s) else push (wire.And x y) Truth s) (still P s a, a.low_is) second

pub or-step : (P : List ℕ) (x y : ℕ) (s : Sketch) → IsFormed P s → Has s.shapes x Truth → Has s.shapes y Truth → Made P s Truth (or_gate x y s)
unfolding or_gate
or-step P x y s a l k =
    let g = gate P (wire.Or x y) Truth s a tt (refl, l, k) in
    let fourth = made-if (nat_eq y low) P s Truth (x, s) (push (wire.Or x y) Truth s) (still P s a, l) g in
    let third = made-if (nat_eq x low) P s Truth (y, s) (if nat_eq y low then (x, s) else push (wire.Or x y) Truth s) (still P s a, k) fourth in
    let second = made-if (nat_eq y high) P s Truth (high, s) (if nat_eq x low then (y, s) else if nat_eq y low then (x, s) else push (wire.Or x y) Truth s) (still P s a, a.high_is) third in
    made-if (nat_eq x high) P s Truth (high, s) (if nat_eq y high then (high, s) else if nat_eq x low then (y, s) else if nat_eq y low then (x, s) else push (wire.Or x y) Truth s) (still P s a, a.high_is) second

pub choose-step : (P : List ℕ) (t x y : ℕ) (p : Shape) (s : Sketch) → IsFormed P s → Has s.shapes t Truth → Has s.shapes x p → Has s.shapes y p → Made P s p (choose_gate t x y p s)
unfolding choose_gate
choose-step P t x y p s a l k j =
    let g = gate P (wire.If t x y) p s a (shape-is P s x p a k) (l, k, j) in
    let second = made-if (nat_eq t high) P s p (x, s) (push (wire.If t x y) p s) (still P s a, k) g in
    made-if (nat_eq t low) P s p (y, s) (if nat_eq t high then (x, s) else push (wire.If t x y) p s) (still P s a, j) second

-- a constructor of what the wire carries
pub is-step : (P : List ℕ) (w number : ℕ) (p : Shape) (s : Sketch) → IsFormed P s → Has s.shapes w p → IsValue p number → Made P s Truth (is_gate w number s)
unfolding is_gate
is-step P w number p s a l k = gate P (wire.Is w number) Truth s a tt (refl, p, l, k)
