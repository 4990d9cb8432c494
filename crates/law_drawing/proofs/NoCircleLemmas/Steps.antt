-- The steps of drawing, with marks: a wire more, a wire defined anew, what is read besides, and gates.
use Rattle.std.proofs.Common.{◌≡◌, ◌⊎◌, ℕ, zero, suc, ◌+◌, ◌<◌, nat_eq, Bool, true, false, if◌then◌else◌, List, [], ◌∷◌, ◌++◌, length, Option, None, Some, refl, sym, ap, subst, ◌∙◌, inl, inr, arith}
use Rattle.std.specs.Prelude.{slice_set}
use Rattle.std.specs.List.{slice_get}
use Rattle.std.proofs.lemmas.Bool.{eq-eqb}
use Rattle.std.proofs.lemmas.List.{append-nil, append_assoc, length-append}
use Rattle.std.proofs.lemmas.Option.{same_Some, none-some}
use Rattle.hp_circuit.specs.declared.circuit.Shape.{Shape}
use Rattle.hp_circuit.specs.declared.circuit.Shape.TheVariants.{Truth, Cons, Mark as Whole}
use Rattle.hp_circuit.specs.declared.circuit.Wire.{Wire}
use Rattle.hp_circuit.specs.declared.circuit.Wire.TheVariants as wire
use Rattle.hp_drawing.specs.declared.parts.Clock.{Clock}
use Rattle.hp_drawing.specs.declared.parts.Value.{Value}
use Rattle.hp_drawing.specs.Sketch as sketch
use Rattle.hp_drawing.specs.Sketch.{Sketch, low, high, push, write, set, set_over, is_open, read, read_all, mark, mark_of, hole, define, define_as, copy, not_gate, and_gate, or_gate, choose_gate, is_gate}
use Rattle.law_drawing.specs.Steered.Marks.{Each}
use Rattle.hp_drawing.specs.Kept.{is_mark}
use Rattle.law_drawing.specs.NoCircle.Marks.{Mark, Marks, ground, Less, Most, up, Has, Grows, Low, Under, MayRead, Operands, Frame, with_late, Bound, AllBound, IsReadBound, There, IsClockMarked, AreMarked}
use Rattle.law_drawing.proofs.NoCircleLemmas.Orders.{most-same, less-up, less-most, most-less, most-most, less-weak, ground-most}

-- ---- lists

module _ {A : Type 0} where
  pub get-front : (xs more : List A) (i : ℕ) (v : A) → slice_get xs i ≡ Some v → slice_get (xs ++ more) i ≡ Some v
  get-front [] more i v h = absurd (none-some v h)
  get-front (x ∷ xs) more zero v h = h
  get-front (x ∷ xs) more (suc i) v h = get-front xs more i v h

  pub get-next : (xs : List A) (v : A) → slice_get (xs ++ v ∷ []) (length xs) ≡ Some v
  get-next [] v = refl
  get-next (x ∷ xs) v = get-next xs v

  get-within : (xs : List A) (i : ℕ) (v : A) → slice_get xs i ≡ Some v → i < length xs
  get-within [] i v h = absurd (none-some v h)
  get-within (x ∷ xs) zero v h = omega arith
  get-within (x ∷ xs) (suc i) v h = let k = get-within xs i v h in omega (arith, k)

  get-there : (xs : List A) (i : ℕ) → i < length xs → slice_get xs i ≡ None → ⊥
  get-there [] i l h = absurd (omega (arith, l))
  get-there (x ∷ xs) zero l h = absurd cc
  get-there (x ∷ xs) (suc i) l h = get-there xs i (omega (arith, l)) h

  set-length : (xs : List A) (i : ℕ) (v : A) → length (slice_set xs i v) ≡ length xs
  set-length [] i v = refl
  set-length (x ∷ xs) zero v = refl
  set-length (x ∷ xs) (suc i) v = ap suc (set-length xs i v)

  all-into : (P Q : A → Type 0) → ((x : A) → P x → Q x) → (xs : List A) → Each P xs → Each Q xs
  all-into P Q f [] h = tt
  all-into P Q f (x ∷ xs) h = (f x h.0, all-into P Q f xs h.1)

  pub all-next : (P : A → Type 0) (xs : List A) (x : A) → Each P xs → P x → Each P (xs ++ x ∷ [])
  all-next P [] x h p = (p, tt)
  all-next P (y ∷ ys) x h p = (h.0, all-next P ys x h.1 p)

same-number : (i : ℕ) → nat_eq i i ≡ true
same-number i = eq-eqb i i refl

pub grows-none : (ms : Marks) → Grows ms ms
grows-none ms = ([], sym (append-nil ms))

pub grows-both : (ms ms1 ms2 : Marks) → Grows ms ms1 → Grows ms1 ms2 → Grows ms ms2
grows-both ms ms1 ms2 a b = (a.0 ++ b.0, b.1 ∙ ap (λ l. l ++ b.0) a.1 ∙ append_assoc ms a.0 b.0)

pub has-grows : (ms ms' : Marks) → Grows ms ms' → (w : ℕ) (m : Mark) → Has ms w m → Has ms' w m
has-grows ms ms' g w m h = subst (λ l. Has l w m) (sym g.1) (get-front ms g.0 w m h)

-- ---- what stays as marks grow

pub low-grows : (ms ms' : Marks) → Grows ms ms' → (w : ℕ) (m : Mark) → Low ms w m → Low ms' w m
low-grows ms ms' g w m l = record { mark = l.mark; has = has-grows ms ms' g w l.mark l.has; most = l.most }

pub under-grows : (ms ms' : Marks) → Grows ms ms' → (w : ℕ) (m : Mark) → Under ms w m → Under ms' w m
under-grows ms ms' g w m l = record { mark = l.mark; has = has-grows ms ms' g w l.mark l.has; less = l.less }

pub there-grows : (ms ms' : Marks) → Grows ms ms' → (w : ℕ) → There ms w → There ms' w
there-grows ms ms' g w t = record { mark = t.mark; has = has-grows ms ms' g w t.mark t.has }

-- a bound that is greater
pub low-up : (ms : Marks) (w : ℕ) (m n : Mark) → Most m n → Low ms w m → Low ms w n
low-up ms w m n f l = record { mark = l.mark; has = l.has; most = most-most l.mark m n l.most f }

pub low-under : (ms : Marks) (w : ℕ) (m n : Mark) → Less m n → Low ms w m → Under ms w n
low-under ms w m n f l = record { mark = l.mark; has = l.has; less = most-less l.mark m n l.most f }

pub low-next : (ms : Marks) (w : ℕ) (m : Mark) → Low ms w m → Under ms w (up 1 m)
low-next ms w m l = low-under ms w m (up 1 m) (less-up 0 m) l

pub under-up : (ms : Marks) (w : ℕ) (m n : Mark) → Most m n → Under ms w m → Under ms w n
under-up ms w m n f l = record { mark = l.mark; has = l.has; less = less-most l.mark m n l.less f }

pub under-low : (ms : Marks) (w : ℕ) (m : Mark) → Under ms w m → Low ms w m
under-low ms w m l = record { mark = l.mark; has = l.has; most = less-weak l.mark m l.less }

pub low-there : (ms : Marks) (w : ℕ) (m : Mark) → Low ms w m → There ms w
low-there ms w m l = record { mark = l.mark; has = l.has }

pub low-own : (ms : Marks) (w : ℕ) (m : Mark) → Has ms w m → Low ms w m
low-own ms w m h = record { mark = m; has = h; most = most-same m }

pub has-under : (ms : Marks) (w : ℕ) (m n : Mark) → Less m n → Has ms w m → Under ms w n
has-under ms w m n f h = record { mark = m; has = h; less = f }

pub there-low : (ms : Marks) (w : ℕ) (t : There ms w) → Low ms w t.mark
there-low ms w t = low-own ms w t.mark t.has

pub ground-low : (ms : Marks) (w : ℕ) (m : Mark) → Low ms w ground → Low ms w m
ground-low ms w m l = low-up ms w ground m (ground-most m) l

may-grow : (ms ms' : Marks) → Grows ms ms' → (i : ℕ) (m : Mark) (a : ℕ) → MayRead ms i m a → MayRead ms' i m a
may-grow ms ms' g i m a (inl h) = inl (under-grows ms ms' g a m h)
may-grow ms ms' g i m a (inr h) = inr (has-grows ms ms' g a m h.0, h.1)

pub operands-into : (P Q : ℕ → Type 0) → ((a : ℕ) → P a → Q a) → (w : Wire) → Operands P w → Operands Q w
operands-into P Q f (wire.Slot i) h = tt
operands-into P Q f (wire.Constant k) h = tt
operands-into P Q f (wire.Copy a) h = f a h
operands-into P Q f (wire.Not a) h = f a h
operands-into P Q f (wire.And a b) h = (f a h.0, f b h.1)
operands-into P Q f (wire.Or a b) h = (f a h.0, f b h.1)
operands-into P Q f (wire.Xor a b) h = (f a h.0, f b h.1)
operands-into P Q f (wire.Equal a b) h = (f a h.0, f b h.1)
operands-into P Q f (wire.Is a k) h = f a h
operands-into P Q f (wire.If t a b) h = (f t h.0, f a h.1, f b h.2)

module _ (late : ℕ → Type 0) where
  bound-grows : (ms ms' : Marks) → Grows ms ms' → (i : ℕ) (m : Mark) (w : Wire) → Bound late ms i m w → Bound late ms' i m w
  bound-grows ms ms' g i m w (inl h) = inl h
  bound-grows ms ms' g i m w (inr h) = inr (operands-into (MayRead ms i m) (MayRead ms' i m) (may-grow ms ms' g i m) w h)

  all-bound-grows : (ms ms' : Marks) → Grows ms ms' → (i : ℕ) (ws : List Wire) (rest : Marks) → AllBound late ms i ws rest → AllBound late ms' i ws rest
  all-bound-grows ms ms' g i [] [] h = tt
  all-bound-grows ms ms' g i [] (m ∷ rest) h = absurd h
  all-bound-grows ms ms' g i (w ∷ ws) [] h = absurd h
  all-bound-grows ms ms' g i (w ∷ ws) (m ∷ rest) h = (bound-grows ms ms' g i m w h.0, all-bound-grows ms ms' g (suc i) ws rest h.1)

  all-bound-next : (ms : Marks) (i n : ℕ) (ws : List Wire) (rest : Marks) (w : Wire) (m : Mark) → n ≡ i + length ws → AllBound late ms i ws rest → Bound late ms n m w → AllBound late ms i (ws ++ w ∷ []) (rest ++ m ∷ [])
  all-bound-next ms i n [] [] w m e h b = (subst (λ j. Bound late ms j m w) (e ∙ (let z : i + 0 ≡ i = omega arith in z)) b, tt)
  all-bound-next ms i n [] (o ∷ rest) w m e h b = absurd h
  all-bound-next ms i n (v ∷ ws) [] w m e h b = absurd h
  all-bound-next ms i n (v ∷ ws) (o ∷ rest) w m e h b = (h.0, all-bound-next ms (suc i) n ws rest w m (e ∙ (let z : i + suc (length ws) ≡ suc i + length ws = omega arith in z)) h.1 b)

  all-bound-length : (ms : Marks) (i : ℕ) (ws : List Wire) (rest : Marks) → AllBound late ms i ws rest → length ws ≡ length rest
  all-bound-length ms i [] [] h = refl
  all-bound-length ms i [] (m ∷ rest) h = absurd h
  all-bound-length ms i (w ∷ ws) [] h = absurd h
  all-bound-length ms i (w ∷ ws) (m ∷ rest) h = ap suc (all-bound-length ms (suc i) ws rest h.1)

  bound-at : (ms : Marks) (i n : ℕ) (ws : List Wire) (rest : Marks) (j : ℕ) (w : Wire) (m : Mark) → n ≡ i + j → AllBound late ms i ws rest → slice_get ws j ≡ Some w → Has rest j m → Bound late ms n m w
  bound-at ms i n [] rest j w m q h e k = absurd (none-some w e)
  bound-at ms i n (v ∷ ws) [] j w m q h e k = absurd h
  bound-at ms i n (v ∷ ws) (o ∷ rest) zero w m q h e k =
      subst (λ a. Bound late ms a m w) (sym (q ∙ (let z : i + 0 ≡ i = omega arith in z))) (subst (λ x. Bound late ms i x w) (same_Some o m k) (subst (Bound late ms i o) (same_Some v w e) h.0))
  bound-at ms i n (v ∷ ws) (o ∷ rest) (suc j) w m q h e k = bound-at ms (suc i) n ws rest j w m (q ∙ (let z : i + suc j ≡ suc i + j = omega arith in z)) h.1 e k

  module _ (late' : ℕ → Type 0) where
    bound-late : (ms : Marks) (i : ℕ) (m : Mark) (w : Wire) → (late i → late' i) → Bound late ms i m w → Bound late' ms i m w
    bound-late ms i m w f (inl h) = inl (h.0, f h.1)
    bound-late ms i m w f (inr h) = inr h

    all-late : (ms : Marks) (i : ℕ) (ws : List Wire) (rest : Marks) → ((k : ℕ) → late k → late' k) → AllBound late ms i ws rest → AllBound late' ms i ws rest
    all-late ms i [] [] f h = tt
    all-late ms i [] (m ∷ rest) f h = absurd h
    all-late ms i (w ∷ ws) [] f h = absurd h
    all-late ms i (w ∷ ws) (m ∷ rest) f h = (bound-late ms i m w (f i) h.0, all-late ms (suc i) ws rest f h.1)

    -- all wires but one
    other : (n k : ℕ) → (k < n) ⊎ (n < k) → (k ≡ n) ⊎ late' k → late' k
    other n k (inl l) (inl e) = absurd (omega (arith, l, e))
    other n k (inr l) (inl e) = absurd (omega (arith, l, e))
    other n k l (inr h) = h

    all-behind : (ms : Marks) (i n : ℕ) (ws : List Wire) (rest : Marks) → n < i → ((k : ℕ) → late k → (k ≡ n) ⊎ late' k) → AllBound late ms i ws rest → AllBound late' ms i ws rest
    all-behind ms i n [] [] l f h = tt
    all-behind ms i n [] (m ∷ rest) l f h = absurd h
    all-behind ms i n (w ∷ ws) [] l f h = absurd h
    all-behind ms i n (w ∷ ws) (m ∷ rest) l f h = (bound-late ms i m w (λ k. other n i (inr l) (f i k)) h.0, all-behind ms (suc i) n ws rest (omega (arith, l)) f h.1)

    all-bound-set : (ms : Marks) (i n : ℕ) (ws : List Wire) (rest : Marks) (j : ℕ) (w : Wire) (m : Mark) → n ≡ i + j → ((k : ℕ) → late k → (k ≡ n) ⊎ late' k) → AllBound late ms i ws rest → Has rest j m → Bound late' ms n m w → AllBound late' ms i (slice_set ws j w) rest
    all-bound-set ms i n [] [] j w m q f h e b = tt
    all-bound-set ms i n [] (o ∷ rest) j w m q f h e b = absurd h
    all-bound-set ms i n (v ∷ ws) [] j w m q f h e b = absurd h
    all-bound-set ms i n (v ∷ ws) (o ∷ rest) zero w m q f h e b = (subst (λ k. Bound late' ms i k w) (sym (same_Some o m e)) (subst (λ k. Bound late' ms k m w) (q ∙ (let z : i + 0 ≡ i = omega arith in z)) b), all-behind ms (suc i) n ws rest (omega (arith, q)) f h.1)
    all-bound-set ms i n (v ∷ ws) (o ∷ rest) (suc j) w m q f h e b = (bound-late ms i o v (λ k. other n i (inl (omega (arith, q))) (f i k)) h.0, all-bound-set ms (suc i) n ws rest j w m (q ∙ (let z : i + suc j ≡ suc i + j = omega arith in z)) f h.1 e b)

read-grows : (ms ms' : Marks) → Grows ms ms' → (r : ℕ × ℕ) → IsReadBound ms r → IsReadBound ms' r
read-grows ms ms' g r h = record { mark = h.mark; has = has-grows ms ms' g r.0 h.mark h.has; reads = may-grow ms ms' g r.0 h.mark r.1 h.reads }

clock-grows : (ms ms' : Marks) → Grows ms ms' → (c : Clock) → IsClockMarked ms c → IsClockMarked ms' c
clock-grows ms ms' g c h = there-grows ms ms' g c.holds h

-- ---- steps: the marks behind one, and a wire that it makes

abbrev pub Step : Frame → Marks → Sketch → Type 0
Step F ms s' = (ms' : Marks) × Grows ms ms' × AreMarked F s' ms'

abbrev pub Made : Frame → Marks → Mark → ℕ × Sketch → Type 0
Made F ms m d = (ms' : Marks) × Grows ms ms' × AreMarked F d.1 ms' × Low ms' d.0 m

-- one with this very mark
abbrev pub Holed : Frame → Marks → Mark → ℕ × Sketch → Type 0
Holed F ms m d = (ms' : Marks) × Grows ms ms' × AreMarked F d.1 ms' × Has ms' d.0 m

module _ {F : Frame} where
  pub holed-made : (ms : Marks) (m : Mark) (d : ℕ × Sketch) → Holed F ms m d → Made F ms m d
  holed-made ms m d h = (h.0, h.1, h.2, low-own h.0 d.0 m h.3)

  -- a wire more, of a mark
  pub pushed : (w : Wire) (p : Shape) (s : Sketch) (ms : Marks) (m : Mark) → AreMarked F s ms → Bound F.late (ms ++ m ∷ []) (length s.wires) m w → Holed F ms m (push w p s)
  unfolding push
  pushed w p s ms m a b =
      let g : Grows ms (ms ++ m ∷ []) = (m ∷ [], refl) in (
        ms ++ m ∷ [],
        g,
        record {
          wires = all-bound-next F.late (ms ++ m ∷ []) 0 (length s.wires) s.wires ms w m (let z : length s.wires ≡ 0 + length s.wires = omega arith in z) (all-bound-grows F.late ms (ms ++ m ∷ []) g 0 s.wires ms a.wires) b;
          first_shapes = (a.first_shapes.0 ++ p ∷ [], ap (λ l. l ++ p ∷ []) a.first_shapes.1 ∙ append_assoc F.shapes a.first_shapes.0 (p ∷ []));
          as_many = length-append s.shapes (p ∷ []) ∙ ap (λ n. n + 1) a.as_many ∙ sym (length-append s.wires (w ∷ []));
          reads = all-into (IsReadBound ms) (IsReadBound (ms ++ m ∷ [])) (read-grows ms (ms ++ m ∷ []) g) s.reads a.reads;
          clocks = all-into (IsClockMarked ms) (IsClockMarked (ms ++ m ∷ [])) (clock-grows ms (ms ++ m ∷ []) g) s.clocks a.clocks;
          low_is = low-grows ms (ms ++ m ∷ []) g low ground a.low_is;
          high_is = low-grows ms (ms ++ m ∷ []) g high ground a.high_is;
          hyp_is = there-grows ms (ms ++ m ∷ []) g s.hyp a.hyp_is;
          duty_is = there-grows ms (ms ++ m ∷ []) g s.duty a.duty_is;
        },
        subst (λ i. Has (ms ++ m ∷ []) i m) (sym (all-bound-length F.late ms 0 s.wires ms a.wires)) (get-next ms m),
      )

  -- one whose operands are there already, with marks that are less
  pub gate : (w : Wire) (p : Shape) (s : Sketch) (ms : Marks) (m : Mark) → AreMarked F s ms → Operands (λ a. Under ms a m) w → Holed F ms m (push w p s)
  gate w p s ms m a b =
      pushed w p s ms m a (inr (operands-into (λ a. Under ms a m) (MayRead (ms ++ m ∷ []) (length s.wires) m) (λ o u. inl (under-grows ms (ms ++ m ∷ []) (m ∷ [], refl) o m u)) w b))

  read-may : (w other : ℕ) (s : Sketch) (ms : Marks) (m : Mark) → AreMarked F s ms → Has ms w m → MayRead ms w m other → AreMarked F (read w other s) ms
  unfolding read
  read-may w other s ms m a h l = record {
    wires = a.wires;
    first_shapes = a.first_shapes;
    as_many = a.as_many;
    reads = all-next (IsReadBound ms) s.reads (w, other) a.reads (record { mark = m; has = h; reads = l });
    clocks = a.clocks;
    low_is = a.low_is;
    high_is = a.high_is;
    hyp_is = a.hyp_is;
    duty_is = a.duty_is;
  }

  pub read-marked : (w other : ℕ) (s : Sketch) (ms : Marks) (m : Mark) → AreMarked F s ms → Has ms w m → Under ms other m → AreMarked F (read w other s) ms
  read-marked w other s ms m a h l = read-may w other s ms m a h (inl l)

  -- a wire reads all that gives it a value
  all-marked : (i : ℕ) (w : Wire) (s : Sketch) (ms : Marks) (m : Mark) → AreMarked F s ms → Has ms i m → Operands (MayRead ms i m) w → AreMarked F (read_all i w s) ms
  unfolding read_all
  all-marked i (wire.Slot k) s ms m a h b = a
  all-marked i (wire.Constant k) s ms m a h b = a
  all-marked i (wire.Copy x) s ms m a h b = read-may i x s ms m a h b
  all-marked i (wire.Not x) s ms m a h b = read-may i x s ms m a h b
  all-marked i (wire.And x y) s ms m a h b = read-may i y (read i x s) ms m (read-may i x s ms m a h b.0) h b.1
  all-marked i (wire.Or x y) s ms m a h b = read-may i y (read i x s) ms m (read-may i x s ms m a h b.0) h b.1
  all-marked i (wire.Xor x y) s ms m a h b = read-may i y (read i x s) ms m (read-may i x s ms m a h b.0) h b.1
  all-marked i (wire.Equal x y) s ms m a h b = read-may i y (read i x s) ms m (read-may i x s ms m a h b.0) h b.1
  all-marked i (wire.Is x k) s ms m a h b = read-may i x s ms m a h b
  all-marked i (wire.If t x y) s ms m a h b = read-may i y (read i x (read i t s)) ms m (read-may i x (read i t s) ms m (read-may i t s ms m a h b.0) h b.1) h b.2

  -- more wires may be open
  pub weaken : (late : ℕ → Type 0) (s : Sketch) (ms : Marks) → ((k : ℕ) → F.late k → late k) → AreMarked F s ms → AreMarked (with_late F late) s ms
  weaken late s ms f a = record {
    wires = all-late F.late late ms 0 s.wires ms f a.wires;
    first_shapes = a.first_shapes;
    as_many = a.as_many;
    reads = a.reads;
    clocks = a.clocks;
    low_is = a.low_is;
    high_is = a.high_is;
    hyp_is = a.hyp_is;
    duty_is = a.duty_is;
  }

  -- A wire is defined anew, and is open no more.
  write-said : (late : ℕ → Type 0) (i : ℕ) (w : Wire) (s : Sketch) (ms : Marks) (m : Mark) → ((k : ℕ) → F.late k → (k ≡ i) ⊎ late k) → AreMarked F s ms → Has ms i m → Operands (MayRead ms i m) w → AreMarked (with_late F late) (write i w s) ms
  unfolding write
  write-said late i w s ms m f a h b = record {
    wires = all-bound-set F.late late ms 0 i s.wires ms i w m (let z : i ≡ 0 + i = omega arith in z) f a.wires h (inr b);
    first_shapes = a.first_shapes;
    as_many = a.as_many ∙ sym (set-length s.wires i w);
    reads = a.reads;
    clocks = a.clocks;
    low_is = a.low_is;
    high_is = a.high_is;
    hyp_is = a.hyp_is;
    duty_is = a.duty_is;
  }

  over-said : (late : ℕ → Type 0) (i : ℕ) (w : Wire) (o : Option Wire) (s : Sketch) (ms : Marks) (m : Mark) → slice_get s.wires i ≡ o → ((k : ℕ) → F.late k → (k ≡ i) ⊎ late k) → AreMarked F s ms → Has ms i m → Operands (MayRead ms i m) w
      → AreMarked (with_late F late) (set_over i w o s) ms
  over-said late i w None s ms m e f a h b = absurd (get-there s.wires i (subst (λ n. i < n) (sym (all-bound-length F.late ms 0 s.wires ms a.wires)) (get-within ms i m h)) e)
  over-said late i w (Some old) s ms m e f a h b = write-said late i w (if is_open i old then s else read_all i old s) ms m f (by (is_open i old) refl) h b
    where
      of : Bound F.late ms i m old → is_open i old ≡ false → AreMarked F (read_all i old s) ms
      of (inl q) n = absurd (let c : true ≡ false = sym (same-number i) ∙ sym (ap (is_open i) q.0) ∙ n in cc)
      of (inr k) n = all-marked i old s ms m a h k

      by : (c : Bool) → is_open i old ≡ c → AreMarked F (if c then s else read_all i old s) ms
      by true n = a
      by false n = of (bound-at F.late ms 0 i s.wires ms i old m (let z : i ≡ 0 + i = omega arith in z) a.wires e h) n

  pub set-may : (late : ℕ → Type 0) (i : ℕ) (w : Wire) (s : Sketch) (ms : Marks) (m : Mark) → ((k : ℕ) → F.late k → (k ≡ i) ⊎ late k) → AreMarked F s ms → Has ms i m → Operands (MayRead ms i m) w → AreMarked (with_late F late) (set i w s) ms
  unfolding set
  set-may late i w s ms m f a h b = over-said late i w (slice_get s.wires i) s ms m refl f a h b

  pub set-said : (late : ℕ → Type 0) (i : ℕ) (w : Wire) (s : Sketch) (ms : Marks) (m : Mark) → ((k : ℕ) → F.late k → (k ≡ i) ⊎ late k) → AreMarked F s ms → Has ms i m → Operands (λ a. Under ms a m) w → AreMarked (with_late F late) (set i w s) ms
  set-said late i w s ms m f a h b = set-may late i w s ms m f a h (operands-into (λ a. Under ms a m) (MayRead ms i m) (λ o u. inl u) w b)

  pub mark-marked : (s : Sketch) (ms : Marks) (m : Mark) → AreMarked F s ms → Holed F ms m (mark s)
  unfolding mark
  mark-marked s ms m a = gate (wire.Constant 0) Whole s ms m a tt

  pub mark-of-marked : (source : ℕ) (s : Sketch) (ms : Marks) (m : Mark) → AreMarked F s ms → Under ms source m → Holed F ms m (mark_of source s)
  unfolding mark_of
  mark-of-marked source s ms m a l =
      let d = mark-marked s ms m a in
      (d.0, d.1, read-marked (mark s).0 source (mark s).1 d.0 m d.2 d.3 (under-grows ms d.0 d.1 source m l), d.3)

  -- A hole is made, which may be open if it is no integer; it stands behind all wires.
  pub hole-marked : (p : Shape) (s : Sketch) (ms : Marks) (m : Mark) → (is_mark p ≡ false → F.late (hole p s).0) → AreMarked F s ms → Holed F ms m (hole p s)
  unfolding hole sketch.next_wire push
  hole-marked Whole s ms m f a = mark-marked s ms m a
  hole-marked Truth s ms m f a = pushed (wire.Copy (length s.wires)) Truth s ms m a (inl (refl, f refl))
  hole-marked (Cons n) s ms m f a = pushed (wire.Copy (length s.wires)) (Cons n) s ms m a (inl (refl, f refl))

  pub hole-behind : (p : Shape) (s : Sketch) (ms : Marks) (w : ℕ) (m : Mark) → AreMarked F s ms → Has ms w m → w < (hole p s).0
  unfolding hole mark push sketch.next_wire
  hole-behind p s ms w m a h = by p
    where
      within : w < length s.wires
      within = subst (λ n. w < n) (sym (all-bound-length F.late ms 0 s.wires ms a.wires)) (get-within ms w m h)

      by : (p : Shape) → w < (hole p s).0
      by Whole = within
      by Truth = within
      by (Cons n) = within

  -- A wire has the value of another one. It is open no more, if this is no integer.
  pub define-said : (late : ℕ → Type 0) (w : ℕ) (v : Value) (s : Sketch) (ms : Marks) (m : Mark) → ((k : ℕ) → F.late k → ((k ≡ w) × (is_mark v.shape ≡ false)) ⊎ late k) → AreMarked F s ms → Has ms w m → Under ms v.wire m → AreMarked (with_late F late) (define w v s) ms
  unfolding define
  define-said late w v s ms m f a h l = by v.shape f
    where
      whole : (k : ℕ) → ((k ≡ w) × (true ≡ false)) ⊎ late k → late k
      whole k (inl e) = absurd (let c : true ≡ false = e.1 in cc)
      whole k (inr q) = q

      part : (k : ℕ) → ((k ≡ w) × (false ≡ false)) ⊎ late k → (k ≡ w) ⊎ late k
      part k (inl e) = inl e.0
      part k (inr q) = inr q

      by : (p : Shape) → ((k : ℕ) → F.late k → ((k ≡ w) × (is_mark p ≡ false)) ⊎ late k) → AreMarked (with_late F late) (define_as p w v.wire s) ms
      by Whole f = weaken late (read w v.wire s) ms (λ k q. whole k (f k q)) (read-marked w v.wire s ms m a h l)
      by Truth f = set-said late w (wire.Copy v.wire) s ms m (λ k q. part k (f k q)) a h l
      by (Cons n) f = set-said late w (wire.Copy v.wire) s ms m (λ k q. part k (f k q)) a h l

  -- ---- gates that are left out where they are constant

  -- nothing is drawn
  still : (s : Sketch) (ms : Marks) (m : Mark) (w : ℕ) → AreMarked F s ms → Low ms w m → Made F ms m (w, s)
  still s ms m w a l = (ms, grows-none ms, a, l)

  made_if : (b : Bool) (ms : Marks) (m : Mark) (d e : ℕ × Sketch) → Made F ms m d → Made F ms m e → Made F ms m (if b then d else e)
  made_if true ms m d e h k = h
  made_if false ms m d e h k = k

  pub not-marked : (x : ℕ) (s : Sketch) (ms : Marks) (m : Mark) → AreMarked F s ms → Under ms x m → Made F ms m (not_gate x s)
  unfolding not_gate
  not-marked x s ms m a l =
      made_if (nat_eq x low) ms m (high, s) (if nat_eq x high then (low, s) else push (wire.Not x) Truth s) (still s ms m high a (ground-low ms high m a.high_is))
      (made_if (nat_eq x high) ms m (low, s) (push (wire.Not x) Truth s) (still s ms m low a (ground-low ms low m a.low_is)) (holed-made ms m (push (wire.Not x) Truth s) (gate (wire.Not x) Truth s ms m a l)))

  pub and-marked : (x y : ℕ) (s : Sketch) (ms : Marks) (m : Mark) → AreMarked F s ms → Under ms x m → Under ms y m → Made F ms m (and_gate x y s)
  unfolding and_gate
  and-marked x y s ms m a l k =
      let g = holed-made ms m (push (wire.And x y) Truth s) (gate (wire.And x y) Truth s ms m a (l, k)) in
      let fourth = made_if (nat_eq y high) ms m (x, s) (push (wire.And x y) Truth s) (still s ms m x a (under-low ms x m l)) g in
      let third = made_if (nat_eq x high) ms m (y, s) (if nat_eq y high then (x, s) else push (wire.And x y) Truth s) (still s ms m y a (under-low ms y m k)) fourth in
      let second = made_if (nat_eq y low) ms m (low, s) (if nat_eq x high then (y, s) else if nat_eq y high then (x, s) else push (wire.And x y) Truth s) (still s ms m low a (ground-low ms low m a.low_is)) third in
      made_if (nat_eq x low) ms m (low, s) (if nat_eq y low then (low, s) else if nat_eq x high then (y, s) else if nat_eq y high then (x, s) else push (wire.And x y) Truth s) (still s ms m low a (ground-low ms low m a.low_is)) second

  pub or-marked : (x y : ℕ) (s : Sketch) (ms : Marks) (m : Mark) → AreMarked F s ms → Under ms x m → Under ms y m → Made F ms m (or_gate x y s)
  unfolding or_gate
  or-marked x y s ms m a l k =
      let g = holed-made ms m (push (wire.Or x y) Truth s) (gate (wire.Or x y) Truth s ms m a (l, k)) in
      let fourth = made_if (nat_eq y low) ms m (x, s) (push (wire.Or x y) Truth s) (still s ms m x a (under-low ms x m l)) g in
      let third = made_if (nat_eq x low) ms m (y, s) (if nat_eq y low then (x, s) else push (wire.Or x y) Truth s) (still s ms m y a (under-low ms y m k)) fourth in
      let second = made_if (nat_eq y high) ms m (high, s) (if nat_eq x low then (y, s) else if nat_eq y low then (x, s) else push (wire.Or x y) Truth s) (still s ms m high a (ground-low ms high m a.high_is)) third in
      made_if (nat_eq x high) ms m (high, s) (if nat_eq y high then (high, s) else if nat_eq x low then (y, s) else if nat_eq y low then (x, s) else push (wire.Or x y) Truth s) (still s ms m high a (ground-low ms high m a.high_is)) second

  pub choose-marked : (t x y : ℕ) (p : Shape) (s : Sketch) (ms : Marks) (m : Mark) → AreMarked F s ms → Under ms t m → Under ms x m → Under ms y m → Made F ms m (choose_gate t x y p s)
  unfolding choose_gate
  choose-marked t x y p s ms m a l k j =
      let g = holed-made ms m (push (wire.If t x y) p s) (gate (wire.If t x y) p s ms m a (l, k, j)) in
      let second = made_if (nat_eq t high) ms m (x, s) (push (wire.If t x y) p s) (still s ms m x a (under-low ms x m k)) g in
      made_if (nat_eq t low) ms m (y, s) (if nat_eq t high then (x, s) else push (wire.If t x y) p s) (still s ms m y a (under-low ms y m j)) second

  pub is-marked : (w number : ℕ) (s : Sketch) (ms : Marks) (m : Mark) → AreMarked F s ms → Under ms w m → Holed F ms m (is_gate w number s)
  unfolding is_gate
  is-marked w number s ms m a l = gate (wire.Is w number) Truth s ms m a l

-- a copy is made and defined
pub copy-marked : (F : Frame) (v : Value) (s : Sketch) (ms : Marks) (m : Mark) → AreMarked F s ms → Under ms v.wire m → Holed F ms m (copy v s)
unfolding copy
copy-marked F v s ms m a l =
    let own : ℕ → Type 0 = λ k. (k ≡ (hole v.shape s).0) × (is_mark v.shape ≡ false) in
    let d = hole-marked v.shape s ms m (λ e. inr (refl, e)) (weaken (λ k. F.late k ⊎ own k) s ms (λ k q. inl q) a) in
    (d.0, d.1, define-said F.late (hole v.shape s).0 v (hole v.shape s).1 d.0 m (λ k q. elim q [ inl o ↦ inr o | inr o ↦ inl o ]) d.2 d.3 (under-grows ms d.0 d.1 v.wire m l), d.3)
