-- Wires one behind the other, of one mark.
use Rattle.std.proofs.Common.{◌≡◌, ℕ, zero, suc, ◌+◌, List, [], ◌∷◌, ◌++◌, length, Bool, false, Some, refl, sym, ap, subst, ◌∙◌, inl, inr, ◌⊎◌, arith}
use Rattle.std.specs.List.{slice_get}
use Rattle.std.proofs.lemmas.List.{append-nil, append_assoc, length-append}
use Rattle.std.specs.Prelude.{⊤}
use Rattle.hp_tree.specs.Blocks.{Decl}
use Rattle.hp_circuit.specs.declared.circuit.Role.{Role}
use Rattle.hp_circuit.specs.declared.circuit.Role.TheVariants as role
use Rattle.hp_circuit.specs.declared.circuit.Shape.{Shape}
use Rattle.hp_circuit.specs.declared.circuit.Shape.TheVariants.{Truth, Cons, Mark as Whole}
use Rattle.hp_circuit.specs.declared.circuit.Wire.TheVariants as wire
use Rattle.hp_drawing.specs.Told.{Told, type_shape}
use Rattle.hp_drawing.specs.Sketch as sketch
use Rattle.hp_drawing.specs.Sketch.{Sketch, push, read, mark, hole, given, slot, next_wire}
use Rattle.hp_drawing.specs.Kept.{is_mark}
use Rattle.hp_drawing.specs.DrawnExpressions.{add_output, add_outputs, add_holes}
use Rattle.law_drawing.specs.NoCircle.Marks.{Mark, Marks, Grows, AreRow, Has, Under, Frame, AreMarked}
use Rattle.law_drawing.proofs.NoCircleLemmas.Steps.{get-front, get-next, grows-none, grows-both, has-grows, under-grows, read-marked, hole-marked}
use Rattle.law_drawing.proofs.NoCircleLemmas.Parts.{given-marked}

pub row-grows : (ms ms' : Marks) → Grows ms ms' → (first count : ℕ) (m : Mark) → AreRow ms first count m → AreRow ms' first count m
row-grows ms ms' g first count m h i l = has-grows ms ms' g (first + i) m (h i l)

-- one in front of others
pub row-first : (ms : Marks) (first count : ℕ) (m : Mark) → Has ms first m → AreRow ms (suc first) count m → AreRow ms first (suc count) m
row-first ms first count m h more zero l = subst (λ k. Has ms k m) (zero-sum first) h
  where
    zero-sum : (n : ℕ) → n ≡ n + 0
    zero-sum n = omega arith
row-first ms first count m h more (suc i) l = subst (λ k. Has ms k m) (step first i) (more i (omega (arith, l)))
  where
    step : (a b : ℕ) → suc a + b ≡ a + suc b
    step a b = omega arith

-- wires one behind the other, each with the mark of its name
abbrev pub AreNamed : Marks → ℕ → List Decl → (List ℕ → Mark) → Type 0
AreNamed ms first [] m = ⊤
AreNamed ms first (d ∷ ds) m = Has ms first (m d.name) × AreNamed ms (suc first) ds m

pub named-row : (ms : Marks) (first : ℕ) (ds : List Decl) (m : Mark) → AreNamed ms first ds (λ x. m) → AreRow ms first (length ds) m
named-row ms first [] m h = λ i l. absurd (omega (arith, l))
named-row ms first (d ∷ ds) m h = row-first ms first (length ds) m h.0 (named-row ms (suc first) ds m h.1)

-- ---- the numbers of wires that steps make

pub hole-number : (p : Shape) (s : Sketch) → (hole p s).0 ≡ next_wire s
unfolding hole mark push next_wire
hole-number Whole s = refl
hole-number Truth s = refl
hole-number (Cons n) s = refl

pub hole-next : (p : Shape) (s : Sketch) → next_wire (hole p s).1 ≡ suc (next_wire s)
unfolding hole mark push next_wire
hole-next Whole s = length-append s.wires (wire.Constant 0 ∷ []) ∙ (let e : length s.wires + 1 ≡ suc (length s.wires) = omega arith in e)
hole-next Truth s = length-append s.wires (wire.Copy (length s.wires) ∷ []) ∙ (let e : length s.wires + 1 ≡ suc (length s.wires) = omega arith in e)
hole-next (Cons n) s = length-append s.wires (wire.Copy (length s.wires) ∷ []) ∙ (let e : length s.wires + 1 ≡ suc (length s.wires) = omega arith in e)

pub given-number : (r : Role) (p : Shape) (s : Sketch) → (given r p s).0 ≡ next_wire s
unfolding given mark push slot next_wire
given-number r Whole s = refl
given-number r Truth s = refl
given-number r (Cons n) s = refl

pub given-next-number : (r : Role) (p : Shape) (s : Sketch) → next_wire (given r p s).1 ≡ suc (next_wire s)
unfolding given mark push slot next_wire sketch.next_slot
given-next-number r Whole s = length-append s.wires (wire.Constant 0 ∷ []) ∙ (let e : length s.wires + 1 ≡ suc (length s.wires) = omega arith in e)
given-next-number r Truth s = length-append s.wires (wire.Slot (length s.slots) ∷ []) ∙ (let e : length s.wires + 1 ≡ suc (length s.wires) = omega arith in e)
given-next-number r (Cons n) s = length-append s.wires (wire.Slot (length s.slots) ∷ []) ∙ (let e : length s.wires + 1 ≡ suc (length s.wires) = omega arith in e)

pub read-next : (w other : ℕ) (s : Sketch) → next_wire (read w other s) ≡ next_wire s
unfolding read next_wire
read-next w other s = refl

module _ (t : Told) where
  -- ---- holes of declared variables, and outputs that are given

  -- the holes of a row that are no integers
  abbrev pub RowLate : ℕ → List Decl → ℕ → Type 0
  RowLate first [] k = ⊥
  RowLate first (d ∷ ds) k = ((is_mark (type_shape t d.ty) ≡ false) × (k ≡ first)) ⊎ RowLate (suc first) ds k

  pub holes-marked : {F : Frame} (ds : List Decl) (s : Sketch) (ms : Marks) (m : List ℕ → Mark) → ((k : ℕ) → RowLate (next_wire s) ds k → F.late k) → AreMarked F s ms → (ms' : Marks) × Grows ms ms' × AreMarked F (add_holes t ds s) ms' × AreNamed ms' (next_wire s) ds m
  holes-marked [] s ms m f a = (ms, grows-none ms, a, tt)
  holes-marked (d ∷ ds) s ms m f a =
      let p = type_shape t d.ty in
      let h = hole-marked p s ms (m d.name) (λ e. f (hole p s).0 (inl (e, hole-number p s))) a in
      let more = holes-marked ds (hole p s).1 h.0 m (λ k q. f k (inr (subst (λ n. RowLate n ds k) (hole-next p s) q))) h.2 in
      (more.0, grows-both ms h.0 more.0 h.1 more.1, more.2, (subst (λ w. Has more.0 w (m d.name)) (hole-number p s) (has-grows h.0 more.0 more.1 (hole p s).0 (m d.name) h.3), subst (λ w. AreNamed more.0 w ds m) (hole-next p s) more.3))

  pub outputs-marked : {F : Frame} (early : Bool) (ds : List Decl) (reads : ℕ) (s : Sketch) (ms : Marks) (m : Mark) → AreMarked F s ms → Under ms reads m → (ms' : Marks) × Grows ms ms' × AreMarked F (add_outputs t early ds reads s) ms' × AreRow ms' (next_wire s) (length ds) m
  outputs-marked early [] reads s ms m a l = (ms, grows-none ms, a, λ i k. absurd (omega (arith, k)))
  outputs-marked early (d ∷ ds) reads s ms m a l =
      let p = type_shape t d.ty in
      let r = role.Free early in
      let h = given-marked r p s ms m a in
      let low = under-grows ms h.0 h.1 reads m l in
      let b = read-marked (given r p s).0 reads (given r p s).1 h.0 m h.2 h.3 low in
      let more = outputs-marked early ds reads (read (given r p s).0 reads (given r p s).1) h.0 m b low in (
        more.0,
        grows-both ms h.0 more.0 h.1 more.1,
        more.2,
        row-first more.0 (next_wire s) (length ds) m (subst (λ w. Has more.0 w m) (given-number r p s) (has-grows h.0 more.0 more.1 (given r p s).0 m h.3))
            (subst (λ w. AreRow more.0 w (length ds) m) (read-next (given r p s).0 reads (given r p s).1 ∙ given-next-number r p s) more.3),
      )

  -- ---- what the wires of outputs carry

  abbrev pub AreShaped : List Shape → ℕ → List Decl → Type 0
  AreShaped shapes first [] = ⊤
  AreShaped shapes first (d ∷ ds) = (slice_get shapes first ≡ Some (type_shape t d.ty)) × AreShaped shapes (suc first) ds

  pub shaped-grows : (shapes more : List Shape) (first : ℕ) (ds : List Decl) → AreShaped shapes first ds → AreShaped (shapes ++ more) first ds
  shaped-grows shapes more first [] h = tt
  shaped-grows shapes more first (d ∷ ds) h = (get-front shapes more first (type_shape t d.ty) h.0, shaped-grows shapes more (suc first) ds h.1)

  given-shapes : (r : Role) (p : Shape) (s : Sketch) → (given r p s).1.shapes ≡ s.shapes ++ p ∷ []
  unfolding given mark push slot sketch.next_slot
  given-shapes r Whole s = refl
  given-shapes r Truth s = refl
  given-shapes r (Cons n) s = refl

  read-shapes : (w other : ℕ) (s : Sketch) → (read w other s).shapes ≡ s.shapes
  unfolding read
  read-shapes w other s = refl

  one-shapes : (early : Bool) (p : Shape) (reads : ℕ) (s : Sketch) → (add_output early p reads s).shapes ≡ s.shapes ++ p ∷ []
  one-shapes early p reads s = read-shapes (given (role.Free early) p s).0 reads (given (role.Free early) p s).1 ∙ given-shapes (role.Free early) p s

  one-next : (early : Bool) (p : Shape) (reads : ℕ) (s : Sketch) → next_wire (add_output early p reads s) ≡ suc (next_wire s)
  one-next early p reads s = read-next (given (role.Free early) p s).0 reads (given (role.Free early) p s).1 ∙ given-next-number (role.Free early) p s

  outputs-more : (early : Bool) (ds : List Decl) (reads : ℕ) (s : Sketch) → (more : List Shape) × ((add_outputs t early ds reads s).shapes ≡ s.shapes ++ more)
  outputs-more early [] reads s = ([], sym (append-nil s.shapes))
  outputs-more early (d ∷ ds) reads s =
      let p = type_shape t d.ty in
      let o = outputs-more early ds reads (add_output early p reads s) in
      (p ∷ o.0, o.1 ∙ ap (λ l. l ++ o.0) (one-shapes early p reads s) ∙ append_assoc s.shapes (p ∷ []) o.0)

  -- each output carries what its type is carried as
  pub outputs-shaped : (early : Bool) (ds : List Decl) (reads : ℕ) (s : Sketch) → length s.shapes ≡ next_wire s → AreShaped (add_outputs t early ds reads s).shapes (next_wire s) ds
  outputs-shaped early [] reads s e = tt
  outputs-shaped early (d ∷ ds) reads s e =
      let p = type_shape t d.ty in
      let s1 = add_output early p reads s in
      let o = outputs-more early ds reads s1 in
      let here : slice_get s1.shapes (next_wire s) ≡ Some p = subst (λ l. slice_get l (next_wire s) ≡ Some p) (sym (one-shapes early p reads s)) (subst (λ n. slice_get (s.shapes ++ p ∷ []) n ≡ Some p) e (get-next s.shapes p)) in
      let longer : length s1.shapes ≡ next_wire s1 = ap (λ (l : List Shape). length l) (one-shapes early p reads s) ∙ length-append s.shapes (p ∷ []) ∙ (let z : length s.shapes + 1 ≡ suc (next_wire s) = omega (arith, e) in z) ∙ sym (one-next early p reads s) in
      (subst (λ l. slice_get l (next_wire s) ≡ Some p) (sym o.1) (get-front s1.shapes o.0 (next_wire s) p here), subst (λ n. AreShaped (add_outputs t early ds reads s1).shapes n ds) (one-next early p reads s) (outputs-shaped early ds reads s1 longer))
