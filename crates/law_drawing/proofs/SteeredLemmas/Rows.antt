-- Wires one behind the other, of one mark.
use Rattle.std.proofs.Common.{◌≡◌, ℕ, zero, suc, ◌+◌, List, [], ◌∷◌, length, Bool, true, false, refl, subst, ◌∙◌, arith}
use Rattle.std.proofs.lemmas.List.{length-append}
use Rattle.hp_tree.specs.Instant.{Named, Place as TreePlace}
use Rattle.hp_tree.specs.Blocks.{Decl}
use Rattle.hp_meaning.specs.Causal.Sources.{Sources, PlaceSources}
use Rattle.hp_circuit.specs.declared.circuit.Role.{Role}
use Rattle.hp_circuit.specs.declared.circuit.Role.TheVariants as role
use Rattle.hp_circuit.specs.declared.circuit.Shape.{Shape}
use Rattle.hp_circuit.specs.declared.circuit.Shape.TheVariants.{Truth, Cons, Mark}
use Rattle.hp_circuit.specs.declared.circuit.Wire.TheVariants as wire
use Rattle.hp_drawing.specs.Kept.{is_mark}
use Rattle.hp_drawing.specs.Told.{Told, type_shape}
use Rattle.hp_drawing.specs.Sketch as sketch
use Rattle.hp_drawing.specs.Sketch.{Sketch, push, read, mark, hole, given, slot, next_wire, next_slot}
use Rattle.hp_drawing.specs.DrawnExpressions.{add_outputs, add_holes}
use Rattle.law_drawing.specs.Steered.Marks.{Steering, Marks, Grows, AreRow, Has, Leads, Low, AreMarked}
use Rattle.law_drawing.specs.Steered.Placed.{IsGiven, OutputsPlaced}
use Rattle.law_drawing.proofs.SteeredLemmas.Steps.{grows-none, grows-both, has-grows, low-grows, read-marked, hole-marked}
use Rattle.law_drawing.proofs.SteeredLemmas.Parts.{given-marked}

pub row-grows : (ms ms' : Marks) → Grows ms ms' → (first count : ℕ) (m : Sources) → AreRow ms first count m → AreRow ms' first count m
row-grows ms ms' g first count m h i l = has-grows ms ms' g (first + i) m (h i l)

-- one in front of others
pub row-first : (ms : Marks) (first count : ℕ) (m : Sources) → Has ms first m → AreRow ms (suc first) count m → AreRow ms first (suc count) m
row-first ms first count m h more zero l = subst (λ k. Has ms k m) (zero-sum first) h
  where
    zero-sum : (n : ℕ) → n ≡ n + 0
    zero-sum n = omega arith
row-first ms first count m h more (suc i) l = subst (λ k. Has ms k m) (step first i) (more i (omega (arith, l)))
  where
    step : (a b : ℕ) → suc a + b ≡ a + suc b
    step a b = omega arith

-- ---- the numbers of wires that steps make

pub hole-number : (p : Shape) (s : Sketch) → (hole p s).0 ≡ next_wire s
unfolding hole mark push next_wire
hole-number Mark s = refl
hole-number Truth s = refl
hole-number (Cons n) s = refl

pub hole-next : (p : Shape) (s : Sketch) → next_wire (hole p s).1 ≡ suc (next_wire s)
unfolding hole mark push next_wire
hole-next Mark s = length-append s.wires (wire.Constant 0 ∷ []) ∙ (let e : length s.wires + 1 ≡ suc (length s.wires) = omega arith in e)
hole-next Truth s = length-append s.wires (wire.Copy (length s.wires) ∷ []) ∙ (let e : length s.wires + 1 ≡ suc (length s.wires) = omega arith in e)
hole-next (Cons n) s = length-append s.wires (wire.Copy (length s.wires) ∷ []) ∙ (let e : length s.wires + 1 ≡ suc (length s.wires) = omega arith in e)

pub given-number : (r : Role) (p : Shape) (s : Sketch) → (given r p s).0 ≡ next_wire s
unfolding given mark push slot next_wire
given-number r Mark s = refl
given-number r Truth s = refl
given-number r (Cons n) s = refl

pub given-next-number : (r : Role) (p : Shape) (s : Sketch) → next_wire (given r p s).1 ≡ suc (next_wire s)
unfolding given mark push slot next_wire sketch.next_slot
given-next-number r Mark s = length-append s.wires (wire.Constant 0 ∷ []) ∙ (let e : length s.wires + 1 ≡ suc (length s.wires) = omega arith in e)
given-next-number r Truth s = length-append s.wires (wire.Slot (length s.slots) ∷ []) ∙ (let e : length s.wires + 1 ≡ suc (length s.wires) = omega arith in e)
given-next-number r (Cons n) s = length-append s.wires (wire.Slot (length s.slots) ∷ []) ∙ (let e : length s.wires + 1 ≡ suc (length s.wires) = omega arith in e)

pub read-next : (w other : ℕ) (s : Sketch) → next_wire (read w other s) ≡ next_wire s
unfolding read next_wire
read-next w other s = refl

module _ (steers : Steering) (t : Told) where
  -- ---- holes of declared variables, and outputs that are given

  pub holes-marked : (ds : List Decl) (s : Sketch) (ms : Marks) (m : Sources) → AreMarked steers s ms → (ms' : Marks) × Grows ms ms' × AreMarked steers (add_holes t ds s) ms' × AreRow ms' (next_wire s) (length ds) m
  holes-marked [] s ms m a = (ms, grows-none ms, a, λ i l. absurd (omega (arith, l)))
  holes-marked (d ∷ ds) s ms m a =
      let p = type_shape t d.ty in
      let h = hole-marked steers p s ms m a in
      let more = holes-marked ds (hole p s).1 h.0 m h.2 in (
        more.0,
        grows-both ms h.0 more.0 h.1 more.1,
        more.2,
        row-first more.0 (next_wire s) (length ds) m (subst (λ w. Has more.0 w m) (hole-number p s) (has-grows h.0 more.0 more.1 (hole p s).0 m h.3)) (subst (λ w. AreRow more.0 w (length ds) m) (hole-next p s) more.3),
      )

  given-next : (b : Bool) (own m : Sources) (s : Sketch) → IsGiven steers b own s → (Leads steers m → Leads steers own) → b ≡ false → Leads steers m → Leads steers (steers.slots (next_slot s))
  given-next true own m s h f e l = absurd cc
  given-next false own m s h f e l = h (f l)

  pub outputs-marked : (early : Bool) (ds : List Decl) (reads : ℕ) (k : PlaceSources) (s : Sketch) (ms : Marks) (m : Sources) → OutputsPlaced steers t early ds reads k s → ((p : TreePlace) → Leads steers m → Leads steers (k p)) → AreMarked steers s ms → Low steers ms reads m
      → (ms' : Marks) × Grows ms ms' × AreMarked steers (add_outputs t early ds reads s) ms' × AreRow ms' (next_wire s) (length ds) m
  outputs-marked early [] reads k s ms m q f a l = (ms, grows-none ms, a, λ i k. absurd (omega (arith, k)))
  outputs-marked early (d ∷ ds) reads k s ms m q f a l =
      let p = type_shape t d.ty in
      let r = role.Free early in
      let h = given-marked steers r p s ms m a (given-next (is_mark p) (k (Named d.name ∷ [])) m s q.0 (f (Named d.name ∷ []))) in
      let low = low-grows steers ms h.0 h.1 reads m l in
      let b = read-marked steers (given r p s).0 reads (given r p s).1 h.0 m h.2 h.3 low in
      let more = outputs-marked early ds reads k (read (given r p s).0 reads (given r p s).1) h.0 m q.1 f b low in (
        more.0,
        grows-both ms h.0 more.0 h.1 more.1,
        more.2,
        row-first more.0 (next_wire s) (length ds) m (subst (λ w. Has more.0 w m) (given-number r p s) (has-grows h.0 more.0 more.1 (given r p s).0 m h.3))
            (subst (λ w. AreRow more.0 w (length ds) m) (read-next (given r p s).0 reads (given r p s).1 ∙ given-next-number r p s) more.3),
      )
