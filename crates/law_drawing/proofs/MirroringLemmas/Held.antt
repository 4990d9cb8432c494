-- Slots have the numbers of a memory and of what is given, and registers take the bits of the next memory.
use Rattle.std.proofs.Common.{◌≡◌, ℕ, suc, ◌+◌, ◌<◌, Bool, true, false, if◌then◌else◌, List, [], ◌∷◌, ◌++◌, length, slice_index_or, refl, sym, ap, ap₂, subst, ◌∙◌, arith}
use Rattle.std.proofs.lemmas.List.{append_assoc, length-append}
use Rattle.std.proofs.lemmas.Option.{get_or_from_slice_get}
use Rattle.hp_base.specs.declared.ty.Ty.{Ty}
use Rattle.hp_base.specs.declared.ty.Ty.TheVariants as ty
use Rattle.hp_base.specs.declared.value.Value.{Value}
use Rattle.hp_base.specs.declared.value.Value.TheVariants.{Absent, Nil, B, E, I, Star}
use Rattle.hp_tree.specs.Instant.{Place, Instant}
use Rattle.hp_tree.specs.Programs.{TypeDecl}
use Rattle.hp_tree.specs.Values.{constructors_of}
use Rattle.hp_boolx.specs.Search.{Bits}
use Rattle.hp_circuit.specs.declared.circuit.Role.{Role}
use Rattle.hp_circuit.specs.declared.circuit.Role.TheVariants as role
use Rattle.hp_circuit.specs.declared.circuit.Shape.{Shape}
use Rattle.hp_circuit.specs.declared.circuit.Slot.{Slot}
use Rattle.hp_circuit.specs.declared.kind.Kind.{Kind}
use Rattle.hp_circuit.specs.declared.kind.Kind.TheVariants.{Registers, Early, Control, Late}
use Rattle.hp_circuit.specs.Kinds.{kind_of, role_kind}
use Rattle.hp_circuit.specs.Machines.{joined, slot_next, role_next}
use Rattle.hp_circuit.specs.Numbers as circuit
use Rattle.hp_circuit.specs.Shapes.{shape_width}
use Rattle.hp_circuit.proofs.NumberLaws as numbers
use Rattle.hp_meaning.specs.Contract.Codes.{width, to_bits, code}
use Rattle.hp_meaning.specs.Contract.Memory.{number_in, bits_in}
use Rattle.hp_meaning.specs.Contract.Slots as slots
use Rattle.hp_meaning.specs.Contract.Slots.{register, free, input, control, width_of, shape_of, registers_among}
use Rattle.hp_circuit.specs.Placed.Valuations.{code_at}
use Rattle.law_drawing.specs.Carrying.Drawing.{AreHeld, Takes, AreLaid}
use Rattle.law_drawing.specs.Mirroring.Codes.{free_kind, AreSlotsOf, codes_for, IsTruth, IsBelow, IsGiven, AreInShape, HeldLaw}
use Rattle.law_drawing.proofs.MirroringLemmas.Same.{width-same, to_bits-same}

-- ---- numbers of codes

-- a number below a count has its bits
number_below : (m k : ℕ) → k < m → circuit.number (to_bits (width m) k) ≡ k
number_below m k h =
    ap circuit.number (sym (to_bits-same (width m) k))
    ∙ numbers.number_of_bits (width m) k (let fits = numbers.width_fits m in let e = ap circuit.pow2 (width-same m) in omega (arith, fits, e, h))

truth_number : (v : Value) → IsTruth v → circuit.number (to_bits 1 (number_in v)) ≡ number_in v
truth_number (B true) h = refl
truth_number (B false) h = refl
truth_number Absent h = absurd h
truth_number Nil h = absurd h
truth_number (E t k) h = absurd h
truth_number (I n) h = absurd h
truth_number Star h = absurd h

below_number : (m : ℕ) (v : Value) → IsBelow m v → circuit.number (to_bits (width m) (number_in v)) ≡ number_in v
below_number m (B b) h = absurd h
below_number m Absent h = absurd h
below_number m Nil h = absurd h
below_number m (E t k) h = number_below m k h
below_number m (I n) h = absurd h
below_number m Star h = absurd h

pub given_number : (types : List TypeDecl) (t : Ty) (v : Value) → IsGiven types t v → circuit.number (code types t v) ≡ number_in v
given_number types ty.Bool (B true) h = refl
given_number types ty.Bool (B false) h = refl
given_number types ty.Bool Absent h = absurd h
given_number types ty.Bool Nil h = absurd h
given_number types ty.Bool (E t k) h = absurd h
given_number types ty.Bool (I n) h = absurd h
given_number types ty.Bool Star h = absurd h
given_number types ty.Int v h = absurd h
given_number types (ty.Enum t) (B b) h = absurd h
given_number types (ty.Enum t) Absent h = absurd h
given_number types (ty.Enum t) Nil h = absurd h
given_number types (ty.Enum t) (E u k) h = number_below (length (constructors_of types t)) k h
given_number types (ty.Enum t) (I n) h = absurd h
given_number types (ty.Enum t) Star h = absurd h

-- ---- slots in order

code_behind : (front : List Bits) (word : Bits) (back : List Bits) → code_at (front ++ (word ∷ back)) (length front) ≡ word
code_behind [] word back = refl
code_behind (x ∷ front) word back = code_behind front word back

module _ (types : List TypeDecl) (memory given : Instant) where
  slot_from : List Bits → List slots.Slot → ℕ → ℕ
  slot_from front ss i = circuit.number (code_at (front ++ codes_for types memory given ss) i)

  -- one slot more
  next_slot : (slot : ℕ → ℕ) (front : List Bits) (word : Bits) (ss rest : List slots.Slot) (k : ℕ) → ((i : ℕ) → slot i ≡ circuit.number (code_at (front ++ (word ∷ codes_for types memory given rest)) i)) → circuit.number word ≡ k
      → (((i : ℕ) → slot i ≡ circuit.number (code_at ((front ++ word ∷ []) ++ codes_for types memory given rest) i)) → AreHeld slot memory given rest (length (front ++ word ∷ [])))
      → (slot (length front) ≡ k) × AreHeld slot memory given rest (suc (length front))
  next_slot slot front word ss rest k each is more = (
    each (length front) ∙ ap circuit.number (code_behind front word (codes_for types memory given rest)) ∙ is,
    subst (λ n. AreHeld slot memory given rest n) (length-append front (word ∷ []) ∙ one (length front))
        (more (λ i. each i ∙ ap (λ codes. circuit.number (code_at codes i)) (sym (append_assoc front (word ∷ []) (codes_for types memory given rest))))),
  )
    where
      one : (n : ℕ) → n + 1 ≡ suc n
      one n = omega arith

  held_from : (slot : ℕ → ℕ) (front : List Bits) (ss : List slots.Slot) → ((i : ℕ) → slot i ≡ circuit.number (code_at (front ++ codes_for types memory given ss) i)) → AreInShape types memory given ss → AreHeld slot memory given ss (length front)
  held_from slot front [] each h = tt
  held_from slot front (register p slots.truth ∷ ss) each h =
      next_slot slot front (to_bits 1 (number_in (memory p))) (register p slots.truth ∷ ss) ss (number_in (memory p)) each (truth_number (memory p) h.0) (λ e. held_from slot (front ++ to_bits 1 (number_in (memory p)) ∷ []) ss e h.1)
  held_from slot front (register p slots.mark ∷ ss) each h = held_from slot front ss each h
  held_from slot front (register p (slots.cons t m) ∷ ss) each h =
      next_slot slot front (to_bits (width m) (number_in (memory p))) (register p (slots.cons t m) ∷ ss) ss (number_in (memory p)) each (below_number m (memory p) h.0) (λ e. held_from slot (front ++ to_bits (width m) (number_in (memory p)) ∷ []) ss e h.1)
  held_from slot front (free p t ∷ ss) each h =
      next_slot slot front (code types t (given p)) (free p t ∷ ss) ss (number_in (given p)) each (given_number types t (given p) h.0) (λ e. held_from slot (front ++ code types t (given p) ∷ []) ss e h.1)
  held_from slot front (input p t ∷ ss) each h =
      next_slot slot front (code types t (given p)) (input p t ∷ ss) ss (number_in (given p)) each (given_number types t (given p) h.0) (λ e. held_from slot (front ++ code types t (given p) ∷ []) ss e h.1)
  held_from slot front (control p t ∷ ss) each h =
      next_slot slot front (code types t (given p)) (control p t ∷ ss) ss (number_in (given p)) each (given_number types t (given p) h.0) (λ e. held_from slot (front ++ code types t (given p) ∷ []) ss e h.1)

pub held : HeldLaw
held types memory given ss h = held_from types memory given (λ i. circuit.number (code_at (codes_for types memory given ss) i)) [] ss (λ i. refl) h

-- ---- what registers take

taken : (ns : List ℕ) (k : ℕ) (r : Role) (s : Shape) → Takes ns k r → role_next (λ w. slice_index_or ns w 0) r s ≡ circuit.to_bits (shape_width s) k
taken ns k (role.Register first next) s h = ap (circuit.to_bits (shape_width s)) (get_or_from_slice_get ns next k 0 h)
taken ns k role.Input s h = absurd h
taken ns k role.Control s h = absurd h
taken ns k (role.Free early) s h = absurd h

-- a slot that is no register takes nothing
untaken : (f : ℕ → ℕ) (steered : List Bool) (c : Slot) (kind : Kind) → kind_of steered c ≡ kind → (kind ≡ Registers → ⊥) → slot_next f c ≡ []
untaken f steered c kind e other = by c.role refl
  where
    by : (r : Role) → c.role ≡ r → role_next f r c.shape ≡ []
    by (role.Register first next) is = absurd (other (sym e ∙ ap (λ r. role_kind r (slice_index_or steered c.wire false)) is))
    by role.Input is = refl
    by role.Control is = refl
    by (role.Free early) is = refl

module _ (types : List TypeDecl) (early : Place → Bool) (steered : List Bool) (ns : List ℕ) (next : Instant) where
  pub late_or_early : (p : Place) → free_kind types early p ≡ Registers → ⊥
  late_or_early p e = by (early p) e
    where
      by : (d : Bool) → (if d then Early else Late) ≡ Registers → ⊥
      by true h = cc
      by false h = cc

  pub next_bits : (ss : List slots.Slot) (cs : List Slot) → AreSlotsOf types early steered ss cs → AreLaid ns next ss cs → joined (slot_next (λ w. slice_index_or ns w 0)) cs ≡ bits_in (registers_among ss) next
  next_bits [] [] h laid = refl
  next_bits [] (c ∷ cs) h laid = absurd (cc)
  next_bits (register p slots.truth ∷ ss) [] h laid = absurd h
  next_bits (register p slots.truth ∷ ss) (c ∷ cs) h laid =
      ap₂ (λ a b. a ++ b) (taken ns (number_in (next p)) c.role c.shape laid.0 ∙ (λ j. circuit.to_bits (shape_width (h.0.1 j)) (number_in (next p))) ∙ to_bits-same 1 (number_in (next p))) (next_bits ss cs h.1 laid.1)
  next_bits (register p slots.mark ∷ ss) cs h laid = next_bits ss cs h laid
  next_bits (register p (slots.cons t m) ∷ ss) [] h laid = absurd h
  next_bits (register p (slots.cons t m) ∷ ss) (c ∷ cs) h laid =
      ap₂ (λ a b. a ++ b)
      (taken ns (number_in (next p)) c.role c.shape laid.0
      ∙ (λ j. circuit.to_bits (shape_width (h.0.1 j)) (number_in (next p)))
      ∙ ap (λ w. circuit.to_bits w (number_in (next p))) (width-same m)
      ∙ to_bits-same (width m) (number_in (next p)))
      (next_bits ss cs h.1 laid.1)
  next_bits (free p t ∷ ss) [] h laid = absurd h
  next_bits (free p t ∷ ss) (c ∷ cs) h laid =
      ap₂ (λ a b. a ++ b) (untaken (λ w. slice_index_or ns w 0) steered c (free_kind types early p) h.0.0 (late_or_early p)) (next_bits ss cs h.1 laid.1)
  next_bits (input p t ∷ ss) [] h laid = absurd h
  next_bits (input p t ∷ ss) (c ∷ cs) h laid = ap₂ (λ a b. a ++ b) (untaken (λ w. slice_index_or ns w 0) steered c Early h.0.0 (λ e. cc)) (next_bits ss cs h.1 laid.1)
  next_bits (control p t ∷ ss) [] h laid = absurd h
  next_bits (control p t ∷ ss) (c ∷ cs) h laid = ap₂ (λ a b. a ++ b) (untaken (λ w. slice_index_or ns w 0) steered c Control h.0.0 (λ e. cc)) (next_bits ss cs h.1 laid.1)
