-- The codes of a memory and of what is given.
use Rattle.std.proofs.Common.{◌≡◌, ℕ, Bool, true, false, if◌then◌else◌, List, [], ◌∷◌, ◌++◌, length, refl, sym, ap, ap₂, ◌∙◌}
use Rattle.hp_base.specs.declared.ty.Ty.{Ty}
use Rattle.hp_base.specs.declared.ty.Ty.TheVariants as ty
use Rattle.hp_base.specs.declared.value.Value.{Value}
use Rattle.hp_tree.specs.Instant.{Place, Instant}
use Rattle.hp_tree.specs.Programs.{TypeDecl}
use Rattle.hp_tree.specs.Values.{constructors_of}
use Rattle.hp_boolx.specs.Search.{Bits}
use Rattle.hp_circuit.specs.declared.circuit.Shape.{Shape}
use Rattle.hp_circuit.specs.declared.circuit.Slot.{Slot}
use Rattle.hp_circuit.specs.declared.kind.Kind.{Kind}
use Rattle.hp_circuit.specs.declared.kind.Kind.TheVariants.{Registers, Early, Control, Late}
use Rattle.hp_circuit.specs.Kinds.{kind_of}
use Rattle.hp_circuit.specs.Shapes.{shape_width}
use Rattle.hp_circuit.proofs.NumberLaws as numbers
use Rattle.hp_meaning.specs.Contract.Codes.{width, to_bits, code, cons_number}
use Rattle.hp_meaning.specs.Contract.Memory.{number_in, bits_in}
use Rattle.hp_meaning.specs.Contract.Slots as slots
use Rattle.hp_meaning.specs.Contract.Slots.{register, free, input, control, width_of, shape_of, registers_among}
use Rattle.law_games.specs.Mirror.Mirrored.{codes_at, early_among, controls_among, late_among}
use Rattle.hp_circuit.specs.Placed.Valuations.{AreWide, own_code, codes_of}
use Rattle.law_drawing.specs.Mirroring.Codes.{free_kind, IsSlot, AreSlotsOf, codes_for}
use Rattle.hp_drawing.specs.Slotted.Slotted.{shape_as}
use Rattle.law_drawing.proofs.MirroringLemmas.Same.{width-same, to_bits-same}

-- ---- widths

length-bits : (w k : ℕ) → length (to_bits w k) ≡ w
length-bits w k = ap length (sym (to_bits-same w k)) ∙ numbers.length_bits w k

pub length-code : (types : List TypeDecl) (t : Ty) (v : Value) → length (code types t v) ≡ shape_width (shape_as (shape_of types t))
length-code types ty.Bool v = refl
length-code types ty.Int v = refl
length-code types (ty.Enum t) v = length-bits (width (length (constructors_of types t))) (cons_number v) ∙ sym (width-same (length (constructors_of types t)))

module _ (types : List TypeDecl) (early : Place → Bool) (steered : List Bool) (memory given : Instant) where
  shape-width : (c : Slot) (kind : Kind) (s : Shape) → IsSlot types early steered kind s c → shape_width c.shape ≡ shape_width s
  shape-width c kind s h = ap shape_width h.1

  pub wide : (ss : List slots.Slot) (cs : List Slot) → AreSlotsOf types early steered ss cs → AreWide cs (codes_for types memory given ss)
  wide [] [] h = tt
  wide [] (c ∷ cs) h = absurd (cc)
  wide (register p slots.truth ∷ ss) [] h = absurd h
  wide (register p slots.truth ∷ ss) (c ∷ cs) h = (sym (ap shape_width h.0.1), wide ss cs h.1)
  wide (register p slots.mark ∷ ss) cs h = wide ss cs h
  wide (register p (slots.cons t m) ∷ ss) [] h = absurd h
  wide (register p (slots.cons t m) ∷ ss) (c ∷ cs) h = (length-bits (width m) (number_in (memory p)) ∙ sym (width-same m) ∙ sym (ap shape_width h.0.1), wide ss cs h.1)
  wide (free p t ∷ ss) [] h = absurd h
  wide (free p t ∷ ss) (c ∷ cs) h = (length-code types t (given p) ∙ sym (ap shape_width h.0.1), wide ss cs h.1)
  wide (input p t ∷ ss) [] h = absurd h
  wide (input p t ∷ ss) (c ∷ cs) h = (length-code types t (given p) ∙ sym (ap shape_width h.0.1), wide ss cs h.1)
  wide (control p t ∷ ss) [] h = absurd h
  wide (control p t ∷ ss) (c ∷ cs) h = (length-code types t (given p) ∙ sym (ap shape_width h.0.1), wide ss cs h.1)

  -- ---- the codes of each kind

  -- one slot more, of a kind
  more : (kind this : Kind) (c : Slot) (word : Bits) (cs : List Slot) (codes : List Bits) (rest : Bits) → kind_of steered c ≡ this → codes_of steered kind cs codes ≡ rest → codes_of steered kind (c ∷ cs) (word ∷ codes) ≡ own_code kind this word ++ rest
  more kind this c word cs codes rest e h = ap₂ (λ k bs. own_code kind k word ++ bs) e h

  abbrev bits_of_kind : Kind → List slots.Slot → Bits
  bits_of_kind Registers ss = bits_in (registers_among ss) memory
  bits_of_kind Early ss = codes_at types (early_among early ss) given
  bits_of_kind Control ss = codes_at types (controls_among ss) given
  bits_of_kind Late ss = codes_at types (late_among early ss) given

  -- what a slot adds to each kind
  register_adds : (kind : Kind) (p : Place) (s : slots.Shape) (ss : List slots.Slot) → own_code kind Registers (to_bits (width_of s) (number_in (memory p))) ++ bits_of_kind kind ss ≡ bits_of_kind kind (register p s ∷ ss)
  register_adds Registers p s ss = refl
  register_adds Early p s ss = refl
  register_adds Control p s ss = refl
  register_adds Late p s ss = refl

  input_adds : (kind : Kind) (p : Place) (t : Ty) (ss : List slots.Slot) → own_code kind Early (code types t (given p)) ++ bits_of_kind kind ss ≡ bits_of_kind kind (input p t ∷ ss)
  input_adds Registers p t ss = refl
  input_adds Early p t ss = refl
  input_adds Control p t ss = refl
  input_adds Late p t ss = refl

  control_adds : (kind : Kind) (p : Place) (t : Ty) (ss : List slots.Slot) → own_code kind Control (code types t (given p)) ++ bits_of_kind kind ss ≡ bits_of_kind kind (control p t ∷ ss)
  control_adds Registers p t ss = refl
  control_adds Early p t ss = refl
  control_adds Control p t ss = refl
  control_adds Late p t ss = refl

  free_by : (kind : Kind) (d : Bool) (p : Place) (t : Ty) (ss : List slots.Slot) → early p ≡ d → own_code kind (if d then Early else Late) (code types t (given p)) ++ bits_of_kind kind ss ≡ bits_of_kind kind (free p t ∷ ss)
  free_by Registers true p t ss e = refl
  free_by Registers false p t ss e = refl
  free_by Early true p t ss e = ap (λ d. codes_at types (if d then (p, t) ∷ early_among early ss else early_among early ss) given) (sym e)
  free_by Early false p t ss e = ap (λ d. codes_at types (if d then (p, t) ∷ early_among early ss else early_among early ss) given) (sym e)
  free_by Control true p t ss e = refl
  free_by Control false p t ss e = refl
  free_by Late true p t ss e = ap (λ d. codes_at types (if d then late_among early ss else (p, t) ∷ late_among early ss) given) (sym e)
  free_by Late false p t ss e = ap (λ d. codes_at types (if d then late_among early ss else (p, t) ∷ late_among early ss) given) (sym e)

  free_adds : (kind : Kind) (p : Place) (t : Ty) (ss : List slots.Slot) → own_code kind (free_kind types early p) (code types t (given p)) ++ bits_of_kind kind ss ≡ bits_of_kind kind (free p t ∷ ss)
  free_adds kind p t ss = free_by kind (early p) p t ss refl

  mark_adds : (kind : Kind) (p : Place) (ss : List slots.Slot) → bits_of_kind kind ss ≡ bits_of_kind kind (register p slots.mark ∷ ss)
  mark_adds Registers p ss = refl
  mark_adds Early p ss = refl
  mark_adds Control p ss = refl
  mark_adds Late p ss = refl

  pub kinds : (kind : Kind) (ss : List slots.Slot) (cs : List Slot) → AreSlotsOf types early steered ss cs → codes_of steered kind cs (codes_for types memory given ss) ≡ bits_of_kind kind ss
  kinds Registers [] [] h = refl
  kinds Early [] [] h = refl
  kinds Control [] [] h = refl
  kinds Late [] [] h = refl
  kinds kind [] (c ∷ cs) h = absurd (cc)
  kinds kind (register p slots.truth ∷ ss) [] h = absurd h
  kinds kind (register p slots.truth ∷ ss) (c ∷ cs) h =
      more kind Registers c (to_bits 1 (number_in (memory p))) cs (codes_for types memory given ss) (bits_of_kind kind ss) h.0.0 (kinds kind ss cs h.1) ∙ register_adds kind p slots.truth ss
  kinds kind (register p slots.mark ∷ ss) cs h = kinds kind ss cs h ∙ mark_adds kind p ss
  kinds kind (register p (slots.cons t m) ∷ ss) [] h = absurd h
  kinds kind (register p (slots.cons t m) ∷ ss) (c ∷ cs) h =
      more kind Registers c (to_bits (width m) (number_in (memory p))) cs (codes_for types memory given ss) (bits_of_kind kind ss) h.0.0 (kinds kind ss cs h.1) ∙ register_adds kind p (slots.cons t m) ss
  kinds kind (free p t ∷ ss) [] h = absurd h
  kinds kind (free p t ∷ ss) (c ∷ cs) h =
      more kind (free_kind types early p) c (code types t (given p)) cs (codes_for types memory given ss) (bits_of_kind kind ss) h.0.0 (kinds kind ss cs h.1) ∙ free_adds kind p t ss
  kinds kind (input p t ∷ ss) [] h = absurd h
  kinds kind (input p t ∷ ss) (c ∷ cs) h =
      more kind Early c (code types t (given p)) cs (codes_for types memory given ss) (bits_of_kind kind ss) h.0.0 (kinds kind ss cs h.1) ∙ input_adds kind p t ss
  kinds kind (control p t ∷ ss) [] h = absurd h
  kinds kind (control p t ∷ ss) (c ∷ cs) h =
      more kind Control c (code types t (given p)) cs (codes_for types memory given ss) (bits_of_kind kind ss) h.0.0 (kinds kind ss cs h.1) ∙ control_adds kind p t ss
