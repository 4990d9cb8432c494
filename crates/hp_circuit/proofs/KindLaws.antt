-- The bits of slots, and where they are.
use Rattle.std.proofs.Common.{◌≡◌, ◌≤◌, ◌<◌, ℕ, zero, suc, ◌+◌, List, [], ◌∷◌, ◌++◌, length, take, refl, sym, ap, ap₂, ◌∙◌, arith}
use Rattle.std.proofs.Common.{length-append}
use Rattle.std.proofs.Math.ListN.{get_or-append}
use Rattle.std.proofs.Math.Seq.{get_or-append_seam}
use Rattle.std.specs.Prelude.{Bool, nat_le}
use Rattle.hp_boolx.specs.declared.machine.Counts.{Counts}
use Rattle.hp_circuit.specs.declared.kind.Kind.{Kind}
use Rattle.hp_circuit.specs.declared.kind.Kind.TheVariants.{Registers, Early, Control, Late}
use Rattle.hp_circuit.specs.declared.circuit.Slot.{Slot}
use Rattle.hp_circuit.specs.Shapes.{shape_width}
use Rattle.hp_circuit.specs.Forms.{slot_at}
use Rattle.hp_circuit.specs.Kinds.{kind_of, own, bits_of, first_of, place_of}
use Rattle.hp_circuit.specs.Making.{place_at}
use Rattle.hp_circuit.specs.Placing.{of_kind, AreCounts}
use Rattle.hp_circuit.proofs.NumberLaws.{tests, le_true, le_false}

abbrev pub own_width : List Bool → Kind → Slot → ℕ
own_width steered kind slot = own kind (kind_of steered slot) (shape_width slot.shape)

-- one slot more
pub bits_more : (steered : List Bool) (kind : Kind) (slots : List Slot) (i : ℕ) → i < length slots
    → bits_of steered kind (take (i + 1) slots) ≡ bits_of steered kind (take i slots) + own_width steered kind (slot_at slots i)
bits_more steered kind [] i l = absurd (omega (arith, l))
bits_more steered kind (s ∷ slots) zero l = omega arith
bits_more steered kind (s ∷ slots) (suc i) l =
    let e : suc i + 1 ≡ suc (i + 1) = omega arith in
    let h = bits_more steered kind slots i (omega (arith, l)) in
    ap (λ n. bits_of steered kind (take n (s ∷ slots))) e ∙ omega (arith, h)

pub bits_within : (steered : List Bool) (kind : Kind) (slots : List Slot) (i : ℕ) → bits_of steered kind (take i slots) ≤ bits_of steered kind slots
bits_within steered kind [] zero = omega arith
bits_within steered kind [] (suc i) = omega arith
bits_within steered kind (s ∷ slots) zero = omega arith
bits_within steered kind (s ∷ slots) (suc i) = let h = bits_within steered kind slots i in omega (arith, h)

pub bits_none : (steered : List Bool) (kind : Kind) (slots : List Slot) (i : ℕ) → i ≡ 0 → bits_of steered kind (take i slots) ≡ 0
bits_none steered kind slots i e = ap (λ n. bits_of steered kind (take n slots)) e

-- a slot of its own kind
own_same : (kind : Kind) (width : ℕ) → own kind kind width ≡ width
own_same Registers width = refl
own_same Early width = refl
own_same Control width = refl
own_same Late width = refl

module _ (steered : List Bool) (slots : List Slot) (c : Counts) (are : AreCounts slots steered c) where
  few_kind : (k : Kind) → bits_of steered k slots ≤ 64
  few_kind Registers = omega (arith, are.registers, are.few_registers)
  few_kind Early = omega (arith, are.early, are.few_early)
  few_kind Control = omega (arith, are.control, are.few_control)
  few_kind Late = omega (arith, are.late, are.few_late)

  few_first : (k : Kind) → first_of steered slots k ≤ 192
  few_first Registers = omega arith
  few_first Early = let a = few_kind Registers in omega (arith, a)
  few_first Control = let a = few_kind Registers in let b = few_kind Early in omega (arith, a, b)
  few_first Late = let a = few_kind Registers in let b = few_kind Early in let d = few_kind Control in omega (arith, a, b, d)

  -- a slot has its place among the variables
  pub placed_within : (i : ℕ) → i < length slots → place_of steered slots i + shape_width (slot_at slots i).shape ≤ 256
  placed_within i l =
      let kind = kind_of steered (slot_at slots i) in
      let a = few_first kind in
      let b = few_kind kind in
      let m = bits_more steered kind slots i l in
      let n = bits_within steered kind slots (i + 1) in
      let s = own_same kind (shape_width (slot_at slots i).shape) in
      omega (arith, a, b, m, n, s)

-- ---- places, one after another

abbrev pub AreGiven : List Bool → List Slot → ℕ → Counts → List ℕ → Type 0
AreGiven steered slots i next places =
    ((k : Kind) → of_kind k next ≡ first_of steered slots k + bits_of steered k (take i slots))
    × (length places ≡ i)
    × ((j : ℕ) → j < i → place_at places j ≡ place_of steered slots j)

pub give_within : (steered : List Bool) (slots : List Slot) (c : Counts) → AreCounts slots steered c → (i : ℕ) (next : Counts) (places : List ℕ) (kind : Kind) (width : ℕ) → i < length slots → AreGiven steered slots i next places
    → kind ≡ kind_of steered (slot_at slots i) → width ≡ shape_width (slot_at slots i).shape → of_kind kind next + width ≤ 65535
give_within steered slots c are i next places kind width l given ek ew =
    let p = placed_within steered slots c are i l in
    let g : of_kind kind next ≡ place_of steered slots i = given.0 kind ∙ ap (λ k. first_of steered slots k + bits_of steered k (take i slots)) ek in
    omega (arith, p, g, ew)

pub give_more : (steered : List Bool) (slots : List Slot) (i : ℕ) (next after : Counts) (places more : List ℕ) (kind : Kind) (width place : ℕ) → i < length slots → AreGiven steered slots i next places
    → kind ≡ kind_of steered (slot_at slots i) → width ≡ shape_width (slot_at slots i).shape → place ≡ of_kind kind next
    → ((k : Kind) → of_kind k after ≡ of_kind k next + own k kind width) → more ≡ places ++ place ∷ [] → AreGiven steered slots (i + 1) after more
give_more steered slots i next after places more kind width place l given ek ew ep moved em = (
  λ k.
      let m = bits_more steered k slots i l in
      let g = given.0 k in
      let o : own k kind width ≡ own_width steered k (slot_at slots i) = ap₂ (λ x n. own k x n) ek ew in
      moved k ∙ omega (arith, m, g, o),
  ap length em ∙ length-append places (place ∷ []) ∙ (let e : length places + 1 ≡ i + 1 = ap (λ n. n + 1) given.1 in e),
  λ j h. tests (nat_le i j)
      (λ t.
      let e : j ≡ i = (let u = le_true i j t in omega (arith, h, u)) in
      ap₂ (λ (ps : List ℕ) n. place_at ps n) em (e ∙ sym given.1)
      ∙ get_or-append_seam places place [] 0
      ∙ ep ∙ given.0 kind ∙ ap (λ k. first_of steered slots k + bits_of steered k (take i slots)) ek
      ∙ ap (place_of steered slots) (sym e))
      (λ f.
      let u : j < i = le_false i j f in
      ap (λ (ps : List ℕ). place_at ps j) em
      ∙ get_or-append places (place ∷ []) 0 j (let e = given.1 in omega (arith, u, e))
      ∙ given.2 j u),
)
