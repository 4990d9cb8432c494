-- The slots of a circuit, where they are those of a node but for wires.
use Rattle.std.proofs.Common.{◌≡◌, ℕ, Bool, List, [], ◌∷◌, refl}
use Rattle.hp_tree.specs.Instant.{Place, Instant}
use Rattle.hp_tree.specs.Programs.{TypeDecl}
use Rattle.hp_meaning.specs.Contract.Memory.{number_in}
use Rattle.hp_meaning.specs.Contract.Slots as slots
use Rattle.hp_meaning.specs.Contract.Slots.{register, free, input, control, shape_of}
use Rattle.hp_circuit.specs.declared.circuit.Role.{Role}
use Rattle.hp_circuit.specs.declared.circuit.Role.TheVariants as role
use Rattle.hp_circuit.specs.declared.circuit.Shape.{Shape}
use Rattle.hp_circuit.specs.declared.circuit.Shape.TheVariants.{Truth, Cons}
use Rattle.hp_circuit.specs.declared.circuit.Slot.{Slot}
use Rattle.hp_circuit.specs.declared.kind.Kind.TheVariants.{Registers, Early, Control}
use Rattle.hp_circuit.specs.Kinds.{role_kind}
use Rattle.hp_drawing.specs.Kept as kept
use Rattle.hp_drawing.specs.Kept.{Kept, kept_as, kept_of, kept_slots}
use Rattle.hp_drawing.specs.Slotted.Slotted.{shape_as, slots_as}
use Rattle.law_drawing.specs.Mirroring.Carried.{AreBegun, IsBegun, any_slot}
use Rattle.law_drawing.specs.Mirroring.Codes.{Begins, IsSlot, AreSlotsOf}
use Rattle.law_drawing.specs.Carried.Laws.{AreTold}

-- ---- one slot, by what it is but for its wire

is-begun : (r : Role) (s t : Shape) (k : ℕ) → kept_as r s ≡ kept.register k t → IsBegun k r
is-begun (role.Register first next) s t k e = cc
is-begun role.Input s t k e = absurd cc
is-begun role.Control s t k e = absurd cc
is-begun (role.Free b) s t k e = absurd cc

register-slot : (r : Role) (s t : Shape) (k : ℕ) (b : Bool) → kept_as r s ≡ kept.register k t → (role_kind r b ≡ Registers) × (s ≡ t)
register-slot (role.Register first next) s t k b e = (refl, cc)
register-slot role.Input s t k b e = absurd cc
register-slot role.Control s t k b e = absurd cc
register-slot (role.Free d) s t k b e = absurd cc

input-slot : (r : Role) (s t : Shape) (b : Bool) → kept_as r s ≡ kept.input t → (role_kind r b ≡ Early) × (s ≡ t)
input-slot (role.Register first next) s t b e = absurd cc
input-slot role.Input s t b e = (refl, cc)
input-slot role.Control s t b e = absurd cc
input-slot (role.Free d) s t b e = absurd cc

control-slot : (r : Role) (s t : Shape) (b : Bool) → kept_as r s ≡ kept.control t → (role_kind r b ≡ Control) × (s ≡ t)
control-slot (role.Register first next) s t b e = absurd cc
control-slot role.Input s t b e = absurd cc
control-slot role.Control s t b e = (refl, cc)
control-slot (role.Free d) s t b e = absurd cc

free-shape : (r : Role) (s t : Shape) → kept_as r s ≡ kept.free t → s ≡ t
free-shape (role.Register first next) s t e = absurd cc
free-shape role.Input s t e = absurd cc
free-shape role.Control s t e = absurd cc
free-shape (role.Free d) s t e = cc

-- ---- slots in order

first-kept : (c : Slot) (cs : List Slot) (k : Kept) (ks : List Kept) → kept_slots (c ∷ cs) ≡ k ∷ ks → kept_of c ≡ k
first-kept c cs k ks e = cc

other-kept : (c : Slot) (cs : List Slot) (k : Kept) (ks : List Kept) → kept_slots (c ∷ cs) ≡ k ∷ ks → kept_slots cs ≡ ks
other-kept c cs k ks e = cc

no-kept : (cs : List Slot) → kept_slots cs ≡ [] → cs ≡ []
no-kept [] e = refl
no-kept (c ∷ cs) e = absurd cc

-- a first slot of a kind, and the others
begins : (This : Slot → Type 0) (Others : List Slot → Type 0) (k : Kept) (ks : List Kept) (cs : List Slot) → ((c : Slot) → kept_of c ≡ k → This c) → ((others : List Slot) → kept_slots others ≡ ks → Others others)
    → kept_slots cs ≡ k ∷ ks → Begins This Others cs
begins This Others k ks [] one rest e = absurd cc
begins This Others k ks (c ∷ cs) one rest e = (one c (first-kept c cs k ks e), rest cs (other-kept c cs k ks e))

-- a first slot of which something is known, and the others
begins-told : (Told This : Slot → Type 0) (TellOthers Others : List Slot → Type 0) (k : Kept) (ks : List Kept) (cs : List Slot) → ((c : Slot) → Told c → kept_of c ≡ k → This c)
    → ((others : List Slot) → TellOthers others → kept_slots others ≡ ks → Others others) → Begins Told TellOthers cs → kept_slots cs ≡ k ∷ ks → Begins This Others cs
begins-told Told This TellOthers Others k ks [] one rest t e = absurd cc
begins-told Told This TellOthers Others k ks (c ∷ cs) one rest t e = (one c t.0 (first-kept c cs k ks e), rest cs t.1 (other-kept c cs k ks e))

module _ (types : List TypeDecl) (memory : Instant) where
  abbrev first : Place → ℕ
  first p = number_in (memory p)

  abbrev rest_of : List slots.Slot → List Kept
  rest_of ss = slots_as types first ss

  pub begun : (ss : List slots.Slot) (cs : List Slot) → kept_slots cs ≡ rest_of ss → AreBegun memory ss cs
  begun [] cs e = tt
  begun (register p slots.truth ∷ ss) cs e =
      begins (λ c. IsBegun (first p) c.role) (AreBegun memory ss) (kept.register (first p) Truth) (rest_of ss) cs (λ c h. is-begun c.role c.shape Truth (first p) h) (begun ss) e
  begun (register p slots.mark ∷ ss) cs e = begun ss cs e
  begun (register p (slots.cons t m) ∷ ss) cs e =
      begins (λ c. IsBegun (first p) c.role) (AreBegun memory ss) (kept.register (first p) (Cons m)) (rest_of ss) cs (λ c h. is-begun c.role c.shape (Cons m) (first p) h) (begun ss) e
  begun (free p t ∷ ss) cs e = begins any_slot (AreBegun memory ss) (kept.free (shape_as (shape_of types t))) (rest_of ss) cs (λ c h. tt) (begun ss) e
  begun (input p t ∷ ss) cs e = begins any_slot (AreBegun memory ss) (kept.input (shape_as (shape_of types t))) (rest_of ss) cs (λ c h. tt) (begun ss) e
  begun (control p t ∷ ss) cs e = begins any_slot (AreBegun memory ss) (kept.control (shape_as (shape_of types t))) (rest_of ss) cs (λ c h. tt) (begun ss) e

  module _ (early : Place → Bool) (steered : List Bool) where
    pub slots_are : (ss : List slots.Slot) (cs : List Slot) → AreTold early steered ss cs → kept_slots cs ≡ rest_of ss → AreSlotsOf types early steered ss cs
    slots_are [] cs t e = no-kept cs e
    slots_are (register p slots.truth ∷ ss) cs t e =
        begins-told any_slot (IsSlot types early steered Registers Truth) (AreTold early steered ss) (AreSlotsOf types early steered ss) (kept.register (first p) Truth) (rest_of ss) cs
        (λ c told h. register-slot c.role c.shape Truth (first p) _ h) (slots_are ss) t e
    slots_are (register p slots.mark ∷ ss) cs t e = slots_are ss cs t e
    slots_are (register p (slots.cons u m) ∷ ss) cs t e =
        begins-told any_slot (IsSlot types early steered Registers (Cons m)) (AreTold early steered ss) (AreSlotsOf types early steered ss) (kept.register (first p) (Cons m)) (rest_of ss) cs
        (λ c told h. register-slot c.role c.shape (Cons m) (first p) _ h) (slots_are ss) t e
    slots_are (free p u ∷ ss) cs t e =
        let s = shape_as (shape_of types u) in
        begins-told _ _ (AreTold early steered ss) (AreSlotsOf types early steered ss) (kept.free s) (rest_of ss) cs (λ c told h. (told, free-shape c.role c.shape s h)) (slots_are ss) t e
    slots_are (input p u ∷ ss) cs t e =
        let s = shape_as (shape_of types u) in
        begins-told any_slot (IsSlot types early steered Early s) (AreTold early steered ss) (AreSlotsOf types early steered ss) (kept.input s) (rest_of ss) cs (λ c told h. input-slot c.role c.shape s _ h) (slots_are ss) t e
    slots_are (control p u ∷ ss) cs t e =
        let s = shape_as (shape_of types u) in
        begins-told any_slot (IsSlot types early steered Control s) (AreTold early steered ss) (AreSlotsOf types early steered ss) (kept.control s) (rest_of ss) cs (λ c told h. control-slot c.role c.shape s _ h) (slots_are ss) t e
