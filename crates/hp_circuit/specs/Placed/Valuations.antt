-- Valuations of the machine of a circuit that are made of codes, one for each slot: which variables a slot has, and that they hold its code.
-- Source: own. The variables of each kind stand together, in the order of the slots.
use Rattle.std.specs.Prelude.{ℕ, ◌<◌, ◌≡◌, ⊤, Bool, true, ◌&&◌, List, [], ◌∷◌, ◌++◌, length, slice_index_or}
use Rattle.hp_boolx.specs.Game.{joined}
use Rattle.hp_boolx.specs.Machine.{Machine, game}
use Rattle.hp_boolx.specs.Search.{Bits}
use Rattle.hp_circuit.specs.declared.circuit.Circuit.{Circuit}
use Rattle.hp_circuit.specs.declared.circuit.Slot.{Slot}
use Rattle.hp_circuit.specs.declared.kind.Kind.{Kind}
use Rattle.hp_circuit.specs.declared.kind.Kind.TheVariants.{Registers, Early, Control, Late}
use Rattle.hp_circuit.specs.Kinds.{kind_of, bits_of}
use Rattle.hp_circuit.specs.Machines.{IsMachineOf, slot_next, role_valid}
use Rattle.hp_circuit.specs.Machines as machines
use Rattle.hp_circuit.specs.Meaning.{holds, Solves}
use Rattle.hp_circuit.specs.Making.{slot_number}
use Rattle.hp_circuit.specs.Numbers.{number}
use Rattle.hp_circuit.specs.Shapes.{shape_width}

-- a code for each slot, as wide as the slot
abbrev pub AreWide : List Slot → List Bits → Type 0
AreWide [] [] = ⊤
AreWide (slot ∷ slots) (code ∷ codes) = (length code ≡ shape_width slot.shape) × AreWide slots codes
AreWide slots codes = ⊥

abbrev pub code_at : List Bits → ℕ → Bits
code_at codes i = slice_index_or codes i []

-- a code, for its own kind
abbrev pub own_code : Kind → Kind → Bits → Bits
own_code Registers Registers code = code
own_code Early Early code = code
own_code Control Control code = code
own_code Late Late code = code
own_code kind other code = []

-- the codes of the slots of a kind, in order
abbrev pub codes_of : List Bool → Kind → List Slot → List Bits → Bits
codes_of steered kind (slot ∷ slots) (code ∷ codes) = own_code kind (kind_of steered slot) code ++ codes_of steered kind slots codes
codes_of steered kind slots codes = []

-- the valuation that is made of them
abbrev pub valuation_of : List Bool → List Slot → List Bits → Bits
valuation_of steered slots codes =
    joined (codes_of steered Registers slots codes) (codes_of steered Early slots codes) (codes_of steered Control slots codes) (codes_of steered Late slots codes)

-- In such a valuation of the machine of a circuit each slot has the number that its code spells.
abbrev pub SlotNumbersLaw : Type 0
SlotNumbersLaw =
    (name : List ℕ) (c : Circuit) (m : Machine) (made : IsMachineOf name c m) (codes : List Bits) → AreWide c.slots.items codes
    → (i : ℕ) → i < length c.slots.items → slot_number c.slots.items made.places (valuation_of made.steered c.slots.items codes) i ≡ number (code_at codes i)

-- Bits of each kind, as many as the slots of that kind have, are made of codes.
abbrev pub MadeOfCodesLaw : Type 0
MadeOfCodesLaw =
    (steered : List Bool) (slots : List Slot) (bits : Kind → Bits) → ((kind : Kind) → length (bits kind) ≡ bits_of steered kind slots)
    → (codes : List Bits) × AreWide slots codes × ((kind : Kind) → codes_of steered kind slots codes ≡ bits kind)

-- each code but those of registers spells a value
abbrev pub are_values : List Slot → List Bits → Bool
are_values (slot ∷ slots) (code ∷ codes) = role_valid slot.role slot.shape (number code) && are_values slots codes
are_values slots codes = true

-- A valuation is valid exactly where each code that is given spells a value.
abbrev pub ValidCodesLaw : Type 0
ValidCodesLaw =
    (name : List ℕ) (c : Circuit) (m : Machine) (made : IsMachineOf name c m) (codes : List Bits) → AreWide c.slots.items codes
    → (game m).valid (valuation_of made.steered c.slots.items codes) ≡ are_values c.slots.items codes

-- what the gates of a machine say at a valuation, by numbers of the wires
pub record IsTold (c : Circuit) (m : Machine) (v : Bits) (numbers : ℕ → ℕ) : Type 0 where
  pub next : (game m).next v ≡ machines.joined (slot_next numbers) c.slots.items
  pub hyp : (game m).hyp v ≡ holds (numbers c.hyp)
  pub duty : (game m).duty v ≡ holds (numbers c.duty)

-- Whatever numbers solve the circuit, where slots have the numbers of some codes: at these codes the gates say what those numbers say.
abbrev pub ToldLaw : Type 0
ToldLaw =
    (name : List ℕ) (c : Circuit) (m : Machine) (made : IsMachineOf name c m) (codes : List Bits) → AreWide c.slots.items codes
    → (numbers : ℕ → ℕ) → Solves c.wires.items (λ i. number (code_at codes i)) numbers
    → IsTold c m (valuation_of made.steered c.slots.items codes) numbers
