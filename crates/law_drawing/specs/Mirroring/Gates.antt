-- What the gates of the machine of a circuit say of what a node remembers and is given, where the circuit has the slots of the node.
-- Source: own.
use Rattle.std.specs.Prelude.{ℕ, ◌≡◌, ◌↔◌, Bool, IsTrue, List, length}
use Rattle.hp_tree.specs.Instant.{Place, Instant}
use Rattle.hp_tree.specs.Programs.{TypeDecl}
use Rattle.hp_boolx.specs.Game.{joined}
use Rattle.hp_boolx.specs.Machine.{Machine, game}
use Rattle.hp_boolx.specs.Search.{Bits}
use Rattle.hp_circuit.specs.declared.circuit.Circuit.{Circuit}
use Rattle.hp_circuit.specs.Machines.{IsMachineOf}
use Rattle.hp_circuit.specs.Meaning.{truth}
use Rattle.hp_circuit.specs.Numbers.{number}
use Rattle.hp_meaning.specs.Contract.Memory.{bits_in}
use Rattle.hp_meaning.specs.Contract.Slots as slots
use Rattle.hp_meaning.specs.Contract.Slots.{registers_among}
use Rattle.law_games.specs.Mirror.Mirrored.{codes_at, AreCodes, early_among, controls_among, late_among}
use Rattle.hp_circuit.specs.Placed.Valuations.{code_at}
use Rattle.law_drawing.specs.Carrying.Solving.{Has, Solved}
use Rattle.law_drawing.specs.Carrying.Drawing.{AreLaid}
use Rattle.law_drawing.specs.Mirroring.Codes.{AreSlotsOf, codes_for, AreNumbered}

-- the variables of a machine: the bits of a memory, and the codes of what is given
abbrev pub valuation_for : List TypeDecl → (Place → Bool) → Instant → Instant → List slots.Slot → Bits
valuation_for types early memory given ss =
    joined (bits_in (registers_among ss) memory) (codes_at types (early_among early ss) given) (codes_at types (controls_among ss) given) (codes_at types (late_among early ss) given)

-- Numbers solve a circuit where slots hold a memory and what is given; registers take the next memory, and hypothesis and duty are these.
pub record IsSolved (types : List TypeDecl) (ss : List slots.Slot) (c : Circuit) (memory given next : Instant) (supposed owed : Bool) : Type 0 where
  pub numbers : List ℕ
  pub solved : Solved (λ i. number (code_at (codes_for types memory given ss) i)) numbers c.wires.items numbers
  pub laid : AreLaid numbers next ss c.slots.items
  pub hyp : Has numbers c.hyp (truth supposed)
  pub duty : Has numbers c.duty (truth owed)

-- what the gates say of it
pub record IsSaid (types : List TypeDecl) (early : Place → Bool) (ss : List slots.Slot) (m : Machine) (memory given next : Instant) (supposed owed : Bool) : Type 0 where
  pub next_is : (game m).next (valuation_for types early memory given ss) ≡ bits_in (registers_among ss) next
  pub hyp_is : (game m).hyp (valuation_for types early memory given ss) ≡ supposed
  pub duty_is : (game m).duty (valuation_for types early memory given ss) ≡ owed

-- At the codes of a memory and of what is given the gates of the machine say what such numbers say.
abbrev pub GatesLaw : Type 0
GatesLaw =
    (name : List ℕ) (c : Circuit) (m : Machine) (made : IsMachineOf name c m) (types : List TypeDecl) (early : Place → Bool) (ss : List slots.Slot) → AreSlotsOf types early made.steered ss c.slots.items
    → (memory given next : Instant) (supposed owed : Bool) → IsSolved types ss c memory given next supposed owed
    → IsSaid types early ss m memory given next supposed owed

-- A valuation is valid exactly where what is given, early, chosen and late, has codes of values of its types.
abbrev pub ValuationsLaw : Type 0
ValuationsLaw =
    (name : List ℕ) (c : Circuit) (m : Machine) (made : IsMachineOf name c m) (types : List TypeDecl) (early : Place → Bool) (ss : List slots.Slot) → AreNumbered types → AreSlotsOf types early made.steered ss c.slots.items
    → (r u x w : Bits) → length r ≡ m.registers → length u ≡ m.early → length x ≡ m.control → length w ≡ m.late
    → IsTrue ((game m).valid (joined r u x w))
    ↔ (AreCodes types (early_among early ss) u × AreCodes types (controls_among ss) x × AreCodes types (late_among early ss) w)
