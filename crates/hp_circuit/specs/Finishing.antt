-- What a machine is made of: words for the contracts of private functions.
use Rattle.std.specs.Prelude.{ℕ, ◌≡◌, ◌≤◌, ◌<◌, ◌+◌, List, length, sum, All}
use Rattle.hp_boolx.specs.declared.gate.Gate.{Gate}
use Rattle.hp_boolx.specs.declared.machine.Counts.{Counts}
use Rattle.hp_boolx.specs.Machine.{AreFit, Machine}
use Rattle.hp_circuit.specs.declared.circuit.Circuit.{Circuit}
use Rattle.hp_circuit.specs.declared.circuit.Slot.{Slot}
use Rattle.hp_circuit.specs.Machines.{joined, slot_widths, slot_prefer, slot_init}

-- The parts are those of a machine: gates name variables and earlier gates, and each list has the length that is said of it.
pub record AreParts (slots : List Slot) (counts : Counts) (gates : List Gate) (nexts : List ℕ) (is_valid hyp_gate duty_gate : ℕ) : Type 0 where
  pub few : counts.registers + counts.early + counts.control + counts.late ≤ 65535
  pub fit : AreFit (counts.registers + counts.early + counts.control + counts.late) 0 gates
  pub init : length (joined slot_init slots) ≡ counts.registers
  pub next : length nexts ≡ counts.registers
  pub next_gates : All (λ k. k < length gates) nexts
  pub valid : is_valid < length gates
  pub hyp : hyp_gate < length gates
  pub duty : duty_gate < length gates
  pub prefer : length (joined slot_prefer slots) ≡ counts.control
  pub widths : sum (joined slot_widths slots) ≡ counts.control

-- The machine has this name, these counts and gates, and what the slots give besides.
pub record IsFinished (name : List ℕ) (c : Circuit) (counts : Counts) (gates : List Gate) (nexts : List ℕ) (is_valid hyp_gate duty_gate : ℕ) (m : Machine) : Type 0 where
  pub named : m.name ≡ name
  pub registers : m.registers ≡ counts.registers
  pub early : m.early ≡ counts.early
  pub control : m.control ≡ counts.control
  pub late : m.late ≡ counts.late
  pub widths : m.widths ≡ joined slot_widths c.slots.items
  pub prefer : m.prefer ≡ joined slot_prefer c.slots.items
  pub init : m.init ≡ joined slot_init c.slots.items
  pub gates_are : m.gates ≡ gates
  pub next : m.next ≡ nexts
  pub valid : m.valid ≡ is_valid
  pub hyp : m.hyp ≡ hyp_gate
  pub duty : m.duty ≡ duty_gate
