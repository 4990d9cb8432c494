-- That a circuit determines its machine, gate by gate.
-- Source: own; what a compiler makes is a function of what it is given.
use Rattle.std.specs.Prelude.{ℕ, ◌≡◌, Bool, List, length, map}
use Rattle.std.specs.List.{range_with_len}
use Rattle.hp_boolx.specs.declared.gate.Gate.{Gate}
use Rattle.hp_boolx.specs.Machine.{Machine}
use Rattle.hp_circuit.specs.declared.circuit.Circuit.{Circuit}
use Rattle.hp_circuit.specs.declared.circuit.Slot.{Slot}
use Rattle.hp_circuit.specs.Kinds.{place_of}
use Rattle.hp_circuit.specs.Levels.{IsByLevel}
use Rattle.hp_circuit.specs.Machines.{joined}
use Rattle.hp_circuit.specs.Making.{place_at}
use Rattle.hp_circuit.specs.Placing.{slot_gates}
use Rattle.hp_circuit.specs.Reading.{AreSteered, edges_of}
use Rattle.hp_circuit.specs.Wiring.{starts_of, with_valid, wired}

-- the first variable of each slot
abbrev pub places_of : List Bool → List Slot → List ℕ
places_of steered slots = map (place_of steered slots) (range_with_len 0 (length slots))

-- The machine has the gates of all wires, and behind them those that say that codes are values; what registers hold next, the hypothesis and the duty are at the gates of their wires.
pub record HasGates (c : Circuit) (gates : List Gate) (starts : List ℕ) (m : Machine) : Type 0 where
  pub made : (m.gates, m.valid) ≡ with_valid starts (gates, 1) c.slots.items
  pub next : m.next ≡ joined (slot_gates starts) c.slots.items
  pub hyp : m.hyp ≡ place_at starts c.hyp
  pub duty : m.duty ≡ place_at starts c.duty

-- Wires get their gates by level, and these are their first ones.
pub record IsBuilt (c : Circuit) (starts : List ℕ) (m : Machine) : Type 0 where
  pub steered : List Bool
  pub are_steered : AreSteered c.slots.items (edges_of c.wires.items c.reads.items) steered
  pub order : List (ℕ × ℕ)
  pub by_level : IsByLevel (edges_of c.wires.items c.reads.items) (length c.wires.items) order
  pub starts_are : starts ≡ starts_of (wired c (places_of steered c.slots.items) order)
  pub has : HasGates c (wired c (places_of steered c.slots.items) order).gates starts m
