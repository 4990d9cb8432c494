-- Parts as a machine, of which nothing is known.
use Rattle.std.specs.Prelude.{◌≡◌, ◌<◌, length}
use Rattle.hp_boolx.specs.declared.checked.Parts.{Parts}
use Rattle.hp_boolx.specs.Machine.{Machine}

abbrev pub parts_seen : Parts → Machine
parts_seen m = record {
  name = m.name;
  registers = m.counts.registers;
  early = m.counts.early;
  control = m.counts.control;
  late = m.counts.late;
  widths = m.widths.items;
  prefer = m.prefer.items;
  gates = m.gates.items;
  init = m.init.items;
  next = m.next.items;
  valid = m.valid;
  hyp = m.hyp;
  duty = m.duty;
}

-- each list has the length that is said of it, and each number names a gate
pub record HasLengths (m : Machine) : Type 0 where
  pub init : length m.init ≡ m.registers
  pub next : length m.next ≡ m.registers
  pub prefer : length m.prefer ≡ m.control
  pub valid : m.valid < length m.gates
  pub hyp : m.hyp < length m.gates
  pub duty : m.duty < length m.gates
