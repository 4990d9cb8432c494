-- What is seen of a draft.
use Rattle.std.specs.Prelude.{◌≡◌}
use Rattle.hp_circuit.specs.declared.circuit.Circuit.{Circuit}
use Rattle.hp_drawing.specs.declared.draft.Draft.{Draft}
use Rattle.hp_drawing.specs.Sketch.{Sketch}

-- its lists
unfoldable pub sketch_of : Draft → Sketch
sketch_of d =
    record {
      wires = d.circuit.wires.items;
      shapes = d.circuit.shapes.items;
      slots = d.circuit.slots.items;
      reads = d.circuit.reads.items;
      clocks = d.clocks.items;
      assume = d.circuit.assume;
      hyp = d.circuit.hyp;
      duty = d.circuit.duty;
    }

-- a circuit has the lists of a sketch
pub record IsOf (c : Circuit) (s : Sketch) : Type 0 where
  pub wires : c.wires.items ≡ s.wires
  pub shapes : c.shapes.items ≡ s.shapes
  pub slots : c.slots.items ≡ s.slots
  pub reads : c.reads.items ≡ s.reads
  pub assume : c.assume ≡ s.assume
  pub hyp : c.hyp ≡ s.hyp
  pub duty : c.duty ≡ s.duty
