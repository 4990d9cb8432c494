-- A node has one abstraction, since its circuit has one machine.
use Rattle.std.proofs.Common.{◌≡◌, ℕ, List, sym, ap, ◌∙◌}
use Rattle.hp_circuit.specs.declared.circuit.Circuit.{Circuit}
use Rattle.hp_circuit.specs.Giving.{gate_of}
use Rattle.hp_circuit.specs.One.{AreAlike, OneMachineLaw}
use Rattle.hp_drawing.specs.DrawnNodes.{drawn_node}
use Rattle.hp_drawing.specs.Seen.{IsOf}
use Rattle.hp_drawing.specs.Sketch.{Sketch}
use Rattle.hp_drawing.specs.Told.{told_of}
use Rattle.hp_abstract.specs.Abstractions.{OneAbstractionLaw}
use Rattle.hp_abstract.specs.Enforced.{enforced}

alike : (c d : Circuit) (s : Sketch) → IsOf c s → IsOf d s → AreAlike c d
alike c d s h g = record {
  wires = h.wires ∙ sym g.wires;
  shapes = h.shapes ∙ sym g.shapes;
  slots = h.slots ∙ sym g.slots;
  reads = h.reads ∙ sym g.reads;
  hyp = h.hyp ∙ sym g.hyp;
  duty = h.duty ∙ sym g.duty;
}

pub one_abstraction : OneMachineLaw → OneAbstractionLaw
one_abstraction one program n a b h g =
    let same = alike h.drawn g.drawn (drawn_node (told_of program) n) h.is_drawn g.is_drawn in
    let both = one n.name h.drawn g.drawn h.starts g.starts a.machine b.machine same h.is_machine g.is_machine h.built g.built in
    let assume : h.drawn.assume ≡ g.drawn.assume = h.is_drawn.assume ∙ sym g.is_drawn.assume in
    let starts : h.starts ≡ g.starts = both.2 in
    record {
      machine = both.0;
      given = h.given ∙ both.1 ∙ sym g.given;
      assume = h.tells_assume ∙ (λ i. gate_of (same.shapes i) (starts i) (assume i)) ∙ sym g.tells_assume;
      enforce = h.tells_enforce ∙ (λ i. gate_of (same.shapes i) (starts i) (enforced (told_of program) n)) ∙ sym g.tells_enforce;
    }
