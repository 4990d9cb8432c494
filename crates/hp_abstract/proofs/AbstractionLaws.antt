-- What a compiler of controllers needs, from the machine of the circuit that is drawn.
use Rattle.std.proofs.Common.{◌≡◌, ◌<◌, ℕ, List, [], ◌∷◌, length, ap, sym, subst, ◌∙◌, arith}
use Rattle.std.specs.Prelude.{slice_index_or}
use Rattle.std.proofs.lemmas.List.{get_or_default}
use Rattle.hp_tree.specs.declared.program.Item.{Item}
use Rattle.hp_tree.specs.Programs.{Node}
use Rattle.hp_circuit.specs.declared.abstraction.Abstraction as made
use Rattle.hp_circuit.specs.declared.circuit.Circuit.{Circuit}
use Rattle.hp_circuit.specs.Giving as circuit
use Rattle.hp_drawing.specs.DrawnNodes.{drawn_node}
use Rattle.hp_drawing.specs.Seen.{IsOf}
use Rattle.hp_drawing.specs.Told.{told_of}
use Rattle.hp_abstract.specs.declared.abstracted.Abstraction.{Abstraction}
use Rattle.hp_abstract.specs.Abstractions.{IsAbstractionOf}
use Rattle.hp_abstract.specs.Enforced.{enforced}
use Rattle.hp_abstract.proofs.MachineLaws.{is_machine}

-- reading a list where it has an element
gate_at : (gates : List ℕ) (i gate : ℕ) → i < length gates → gate ≡ slice_index_or gates i gate → slice_index_or gates i 0 ≡ gate
gate_at gates i gate l e = get_or_default gates i 0 gate l ∙ sym e

pub abstraction_is : (program : List Item) (n : Node) (c : Circuit) (wire assume enforce : ℕ) (m : made.Abstraction) → IsOf c (drawn_node (told_of program) n) → wire ≡ enforced (told_of program) n
    → circuit.IsAbstractionOf n.name c (c.assume ∷ wire ∷ []) m → assume ≡ slice_index_or m.gates.items 0 assume → enforce ≡ slice_index_or m.gates.items 1 enforce
    → IsAbstractionOf program n (record { machine = m.machine; given = m.given; assume = assume; enforce = enforce })
abstraction_is program n c wire assume enforce m is e of ea ee =
    let many = of.many in
    record {
      machine = is_machine program n c m.machine of.machine is;
      drawn = c;
      is_drawn = is;
      is_machine = of.machine;
      given = of.given;
      assume = subst (circuit.IsGateOf c of.machine.places m.machine.gates c.assume) (gate_at m.gates.items 0 assume (omega (arith, many)) ea) (of.gates 0 (omega arith));
      enforce =
          subst (λ w. circuit.IsGateOf c of.machine.places m.machine.gates w enforce) e
          (subst (circuit.IsGateOf c of.machine.places m.machine.gates wire) (gate_at m.gates.items 1 enforce (omega (arith, many)) ee) (of.gates 1 (omega arith)));
      starts = of.starts;
      built = of.built;
      tells_assume = sym (gate_at m.gates.items 0 assume (omega (arith, many)) ea) ∙ ap (λ (gs : List ℕ). slice_index_or gs 0 0) of.tell;
      tells_enforce =
          sym (gate_at m.gates.items 1 enforce (omega (arith, many)) ee) ∙ ap (λ (gs : List ℕ). slice_index_or gs 1 0) of.tell ∙ ap (circuit.gate_of c.shapes.items of.starts) e;
    }
