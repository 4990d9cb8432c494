-- Gates that tell what wires hold.
use Rattle.std.proofs.Common.{◌≡◌, ◌≤◌, ◌<◌, ℕ, ◌+◌, List, length, map, refl, sym, ap, subst, ◌∙◌, arith}
use Rattle.std.specs.Prelude.{Bool, nat_le, slice_index_or}
use Rattle.std.proofs.lemmas.List.{get_or_past, get_or-map, length-map}
use Rattle.hp_boolx.specs.declared.gate.Gate.{Gate}
use Rattle.hp_circuit.specs.declared.abstraction.Abstraction.{Abstraction}
use Rattle.hp_circuit.specs.declared.circuit.Circuit.{Circuit}
use Rattle.hp_circuit.specs.declared.circuit.Shape.{Shape}
use Rattle.hp_circuit.specs.declared.circuit.Shape.TheVariants.{Truth, Cons, Mark}
use Rattle.hp_circuit.specs.Shapes.{shape_width}
use Rattle.hp_circuit.specs.Forms.{shape_at, IsCircuit}
use Rattle.hp_circuit.specs.Meaning.{holds}
use Rattle.hp_circuit.specs.Adding.{at, Keeps}
use Rattle.hp_circuit.specs.Building.{IsBuilt}
use Rattle.hp_circuit.specs.Making.{place_at}
use Rattle.hp_circuit.specs.Placing.{AreWired}
use Rattle.hp_circuit.specs.Giving.{given_of, truth_gate, gate_of, IsGateOf, IsAbstractionOf}
use Rattle.hp_circuit.specs.Telling.{IsWiredMachine}
use Rattle.hp_circuit.proofs.NumberLaws.{tests, le_true, le_false}
use Rattle.hp_circuit.proofs.EndLaws.{truth_at}

truth_there : (start count : ℕ) (real : Shape) → 0 < count → (real ≡ Truth → start < count) → (s : Shape) → real ≡ s → truth_gate s start < count
truth_there start count real some there Truth e = there e
truth_there start count real some there (Cons n) e = some
truth_there start count real some there Mark e = some

-- ---- the gates of wires, where some more are made

module _ (c : Circuit) (places starts : List ℕ) (old new : List Gate) (wired : AreWired c places starts old) (keeps : Keeps old new) (is : IsCircuit c) where
  start_there : (w : ℕ) → shape_at c.shapes.items w ≡ Truth → place_at starts w < length new
  start_there w e =
      let two : 2 ≤ length old = wired.first.two in
      let longer : length old ≤ length new = keeps.longer in
      let one : shape_width (shape_at c.shapes.items w) ≡ 1 = ap shape_width e in
      tests (nat_le (length starts) w)
      (λ t.
      let none : place_at starts w ≡ 0 = get_or_past starts w 0 (le_true (length starts) w t) in
      omega (arith, two, longer, none))
      (λ f.
      let there : place_at starts w + shape_width (shape_at c.shapes.items w) ≤ length old = wired.there w (le_false (length starts) w f) in
      omega (arith, there, longer, one))

  pub tells_of : (w : ℕ) → IsGateOf c places new w (gate_of c.shapes.items starts w)
  tells_of w = record {
    there =
        let two : 2 ≤ length old = wired.first.two in
        let longer : length old ≤ length new = keeps.longer in
        truth_there (place_at starts w) (length new) (shape_at c.shapes.items w) (omega (arith, two, longer)) (start_there w) (shape_at c.shapes.items w) refl;
    value = λ carried v numbers solves.
        let e = is.shapes in
        ap (λ (s : Shape). at new v (truth_gate s (place_at starts w))) carried.1
        ∙ truth_at c places starts old new wired keeps is v w carried
        ∙ ap holds (sym (wired.only v numbers solves w (omega (arith, carried.0, e))));
  }

-- ---- the machine with what is given

pub abstraction_is : (name : List ℕ) (c : Circuit) (wires : List ℕ) (a : Abstraction) (steered : List Bool) (starts : List ℕ) → IsWiredMachine name c steered starts a.machine
    → a.given.items ≡ given_of steered c.slots.items → a.gates.items ≡ map (gate_of c.shapes.items starts) wires → IsBuilt c starts a.machine → IsAbstractionOf name c wires a
abstraction_is name c wires a steered starts wired given gates built = record {
  machine = wired.machine;
  given = given ∙ ap (λ (bs : List Bool). given_of bs c.slots.items) (sym wired.are_steered);
  many = ap length gates ∙ length-map wires (gate_of c.shapes.items starts);
  gates = λ i l.
      subst (IsGateOf c wired.machine.places a.machine.gates (slice_index_or wires i 0))
      (sym (ap (λ (gs : List ℕ). slice_index_or gs i 0) gates ∙ get_or-map (gate_of c.shapes.items starts) wires i 0 0 l))
      (wired.tells (slice_index_or wires i 0));
  starts = starts;
  built = built;
  tell = gates;
}
