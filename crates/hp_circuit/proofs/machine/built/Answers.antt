use Rattle.std.proofs.Common.{ℕ, List, map, ap, ap₂, ◌∙◌}
use Rattle.hp_circuit.specs.declared.circuit.Shape.{Shape}
use Rattle.hp_circuit.specs.Giving.{given_of, gate_of}
use Rattle.hp_circuit.proofs.TellingLaws.{abstraction_is}
use Rattle.hp_circuit.proofs.machine.built.Goals as goal

pub returns : goal.returns
returns c =
    let steered = c.args.steered.now in
    let wires = c.args.wires.now in
    let starts = c.in_ok-machine.starts.items in
    abstraction_is c.args.name.now c.args.circuit.now wires (record { machine = c.in_ok-machine.machine; given = c.in_ok-given.given; gates = c.in_ok-gates.gates }) steered starts c.in_ok-machine.ensures.machine
    (c.in_ok-given.ensures ∙ ap (given_of steered) c.deref.ensures.value)
    (c.in_ok-gates.ensures ∙ ap₂ (λ (shapes : List Shape) (ss : List ℕ). map (gate_of shapes ss) wires) c.deref-2.ensures.value c.deref-3.ensures.value)
    c.in_ok-machine.ensures.built
