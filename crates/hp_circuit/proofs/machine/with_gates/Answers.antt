use Rattle.std.proofs.Common.{◌≡◌, List, refl, ap, ap₂, ◌∙◌}
use Rattle.hp_boolx.specs.Search.{Bits}
use Rattle.hp_circuit.specs.declared.circuit.Shape.{Shape}
use Rattle.hp_circuit.specs.declared.circuit.Slot.{Slot}
use Rattle.hp_circuit.specs.Adding.{at}
use Rattle.hp_circuit.specs.Machines.{joined, all_valid}
use Rattle.hp_circuit.specs.Making.{place_at}
use Rattle.hp_circuit.specs.Placing.{slot_gates, start_number}
use Rattle.hp_circuit.specs.Wiring.{with_valid}
use Rattle.hp_circuit.proofs.EndLaws.{has_gates, meant_of, machine_is}
use Rattle.hp_circuit.proofs.PartLaws.{parts_of}
use Rattle.hp_circuit.proofs.TellingLaws.{tells_of}
use Rattle.hp_circuit.proofs.machine.with_gates.Goals as goal

pub finished-requires : goal.finished-requires
finished-requires c =
    let circuit = c.args.circuit.now in
    let starts = c.args.starts.now in
    parts_of circuit c.args.steered.now c.args.counts c.args.places.now starts c.args.gates.items c.valid_slots.new.gates.items c.in_ok-next.next.items c.in_ok-valid.valid (place_at starts circuit.hyp) (place_at starts circuit.duty)
    c.requires.circuit c.requires.counts c.requires.placed c.requires.wired c.in_ok-valid.ensures.adds (c.in_ok-next.ensures ∙ ap (joined (slot_gates starts)) c.deref-3.ensures.value) refl refl

pub returns-clause-machine : goal.returns-clause-machine
returns-clause-machine c =
    let circuit = c.args.circuit.now in
    let old = c.args.gates.items in
    let new = c.valid_slots.new.gates.items in
    let starts = c.args.starts.now in
    let valid = c.in_ok-valid.valid in
    let nexts = c.in_ok-next.next.items in
    let hyp = place_at starts circuit.hyp in
    let duty = place_at starts circuit.duty in
    let en : nexts ≡ joined (slot_gates starts) circuit.slots.items = c.in_ok-next.ensures ∙ ap (joined (slot_gates starts)) c.deref-3.ensures.value in
    let ev : (v : Bits) → at new v valid ≡ all_valid (start_number circuit.shapes.items old starts v) circuit.slots.items =
    λ v. c.in_ok-valid.ensures.adds.value v ∙ ap₂ (λ (shapes : List Shape) (slots : List Slot). all_valid (start_number shapes old starts v) slots) c.deref-2.ensures.value c.deref.ensures.value in
    machine_is c.args.name.now circuit c.requires.circuit c.args.steered.now c.requires.are_steered c.requires.assume c.requires.acyclic c.args.places.now c.args.counts new nexts valid hyp duty starts c.finished.result c.finished.ensures c.requires.counts c.requires.placed
    (meant_of circuit c.args.places.now starts old new c.requires.wired c.in_ok-valid.ensures.adds.keeps c.requires.circuit nexts valid hyp duty en refl refl ev)
    (tells_of circuit c.args.places.now starts old new c.requires.wired c.in_ok-valid.ensures.adds.keeps c.requires.circuit)

pub returns-clause-has : goal.returns-clause-has
returns-clause-has c =
    let circuit = c.args.circuit.now in
    let old = c.args.gates.items in
    let new = c.valid_slots.new.gates.items in
    let starts = c.args.starts.now in
    let hyp = place_at starts circuit.hyp in
    let duty = place_at starts circuit.duty in
    has_gates c.args.name.now circuit c.args.counts old new starts c.in_ok-next.next.items c.in_ok-valid.valid hyp duty c.finished.result c.finished.ensures
    (c.in_ok-valid.ensures.made ∙ ap (with_valid starts (old, 1)) c.deref.ensures.value) (c.in_ok-next.ensures ∙ ap (joined (slot_gates starts)) c.deref-3.ensures.value) refl refl
