use Rattle.std.proofs.Common.{◌≡◌, ◌<◌, ◌∙◌, length, refl, rules, arith, subst}
use Rattle.hp_circuit.specs.Forms.{slot_at}
use Rattle.std.specs.Prelude.{List}
use Rattle.std.proofs.lemmas.List.{take_all}
use Rattle.hp_circuit.specs.declared.circuit.Slot.{Slot}
use Rattle.hp_circuit.specs.Adding.{Adds}
use Rattle.hp_circuit.specs.Making.{place_at}
use Rattle.hp_circuit.specs.Machines.{all_valid}
use Rattle.hp_circuit.specs.Placing.{start_number}
use Rattle.hp_circuit.specs.Wiring.{with_valid}
use Rattle.hp_circuit.proofs.EndLaws.{valid_more}
use Rattle.hp_circuit.proofs.WiringLaws.{all_valid_made, valid_next}
use Rattle.hp_circuit.proofs.validity.valid_slots.Goals as goal

pub loop-i-preserved : goal.loop-i-preserved
loop-i-preserved c =
    let i = c.loop-i.i in
    let slots = c.args.slots.now in
    let l : i < length slots = search rules in
    let k = c.requires.carried i l in (
      valid_more c.args.gates.now.items c.loop-i.gates.items c.valid_slot.new.gates.items c.and.new.gates.items slots c.args.shapes.now c.args.starts.now i c.loop-i.valid c.in_ok-one.one c.in_ok-valid.valid (place_at c.args.starts.now (slot_at slots i).wire) l c.requires.there k.0 k.1 refl c.loop-i.invariant.0 c.in_ok-one.ensures.adds c.in_ok-valid.ensures.adds,
      valid_next c.args.starts.now c.loop-i.gates.items c.valid_slot.new.gates.items c.and.new.gates.items c.loop-i.valid c.in_ok-one.one c.in_ok-valid.valid slots i l c.in_ok-one.ensures.made c.in_ok-valid.ensures.made ∙ c.loop-i.invariant.1,
    )

pub returns-clause-adds : goal.returns-clause-adds
returns-clause-adds c =
    let e : c.loop-i.i ≡ length c.args.slots.now = search rules in
    subst (λ (slots : List Slot). Adds 0 c.args.gates.now.items c.loop-i.gates.items c.loop-i.valid (λ v. all_valid (start_number c.args.shapes.now c.args.gates.now.items c.args.starts.now v) slots)) (take_all c.loop-i.i c.args.slots.now (omega (arith, e))) c.loop-i.invariant.0

pub returns-clause-made : goal.returns-clause-made
returns-clause-made c =
    all_valid_made c.args.starts.now (c.loop-i.gates.items, c.loop-i.valid) (with_valid c.args.starts.now (c.args.gates.now.items, 1) c.args.slots.now) c.args.slots.now c.loop-i.i (search rules) c.loop-i.invariant.1
