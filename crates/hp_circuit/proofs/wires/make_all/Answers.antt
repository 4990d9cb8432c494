use Rattle.std.proofs.Common.{◌<◌, ℕ, List, ap, ◌∙◌, length, get_or, replicate, rules, refl, set, subst, sym}
use Rattle.std.specs.Prelude.{None, Option, Some}
use Rattle.hp_circuit.specs.Forms.{wire_at}
use Rattle.hp_circuit.specs.Making.{AtReads, IsMade, Makes}
use Rattle.hp_circuit.specs.Wiring.{wire_made, with_all}
use Rattle.hp_circuit.proofs.WiringLaws.{all_next, all_wired}
use Rattle.hp_circuit.proofs.MakingLaws.{stands_more, made_more, order_made, all_made}
use Rattle.hp_circuit.proofs.wires.make_all.Goals as goal

pub make-requires-clause-reads : goal.make-requires-clause-reads
make-requires-clause-reads c =
    let circuit = c.args.circuit.now in
    let order = c.args.order.now in
    let wire = (get_or order c.loop-i.i (0, 0)).1 in
    subst (λ (s : List (Option ℕ)). AtReads (IsMade s) (wire_at circuit.wires.items wire)) (sym c.deref.ensures.value)
    (order_made circuit.wires.items order c.loop-i.starts.items c.loop-i.i c.requires.order (search rules) c.loop-i.invariant.1)

pub loop-i-preserved : goal.loop-i-preserved
loop-i-preserved c =
    let circuit = c.args.circuit.now in
    let order = c.args.order.now in
    let wire = (get_or order c.loop-i.i (0, 0)).1 in
    let l : wire < length circuit.wires.items = c.requires.order.within c.loop-i.i (0, 0) (search rules) in
    let one = subst (λ (s : List (Option ℕ)). Makes circuit.slots.items circuit.wires.items circuit.shapes.items c.args.places.now s c.loop-i.gates.items c.make.new.gates.items wire c.in_ok-start.start) c.deref.ensures.value c.in_ok-start.ensures.makes in (
      stands_more circuit.slots.items circuit.wires.items circuit.shapes.items c.args.places.now c.loop-i.gates.items c.make.new.gates.items c.loop-i.starts.items wire c.in_ok-start.start l c.loop-i.invariant.0 one,
      made_more circuit.slots.items circuit.wires.items circuit.shapes.items c.args.places.now c.loop-i.gates.items c.make.new.gates.items c.loop-i.starts.items wire c.in_ok-start.start l c.loop-i.invariant.0 one order c.loop-i.i refl c.loop-i.invariant.1,
      all_next circuit.wires.items circuit.shapes.items c.args.places.now (record { gates = c.loop-i.gates.items; starts = c.loop-i.starts.items }) c.make.new.gates.items (set c.loop-i.starts.items wire (Some c.in_ok-start.start)) order c.loop-i.i c.in_ok-start.start (search rules)
          (c.in_ok-start.ensures.made ∙ ap (λ (s : List (Option ℕ)). wire_made circuit.wires.items circuit.shapes.items c.args.places.now (record { gates = c.loop-i.gates.items; starts = s }) wire) c.deref.ensures.value) refl
          ∙ c.loop-i.invariant.2,
    )

pub returns-clause-made : goal.returns-clause-made
returns-clause-made c =
    all_made c.args.circuit.now.wires.items c.args.order.now c.loop-i.starts.items c.loop-i.i c.requires.order (search rules) c.loop-i.invariant.1

pub returns-clause-wired : goal.returns-clause-wired
returns-clause-wired c =
    let circuit = c.args.circuit.now in
    all_wired circuit.wires.items circuit.shapes.items c.args.places.now (record { gates = c.loop-i.gates.items; starts = c.loop-i.starts.items })
    (with_all circuit.wires.items circuit.shapes.items c.args.places.now (record { gates = c.args.gates.now.items; starts = replicate (length circuit.wires.items) None }) c.args.order.now) c.args.order.now c.loop-i.i (search rules) c.loop-i.invariant.2
