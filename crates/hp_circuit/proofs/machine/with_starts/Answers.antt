use Rattle.std.proofs.Common.{◌≡◌, ◌<◌, ℕ, List, length, map, replicate, sym, ap, ap₂, subst, ◌∙◌, arith}
use Rattle.std.specs.Prelude.{None, Option, Some}
use Rattle.hp_boolx.specs.declared.gate.Gate.{Gate}
use Rattle.hp_circuit.specs.declared.circuit.Slot.{Slot}
use Rattle.hp_circuit.specs.Building.{HasGates, places_of}
use Rattle.hp_circuit.specs.Making.{or_zero, start_at, place_at, IsMade, ArePlaced, Stands}
use Rattle.hp_circuit.specs.Kinds.{place_of}
use Rattle.hp_circuit.specs.Placing.{AreWired}
use Rattle.hp_circuit.specs.Wiring.{Wired, starts_of, wired, with_all}
use Rattle.hp_circuit.proofs.EndLaws.{placed_all, wired_of}
use Rattle.hp_circuit.proofs.WiringLaws.{places_are}
use Rattle.hp_circuit.proofs.machine.with_starts.Goals as goal

pub make_all-requires-clause-placed : goal.make_all-requires-clause-placed
make_all-requires-clause-placed c =
    let circuit = c.args.circuit.now in
    let slots = circuit.slots.items in
    let steered = c.args.steered.now in
    let places = c.in_ok-places.places.items in
    let many : length places ≡ length slots = c.in_ok-places.ensures.many ∙ ap length c.deref.ensures.value in
    let each : (i : ℕ) → i < length slots → place_at places i ≡ place_of steered slots i =
    subst (λ (ss : List Slot). (i : ℕ) → i < length ss → place_at places i ≡ place_of steered ss i) c.deref.ensures.value c.in_ok-places.ensures.each in
    subst (λ (ps : List ℕ). ArePlaced slots circuit.wires.items circuit.shapes.items ps) (sym c.deref-2.ensures.value)
    (placed_all steered slots circuit.wires.items circuit.shapes.items c.args.counts places c.requires.counts many each)

pub with_gates-requires-clause-wired : goal.with_gates-requires-clause-wired
with_gates-requires-clause-wired c =
    let circuit = c.args.circuit.now in
    let slots = circuit.slots.items in
    let wires = circuit.wires.items in
    let shapes = circuit.shapes.items in
    let places = c.in_ok-places.places.items in
    let made = c.in_ok-made.made.items in
    let starts = c.in_ok-starts.starts.items in
    let gates = c.make_all.new.gates.items in
    let stands : Stands slots wires shapes places gates made =
    subst (λ (ps : List ℕ). Stands slots wires shapes ps gates made) c.deref-2.ensures.value c.in_ok-made.ensures.stands in
    let many : length starts ≡ length made = c.in_ok-starts.ensures.many ∙ ap length c.deref-3.ensures.value in
    let each : (w : ℕ) → w < length made → start_at made w ≡ Some (place_at starts w) =
    subst (λ (ms : List (Option ℕ)). (w : ℕ) → w < length ms → start_at ms w ≡ Some (place_at starts w)) c.deref-3.ensures.value c.in_ok-starts.ensures.each in
    subst (λ (ps : List ℕ). AreWired circuit ps c.deref-5.result.now gates) (sym c.deref-4.ensures.value)
    (subst (λ (ss : List ℕ). AreWired circuit places ss gates) (sym c.deref-5.ensures.value) (wired_of circuit places starts made gates c.requires.circuit stands many each))

pub all_starts-requires : goal.all_starts-requires
all_starts-requires c =
    let made = c.in_ok-made.made.items in
    let wires = c.args.circuit.now.wires.items in
    let many : length made ≡ length wires = c.in_ok-made.ensures.stands.many in
    subst (λ (ms : List (Option ℕ)). (w : ℕ) → w < length ms → IsMade ms w) (sym c.deref-3.ensures.value) (λ w l. c.in_ok-made.ensures.made w (omega (arith, l, many)))

pub returns-clause-built : goal.returns-clause-built
returns-clause-built c =
    let circuit = c.args.circuit.now in
    let slots = circuit.slots.items in
    let wires = circuit.wires.items in
    let shapes = circuit.shapes.items in
    let steered = c.args.steered.now in
    let order = c.args.order.now in
    let places = c.in_ok-places.places.items in
    let made = c.in_ok-made.made.items in
    let starts = c.in_ok-starts.starts.items in
    let gates = c.make_all.new.gates.items in
    let many : length places ≡ length slots = c.in_ok-places.ensures.many ∙ ap length c.deref.ensures.value in
    let each : (i : ℕ) → i < length slots → place_at places i ≡ place_of steered slots i =
    subst (λ (ss : List Slot). (i : ℕ) → i < length ss → place_at places i ≡ place_of steered ss i) c.deref.ensures.value c.in_ok-places.ensures.each in
    let all : ◌≡◌ {A = Wired} (record { gates = gates; starts = made }) (wired circuit (places_of steered slots) order) =
    c.in_ok-made.ensures.wired
    ∙ ap₂ (λ (ps : List ℕ) (gs : List Gate). with_all wires shapes ps (record { gates = gs; starts = replicate (length wires) None }) order) (c.deref-2.ensures.value ∙ places_are steered slots places many each) c.in_ok-gates.ensures.are in
    record {
      steered = steered;
      are_steered = c.requires.are_steered;
      order = order;
      by_level = c.requires.by_level;
      starts_are = c.in_ok-starts.ensures.are ∙ ap (map or_zero) c.deref-3.ensures.value ∙ ap starts_of all;
      has = subst (λ (w : Wired). HasGates circuit w.gates starts c.in_ok-machine.machine) all (subst (λ (ss : List ℕ). HasGates circuit gates ss c.in_ok-machine.machine) c.deref-5.ensures.value c.in_ok-machine.ensures.has);
    }
