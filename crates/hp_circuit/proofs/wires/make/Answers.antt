use Rattle.std.proofs.Common.{◌≡◌, ◌<◌, length, ap, sym, subst, ◌∙◌, arith}
use Rattle.hp_circuit.specs.declared.circuit.Shape.TheVariants.{Mark}
use Rattle.hp_circuit.specs.declared.circuit.Wire.TheVariants.{Constant}
use Rattle.hp_circuit.specs.Forms.{shape_at, wire_at}
use Rattle.hp_circuit.specs.Shapes.{shape_width}
use Rattle.hp_circuit.specs.Making.{AtReads, IsMade, compared_width}
use Rattle.hp_circuit.proofs.MakingLaws.{read, placed_there, makes}
use Rattle.hp_circuit.proofs.WiringLaws.{wire_is}
use Rattle.hp_circuit.proofs.wires.make.Goals as goal

pub make_placed-requires-clause-there : goal.make_placed-requires-clause-there
make_placed-requires-clause-there c =
    let circuit = c.args.circuit.now in
    let i = c.args.index in
    let wire = c.index-wire.result.now in
    let l : i < length circuit.shapes.items = omega (arith, c.requires.shapes, c.requires.index) in
    let ew : wire ≡ wire_at circuit.wires.items i = read circuit.wires.items i wire (Constant 0) c.index-wire.ensures c.requires.index in
    let ewidth : c.shape_width-width.result ≡ shape_width (shape_at circuit.shapes.items i) = c.shape_width-width.ensures.is ∙ ap shape_width (read circuit.shapes.items i c.index.result.now Mark c.index.ensures l) in
    let emany : c.compared_width-many.result ≡ compared_width circuit.shapes.items wire = c.compared_width-many.ensures.is ∙ ap (λ s. compared_width s wire) c.deref.ensures.value in
    let made : AtReads (IsMade c.args.starts.now) wire = subst (AtReads (IsMade c.args.starts.now)) (sym ew) c.requires.reads in
    placed_there circuit.slots.items circuit.wires.items circuit.shapes.items c.args.places.now c.args.gates.now.items c.args.starts.now i c.shape_width-width.result c.compared_width-many.result wire c.placed-placed.result
    c.requires.wires c.requires.shapes c.requires.index c.requires.stands c.requires.placed ew ewidth emany c.compared_width-many.ensures.within c.placed-placed.ensures made

pub returns-clause-makes : goal.returns-clause-makes
returns-clause-makes c =
    let circuit = c.args.circuit.now in
    let i = c.args.index in
    let wire = c.index-wire.result.now in
    let l : i < length circuit.shapes.items = omega (arith, c.requires.shapes, c.requires.index) in
    let ew : wire ≡ wire_at circuit.wires.items i = read circuit.wires.items i wire (Constant 0) c.index-wire.ensures c.requires.index in
    let ewidth : c.shape_width-width.result ≡ shape_width (shape_at circuit.shapes.items i) = c.shape_width-width.ensures.is ∙ ap shape_width (read circuit.shapes.items i c.index.result.now Mark c.index.ensures l) in
    let emany : c.compared_width-many.result ≡ compared_width circuit.shapes.items wire = c.compared_width-many.ensures.is ∙ ap (λ s. compared_width s wire) c.deref.ensures.value in
    let made : AtReads (IsMade c.args.starts.now) wire = subst (AtReads (IsMade c.args.starts.now)) (sym ew) c.requires.reads in
    makes circuit.slots.items circuit.wires.items circuit.shapes.items c.args.places.now c.args.gates.now.items c.make_placed.new.gates.items c.args.starts.now i c.in_ok-start.start c.shape_width-width.result c.compared_width-many.result wire c.placed-placed.result
    c.requires.wires c.requires.shapes c.requires.index c.requires.stands.first ew ewidth emany c.placed-placed.ensures made c.in_ok-start.ensures.adds

pub returns-clause-made : goal.returns-clause-made
returns-clause-made c =
    let circuit = c.args.circuit.now in
    let i = c.args.index in
    let wire = c.index-wire.result.now in
    let l : i < length circuit.shapes.items = omega (arith, c.requires.shapes, c.requires.index) in
    let ew : wire ≡ wire_at circuit.wires.items i = read circuit.wires.items i wire (Constant 0) c.index-wire.ensures c.requires.index in
    let ewidth : c.shape_width-width.result ≡ shape_width (shape_at circuit.shapes.items i) = c.shape_width-width.ensures.is ∙ ap shape_width (read circuit.shapes.items i c.index.result.now Mark c.index.ensures l) in
    let emany : c.compared_width-many.result ≡ compared_width circuit.shapes.items wire = c.compared_width-many.ensures.is ∙ ap (λ s. compared_width s wire) c.deref.ensures.value in
    c.in_ok-start.ensures.made
    ∙ wire_is circuit.wires.items circuit.shapes.items c.args.places.now c.args.gates.now.items c.args.starts.now i c.shape_width-width.result c.compared_width-many.result wire c.placed-placed.result ew ewidth emany c.placed-placed.ensures
