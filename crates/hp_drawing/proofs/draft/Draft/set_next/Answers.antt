use Rattle.std.proofs.Common.{◌≡◌, ◌<◌, ◌≤◌, length, ◌∙◌, arith}
use Rattle.hp_drawing.specs.Seen.{sketch_of}
use Rattle.hp_drawing.specs.Sketch.{set_next}
use Rattle.hp_drawing.proofs.NextLaws.{next-set, next-beyond}
use Rattle.hp_drawing.proofs.draft.Draft.set_next.Goals as goal

pub returns-then-slot-len : goal.returns-then-slot-len
unfolding sketch_of set_next
returns-then-slot-len c =
    let draft = c.args.self.now in
    let slots = draft.circuit.slots in
    let count : c.len.result ≡ length slots.items = c.len.ensures ∙ slots.ok.0 in
    let inside : c.args.slot < length slots.items = omega arith in
    λ j. record (sketch_of draft) { slots = next-set slots.items c.args.slot c.index-old.result.now c.with_next.result c.args.value inside c.index-old.ensures c.with_next.ensures j }

pub returns-else-slot-len : goal.returns-else-slot-len
unfolding sketch_of set_next
returns-else-slot-len c =
    let draft = c.args.self.now in
    let slots = draft.circuit.slots in
    let count : c.len.result ≡ length slots.items = c.len.ensures ∙ slots.ok.0 in
    let outside : length slots.items ≤ c.args.slot = omega arith in
    λ j. record (sketch_of draft) { slots = next-beyond slots.items c.args.slot c.args.value outside j }
