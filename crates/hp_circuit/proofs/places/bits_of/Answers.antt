use Rattle.std.proofs.Common.{◌≡◌, ◌<◌, ◌+◌, length, ap, ap₂, sym, ◌∙◌, arith, rules}
use Rattle.hp_base.specs.Limits.{most}
use Rattle.hp_circuit.specs.Forms.{slot_at}
use Rattle.hp_circuit.specs.Kinds.{own, bits_of}
use Rattle.hp_circuit.proofs.KindLaws.{own_width, bits_more, bits_within}
use Rattle.hp_circuit.proofs.places.bits_of.Goals as goal

pub loop-i-preserved : goal.loop-i-preserved
loop-i-preserved c =
    let slot = slot_at c.args.slots.now c.loop-i.i in
    let e : c.own.result ≡ own_width c.args.steered.now c.args.kind slot = c.own.ensures ∙ ap₂ (λ k n. own c.args.kind k n) c.kind_of.ensures c.shape_width.ensures.is in
    let l : c.loop-i.i < length c.args.slots.now = search rules in
    let m = bits_more c.args.steered.now c.args.kind c.args.slots.now c.loop-i.i l in
    (omega (arith, e, m, c.loop-i.invariant.0), omega arith)

pub returns-then-count-most-clause-over : goal.returns-then-count-most-clause-over
returns-then-count-most-clause-over c =
    let steered = c.args.steered.now in
    let kind = c.args.kind in
    let slots = c.args.slots.now in
    let i = c.loop-i.i in
    let e : c.own.result ≡ own_width steered kind (slot_at slots i) = c.own.ensures ∙ ap₂ (λ k n. own kind k n) c.kind_of.ensures c.shape_width.ensures.is in
    let l : i < length slots = search rules in
    let m = bits_more steered kind slots i l in
    let w = bits_within steered kind slots (i + 1) in
    let is : c.most_of-most.result ≡ most c.what_of.result = c.most_of-most.ensures.is ∙ ap most (sym c.what_of.ensures) in
    let over : c.most_of-most.result < bits_of steered kind slots = omega (arith, e, m, w, c.loop-i.invariant.0, c.if-count-most.true) in
    record { limited = c.what_of.ensures; found = ap (λ n. n + 1) is; over = omega (arith, is, over) }
