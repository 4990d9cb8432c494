use Rattle.std.proofs.Common.{◌<◌, length, rules}
use Rattle.hp_circuit.proofs.KindLaws.{give_within, give_more}
use Rattle.hp_circuit.proofs.places.places_of.Goals as goal

pub give-requires : goal.give-requires
give-requires c =
    let l : c.loop-i.i < length c.args.slots.now = search rules in
    give_within c.args.steered.now c.args.slots.now c.args.counts c.requires.counts c.loop-i.i c.loop-i.next c.loop-i.places.items c.kind_of.result c.shape_width-width.result l c.loop-i.invariant c.kind_of.ensures c.shape_width-width.ensures.is

pub loop-i-preserved : goal.loop-i-preserved
loop-i-preserved c =
    let l : c.loop-i.i < length c.args.slots.now = search rules in
    give_more c.args.steered.now c.args.slots.now c.loop-i.i c.loop-i.next c.give.new.next c.loop-i.places.items c.push.new.self.items c.kind_of.result c.shape_width-width.result c.give.result l c.loop-i.invariant c.kind_of.ensures c.shape_width-width.ensures.is c.give.ensures.first c.give.ensures.moved c.in_ok-push.ensures.items
