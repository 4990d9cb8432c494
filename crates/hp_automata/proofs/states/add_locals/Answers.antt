use Rattle.std.proofs.Common.{◌+◌, drop, map, sym, ap, ◌∙◌}
use Rattle.hp_tree.specs.Blocks.{states_of}
use Rattle.hp_tree.specs.BlockView.{state_seen}
use Rattle.hp_automata.specs.Lowering.{state_locals, locals_from}
use Rattle.hp_automata.specs.Lists.{with_more}
use Rattle.hp_automata.specs.Held.{frame_seen}
use Rattle.hp_automata.proofs.PartLaws.{locals-next}
use Rattle.hp_automata.proofs.states.add_locals.Goals as goal

pub loop-i-preserved : goal.loop-i-preserved
loop-i-preserved c =
    let f = frame_seen c.args.frame.now in
    let types = c.args.types.now in
    let qs = c.args.states.now in
    let i = c.loop-i.i in
    ap (λ made. with_more made (locals_from types f (i + 1) (states_of (map state_seen (drop (i + 1) qs)))))
    (c.in_ok-add_state_locals.ensures ∙ ap (λ ts. with_more c.loop-i.into.items (state_locals types f i ts)) c.deref.ensures.value)
    ∙ sym (locals-next qs i c.index-states-i.result c.loop-i-test.true c.index-states-i.is types f c.loop-i.into.items)
    ∙ c.loop-i.invariant
