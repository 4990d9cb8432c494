use Rattle.std.proofs.Common.{◌+◌, drop, sym, ap, ◌∙◌}
use Rattle.hp_automata.specs.Lowering.{transition_locals}
use Rattle.hp_automata.specs.Lists.{with_more}
use Rattle.hp_automata.specs.Held.{frame_seen}
use Rattle.hp_automata.proofs.PartLaws.{transition-locals-next}
use Rattle.hp_automata.proofs.transitions.add_transition_locals.Goals as goal

pub loop-i-preserved : goal.loop-i-preserved
loop-i-preserved c =
    let f = frame_seen c.args.frame.now in
    let w = c.args.word in
    let k = c.args.state in
    let ts = c.args.transitions.now in
    let i = c.loop-i.i in
    ap (λ made. with_more made (transition_locals f w k (i + 1) (drop (i + 1) ts))) c.in_ok-add_transition_local.ensures
    ∙ sym (transition-locals-next f w k i c.index-transitions-i.result ts c.loop-i-test.true c.index-transitions-i.is c.loop-i.into.items)
    ∙ c.loop-i.invariant
