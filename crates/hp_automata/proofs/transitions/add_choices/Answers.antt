use Rattle.std.proofs.Common.{◌+◌, length, drop, map, sym, ap, ◌∙◌}
use Rattle.hp_tree.specs.BlockView.{eqn_seen}
use Rattle.hp_automata.specs.Lowering.{choices}
use Rattle.hp_automata.specs.Lists.{with_more}
use Rattle.hp_automata.specs.Held.{frame_seen, said}
use Rattle.hp_automata.proofs.PartLaws.{choices-next}
use Rattle.hp_automata.proofs.transitions.add_choices.Goals as goal

pub loop-i-preserved : goal.loop-i-preserved
loop-i-preserved c =
    let f = frame_seen c.args.frame.now in
    let to = said c.args.layers.now in
    let w = c.args.chain.word in
    let k = c.args.chain.state in
    let ts = c.args.chain.transitions.now in
    let end = c.args.chain.end.now in
    let i = c.loop-i.i in
    ap (λ made. with_more made (choices to f w k (length ts) end (i + 1) (drop (i + 1) ts))) c.in_ok-add_choice.ensures
    ∙ sym (choices-next f w k i c.index-transitions-i.result ts c.loop-i-test.true c.index-transitions-i.is to (length ts) end (map eqn_seen c.loop-i.into.items))
    ∙ c.loop-i.invariant
