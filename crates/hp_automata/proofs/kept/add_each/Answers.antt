use Rattle.std.proofs.Common.{◌+◌, drop, map, sym, ap, ◌∙◌}
use Rattle.hp_tree.specs.BlockView.{eqn_seen}
use Rattle.hp_automata.specs.Lowering.{kept}
use Rattle.hp_automata.specs.Lists.{names_seen, with_more}
use Rattle.hp_automata.specs.Held.{said}
use Rattle.hp_automata.proofs.PartLaws.{kept-next}
use Rattle.hp_automata.proofs.kept.add_each.Goals as goal

pub loop-i-preserved : goal.loop-i-preserved
loop-i-preserved c =
    let to = said c.args.layers.now in
    let names = c.args.names.now in
    let i = c.loop-i.i in
    ap (λ made. with_more made (map (kept to c.args.span) (names_seen (drop (i + 1) names)))) c.in_ok-add_one.ensures
    ∙ sym (kept-next names i c.index-names-i.result c.loop-i-test.true c.index-names-i.is to c.args.span (map eqn_seen c.loop-i.into.items))
    ∙ c.loop-i.invariant
