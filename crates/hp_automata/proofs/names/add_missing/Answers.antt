use Rattle.std.proofs.Common.{◌+◌, drop, sym, ap, ◌∙◌}
use Rattle.hp_automata.specs.Names.{is_name, missing}
use Rattle.hp_automata.specs.Lists.{names_seen, with_more}
use Rattle.hp_automata.proofs.NameLaws.{missing-next}
use Rattle.hp_automata.proofs.names.add_missing.Goals as goal

pub loop-i-preserved : goal.loop-i-preserved
loop-i-preserved c =
    let names = c.args.names.now in
    let i = c.loop-i.i in
    let own = is_name (names_seen c.args.own.now.names.items) in
    ap (λ made. with_more made (missing own (names_seen (drop (i + 1) names)))) c.in_ok-add_if_missing.ensures
    ∙ sym (missing-next (names_seen c.loop-i.into.items) own names i c.index-names-i.result c.loop-i-test.true c.index-names-i.is)
    ∙ c.loop-i.invariant
