use Rattle.std.proofs.Common.{◌≡◌, ◌∙◌, ap, arith, rules, sym}
use Rattle.hp_tree.specs.Meaning.{node_among}
use Rattle.hp_driver.proofs.CertLaws.{next_named, here_named, none_named}
use Rattle.hp_driver.proofs.certificate.node_named.Goals as goal

pub returns-in-Some : goal.returns-in-Some
returns-in-Some c =
    let items = c.deref-item-items.result.now in
    let same : items ≡ c.args.program.now = search rules in
    ap (λ z. node_among z c.args.name.now) (sym same)
    ∙ here_named items c.loop-item.item-index c.args.name.now c.loop-item.invariant c.item-item.result c.loop-item-test.true c.item-item.is c.in-Some.node.now c.in-Some.ensures

pub loop-item-preserved : goal.loop-item-preserved
loop-item-preserved c =
    next_named c.deref-item-items.result.now c.loop-item.item-index c.args.name.now c.loop-item.invariant c.item-item.result c.loop-item-test.true c.item-item.is c.in_default.ensures

pub returns : goal.returns
returns c =
    let items = c.deref-item-items.result.now in
    let same : items ≡ c.args.program.now = search rules in
    let stop = c.loop-item-test.false in
    ap (λ z. node_among z c.args.name.now) (sym same) ∙ none_named items c.loop-item.item-index c.args.name.now c.loop-item.invariant (omega (arith, stop))
