use Rattle.std.proofs.Common.{refl, ap, ◌∙◌}
use Rattle.hp_tree.specs.NodeView.{node_seen}
use Rattle.hp_expand.specs.Numbering.{numbered}
use Rattle.hp_expand.proofs.NumberingLaws.{node-numbered}
use Rattle.hp_expand.proofs.number.number_node.Goals as goal

pub returns : goal.returns
returns c =
    let observer = c.in_ok-contract.ensures in
    let body = c.in_ok-body.ensures in
    node-numbered (node_seen c.node.inside) _ c.new.result.items c.number_observer.new.numbers.layers.items c.number_observer.new.numbers.next c.new.ensures.items observer.layers observer.next
    c.in_ok-copy.ensures refl (c.in_ok-copy_decls.ensures ∙ c.deref.ensures.value) (c.in_ok-copy_decls-2.ensures ∙ c.deref-2.ensures.value) observer.contract body.block
    ∙ ap numbered c.node.view_is
