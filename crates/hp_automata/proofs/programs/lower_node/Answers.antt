use Rattle.std.proofs.Common.{refl, sym, ap, ◌∙◌}
use Rattle.hp_tree.specs.NodeView.{node_seen}
use Rattle.hp_automata.specs.Lowering.{lowered_node, types_of}
use Rattle.hp_automata.proofs.ProgramLaws.{node-made}
use Rattle.hp_automata.proofs.programs.lower_node.Goals as goal

pub returns : goal.returns
returns c =
    let enums = c.args.enums.now in
    let around = c.in_ok-around.ensures in
    let observer = c.in_ok-contract.ensures in
    node-made enums (node_seen c.node.inside) _ c.in_ok-around.around.layers.items c.lower_observer.new.around.layers.items c.in_ok-around.around.types c.lower_observer.new.around.types
    around.layers (around.types ∙ ap types_of (sym c.node.view_is)) observer.layers observer.types
    c.in_ok-copy.ensures refl (c.in_ok-copy_decls.ensures ∙ c.deref.ensures.value) (c.in_ok-copy_decls-2.ensures ∙ c.deref-2.ensures.value) observer.contract c.in_ok-body.ensures.block
    ∙ ap (lowered_node enums) c.node.view_is
