use Rattle.std.proofs.Common.{◌≡◌, ◌++◌, map, ap, ◌∙◌}
use Rattle.hp_tree.specs.Blocks.{block, eqns_of}
use Rattle.hp_tree.specs.BlockView.{eqn_seen}
use Rattle.hp_tree.specs.ContractView.{contract_seen}
use Rattle.hp_tree.specs.NodeView.{node_seen}
use Rattle.hp_tree.specs.Programs.{Contract, Node}
use Rattle.hp_watch.specs.Observing.{lines_of, with_lines}
use Rattle.hp_watch.proofs.ObserveLaws.{lined}
use Rattle.hp_watch.proofs.observer.body_of.Goals as goal

pub returns : goal.returns
returns c =
    let old = c.locals.inside in
    let k : Contract = contract_seen c.contract.inside in
    let n : Node = node_seen c.node.inside in
    let lines = lines_of c.args.node.now c.args.contract.now in
    let whole : block old.locals.items (eqns_of (map eqn_seen old.eqns.items)) ≡ k.body = c.locals.view_is ∙ c.in_ok-locals.ensures in
    let decls : c.add_decls.new.into.items ≡ old.locals.items ++ n.outputs = c.in_ok-add_decls.ensures ∙ ap (λ z. old.locals.items ++ z) c.deref.ensures.value in
    (λ j. block (decls j) (eqns_of (c.in_ok-add_lines.ensures j)))
    ∙ lined k.body old.locals.items n.outputs (map eqn_seen old.eqns.items) lines whole
    ∙ ap (λ z. with_lines z.body n.outputs lines) c.contract.view_is
    ∙ ap (λ z. with_lines c.args.contract.now.body z.outputs lines) c.node.view_is
