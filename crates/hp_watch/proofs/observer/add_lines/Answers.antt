use Rattle.std.proofs.Common.{◌≡◌, ◌++◌, map, ap, subst, ◌∙◌}
use Rattle.hp_tree.specs.BlockView.{eqn_seen}
use Rattle.hp_tree.specs.ContractView.{contract_seen}
use Rattle.hp_tree.specs.NodeView.{node_seen}
use Rattle.hp_tree.specs.Programs.{Contract, Node}
use Rattle.hp_watch.specs.Observing.{all_handed_on, lines_of}
use Rattle.hp_watch.proofs.ObserveLaws.{lines-added}
use Rattle.hp_watch.proofs.observer.add_lines.Goals as goal

pub returns : goal.returns
returns c =
    let k : Contract = contract_seen c.contract.inside in
    let n : Node = node_seen c.node.inside in
    let into = map eqn_seen c.args.eqns.now.items in
    let first = map eqn_seen c.add_eqn.new.eqns.items in
    let second = map eqn_seen c.add_eqn-2.new.eqns.items in
    let third = map eqn_seen c.add_handed_on.new.eqns.items in
    let handed : third ≡ second ++ all_handed_on 0 n.outputs = c.in_ok-add_handed_on.ensures ∙ ap (λ ds. second ++ all_handed_on 0 ds) c.deref.ensures.value in
    let all = lines-added into first second third (eqn_seen c.in_ok-assume.assume) (eqn_seen c.in_ok-enforce.enforce) n k c.in_ok-add_eqn.ensures c.in_ok-add_eqn-2.ensures handed c.in_ok-assume.ensures c.in_ok-enforce.ensures in
    subst (λ z. third ≡ into ++ lines_of c.args.node.now z) c.contract.view_is (subst (λ z. third ≡ into ++ lines_of z k) c.node.view_is all)
