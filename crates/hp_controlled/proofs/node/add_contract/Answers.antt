use Rattle.std.proofs.Common.{rules, [], ◌∷◌}
use Rattle.std.specs.Prelude.{IfErr}
use Rattle.std.proofs.lemmas.Result.{on_ok_weaker}
use Rattle.hp_watch.specs.Watching.{observers_seen}
use Rattle.hp_controlled.specs.Choosing.AreNodesOf.{with_contract}
use Rattle.hp_controlled.specs.Lacking.{LacksNodes, SaysNotBuilt}
use Rattle.hp_controlled.specs.Lacking.LacksMachines.{lacks_nodes, irregular}
use Rattle.hp_controlled.proofs.ChoosingLaws.{says_more}
use Rattle.hp_controlled.proofs.node.add_contract.Goals as goal

pub returns-in_err-nodes-clause-lacking : goal.returns-in_err-nodes-clause-lacking
returns-in_err-nodes-clause-lacking c =
    let said : IfErr c.from_residual.result (SaysNotBuilt (LacksNodes c.args.context.program.now c.args.context.types.now (observers_seen c.args.context.observers.now) c.args.node.now c.args.flat)) = search rules in
    says_more c.from_residual.result _ _ (λ lacks. lacks_nodes c.requires lacks) said

pub returns-clause-added : goal.returns-clause-added
returns-clause-added c =
    let nodes = c.in_ok-nodes.nodes in
    let are = with_contract nodes.controller nodes.own nodes.told c.requires c.in_ok-nodes.ensures.nodes in
    on_ok_weaker c.add_three.result (λ put. (nodes.controller ∷ nodes.own ∷ nodes.told ∷ [], put.0, put.1, are, put.2)) c.add_three.ensures.added

pub returns-clause-lacking : goal.returns-clause-lacking
returns-clause-lacking c =
    let nodes = c.in_ok-nodes.nodes in
    let are = with_contract nodes.controller nodes.own nodes.told c.requires c.in_ok-nodes.ensures.nodes in
    says_more c.add_three.result _ _ (λ not. irregular (nodes.controller ∷ nodes.own ∷ nodes.told ∷ []) are not) c.add_three.ensures.irregular
