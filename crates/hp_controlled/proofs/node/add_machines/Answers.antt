use Rattle.std.proofs.Common.{rules, ◌≡◌, [], ◌∷◌, None}
use Rattle.std.proofs.lemmas.Result.{on_ok_weaker}
use Rattle.hp_controlled.specs.Choosing.AreNodesOf.{without_contract}
use Rattle.hp_controlled.specs.Lacking.LacksMachines.{irregular}
use Rattle.hp_controlled.proofs.ChoosingLaws.{says_more}
use Rattle.hp_controlled.proofs.node.add_machines.Goals as goal

pub returns-in-None-clause-added : goal.returns-in-None-clause-added
returns-in-None-clause-added c =
    let none : c.args.node.now.contract ≡ None = search rules in
    on_ok_weaker c.add_machine.result (λ put. (c.args.flat ∷ [], put.0 ∷ [], put.1, without_contract none, put.2)) c.add_machine.ensures.added

pub returns-in-None-clause-lacking : goal.returns-in-None-clause-lacking
returns-in-None-clause-lacking c =
    let none : c.args.node.now.contract ≡ None = search rules in
    says_more c.add_machine.result _ _ (λ not. irregular (c.args.flat ∷ []) (without_contract none) (λ all. not all.0)) c.add_machine.ensures.irregular
