use Rattle.std.proofs.Common.{◌≡◌, ◌++◌, rules, codes, IsTrue, None, is_some}
use Rattle.hp_driver.specs.Status.{code_of}
use Rattle.hp_driver.proofs.ChoosingLaws.{chosen_there, contract_told, plain_told, told_there}
use Rattle.hp_driver.proofs.choosing.tell_node.Goals as goal

pub tell_chosen-requires-clause-there : goal.tell_chosen-requires-clause-there
tell_chosen-requires-clause-there g c = chosen_there c.args.machines.now c.args.name.now c.args.node.now c.requires.own

pub returns-in-None-clause-outcome : goal.returns-in-None-clause-outcome
returns-in-None-clause-outcome g c =
    let ran = c.tell_chosen.ensures.outcome in
    let n = c.args.node.now in
    let none : n.contract ≡ None = search rules in
    (ran.0, ran.1, ran.2, ran.3, ran.4, plain_told c.args.machines.now n c.args.name.now ran.0 ran.1 (code_of c.tell_chosen.result) none c.requires.own ran.5)

pub tell_contract-requires-clause-there : goal.tell_contract-requires-clause-there
tell_contract-requires-clause-there g c =
    let n = c.args.node.now in
    let some : IsTrue (is_some n.contract) = search rules in
    told_there c.args.machines.now (c.args.name.now ++ codes "$contract") n (c.requires.told some)

pub returns-in-Some-clause-outcome : goal.returns-in-Some-clause-outcome
returns-in-Some-clause-outcome g c =
    let ran = c.tell_contract.ensures.outcome in
    let n = c.args.node.now in
    let some : IsTrue (is_some n.contract) = search rules in
    (ran.0, ran.1, ran.2, ran.3, ran.4, contract_told c.args.machines.now n c.args.name.now ran.0 ran.1 (code_of c.tell_contract.result) some (c.requires.told some) ran.5)
