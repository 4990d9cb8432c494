use Rattle.std.proofs.Common.{◌≡◌, ◌++◌, ◌∷◌, [], None, rules}
use Rattle.std.specs.Prelude.{IsTrue, is_some}
use Rattle.std.proofs.lemmas.Result.{on_ok_weaker}
use Rattle.hp_controlled.specs.Joining.AreOfNode.{own_alone}
use Rattle.hp_controlled.proofs.JoiningLaws.{between_them}
use Rattle.hp_controlled.proofs.joining.put_node.Goals as goal

pub returns-in_ok-put-in-None : goal.returns-in_ok-put-in-None
returns-in_ok-put-in-None c =
    let none : c.args.node.now.contract ≡ None = search rules in
    let put : c.put.new.all.items ≡ c.args.all.now.items ++ c.args.own ∷ [] = search rules in
    (c.args.own ∷ [], put, own_alone none)

pub returns-in-Some : goal.returns-in-Some
returns-in-Some c =
    let some : IsTrue (is_some c.args.node.now.contract) = search rules in
    on_ok_weaker c.put_between.result (λ put. between_them c.args.node.now c.args.own c.args.all.now.items c.put_between.new.all.items put some) c.put_between.ensures
