use Rattle.std.proofs.Common.{◌≡◌, ◌-◌, drop, length, rules, take}
use Rattle.hp_controlled.proofs.JoiningLaws.{named_as}
use Rattle.hp_controlled.proofs.joining.is_named.Goals as goal

pub returns : goal.returns
returns c = λ t.
    let name = c.args.name.now in
    let count = length c.args.front.now in
    let front : take count name ≡ c.args.front.now = search rules in
    let end : take (length name - count) (drop count name) ≡ c.args.end.now = search rules in
    named_as name c.args.front.now c.args.end.now count front end
