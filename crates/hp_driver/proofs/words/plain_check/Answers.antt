use Rattle.std.proofs.Common.{◌≡◌, rules, map, take, [], ◌∷◌, codes}
use Rattle.std.proofs.lemmas.Result.{IfOk-weaker}
use Rattle.std.specs.String.{string_bytes}
use Rattle.hp_driver.proofs.CallLaws.{one_of}
use Rattle.hp_driver.proofs.words.plain_check.Goals as goal

pub returns : goal.returns
returns c =
    let words = map string_bytes c.args.words.now in
    let named : take 1 words ≡ codes "check" ∷ [] = search rules in
    IfOk-weaker c.one_argument.result _ _ (λ found is. one_of words named found is) c.one_argument.ensures
