use Rattle.std.proofs.Common.{◌≡◌, rules, map, take, [], ◌∷◌}
use Rattle.std.proofs.lemmas.Result.{IfOk-weaker}
use Rattle.std.specs.String.{string_bytes}
use Rattle.hp_driver.proofs.CallLaws.{three_of}
use Rattle.hp_driver.proofs.words.command_with_three.Goals as goal

pub returns : goal.returns
returns c =
    let words = map string_bytes c.args.words.now in
    let named : take 1 words ≡ c.args.name.now ∷ [] = search rules in
    IfOk-weaker c.three_arguments.result _ _ (λ found is. three_of words c.args.name.now named found is) c.three_arguments.ensures
