use Rattle.std.proofs.Common.{◌<◌, ◌∙◌, ◌++◌, ap, append_assoc, arith}
use Rattle.std.specs.Prelude.{decimal}
use Rattle.std.proofs.lemmas.Fmt.{decimal_digit}
use Rattle.std.proofs.lemmas.Result.{on_ok_weaker}
use Rattle.hp_driver.proofs.sweep.add_name.Goals as goal

pub returns : goal.returns
returns c =
    let old = c.args.text.now.items in
    let name = c.args.name.now in
    let task = c.args.task in
    let small : task < 10 = omega (arith, c.requires) in
    on_ok_weaker c.add_number.result (λ h. h ∙ ap (λ z. z ++ decimal task) c.in_ok-add.ensures ∙ append_assoc old name (decimal task) ∙ ap (λ z. old ++ (name ++ z)) (decimal_digit task small)) c.add_number.ensures
