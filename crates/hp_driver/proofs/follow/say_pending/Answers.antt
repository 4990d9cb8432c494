use Rattle.std.proofs.Common.{take, drop}
use Rattle.std.proofs.lemmas.List.{take-append-drop}
use Rattle.std.proofs.Common.{◌∙◌}
use Rattle.hp_driver.proofs.follow.say_pending.Goals as goal

pub returns-in-Err-clause-out : goal.returns-in-Err-clause-out
returns-in-Err-clause-out g c =
    let e = c.in-Err.ensures.err in
    let text = c.as_slice.result.now in
    (take e.0 text, e.2, (drop e.0 text, take-append-drop e.0 text ∙ c.as_slice.ensures.value))
