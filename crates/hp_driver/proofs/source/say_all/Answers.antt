use Rattle.std.proofs.Common.{take, drop}
use Rattle.std.proofs.lemmas.List.{take-append-drop}
use Rattle.hp_driver.specs.Follows.{Accepts}
use Rattle.hp_driver.proofs.source.say_all.Goals as goal

pub returns-in-Ok-clause-accepts : goal.returns-in-Ok-clause-accepts
returns-in-Ok-clause-accepts g c = (c.args.text.now, c.in-Ok.ensures.ok, Accepts.said)

pub returns-in-Err-clause-accepts : goal.returns-in-Err-clause-accepts
returns-in-Err-clause-accepts g c =
    let text = c.args.text.now in
    let cut = c.in-Err.ensures.err in
    (take cut.0 text, cut.2, Accepts.said_in_part (take cut.0 text) (drop cut.0 text) (take-append-drop cut.0 text))
