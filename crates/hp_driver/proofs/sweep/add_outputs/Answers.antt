use Rattle.std.proofs.Common.{codes}
use Rattle.std.proofs.lemmas.Result.{on_ok_weaker}
use Rattle.hp_driver.specs.Sweeping.{names_text}
use Rattle.hp_driver.proofs.SweepTexts.{five}
use Rattle.hp_driver.proofs.sweep.add_outputs.Goals as goal

pub returns : goal.returns
returns c =
    let many = c.args.tasks in
    on_ok_weaker c.add-3.result
    (λ h. five c.args.text.now.items (codes " : bool) returns (") (names_text (codes "a") many) (codes ", ") (names_text (codes "s") many) (codes " : bool)\n")
    c.add.new.text.items c.add_names.new.text.items c.add-2.new.text.items c.add_names-2.new.text.items c.add-3.new.text.items
    c.in_ok-add.ensures c.in_ok-add_names.ensures c.in_ok-add-2.ensures c.in_ok-add_names-2.ensures h) c.add-3.ensures
