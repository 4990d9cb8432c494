use Rattle.std.proofs.Common.{codes}
use Rattle.std.proofs.lemmas.Result.{on_ok_weaker}
use Rattle.hp_driver.specs.Sweeping.{row, inputs_text, outputs_text}
use Rattle.hp_driver.proofs.SweepTexts.{three}
use Rattle.hp_driver.proofs.sweep.add_heading.Goals as goal

pub returns : goal.returns
returns c =
    on_ok_weaker c.add_outputs.result
    (λ h. three c.args.text.now.items (codes "node tasks(") (row (codes ", ") inputs_text c.args.tasks) (outputs_text c.args.tasks) c.add.new.text.items c.add_inputs.new.text.items c.add_outputs.new.text.items
    c.in_ok-add.ensures c.in_ok-add_inputs.ensures h) c.add_outputs.ensures
