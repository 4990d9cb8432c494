use Rattle.std.proofs.Common.{◌∙◌, ap, length, replicate, sym}
use Rattle.hp_driver.specs.Sweeping.{counts_behind}
use Rattle.hp_driver.proofs.sweep.counts_by.Goals as goal

pub returns : goal.returns
returns c = λ b runs fresh.
    let room = c.in_ok-room.room in
    let new = c.in_ok-room.ensures in
    let instants = c.args.instants in
    let is = c.args.exec.now.signature in
    let ins = new.inputs ∙ c.input_count.ensures in
    let outs = new.outputs ∙ c.output_count.ensures in
    c.run_instants.ensures b runs fresh (new.counts ∙ ap (λ n. replicate n 0) (sym new.outputs))
    ∙ ap (λ n. counts_behind b n (length room.outputs.items) instants) ins ∙ ap (λ n. counts_behind b (length is.inputs) n instants) outs
