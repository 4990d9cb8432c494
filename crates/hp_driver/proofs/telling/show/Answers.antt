use Rattle.std.proofs.Common.{drop, ◌∙◌, arith}
use Rattle.std.proofs.lemmas.List.{length-drop, length-take-le}
use Rattle.hp_driver.proofs.Shown.{set_two}
use Rattle.hp_driver.proofs.telling.show.Goals as goal

-- src/telling.rt:125:1
pub returns : goal.returns
returns c =
    let count = c.count_before-count.ensures in
    let written = set_two c.copy_from_slice.new.self (drop c.count_before-count.result c.args.shown.now) c.count_before-count.result c.word-assumed.result c.word-enforced.result
    (c.copy_from_slice.ensures.len ∙ length-take-le c.count_before-count.result c.args.shown.now (omega (arith, c.requires, count)))
    (length-drop c.count_before-count.result c.args.shown.now ∙ omega (arith, c.requires, count)) in
    let first = c.copy_from_slice.ensures.after in
    let assumed = c.word-assumed.ensures in
    let enforced = c.word-enforced.ensures in
    let at = c.output_at.ensures in
    let next = c.output_at-2.ensures in
    cc
