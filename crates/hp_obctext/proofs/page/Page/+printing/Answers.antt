use Rattle.std.proofs.Common.{◌<◌, ◌≤◌, ◌+◌, false, length, min, get_or, drop, ap, sym, ◌∙◌, arith}
use Rattle.hp_base.specs.declared.ty.Const.TheVariants as constant
use Rattle.hp_obc.specs.Commands.{arms_of}
use Rattle.hp_obctext.specs.Found.{labels_at, labels_seen}
use Rattle.hp_obctext.specs.Files.{branches_words, steps_words, const_word}
use Rattle.hp_obctext.specs.Labels.{said, said_in}
use Rattle.hp_obctext.specs.Words.{with_word, with_words}
use Rattle.hp_obctext.proofs.Saying.{arms-next, arms-end}
use Rattle.hp_obctext.proofs.page.Page.+printing.Goals as goal

pub arms-loop-i-preserved : goal.arms-loop-i-preserved
arms-loop-i-preserved t c =
    let i = c.loop-i.i in
    let labels = labels_seen c.args.labels in
    let scope = labels_at c.args.scope.now in
    let within : i < min (length c.args.arms.now) (length labels) = omega (arith, c.min-i-end.ensures, c.len.ensures, c.loop-i-test.true) in
    ap (λ text. with_words text (branches_words (said_in scope (drop (i + 1) labels) (arms_of (drop (i + 1) c.args.arms.now)))))
    (c.in_ok-steps.ensures
    ∙ ap (λ text. with_words text (steps_words (said scope c.index-arms-i.result)))
    (c.in_ok-label.ensures ∙ ap (λ text. with_word text (const_word (get_or labels i (constant.B false)))) c.in_ok-leading.ensures))
    ∙ sym (arms-next scope c.loop-i.self labels c.args.arms.now i (constant.B false) c.index-arms-i.result within c.index-arms-i.is)
    ∙ c.loop-i.invariant

pub arms-returns : goal.arms-returns
arms-returns t c =
    let labels = labels_seen c.args.labels in
    let past : min (length c.args.arms.now) (length labels) ≤ c.loop-i.i = omega (arith, c.min-i-end.ensures, c.len.ensures, c.loop-i-test.false) in
    sym (arms-end (labels_at c.args.scope.now) c.loop-i.self labels c.args.arms.now c.loop-i.i past) ∙ c.loop-i.invariant
