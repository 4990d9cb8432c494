use Rattle.std.proofs.Common.{◌+◌, drop, ap, sym, ◌∙◌}
use Rattle.hp_obctext.specs.Files.{each, comma, inst_words}
use Rattle.hp_obctext.specs.Words.{with_words}
use Rattle.hp_obctext.proofs.Writing.{insts-next}
use Rattle.hp_obctext.proofs.page.Page.insts.Goals as goal

pub loop-inst-preserved : goal.loop-inst-preserved
loop-inst-preserved c =
    ap (λ t. with_words t (each (comma inst_words) (drop (c.loop-inst.inst-index + 1) c.args.insts.now)))
    (c.in_ok-inst.ensures ∙ ap (λ t. with_words t (inst_words c.inst-item.result)) c.in_ok-fixed.ensures)
    ∙ sym (insts-next c.loop-inst.self c.args.insts.now c.loop-inst.inst-index c.inst-item.result c.loop-inst-test.true c.inst-item.is) ∙ c.loop-inst.invariant
