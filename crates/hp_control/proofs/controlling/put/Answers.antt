use Rattle.hp_diagram.proofs.Choices.{Keeps-trans}
use Rattle.hp_synth.proofs.RoundSteps.{if_ok-map}
use Rattle.hp_control.proofs.ControlBits.{put-chosen}
use Rattle.hp_control.proofs.controlling.put.Goals as goal

pub returns-in_err-low-clause-keeps : goal.returns-in_err-low-clause-keeps
returns-in_err-low-clause-keeps c = Keeps-trans _ _ _ c.with.ensures.keeps c.with-2.ensures.keeps

pub returns-clause-keeps : goal.returns-clause-keeps
returns-clause-keeps c = Keeps-trans _ _ _ (Keeps-trans _ _ _ c.with.ensures.keeps c.with-2.ensures.keeps) c.ite.ensures.keeps

pub returns-clause-ok : goal.returns-clause-ok
returns-clause-ok c =
    if_ok-map c.ite.result (λ s is.
    put-chosen c.args.t.now c.with.new.t c.with-2.new.t c.ite.new.self c.with.ensures.keeps c.with-2.ensures.keeps c.args.f c.args.r c.one.result c.zero.result c.in_ok-high.high c.in_ok-low.low c.args.k
    c.one.ensures c.zero.ensures c.requires.f c.requires.r c.in_ok-high.ensures.ok c.in_ok-low.ensures.ok s is)
    c.ite.ensures.ok
