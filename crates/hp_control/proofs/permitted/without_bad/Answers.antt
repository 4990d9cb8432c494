use Rattle.std.proofs.Common.{arith}
use Rattle.hp_diagram.proofs.Choices.{Keeps-trans}
use Rattle.hp_synth.proofs.RoundSteps.{if_ok-map}
use Rattle.hp_control.proofs.PermittedLaws.{permitted-means}
use Rattle.hp_control.proofs.permitted.without_bad.Goals as goal

pub returns-in_err-always-clause-keeps : goal.returns-in_err-always-clause-keeps
returns-in_err-always-clause-keeps c = Keeps-trans _ _ _ c.not.ensures.keeps c.all_in.ensures.keeps

pub returns-clause-keeps : goal.returns-clause-keeps
returns-clause-keeps c = Keeps-trans _ _ _ (Keeps-trans _ _ _ c.not.ensures.keeps c.all_in.ensures.keeps) c.and.ensures.keeps

pub returns-clause-ok : goal.returns-clause-ok
returns-clause-ok c =
    if_ok-map c.and.result (λ r is g X counts choices worse.
    permitted-means c.args.t.now.vars c.args.layout.now c.requires.layout g c.args.t.now c.not.new.self c.all_in.new.t c.and.new.self c.not.ensures.keeps c.all_in.ensures.keeps c.args.choices c.args.worse c.in_ok-good.good c.in_ok-always.always r _ _ X
    (omega (arith, c.requires.layout.fits, c.vars-to.ensures.vars, counts.0, counts.1, counts.2, counts.3))
    (omega (arith, c.requires.layout.fits, c.vars-to.ensures.vars, counts.0, counts.1, counts.2, counts.3))
    choices worse c.in_ok-good.ensures.ok c.in_ok-always.ensures.ok is)
    c.and.ensures.ok
