use Rattle.std.proofs.Common.{arith}
use Rattle.hp_diagram.proofs.Choices.{Keeps-trans}
use Rattle.hp_synth.proofs.RoundSteps.{if_ok-map}
use Rattle.hp_play.proofs.ForcingLaws.{forcing-means}
use Rattle.hp_play.proofs.forcing.forcing.Goals as goal

pub returns-clause-ok : goal.returns-clause-ok
returns-clause-ok c =
    if_ok-map c.and.result (λ r is g X counts choices earlies worse.
    forcing-means c.args.t.now.vars c.args.layout.now c.requires.layout g c.args.t.now c.some_in.new.t c.not.new.self c.or.new.self c.all_in.new.t c.and.new.self
    c.some_in.ensures.keeps c.not.ensures.keeps c.or.ensures.keeps c.all_in.ensures.keeps
    c.args.choices c.args.earlies c.args.worse c.in_ok-answered.answered c.in_ok-invalid.invalid c.in_ok-either.either c.in_ok-lost.lost r _ _ _ X
    (omega (arith, c.requires.layout.fits, c.vars-to.ensures.vars, counts.0, counts.1, counts.2, counts.3))
    (omega (arith, c.requires.layout.fits, c.vars-to.ensures.vars, counts.0, counts.1, counts.2, counts.3))
    (omega (arith, c.requires.layout.fits, c.vars-to.ensures.vars, counts.0, counts.1, counts.2, counts.3))
    choices earlies worse c.in_ok-answered.ensures.ok c.in_ok-invalid.ensures.ok c.in_ok-either.ensures.ok c.in_ok-lost.ensures.ok is)
    c.and.ensures.ok

pub returns-in_err-invalid-clause-keeps : goal.returns-in_err-invalid-clause-keeps
returns-in_err-invalid-clause-keeps c = Keeps-trans _ _ _ c.some_in.ensures.keeps c.not.ensures.keeps

pub returns-in_err-either-clause-keeps : goal.returns-in_err-either-clause-keeps
returns-in_err-either-clause-keeps c = Keeps-trans _ _ _ (Keeps-trans _ _ _ c.some_in.ensures.keeps c.not.ensures.keeps) c.or.ensures.keeps

pub returns-in_err-lost-clause-keeps : goal.returns-in_err-lost-clause-keeps
returns-in_err-lost-clause-keeps c = Keeps-trans _ _ _ (Keeps-trans _ _ _ (Keeps-trans _ _ _ c.some_in.ensures.keeps c.not.ensures.keeps) c.or.ensures.keeps) c.all_in.ensures.keeps

pub returns-clause-keeps : goal.returns-clause-keeps
returns-clause-keeps c = Keeps-trans _ _ _ (Keeps-trans _ _ _ (Keeps-trans _ _ _ (Keeps-trans _ _ _ c.some_in.ensures.keeps c.not.ensures.keeps) c.or.ensures.keeps) c.all_in.ensures.keeps) c.and.ensures.keeps
