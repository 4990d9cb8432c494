use Rattle.std.proofs.Common.{arith}
use Rattle.hp_diagram.specs.Diagrams.{function}
use Rattle.hp_diagram.proofs.Choices.{Keeps-trans, Means-keeps}
use Rattle.hp_boolx.specs.Game.{joined, valid_choice}
use Rattle.hp_synth.proofs.QuantLaws.{late-some, control-some}
use Rattle.hp_synth.proofs.preparation.valid_values.Goals as goal

pub returns-in_err-earlies-clause-keeps : goal.returns-in_err-earlies-clause-keeps
returns-in_err-earlies-clause-keeps c = Keeps-trans _ _ _ c.some_in.ensures.keeps c.some_in-2.ensures.keeps

pub returns-clause-keeps : goal.returns-clause-keeps
returns-clause-keeps c = Keeps-trans _ _ _ c.some_in.ensures.keeps c.some_in-2.ensures.keeps

pub returns-clause-choices : goal.returns-clause-choices
returns-clause-choices c = λ g counts valid.
    Means-keeps c.some_in.new.t c.some_in-2.new.t c.some_in-2.ensures.keeps _ c.in_ok-choices.choices
    (late-some c.args.t.now.vars c.args.layout.now c.requires.layout g _ _ c.some_in.new.t (function c.args.t.now c.args.valid) c.in_ok-choices.choices (λ r u k w. g.valid (joined r u k w))
    (omega (arith, c.requires.layout.fits, c.vars-to.ensures.vars, counts.0, counts.1, counts.2, counts.3))
    (omega (arith, c.requires.layout.fits, c.vars-to.ensures.vars, counts.0, counts.1, counts.2, counts.3))
    valid.value c.in_ok-choices.ensures.ok)

pub returns-clause-earlies : goal.returns-clause-earlies
returns-clause-earlies c = λ g counts valid.
    let choices = late-some c.args.t.now.vars c.args.layout.now c.requires.layout g _ _ c.some_in.new.t (function c.args.t.now c.args.valid) c.in_ok-choices.choices (λ r u k w. g.valid (joined r u k w))
    (omega (arith, c.requires.layout.fits, c.vars-to.ensures.vars, counts.0, counts.1, counts.2, counts.3))
    (omega (arith, c.requires.layout.fits, c.vars-to.ensures.vars, counts.0, counts.1, counts.2, counts.3))
    valid.value c.in_ok-choices.ensures.ok in
    control-some c.args.t.now.vars c.args.layout.now c.requires.layout g _ _ c.some_in-2.new.t (function c.some_in.new.t c.in_ok-choices.choices) c.in_ok-earlies.earlies (valid_choice g)
    (omega (arith, c.requires.layout.fits, c.vars-to.ensures.vars, counts.0, counts.1, counts.2, counts.3))
    (omega (arith, c.requires.layout.fits, c.vars-to.ensures.vars, counts.0, counts.1, counts.2, counts.3))
    choices.value c.in_ok-earlies.ensures.ok
