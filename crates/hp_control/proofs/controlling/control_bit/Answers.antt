use Rattle.std.proofs.Common.{◌+◌, ◌-◌, subst, arith}
use Rattle.hp_diagram.proofs.Choices.{Keeps-trans}
use Rattle.hp_diagram.specs.Diagrams.{function, Means}
use Rattle.hp_synth.specs.Layouts.{place}
use Rattle.hp_synth.specs.Quantified.{IsSomeIn}
use Rattle.hp_control.specs.Controlling.{put_in}
use Rattle.hp_synth.proofs.RoundSteps.{if_ok-map}
use Rattle.hp_control.proofs.ControlBits.{bit-high, bit-low}
use Rattle.hp_control.proofs.controlling.control_bit.Goals as goal

pub returns-in_err-high-clause-keeps : goal.returns-in_err-high-clause-keeps
returns-in_err-high-clause-keeps c = Keeps-trans _ _ _ c.some_in.ensures.keeps c.with.ensures.keeps

pub returns-in_err-low-clause-keeps : goal.returns-in_err-low-clause-keeps
returns-in_err-low-clause-keeps c = Keeps-trans _ _ _ (Keeps-trans _ _ _ c.some_in.ensures.keeps c.with.ensures.keeps) c.with-2.ensures.keeps

pub returns-in_err-no_low-clause-keeps : goal.returns-in_err-no_low-clause-keeps
returns-in_err-no_low-clause-keeps c = Keeps-trans _ _ _ (Keeps-trans _ _ _ (Keeps-trans _ _ _ c.some_in.ensures.keeps c.with.ensures.keeps) c.with-2.ensures.keeps) c.not.ensures.keeps

pub returns-then-prefer-clause-ok : goal.returns-then-prefer-clause-ok
returns-then-prefer-clause-ok c =
    if_ok-map c.or.result (λ r is g n q counts from to left.
    bit-high c.args.t.now.vars c.args.layout.now c.requires.layout g c.args.k n from to q c.args.p c.in_ok-some.some c.in_ok-high.high c.in_ok-low.low c.in_ok-no_low.no_low c.one.result c.zero.result c.one.ensures c.zero.ensures
    c.args.t.now c.some_in.new.t c.with.new.t c.with-2.new.t c.not.new.self c.with.ensures.keeps c.with-2.ensures.keeps c.not.ensures.keeps
    left (c.args.t.now.vars - c.args.layout.now.counts.late) (c.args.k + 1) (omega (arith, c.requires.layout.fits, counts.0, counts.1, counts.2)) (omega arith) (subst (λ n. IsSomeIn (place c.args.layout.now) (c.args.k + 1) (n - c.args.layout.now.counts.late) c.some_in.new.t (function c.args.t.now c.args.p) c.in_ok-some.some) c.vars.ensures.vars c.in_ok-some.ensures.ok) (subst (λ y. Means c.with.new.t (put_in c.some_in.new.t c.in_ok-some.some y c.one.result) c.in_ok-high.high) c.place-at.ensures c.in_ok-high.ensures.ok)
    (subst (λ y. Means c.with-2.new.t (put_in c.with.new.t c.in_ok-some.some y c.zero.result) c.in_ok-low.low) c.place-at.ensures c.in_ok-low.ensures.ok) c.in_ok-no_low.ensures.ok
    c.or.new.self c.args.prefer r c.if-prefer.true is)
    c.or.ensures.ok

pub returns-then-prefer-clause-keeps : goal.returns-then-prefer-clause-keeps
returns-then-prefer-clause-keeps c = Keeps-trans _ _ _ (Keeps-trans _ _ _ (Keeps-trans _ _ _ (Keeps-trans _ _ _ c.some_in.ensures.keeps c.with.ensures.keeps) c.with-2.ensures.keeps) c.not.ensures.keeps) c.or.ensures.keeps

pub returns-else-prefer-clause-ok : goal.returns-else-prefer-clause-ok
returns-else-prefer-clause-ok c =
    if_ok-map c.and.result (λ r is g n q counts from to left.
    bit-low c.args.t.now.vars c.args.layout.now c.requires.layout g c.args.k n from to q c.args.p c.in_ok-some.some c.in_ok-high.high c.in_ok-low.low c.in_ok-no_low.no_low c.one.result c.zero.result c.one.ensures c.zero.ensures
    c.args.t.now c.some_in.new.t c.with.new.t c.with-2.new.t c.not.new.self c.with.ensures.keeps c.with-2.ensures.keeps c.not.ensures.keeps
    left (c.args.t.now.vars - c.args.layout.now.counts.late) (c.args.k + 1) (omega (arith, c.requires.layout.fits, counts.0, counts.1, counts.2)) (omega arith) (subst (λ n. IsSomeIn (place c.args.layout.now) (c.args.k + 1) (n - c.args.layout.now.counts.late) c.some_in.new.t (function c.args.t.now c.args.p) c.in_ok-some.some) c.vars.ensures.vars c.in_ok-some.ensures.ok) (subst (λ y. Means c.with.new.t (put_in c.some_in.new.t c.in_ok-some.some y c.one.result) c.in_ok-high.high) c.place-at.ensures c.in_ok-high.ensures.ok)
    (subst (λ y. Means c.with-2.new.t (put_in c.with.new.t c.in_ok-some.some y c.zero.result) c.in_ok-low.low) c.place-at.ensures c.in_ok-low.ensures.ok) c.in_ok-no_low.ensures.ok
    c.and.new.self c.args.prefer r c.if-prefer.false is)
    c.and.ensures.ok

pub returns-else-prefer-clause-keeps : goal.returns-else-prefer-clause-keeps
returns-else-prefer-clause-keeps c = Keeps-trans _ _ _ (Keeps-trans _ _ _ (Keeps-trans _ _ _ (Keeps-trans _ _ _ c.some_in.ensures.keeps c.with.ensures.keeps) c.with-2.ensures.keeps) c.not.ensures.keeps) c.and.ensures.keeps
