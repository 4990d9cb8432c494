use Rattle.std.proofs.Common.{List, not, ap, subst, sym, ◌∙◌, arith}
use Rattle.hp_diagram.specs.declared.reference.Ref.{Ref}
use Rattle.hp_diagram.proofs.Choices.{Keeps-trans}
use Rattle.hp_boolx.specs.Game.{bad, joined}
use Rattle.hp_synth.specs.Kept.{AllMean}
use Rattle.hp_synth.specs.Layouts.{place}
use Rattle.hp_synth.specs.Sought.{base_at}
use Rattle.hp_synth.proofs.QuantLaws.{late-all}
use Rattle.hp_synth.proofs.RoundSteps.{if_ok-map}
use Rattle.hp_play.proofs.Failing.{held}
use Rattle.hp_play.proofs.losing.slow.Goals as goal

pub returns-clause-keeps : goal.returns-clause-keeps
returns-clause-keeps c = held c.all_in.result (Keeps-trans _ _ _ (Keeps-trans _ _ _ c.worse.ensures.keeps c.not.ensures.keeps) c.all_in.ensures.keeps)

pub returns-clause-ok : goal.returns-clause-ok
returns-clause-ok c =
    if_ok-map c.all_in.result (λ r every g X form counts roots x.
    let worse = c.in_ok-worse.ensures.ok g X form counts (subst (λ (rs : List Ref). AllMean c.args.t.now (base_at (place c.args.field.now.layout) g) rs) (sym c.deref.ensures.value) roots) x in
    let good = c.in_ok-good.ensures.ok in
    late-all c.args.t.now.vars c.args.field.now.layout c.requires.layout g _ _ c.all_in.new.t _ r (λ r u c w. not (bad g X (joined r u c w)))
    (omega (arith, c.requires.layout.fits, c.vars-to.ensures.vars, counts.0, counts.1, counts.2, counts.3))
    (omega (arith, c.requires.layout.fits, c.vars-to.ensures.vars, counts.0, counts.1, counts.2, counts.3))
    (λ v. good.value v ∙ ap (λ b. not b) (worse.value v)) every)
    c.all_in.ensures.ok
