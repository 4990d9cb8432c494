use Rattle.std.proofs.Common.{not, sym, ap, subst, ◌∙◌}
use Rattle.hp_boolx.specs.Game.{permitted}
use Rattle.hp_diagram.proofs.Choices.{Keeps-trans}
use Rattle.hp_synth.specs.Layouts.{place, IsLayout}
use Rattle.hp_synth.specs.Sought.{base_at}
use Rattle.hp_synth.specs.Valued.{over, OfState}
use Rattle.hp_synth.proofs.Gates.{functions-keep, has-keep}
use Rattle.hp_synth.proofs.RoundSteps.{if_ok-map, Means-equal}
use Rattle.hp_synth.proofs.SoughtLaws.{all-keeps}
use Rattle.hp_cert.proofs.steps.kept.Goals as goal

pub returns-in_err-choices-clause-keeps : goal.returns-in_err-choices-clause-keeps
returns-in_err-choices-clause-keeps c = Keeps-trans _ _ _ c.not.ensures.keeps c.permitted_at.ensures.keeps

pub permitted_at-requires-clause-layout : goal.permitted_at-requires-clause-layout
permitted_at-requires-clause-layout c = subst (λ n. IsLayout n c.args.layout.now) (sym c.not.ensures.keeps.vars) c.requires.layout

pub chosen-requires-clause-layout : goal.chosen-requires-clause-layout
chosen-requires-clause-layout c = subst (λ n. IsLayout n c.args.layout.now) (sym (c.permitted_at.ensures.keeps.vars ∙ c.not.ensures.keeps.vars)) c.requires.layout

pub chosen-requires-clause-funs : goal.chosen-requires-clause-funs
chosen-requires-clause-funs c = has-keep c.args.t.now c.permitted_at.new.t c.args.funs.now (Keeps-trans _ _ _ c.not.ensures.keeps c.permitted_at.ensures.keeps) c.requires.funs

pub returns-clause-keeps : goal.returns-clause-keeps
returns-clause-keeps c = Keeps-trans _ _ _ (Keeps-trans _ _ _ c.not.ensures.keeps c.permitted_at.ensures.keeps) c.chosen.ensures.keeps

pub returns-clause-ok : goal.returns-clause-ok
returns-clause-ok c =
    let t = c.args.t.now in
    let u = c.not.new.self in
    let w = c.permitted_at.new.t in
    let funs = c.args.funs.now in
    let at_places = place c.args.layout.now in
    let keep = Keeps-trans _ _ _ c.not.ensures.keeps c.permitted_at.ensures.keeps in
    if_ok-map c.chosen.result (λ r is g X F form counts all inv fs.
    let lost = Means-equal u _ (over at_places (OfState g (λ s. not (X s)))) c.in_ok-lost.lost (λ v. ap (λ b. not b) (inv.value v)) c.in_ok-lost.ensures.ok in
    let choices = c.in_ok-choices.ensures.ok g (λ s. not (X s)) form counts (all-keeps t u (base_at at_places g) c.args.roots.now c.not.ensures.keeps all) lost in
    is g (permitted g (λ s. not (X s))) F counts choices (λ v. functions-keep t w funs keep c.requires.funs v ∙ fs v))
    c.chosen.ensures.ok
