use Rattle.std.proofs.Common.{not, ◌&&◌, IsTrue, slice_index_or, refl, sym, ap, subst, ◌∙◌}
use Rattle.hp_diagram.specs.declared.reference.Ref.{Ref}
use Rattle.hp_boolx.specs.Game.{valid_early, permitted}
use Rattle.hp_boolx.specs.Solved.{win_step}
use Rattle.hp_diagram.specs.Diagrams.{function}
use Rattle.hp_diagram.proofs.Choices.{Keeps-trans}
use Rattle.hp_synth.specs.Sought.{base_at}
use Rattle.hp_synth.specs.Layouts.{place, IsLayout}
use Rattle.hp_synth.specs.Valued.{through, over, states, earlies, OfEarly}
use Rattle.hp_synth.proofs.RoundSteps.{if_ok-map}
use Rattle.hp_cert.proofs.StepLaws.{transfer, win_valued, mean_at}
use Rattle.hp_cert.proofs.steps.win_holds.Goals as goal

pub returns-in_err-from-clause-keeps : goal.returns-in_err-from-clause-keeps
returns-in_err-from-clause-keeps c = Keeps-trans _ _ _ c.kept.ensures.keeps c.and.ensures.keeps

pub returns-clause-keeps : goal.returns-clause-keeps
returns-clause-keeps c = Keeps-trans _ _ _ c.kept.ensures.keeps c.and.ensures.keeps

pub returns-clause-ok : goal.returns-clause-ok
returns-clause-ok c =
    let d : Ref = record { index = 0 } in
    let fourth = slice_index_or c.args.roots.now 4 d in
    let t = c.args.t.now in
    let u = c.kept.new.t in
    let w = c.and.new.self in
    if_ok-map c.implies.result (λ b is g X F form counts all inv funs.
    let kept = c.in_ok-kept.ensures.ok g X F form counts all inv funs in
    let at_places = place c.args.layout.now in
    let early = mean_at t (base_at at_places g) c.args.roots.now all 4 (over at_places (OfEarly g (valid_early g))) d refl in
    transfer w.vars c.args.layout.now (subst (λ n. IsLayout n c.args.layout.now) (sym (c.and.ensures.keeps.vars ∙ c.kept.ensures.keeps.vars)) c.requires.layout) b (λ v. function w c.in_ok-from.from v) (λ v. function w c.in_ok-kept.kept v) (λ v. X (states g v) && valid_early g (states g v) (earlies g v))
    (λ v. permitted g (λ s. not (X s)) (states g v) (earlies g v) (F (states g v) (earlies g v))) (IsTrue (win_step g X F))
    (λ v. c.in_ok-from.ensures.ok.value v ∙ ap (λ e. e && function u fourth v) (c.kept.ensures.keeps.functions c.args.inv c.requires.inv v ∙ inv.value v)
    ∙ ap (λ d. X (states g (through at_places v)) && d) (c.kept.ensures.keeps.functions fourth early.has v ∙ early.value v))
    (λ v. c.and.ensures.keeps.functions c.in_ok-kept.kept kept.has v ∙ kept.value v) is (win_valued g X F)) c.implies.ensures
