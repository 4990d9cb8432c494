use Rattle.std.proofs.Common.{◌≡◌, ◌∷◌, [], List, not, length, sym, subst, ◌∙◌}
use Rattle.hp_diagram.specs.declared.reference.Ref.{Ref}
use Rattle.hp_diagram.proofs.Choices.{Keeps-trans}
use Rattle.hp_boolx.specs.Game.{permitted}
use Rattle.hp_boolx.specs.Machine.{game}
use Rattle.hp_synth.specs.Kept.{AllMean}
use Rattle.hp_synth.specs.Layouts.{IsLayout}
use Rattle.hp_synth.specs.Valued.{Fun, OfChoice}
use Rattle.hp_synth.proofs.SearchSteps.{alone}
use Rattle.hp_control.proofs.choosing.choices_of.Goals as goal

pub permitted_choices-requires-clause-layout : goal.permitted_choices-requires-clause-layout
permitted_choices-requires-clause-layout c = subst (λ n. IsLayout n c.in_ok-layout.layout) c.requires.fits c.in_ok-layout.ensures.layout

pub renamed-requires-clause-layout : goal.renamed-requires-clause-layout
renamed-requires-clause-layout c = subst (λ n. IsLayout n c.in_ok-layout.layout) (c.requires.fits ∙ sym c.permitted_choices.ensures.keeps.vars) c.in_ok-layout.ensures.layout

pub returns-in_err-own-clause-keeps : goal.returns-in_err-own-clause-keeps
returns-in_err-own-clause-keeps c = Keeps-trans _ _ _ c.permitted_choices.ensures.keeps c.renamed.ensures.keeps

pub returns-clause-ok : goal.returns-clause-ok
returns-clause-ok c = λ X inv.
    let g = game c.args.m.now in
    let Z : Fun = OfChoice g (permitted g (λ s. not (X s))) in
    let items = c.in_ok-own.own.items in
    let len : length items ≡ 1 = c.in_ok-own.ensures.len in
    let one : items ≡ c.index.result.now ∷ [] = alone items c.index.result.now c.index.ensures len in
    let made = subst (λ (rs : List Ref). AllMean c.renamed.new.t (Z ∷ []) rs) one (c.in_ok-own.ensures.ok (Z ∷ []) (c.in_ok-choices.ensures.ok X inv, tt)) in
    made.0

pub returns-clause-keeps : goal.returns-clause-keeps
returns-clause-keeps c = Keeps-trans _ _ _ c.permitted_choices.ensures.keeps c.renamed.ensures.keeps
