use Rattle.std.proofs.Common.{◌≡◌, ◌∷◌, [], List, not, length, ap, subst}
use Rattle.hp_diagram.specs.declared.reference.Ref.{Ref}
use Rattle.hp_diagram.proofs.Choices.{Keeps-trans}
use Rattle.hp_synth.specs.Kept.{AllMean}
use Rattle.hp_synth.specs.Layouts.{place}
use Rattle.hp_synth.specs.Valued.{over}
use Rattle.hp_synth.proofs.RoundSteps.{if_ok-map, Means-equal}
use Rattle.hp_synth.proofs.SearchSteps.{alone}
use Rattle.hp_control.proofs.permitted.others_at.Goals as goal

pub returns-clause-ok : goal.returns-clause-ok
returns-clause-ok c =
    let t = c.placed.new.t in
    let at_places = place c.args.layout.now in
    let items = c.in_ok-here.here.items in
    let len : length items ≡ 1 = c.in_ok-here.ensures.len in
    let one : items ≡ c.index.result.now ∷ [] = alone items c.index.result.now c.index.ensures len in
    if_ok-map c.not.result (λ r is f m.
    let here = subst (λ (rs : List Ref). AllMean t (over at_places f ∷ []) rs) one (c.in_ok-here.ensures.ok (f ∷ []) (m, tt)) in
    Means-equal c.not.new.self _ (over at_places (λ v. not (f v))) r (λ v. ap (λ b. not b) (here.0.value v)) is)
    c.not.ensures.ok

pub returns-clause-keeps : goal.returns-clause-keeps
returns-clause-keeps c = Keeps-trans _ _ _ c.placed.ensures.keeps c.not.ensures.keeps
