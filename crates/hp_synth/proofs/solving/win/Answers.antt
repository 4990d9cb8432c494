use Rattle.std.proofs.Common.{◌≡◌, ◌∷◌, [], List, length, not, sym, ap, subst, ◌∙◌}
use Rattle.hp_diagram.specs.declared.reference.Ref.{Ref}
use Rattle.hp_synth.specs.Kept.{AllMean, HoldsOnly}
use Rattle.hp_synth.specs.Layouts.{place}
use Rattle.hp_synth.specs.Valued.{over, OfState}
use Rattle.hp_synth.proofs.RoundSteps.{Means-equal}
use Rattle.hp_synth.proofs.SearchSteps.{alone}
use Rattle.hp_synth.proofs.solving.win.Goals as goal

pub returns-clause-only : goal.returns-clause-only
returns-clause-only c =
    let len : length c.in_ok-kept.kept.items ≡ 1 = c.in_ok-kept.ensures.len ∙ ap (λ (rs : List Ref). length rs) c.deref.ensures.value ∙ c.in_ok-own.ensures.len in
    let one : c.in_ok-kept.kept.items ≡ c.index.result.now ∷ [] = alone c.in_ok-kept.kept.items c.index.result.now c.index.ensures len in
    subst (λ (rs : List Ref). HoldsOnly c.swept.new.t rs) one c.in_ok-kept.ensures.only

pub returns-clause-solved : goal.returns-clause-solved
returns-clause-solved c = λ g X m won.
    let len : length c.in_ok-kept.kept.items ≡ 1 = c.in_ok-kept.ensures.len ∙ ap (λ (rs : List Ref). length rs) c.deref.ensures.value ∙ c.in_ok-own.ensures.len in
    let one : c.in_ok-kept.kept.items ≡ c.index.result.now ∷ [] = alone c.in_ok-kept.kept.items c.index.result.now c.index.ensures len in
    let safe = OfState g (λ r. not (X r)) in
    let others = Means-equal c.not.new.self _ (over (place c.args.layout.now) safe) c.in_ok-inv.inv (λ v. ap (λ b. not b) (m.value v)) c.in_ok-inv.ensures.ok in
    let own : AllMean c.renamed.new.t (safe ∷ []) c.deref.result.now = subst (λ (rs : List Ref). AllMean c.renamed.new.t (safe ∷ []) rs) (sym c.deref.ensures.value) (c.in_ok-own.ensures.ok (safe ∷ []) (others, tt)) in
    let all_of = subst (λ (rs : List Ref). AllMean c.swept.new.t (safe ∷ []) rs) one (c.in_ok-kept.ensures.functions (safe ∷ []) own) in
    ((λ r. not (X r)), all_of.0, won)
