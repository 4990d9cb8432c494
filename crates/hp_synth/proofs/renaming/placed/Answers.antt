use Rattle.std.proofs.Common.{List, map, sym, subst, ◌∙◌}
use Rattle.hp_synth.specs.Kept.{AllMean}
use Rattle.hp_synth.specs.Layouts.{place}
use Rattle.hp_synth.specs.Valued.{Fun, over}
use Rattle.hp_synth.proofs.RenamedLaws.{placed-back}
use Rattle.hp_synth.proofs.RoundSteps.{if_ok-map}
use Rattle.hp_synth.proofs.renaming.placed.Goals as goal

pub renamed-requires-clause-layout : goal.renamed-requires-clause-layout
renamed-requires-clause-layout c = c.in_ok-turned.ensures.layout c.args.t.now.vars c.requires.layout

pub returns-clause-ok : goal.returns-clause-ok
returns-clause-ok c =
    let l = c.args.layout.now in
    let other = c.in_ok-turned.turned in
    if_ok-map c.renamed.result (λ made is fs m.
    is (map (over (place l)) fs) (subst (λ (gs : List Fun). AllMean c.args.t.now gs c.args.refs.now)
    (sym (placed-back (place l) (place other) (λ x. c.in_ok-turned.ensures.places (place l x) ∙ c.requires.layout.there x) fs)) m))
    c.renamed.ensures.ok
