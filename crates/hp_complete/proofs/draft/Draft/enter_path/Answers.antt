use Rattle.std.proofs.Common.{◌+◌, drop, sym, ap, ◌∙◌}
use Rattle.hp_complete.specs.Drafting.{entered}
use Rattle.hp_complete.specs.Places.{at_site}
use Rattle.hp_complete.specs.Drafts.{place_of, sketch_of}
use Rattle.hp_complete.proofs.LayerLaws.{drop-next}
use Rattle.hp_complete.proofs.draft.Draft.enter_path.Goals as goal

pub loop-cons-preserved : goal.loop-cons-preserved
loop-cons-preserved c =
    let path = c.args.path.now in
    let i = c.loop-cons.cons-index in
    let parts = drop-next path i c.loop-cons-item.result c.loop-cons-test.true c.loop-cons-item.is in
    let rest = drop (i + 1) path in
    let p = place_of c.loop-cons.self in
    let d = sketch_of c.loop-cons.self in
    let step = c.in_ok-enter_step.ensures in
    record {
      sketch = (λ j. (entered (step.place j) rest (step.sketch j)).1) ∙ sym (ap (λ more. (entered p more d).1) parts) ∙ c.loop-cons.invariant.sketch;
      place = (λ j. at_site (entered (step.place j) rest (step.sketch j)).0 (step.place j)) ∙ sym (ap (λ more. at_site (entered p more d).0 p) parts) ∙ c.loop-cons.invariant.place;
    }
