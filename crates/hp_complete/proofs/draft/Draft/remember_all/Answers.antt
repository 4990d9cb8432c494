use Rattle.std.proofs.Common.{◌+◌, drop, sym, ap, ◌∙◌}
use Rattle.hp_complete.specs.Drafting.{remembered_at}
use Rattle.hp_complete.specs.Places.{saying}
use Rattle.hp_complete.specs.Drafts.{place_of, sketch_of}
use Rattle.hp_complete.proofs.LayerLaws.{drop-next}
use Rattle.hp_complete.proofs.draft.Draft.remember_all.Goals as goal

pub loop-decl-preserved : goal.loop-decl-preserved
loop-decl-preserved c =
    let decls = c.args.decls.now in
    let i = c.loop-decl.decl-index in
    let parts = drop-next decls i c.decl-item.result c.loop-decl-test.true c.decl-item.is in
    let rest = drop (i + 1) decls in
    let p = place_of c.loop-decl.self in
    let d = sketch_of c.loop-decl.self in
    let step = c.in_ok-remember.ensures in
    record {
      sketch = (λ j. (remembered_at rest (step.place j) (step.sketch j)).1) ∙ sym (ap (λ more. (remembered_at more p d).1) parts) ∙ c.loop-decl.invariant.sketch;
      place = (λ j. saying (remembered_at rest (step.place j) (step.sketch j)).0 (step.place j)) ∙ sym (ap (λ more. saying (remembered_at more p d).0 p) parts) ∙ c.loop-decl.invariant.place;
    }
