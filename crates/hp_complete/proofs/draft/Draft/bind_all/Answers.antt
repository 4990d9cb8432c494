use Rattle.std.proofs.Common.{◌+◌, Some, drop, sym, ap, ◌∙◌}
use Rattle.law_equations.specs.Made.Making.{bind, bind_all}
use Rattle.hp_complete.specs.Places.{sees}
use Rattle.hp_complete.specs.Drafts.{place_of, sketch_of}
use Rattle.hp_complete.proofs.LayerLaws.{drop-next}
use Rattle.hp_complete.proofs.draft.Draft.bind_all.Goals as goal

pub loop-name-preserved : goal.loop-name-preserved
loop-name-preserved c =
    let names = c.args.names.now in
    let i = c.loop-name.name-index in
    let name = c.loop-name-item.result in
    let x = c.args.variable in
    let p = place_of c.args.self.now in
    let d = sketch_of c.loop-name.self in
    let step = c.in_ok-bind_name.ensures in
    record {
      sketch = ap (bind_all (sees p) p.site (drop (i + 1) names) x) (step.sketch ∙ ap (λ q. bind q.site (sees q name.0).value (Some x) d) c.loop-name.invariant.place)
          ∙ sym (ap (λ more. bind_all (sees p) p.site more x d) (drop-next names i name c.loop-name-test.true c.loop-name-item.is))
          ∙ c.loop-name.invariant.sketch;
      place = step.place ∙ c.loop-name.invariant.place;
    }
