use Rattle.std.proofs.Common.{◌+◌, drop, sym, ap, ◌∙◌}
use Rattle.law_equations.specs.Made.Making.{bind}
use Rattle.hp_complete.specs.Drafting.{bind_each, number_left}
use Rattle.hp_complete.specs.Drafts.{place_of, sketch_of}
use Rattle.hp_complete.specs.Places.{sees}
use Rattle.hp_complete.proofs.DraftLaws.{numbers-left}
use Rattle.hp_complete.proofs.LayerLaws.{drop-next}
use Rattle.hp_complete.proofs.draft.Draft.bind_outputs.Goals as goal

pub loop-i-preserved : goal.loop-i-preserved
loop-i-preserved c =
    let names = c.args.names.now in
    let xs = c.args.outputs.now in
    let i = c.loop-i.i in
    let name = c.index-names-i.result in
    let p = place_of c.args.self.now in
    let d = sketch_of c.loop-i.self in
    let step = c.in_ok-bind_name.ensures in
    let rest = drop (i + 1) names in
    let made = step.sketch
    ∙ ap (λ q. bind q.site (sees q name.0).value c.number_at.result d) c.loop-i.invariant.place
    ∙ ap (λ x. bind p.site (sees p name.0).value x d) c.number_at.ensures in
    record {
      sketch = ap (bind_each (sees p) p.site rest (drop (i + 1) xs)) made
          ∙ sym (ap (λ ns. bind_each (sees p) p.site rest ns (bind p.site (sees p name.0).value (number_left (drop i xs)) d)) (numbers-left xs i))
          ∙ sym (ap (λ more. bind_each (sees p) p.site more (drop i xs) d) (drop-next names i name c.loop-i-test.true c.index-names-i.is))
          ∙ c.loop-i.invariant.sketch;
      place = step.place ∙ c.loop-i.invariant.place;
    }
