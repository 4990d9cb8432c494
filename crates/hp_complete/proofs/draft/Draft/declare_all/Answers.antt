use Rattle.std.proofs.Common.{◌+◌, ◌-◌, ◌≡◌, ◌∷◌, [], drop, sym, ap, ◌∙◌, arith}
use Rattle.hp_complete.specs.Drafting.{declared_at}
use Rattle.hp_complete.specs.Drafts.{place_of}
use Rattle.hp_complete.proofs.LayerLaws.{drop-next}
use Rattle.hp_complete.proofs.draft.Draft.declare_all.Goals as goal

pub loop-i-preserved : goal.loop-i-preserved
loop-i-preserved c =
    let decls = c.args.decls.now in
    let i = c.loop-i.i - 1 in
    let decl = c.index-decls-i.result in
    let p = place_of c.args.self.now in
    let step = c.in_ok-declare.ensures in
    let known = c.loop-i.invariant in
    let next : c.loop-i.i ≡ i + 1 = omega arith in
    record {
      inside = omega arith;
      sketch = step.sketch ∙ known.sketch;
      place = step.place
          ∙ ap (declared_at (decl ∷ [])) (known.place ∙ ap (λ n. declared_at (drop n decls) p) next)
          ∙ sym (ap (λ more. declared_at more p) (drop-next decls i decl (omega arith) c.index-decls-i.is));
    }
