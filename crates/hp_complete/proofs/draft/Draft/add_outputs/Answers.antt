use Rattle.std.proofs.Common.{◌≡◌, ◌+◌, ◌++◌, ◌∷◌, [], drop, sym, ap, ◌∙◌}
use Rattle.std.proofs.lemmas.List.{append_assoc}
use Rattle.law_equations.specs.Made.Making.{next, numbers_from, with_outputs}
use Rattle.hp_complete.proofs.DraftLaws.{one-output}
use Rattle.hp_complete.specs.Drafts.{place_of, sketch_of}
use Rattle.hp_complete.proofs.LayerLaws.{drop-next}
use Rattle.hp_complete.proofs.draft.Draft.add_outputs.Goals as goal

pub loop-decl-preserved : goal.loop-decl-preserved
loop-decl-preserved c =
    let decls = c.args.decls.now in
    let i = c.loop-decl.decl-index in
    let decl = c.decl-item.result in
    let parts = drop-next decls i decl c.loop-decl-test.true c.decl-item.is in
    let rest = drop (i + 1) decls in
    let p = place_of c.args.self.now in
    let d = sketch_of c.loop-decl.self in
    let n = next d in
    let before = c.loop-decl.outputs.items in
    let known = c.loop-decl.invariant in
    let step = c.in_ok-output.ensures in
    let made : sketch_of c.add_output.new.self ≡ with_outputs p.known (decl ∷ []) d = step.sketch ∙ ap (λ q. with_outputs q.known (decl ∷ []) d) known.place in
    record {
      sketch = ap (with_outputs p.known rest) made ∙ sym (ap (λ more. with_outputs p.known more d) parts) ∙ known.sketch;
      outputs = ap (λ xs. xs ++ numbers_from (next (sketch_of c.add_output.new.self)) rest) (c.in_ok-push.ensures.items ∙ ap (λ x. before ++ x ∷ []) step.number)
          ∙ ap (λ m. (before ++ n ∷ []) ++ numbers_from m rest) (ap next made ∙ one-output p.known decl d)
          ∙ append_assoc before (n ∷ []) (numbers_from (n + 1) rest)
          ∙ sym (ap (λ more. before ++ numbers_from n more) parts)
          ∙ known.outputs;
      place = step.place ∙ known.place;
    }
