use Rattle.std.proofs.Common.{◌+◌, ◌++◌, ◌∷◌, [], drop, sym, ap, ◌∙◌}
use Rattle.std.proofs.lemmas.List.{append_assoc}
use Rattle.law_equations.specs.Made.Making.{next, numbers_from}
use Rattle.hp_complete.specs.Drafting.{signed_at}
use Rattle.hp_complete.specs.Places.{saying}
use Rattle.hp_complete.proofs.DraftLaws.{one-signed}
use Rattle.hp_complete.specs.Drafts.{place_of, sketch_of}
use Rattle.hp_complete.proofs.LayerLaws.{drop-next}
use Rattle.hp_complete.proofs.draft.Draft.add_all_signed.Goals as goal

pub loop-decl-preserved : goal.loop-decl-preserved
loop-decl-preserved c =
    let decls = c.args.decls.now in
    let i = c.loop-decl.decl-index in
    let decl = c.decl-item.result in
    let parts = drop-next decls i decl c.loop-decl-test.true c.decl-item.is in
    let rest = drop (i + 1) decls in
    let p = place_of c.loop-decl.self in
    let d = sketch_of c.loop-decl.self in
    let n = next d in
    let before = c.loop-decl.numbers.items in
    let known = c.loop-decl.invariant in
    let step = c.in_ok-number.ensures in
    record {
      sketch = (λ j. (signed_at rest (step.place j) (step.sketch j)).1) ∙ sym (ap (λ more. (signed_at more p d).1) parts) ∙ known.sketch;
      place = (λ j. saying (signed_at rest (step.place j) (step.sketch j)).0 (step.place j)) ∙ sym (ap (λ more. saying (signed_at more p d).0 p) parts) ∙ known.place;
      numbers = ap (λ xs. xs ++ numbers_from (next (sketch_of c.add_signed.new.self)) rest) (c.in_ok-push.ensures.items ∙ ap (λ x. before ++ x ∷ []) step.number)
          ∙ ap (λ m. (before ++ n ∷ []) ++ numbers_from m rest) (ap next step.sketch ∙ one-signed decl p d)
          ∙ append_assoc before (n ∷ []) (numbers_from (n + 1) rest)
          ∙ sym (ap (λ more. before ++ numbers_from n more) parts)
          ∙ known.numbers;
    }
