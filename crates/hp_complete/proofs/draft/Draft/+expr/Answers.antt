use Rattle.std.proofs.Common.{◌≡◌, ◌+◌, ◌++◌, ◌∷◌, [], Some, drop, sym, ap, ◌∙◌}
use Rattle.std.proofs.lemmas.List.{append_assoc}
use Rattle.hp_tree.specs.Expressions.{exprs_of, parts_of}
use Rattle.hp_flat.specs.declared.equation.Atom.TheVariants.{Variable}
use Rattle.hp_complete.specs.Drafting.{expr_made, exprs_made, part_made, parts_made}
use Rattle.hp_complete.specs.Drafts.{place_of, sketch_of}
use Rattle.hp_complete.proofs.LayerLaws.{drop-next}
use Rattle.hp_complete.proofs.draft.Draft.+expr.Goals as goal

pub args-loop-expr-preserved : goal.args-loop-expr-preserved
args-loop-expr-preserved t c =
    let exprs = c.args.exprs.now in
    let i = c.loop-expr.expr-index in
    let e = c.expr-item.result in
    let p = place_of c.args.self.now in
    let d = sketch_of c.loop-expr.self in
    let parts = drop-next exprs i e c.loop-expr-test.true c.expr-item.is in
    let rest = exprs_of (drop (i + 1) exprs) in
    let before = c.loop-expr.args.items in
    let known = c.loop-expr.invariant in
    let step = c.in_ok-arg.ensures in
    let made : sketch_of c.expr.new.self ≡ (expr_made p e d).0 = step.sketch ∙ ap (λ q. (expr_made q e d).0) known.place in
    let number : c.in_ok-arg.arg ≡ (expr_made p e d).1 = step.number ∙ ap (λ q. (expr_made q e d).1) known.place in
    record {
      sketch = ap (λ s. (exprs_made p rest s).0) made ∙ sym (ap (λ more. (exprs_made p (exprs_of more) d).0) parts) ∙ known.sketch;
      args = (λ j. (c.in_ok-push.ensures.items ∙ ap (λ x. before ++ Variable x ∷ []) number) j ++ (exprs_made p rest (made j)).1)
          ∙ append_assoc before (Variable (expr_made p e d).1 ∷ []) (exprs_made p rest (expr_made p e d).0).1
          ∙ sym (ap (λ more. before ++ (exprs_made p (exprs_of more) d).1) parts)
          ∙ known.args;
      place = step.place ∙ known.place;
    }

pub parts-loop-cons-preserved : goal.parts-loop-cons-preserved
parts-loop-cons-preserved t c =
    let ps = c.args.parts.now in
    let i = c.loop-cons.cons-index in
    let part = c.loop-cons-item.result in
    let test = c.args.test in
    let merged = c.loop-cons.merged in
    let p = place_of c.args.self.now in
    let d = sketch_of c.loop-cons.self in
    let parts = drop-next ps i part c.loop-cons-test.true c.loop-cons-item.is in
    let rest = parts_of (drop (i + 1) ps) in
    let known = c.loop-cons.invariant in
    let step = c.in_ok-variable.ensures in
    let made : sketch_of c.part.new.self ≡ (part_made p test merged part.0 part.1 d).0 = step.sketch ∙ ap (λ q. (part_made q test merged part.0 part.1 d).0) known.place in
    let number : c.in_ok-variable.variable ≡ (part_made p test merged part.0 part.1 d).1 = step.number ∙ ap (λ q. (part_made q test merged part.0 part.1 d).1) known.place in
    record {
      sketch = (λ j. (parts_made p test (Some (number j)) rest (made j)).0) ∙ sym (ap (λ more. (parts_made p test merged (parts_of more) d).0) parts) ∙ known.sketch;
      merged = (λ j. (parts_made p test (Some (number j)) rest (made j)).1) ∙ sym (ap (λ more. (parts_made p test merged (parts_of more) d).1) parts) ∙ known.merged;
      place = step.place ∙ known.place;
    }
