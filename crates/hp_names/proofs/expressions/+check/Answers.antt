use Rattle.std.proofs.Common.{◌+◌, drop, sym, ap, ◌∙◌}
use Rattle.hp_tree.specs.Expressions.{parts_of}
use Rattle.hp_names.specs.Breaches.{found_after}
use Rattle.hp_names.specs.Claims.{in_expr, in_parts}
use Rattle.hp_names.proofs.FoundLaws.{found_after-parts}
use Rattle.hp_names.proofs.expressions.+check.Goals as goal

pub check_parts-loop-cons-preserved : goal.check_parts-loop-cons-preserved
check_parts-loop-cons-preserved t c =
    let parts = c.args.parts.now in
    let scope = c.args.scope.now in
    let rest = in_parts scope c.args.at (parts_of (drop (c.loop-cons.cons-index + 1) parts)) in
    let part = c.loop-cons-item.result in
    ap (λ f. found_after f rest) (c.check_expr.ensures ∙ ap (λ f. found_after f (in_expr scope part.1)) c.check_cons.ensures)
    ∙ sym (found_after-parts c.loop-cons.found scope c.args.at parts c.loop-cons.cons-index part c.loop-cons-test.true c.loop-cons-item.is)
    ∙ c.loop-cons.invariant
