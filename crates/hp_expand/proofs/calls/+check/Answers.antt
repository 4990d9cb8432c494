use Rattle.std.proofs.Common.{◌+◌, drop, sym, ap, ◌∙◌}
use Rattle.hp_tree.specs.Expressions.{parts_of}
use Rattle.hp_expand.specs.Shapes.{found_after, in_parts}
use Rattle.hp_expand.specs.Tables.{form_in}
use Rattle.hp_expand.proofs.FoundLaws.{found_after-parts}
use Rattle.hp_expand.proofs.calls.+check.Goals as goal

pub check_parts-loop-part-preserved : goal.check_parts-loop-part-preserved
check_parts-loop-part-preserved t c =
    let forms = form_in c.args.forms.now in
    let parts = c.args.parts.now in
    let rest = in_parts forms (parts_of (drop (c.loop-part.part-index + 1) parts)) in
    ap (λ f. found_after f rest) c.check_expr.ensures
    ∙ sym (found_after-parts c.loop-part.found forms parts c.loop-part.part-index c.loop-part-item.result c.loop-part-test.true c.loop-part-item.is)
    ∙ c.loop-part.invariant
