use Rattle.hp_tree.specs.Expressions.{parts_of}
use Rattle.std.proofs.Common.{take, sym, ap, ◌∙◌}
use Rattle.hp_expand.specs.Capped.{cap}
use Rattle.hp_expand.specs.Sizes.{join, in_parts}
use Rattle.hp_expand.specs.Tables.{size_in}
use Rattle.hp_expand.proofs.SizeLaws.{parts-next}
use Rattle.hp_expand.proofs.sizes.+size.Goals as goal

pub size_of_parts-loop-part-preserved : goal.size_of_parts-loop-part-preserved
size_of_parts-loop-part-preserved t c =
    let known = size_in c.args.known.now in
    let parts = c.args.parts.now in
    let i = c.loop-part.part-index in
    let part = c.loop-part-item.result in
    c.join-all.ensures
    ∙ ap (λ s. cap (join s c.size_of_expr.result)) c.loop-part.invariant
    ∙ ap (λ s. cap (join (cap (in_parts known (parts_of (take i parts)))) s)) c.size_of_expr.ensures
    ∙ sym (parts-next (size_in c.args.known.now) parts i part c.loop-part-test.true c.loop-part-item.is)
