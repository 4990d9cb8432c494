use Rattle.std.proofs.Common.{◌+◌, take, sym, ap, ◌∙◌}
use Rattle.hp_tree.specs.Expressions.{parts_of}
use Rattle.hp_tree.specs.Counting.{up_to_limit, places_of_parts}
use Rattle.hp_tree.proofs.CountLaws.{parts-next}
use Rattle.hp_tree.proofs.count.+places.Goals as goal

pub places_of_parts-loop-part-preserved : goal.places_of_parts-loop-part-preserved
places_of_parts-loop-part-preserved t c =
    let parts = c.args.parts.now in
    let i = c.loop-part.part-index in
    let part = c.loop-part-item.result in
    c.sum-all.ensures
    ∙ ap (λ n. up_to_limit (n + c.places_of_expr.result)) c.loop-part.invariant
    ∙ ap (λ n. up_to_limit (up_to_limit (places_of_parts (parts_of (take i parts))) + n)) c.places_of_expr.ensures
    ∙ sym (parts-next parts i part c.loop-part-test.true c.loop-part-item.is)
