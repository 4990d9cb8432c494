use Rattle.std.proofs.Common.{◌+◌, ℕ, get_or, drop, sym, ap, ◌∙◌}
use Rattle.std.proofs.lemmas.List.{get_or_default}
use Rattle.hp_complete.specs.Edges.{edges_from}
use Rattle.hp_complete.specs.Names.{with_more}
use Rattle.hp_complete.proofs.EdgeSteps.{next-target}
use Rattle.hp_complete.proofs.order.add_targets.Goals as goal

pub loop-variable-preserved : goal.loop-variable-preserved
loop-variable-preserved c =
    let xs = c.args.targets.now in
    let i = c.loop-variable.variable-index in
    let x : ℕ = get_or xs i 0 in
    ap (λ made. with_more made (edges_from c.args.vertex (drop (i + 1) xs))) c.in_ok-add_edge.ensures
    ∙ sym (next-target c.loop-variable.edges.items c.args.vertex xs i x c.loop-variable-test.true (get_or_default xs i 0 x c.loop-variable-test.true))
    ∙ c.loop-variable.invariant
