use Rattle.std.proofs.Common.{suc, ◌+◌, arith, ◌∙◌}
use Rattle.hp_base.specs.declared.limit.What.TheVariants.{Nest, Total, Instances, Cells, Calls}
use Rattle.hp_expand.specs.Counts.{or_passed, passed_by}
use Rattle.hp_expand.proofs.LimitLaws.{passed-held}
use Rattle.hp_expand.proofs.limits.passed_by.Goals as goal

pub returns : goal.returns
unfolding passed_by
returns c =
    let size = c.args.size in
    let nest = c.passed-6.ensures ∙ passed-held Nest c.saturating_add.result (suc size.nest) (omega (arith, c.saturating_add.ensures)) in
    let total = c.passed-5.ensures ∙ passed-held Total c.saturating_add-total.result (c.args.total + size.places) (omega (arith, c.saturating_add-total.ensures)) in
    let instances = c.passed.ensures ∙ passed-held Instances c.saturating_add-instances.result (suc size.instances) (omega (arith, c.saturating_add-instances.ensures)) in
    let cells = c.passed-2.ensures ∙ passed-held Cells c.saturating_add-cells.result (size.places + size.cells) (omega (arith, c.saturating_add-cells.ensures)) in
    let calls = c.passed-3.ensures ∙ passed-held Calls c.saturating_add-calls.result (suc size.calls) (omega (arith, c.saturating_add-calls.ensures)) in
    let chain = c.first.ensures ∙ (λ i. or_passed (cells i) (calls i)) in
    let below = c.first-below.ensures ∙ (λ i. or_passed (instances i) (chain i)) in
    let all = c.first-2.ensures ∙ (λ i. or_passed (total i) (below i)) in
    let places = c.first-places.ensures ∙ (λ i. or_passed (c.passed-4.ensures i) (all i)) in
    c.first-3.ensures ∙ (λ i. or_passed (nest i) (places i))
