use Rattle.std.proofs.Common.{◌+◌, ℕ, get_or, drop, sym, ap, ◌∙◌}
use Rattle.std.proofs.lemmas.List.{get_or_default}
use Rattle.law_equations.specs.Meaning.Scheduling.{clock_variables}
use Rattle.hp_complete.specs.Edges.{edges_to}
use Rattle.hp_complete.specs.Names.{with_more}
use Rattle.hp_complete.proofs.EdgeSteps.{next-step}
use Rattle.hp_complete.proofs.order.add_clock.Goals as goal

pub loop-variable-preserved : goal.loop-variable-preserved
loop-variable-preserved c =
    let ck = c.args.clock.now in
    let i = c.loop-variable.variable-index in
    let s : ℕ × ℕ = get_or ck i (0, 0) in
    ap (λ made. with_more made (edges_to c.args.vertex (clock_variables (drop (i + 1) ck)))) c.in_ok-add_edge.ensures
    ∙ sym (next-step c.loop-variable.edges.items c.args.vertex ck i s c.loop-variable-test.true (get_or_default ck i (0, 0) s c.loop-variable-test.true))
    ∙ c.loop-variable.invariant
