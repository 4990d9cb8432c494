use Rattle.std.proofs.Common.{◌+◌, drop, sym, ap, ◌∙◌}
use Rattle.hp_tree.specs.Expressions.{parts_of}
use Rattle.hp_tables.specs.Defining.Layers.{sight}
use Rattle.hp_init.specs.Asks.{of_parts}
use Rattle.hp_init.specs.Goals.{with_more}
use Rattle.hp_init.proofs.AskLaws.{asked-parts}
use Rattle.hp_init.proofs.expression.+gather.Goals as goal

pub gather_parts-loop-expr-preserved : goal.gather_parts-loop-expr-preserved
gather_parts-loop-expr-preserved t c =
    let i = c.loop-expr.expr-index in
    let parts = c.args.parts.now in
    let see = sight c.args.layers.now in
    ap (λ asks. with_more asks (of_parts see c.args.unit (parts_of (drop (i + 1) parts)))) c.in_ok-gather_expr.ensures
    ∙ sym (asked-parts c.loop-expr.asks.items see c.args.unit parts i c.loop-expr-item.result c.loop-expr-test.true c.loop-expr-item.is)
    ∙ c.loop-expr.invariant
