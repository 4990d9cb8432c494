use Rattle.std.proofs.Common.{◌≡◌, ◌+◌, ◌*◌, drop}
use Rattle.hp_tree.specs.Expressions.{exprs_of, parts_of}
use Rattle.hp_tree.specs.Sizes.{nodes, nodes_of_all, nodes_of_parts}
use Rattle.hp_tables.specs.Defining.Layers.{sight}
use Rattle.hp_init.specs.Asks.{of_exprs, of_parts}
use Rattle.hp_init.specs.Goals.{with_more}
use Rattle.hp_init.proofs.expression.+gather.Given as goal

abbrev pub decreases-gather_expr : goal.decreases-gather_expr
decreases-gather_expr l = 2 * nodes l.expr.now

abbrev pub decreases-gather_args : goal.decreases-gather_args
decreases-gather_args l = 2 * nodes_of_all (exprs_of l.args.now) + 1

abbrev pub decreases-gather_parts : goal.decreases-gather_parts
decreases-gather_parts l = 2 * nodes_of_parts (parts_of l.parts.now) + 1

abbrev pub invariant-gather_args-loop-arg : goal.invariant-gather_args-loop-arg
invariant-gather_args-loop-arg l =
    with_more l.asks.items (of_exprs (sight l.layers) l.unit (exprs_of (drop l.arg-index l.args))) ≡ with_more l.initial.asks.items (of_exprs (sight l.layers) l.unit (exprs_of l.args))

abbrev pub invariant-gather_parts-loop-expr : goal.invariant-gather_parts-loop-expr
invariant-gather_parts-loop-expr l =
    with_more l.asks.items (of_parts (sight l.layers) l.unit (parts_of (drop l.expr-index l.parts))) ≡ with_more l.initial.asks.items (of_parts (sight l.layers) l.unit (parts_of l.parts))
