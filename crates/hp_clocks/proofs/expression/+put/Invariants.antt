use Rattle.std.proofs.Common.{◌+◌, ◌*◌, drop}
use Rattle.hp_meaning.specs.Causal.Clocked.{ExprsOn, PartsOn}
use Rattle.hp_tree.specs.Expressions.{exprs_of, parts_of}
use Rattle.hp_tree.specs.Sizes.{nodes, nodes_of_all, nodes_of_parts}
use Rattle.hp_clocks.specs.Layers.{sight}
use Rattle.hp_clocks.specs.Scopes.{standing}
use Rattle.hp_clocks.proofs.Leading.{Leads}
use Rattle.hp_clocks.proofs.expression.+put.Given as goal

abbrev pub decreases-put_expr : goal.decreases-put_expr
decreases-put_expr l = 2 * nodes l.expr.now

abbrev pub decreases-put_args : goal.decreases-put_args
decreases-put_args l = 2 * nodes_of_all (exprs_of l.args.now) + 1

abbrev pub decreases-put_parts : goal.decreases-put_parts
decreases-put_parts l = 2 * nodes_of_parts (parts_of l.parts.now) + 1

abbrev pub invariant-put_args-loop-arg : goal.invariant-put_args-loop-arg
invariant-put_args-loop-arg l =
    Leads l.initial.cells.cells.items l.cells.cells.items (λ at. ExprsOn (standing at (sight l.layers)) (exprs_of (drop l.arg-index l.args)) (at l.clock)) (λ at. ExprsOn (standing at (sight l.layers)) (exprs_of l.args) (at l.clock))

abbrev pub invariant-put_parts-loop-cons : goal.invariant-put_parts-loop-cons
invariant-put_parts-loop-cons l =
    Leads l.initial.cells.cells.items l.cells.cells.items (λ at. PartsOn (standing at (sight l.layers)) l.name (parts_of (drop l.cons-index l.parts)) (at l.clock)) (λ at. PartsOn (standing at (sight l.layers)) l.name (parts_of l.parts) (at l.clock))
