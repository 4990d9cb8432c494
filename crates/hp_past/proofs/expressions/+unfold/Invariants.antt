use Rattle.std.proofs.Common.{◌≡◌, ◌+◌, ◌*◌, drop}
use Rattle.hp_tree.specs.Expressions.{exprs_of, parts_of}
use Rattle.hp_tree.specs.Sizes.{nodes, nodes_of_all, nodes_of_parts}
use Rattle.hp_tree.proofs.KindSizes.{nodes_of_kind}
use Rattle.hp_past.specs.Unfolding.{in_exprs, in_parts}
use Rattle.hp_past.specs.Made.{added_of, exprs_onto, parts_onto}
use Rattle.hp_past.proofs.expressions.+unfold.Given as goal

abbrev pub decreases-unfold_expr : goal.decreases-unfold_expr
decreases-unfold_expr l = 4 * nodes l.expr.now + 1

abbrev pub decreases-unfold_kind : goal.decreases-unfold_kind
decreases-unfold_kind l = 4 * nodes_of_kind l.kind.now

abbrev pub decreases-unfold_call : goal.decreases-unfold_call
decreases-unfold_call l = 4 * nodes_of_all (exprs_of l.args.now) + 3

abbrev pub decreases-unfold_args : goal.decreases-unfold_args
decreases-unfold_args l = 4 * nodes_of_all (exprs_of l.args.now) + 2

abbrev pub decreases-unfold_parts : goal.decreases-unfold_parts
decreases-unfold_parts l = 4 * nodes_of_parts (parts_of l.parts.now) + 2

abbrev pub invariant-unfold_args-loop-arg : goal.invariant-unfold_args-loop-arg
invariant-unfold_args-loop-arg l =
    exprs_onto l.others.items (in_exprs l.text.formulas l.text.names (exprs_of (drop l.arg-index l.args)) (added_of l.added))
    ≡ in_exprs l.text.formulas l.text.names (exprs_of l.args) (added_of l.initial.added)

abbrev pub invariant-unfold_parts-loop-cons : goal.invariant-unfold_parts-loop-cons
invariant-unfold_parts-loop-cons l =
    parts_onto l.others.items (in_parts l.text.formulas l.text.names (parts_of (drop l.cons-index l.parts)) (added_of l.added))
    ≡ in_parts l.text.formulas l.text.names (parts_of l.parts) (added_of l.initial.added)
