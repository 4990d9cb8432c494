use Rattle.std.proofs.Common.{◌≡◌, ◌+◌, ◌*◌, drop}
use Rattle.hp_tree.specs.Expressions.{exprs_of, parts_of}
use Rattle.hp_tree.specs.Sizes.{nodes, nodes_of_all, nodes_of_parts}
use Rattle.hp_expand.specs.Shapes.{found_after, in_exprs, in_parts}
use Rattle.hp_expand.specs.Tables.{form_in}
use Rattle.hp_expand.proofs.calls.+check.Given as goal

abbrev pub decreases-check_expr : goal.decreases-check_expr
decreases-check_expr l = 2 * nodes l.expr.now

abbrev pub decreases-check_args : goal.decreases-check_args
decreases-check_args l = 2 * nodes_of_all (exprs_of l.args.now) + 1

abbrev pub decreases-check_parts : goal.decreases-check_parts
decreases-check_parts l = 2 * nodes_of_parts (parts_of l.parts.now) + 1

abbrev pub invariant-check_args-loop-arg : goal.invariant-check_args-loop-arg
invariant-check_args-loop-arg l =
    found_after l.found (in_exprs (form_in l.forms) (exprs_of (drop l.arg-index l.args))) ≡ found_after l.initial.found (in_exprs (form_in l.forms) (exprs_of l.args))

abbrev pub invariant-check_parts-loop-part : goal.invariant-check_parts-loop-part
invariant-check_parts-loop-part l =
    found_after l.found (in_parts (form_in l.forms) (parts_of (drop l.part-index l.parts))) ≡ found_after l.initial.found (in_parts (form_in l.forms) (parts_of l.parts))
