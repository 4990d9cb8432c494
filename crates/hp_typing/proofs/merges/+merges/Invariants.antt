use Rattle.std.proofs.Common.{◌≡◌, ◌+◌, ◌*◌, drop}
use Rattle.hp_tree.specs.Expressions.{exprs_of, parts_of}
use Rattle.hp_tree.specs.Sizes.{nodes, nodes_of_all, nodes_of_parts}
use Rattle.hp_typing.specs.Breaches.{found_after}
use Rattle.hp_typing.specs.Definedness.{in_exprs, in_parts}
use Rattle.hp_typing.proofs.merges.+merges.Given as goal

abbrev pub decreases-check_merges : goal.decreases-check_merges
decreases-check_merges l = 2 * nodes l.expr.now

abbrev pub decreases-check_parts : goal.decreases-check_parts
decreases-check_parts l = 2 * nodes_of_parts (parts_of l.parts.now) + 1

abbrev pub decreases-check_args : goal.decreases-check_args
decreases-check_args l = 2 * nodes_of_all (exprs_of l.args.now) + 1

abbrev pub invariant-check_parts-loop-right : goal.invariant-check_parts-loop-right
invariant-check_parts-loop-right l =
    found_after l.found (in_parts l.scope (parts_of (drop l.right-index l.parts))) ≡ found_after l.initial.found (in_parts l.scope (parts_of l.parts))

abbrev pub invariant-check_args-loop-arg : goal.invariant-check_args-loop-arg
invariant-check_args-loop-arg l =
    found_after l.found (in_exprs l.scope (exprs_of (drop l.arg-index l.args))) ≡ found_after l.initial.found (in_exprs l.scope (exprs_of l.args))
