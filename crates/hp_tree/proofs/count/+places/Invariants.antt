use Rattle.std.proofs.Common.{◌≡◌, ◌+◌, ◌*◌, take}
use Rattle.hp_tree.specs.Expressions.{exprs_of, parts_of}
use Rattle.hp_tree.specs.Sizes.{nodes, nodes_of_all, nodes_of_parts}
use Rattle.hp_tree.specs.Counting.{up_to_limit, places_of_exprs, places_of_parts}
use Rattle.hp_tree.proofs.count.+places.Given as goal

abbrev pub decreases-places_of_expr : goal.decreases-places_of_expr
decreases-places_of_expr l = 2 * nodes l.expr.now

abbrev pub decreases-places_of_args : goal.decreases-places_of_args
decreases-places_of_args l = 2 * nodes_of_all (exprs_of l.args.now) + 1

abbrev pub decreases-places_of_parts : goal.decreases-places_of_parts
decreases-places_of_parts l = 2 * nodes_of_parts (parts_of l.parts.now) + 1

abbrev pub invariant-places_of_args-loop-arg : goal.invariant-places_of_args-loop-arg
invariant-places_of_args-loop-arg l = l.all ≡ up_to_limit (places_of_exprs (exprs_of (take l.arg-index l.args)))

abbrev pub invariant-places_of_parts-loop-part : goal.invariant-places_of_parts-loop-part
invariant-places_of_parts-loop-part l = l.all ≡ up_to_limit (places_of_parts (parts_of (take l.part-index l.parts)))
