use Rattle.std.proofs.Common.{◌≡◌, ◌+◌, ◌*◌, take}
use Rattle.hp_tree.specs.Expressions.{exprs_of, parts_of}
use Rattle.hp_tree.specs.Sizes.{nodes, nodes_of_all, nodes_of_parts}
use Rattle.hp_expand.specs.Capped.{cap}
use Rattle.hp_expand.specs.Sizes.{in_exprs, in_parts}
use Rattle.hp_expand.specs.Tables.{size_in}
use Rattle.hp_expand.proofs.sizes.+size.Given as goal

abbrev pub decreases-size_of_expr : goal.decreases-size_of_expr
decreases-size_of_expr l = 2 * nodes l.expr.now

abbrev pub decreases-size_of_args : goal.decreases-size_of_args
decreases-size_of_args l = 2 * nodes_of_all (exprs_of l.args.now) + 1

abbrev pub decreases-size_of_parts : goal.decreases-size_of_parts
decreases-size_of_parts l = 2 * nodes_of_parts (parts_of l.parts.now) + 1

abbrev pub invariant-size_of_args-loop-arg : goal.invariant-size_of_args-loop-arg
invariant-size_of_args-loop-arg l = l.all ≡ cap (in_exprs (size_in l.known) (exprs_of (take l.arg-index l.args)))

abbrev pub invariant-size_of_parts-loop-part : goal.invariant-size_of_parts-loop-part
invariant-size_of_parts-loop-part l = l.all ≡ cap (in_parts (size_in l.known) (parts_of (take l.part-index l.parts)))
