use Rattle.std.proofs.Common.{◌+◌, ◌*◌}
use Rattle.hp_tree.specs.Expressions.{exprs_of, parts_of}
use Rattle.hp_tree.specs.Sizes.{nodes, nodes_of_all, nodes_of_parts}
use Rattle.hp_labels.proofs.walk.Walk.+expressions.Given as goal

abbrev pub decreases-expression : goal.decreases-expression
decreases-expression l = 4 * nodes l.expr.now

abbrev pub decreases-parts : goal.decreases-parts
decreases-parts l = 4 * nodes_of_parts (parts_of l.parts.now) + 1

abbrev pub decreases-arguments : goal.decreases-arguments
decreases-arguments l = 4 * nodes_of_all (exprs_of l.args.now) + 1
