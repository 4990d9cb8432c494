use Rattle.std.proofs.Common.{◌≡◌, ◌+◌, ◌*◌, take}
use Rattle.hp_tree.specs.Expressions.{exprs_of, parts_of}
use Rattle.hp_tree.specs.Sizes.{nodes, nodes_of_all, nodes_of_parts}
use Rattle.hp_tree.proofs.expr.+same.Given as goal

abbrev pub decreases-Expr::same : goal.decreases-Expr::same
decreases-Expr::same l = 2 * nodes l.self.now

abbrev pub decreases-all_same : goal.decreases-all_same
decreases-all_same l = 2 * nodes_of_all (exprs_of l.args.now) + 1

abbrev pub decreases-same_parts : goal.decreases-same_parts
decreases-same_parts l = 2 * nodes_of_parts (parts_of l.parts.now) + 1

abbrev pub invariant-all_same-loop-i : goal.invariant-all_same-loop-i
invariant-all_same-loop-i l = take l.i l.args ≡ take l.i l.others

abbrev pub invariant-same_parts-loop-i : goal.invariant-same_parts-loop-i
invariant-same_parts-loop-i l = take l.i l.parts ≡ take l.i l.others
