use Rattle.std.proofs.Common.{◌≡◌, ◌+◌, ◌*◌, take}
use Rattle.hp_tree.specs.Expressions.{exprs_of, parts_of}
use Rattle.hp_tree.specs.Sizes.{nodes, nodes_of_all, nodes_of_parts}
use Rattle.hp_tree.proofs.KindSizes.{nodes_of_kind}
use Rattle.hp_tree.proofs.expr.+copy.Given as goal

abbrev pub decreases-Expr::copy : goal.decreases-Expr::copy
decreases-Expr::copy l = 3 * nodes l.self.now + 1

abbrev pub decreases-ExprKind::copy : goal.decreases-ExprKind::copy
decreases-ExprKind::copy l = 3 * nodes_of_kind l.self.now

abbrev pub decreases-copy_all : goal.decreases-copy_all
decreases-copy_all l = 3 * nodes_of_all (exprs_of l.args.now) + 2

abbrev pub decreases-copy_parts : goal.decreases-copy_parts
decreases-copy_parts l = 3 * nodes_of_parts (parts_of l.parts.now) + 2

abbrev pub invariant-copy_all-loop-arg : goal.invariant-copy_all-loop-arg
invariant-copy_all-loop-arg l = l.copies.items ≡ take l.arg-index l.args

abbrev pub invariant-copy_parts-loop-cons : goal.invariant-copy_parts-loop-cons
invariant-copy_parts-loop-cons l = l.copies.items ≡ take l.cons-index l.parts
