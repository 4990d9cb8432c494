use Rattle.std.proofs.Common.{◌≡◌, ◌+◌, ◌*◌, drop}
use Rattle.std.specs.Prelude.{max}
use Rattle.hp_tree.specs.Expressions.{exprs_of, parts_of}
use Rattle.hp_tree.specs.Sizes.{nodes, nodes_of_all, nodes_of_parts}
use Rattle.hp_clocks.specs.Longest.{counted, longest_of_all, longest_of_parts}
use Rattle.hp_clocks.proofs.length.+longest.Given as goal

abbrev pub decreases-longest_in : goal.decreases-longest_in
decreases-longest_in l = 2 * nodes l.expr.now

abbrev pub decreases-longest_of_args : goal.decreases-longest_of_args
decreases-longest_of_args l = 2 * nodes_of_all (exprs_of l.args.now) + 1

abbrev pub decreases-longest_of_parts : goal.decreases-longest_of_parts
decreases-longest_of_parts l = 2 * nodes_of_parts (parts_of l.parts.now) + 1

abbrev pub invariant-longest_of_args-loop-arg : goal.invariant-longest_of_args-loop-arg
invariant-longest_of_args-loop-arg l =
    max l.most (counted (longest_of_all (exprs_of (drop l.arg-index l.args)) l.length)) ≡ counted (longest_of_all (exprs_of l.args) l.length)

abbrev pub invariant-longest_of_parts-loop-expr : goal.invariant-longest_of_parts-loop-expr
invariant-longest_of_parts-loop-expr l =
    max l.most (counted (longest_of_parts (parts_of (drop l.expr-index l.parts)) l.length)) ≡ counted (longest_of_parts (parts_of l.parts) l.length)
