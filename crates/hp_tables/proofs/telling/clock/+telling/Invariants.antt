use Rattle.std.proofs.Common.{◌≡◌, ◌+◌, ◌*◌, drop}
use Rattle.hp_tree.specs.Expressions.{exprs_of}
use Rattle.hp_tree.specs.Sizes.{nodes, nodes_of_all}
use Rattle.hp_tables.specs.Telling.Tellings.{tells_in_all}
use Rattle.hp_tables.proofs.telling.clock.+telling.Given as goal

abbrev pub decreases-told : goal.decreases-told
decreases-told l = 2 * nodes l.expr.now

abbrev pub decreases-told_by_some : goal.decreases-told_by_some
decreases-told_by_some l = 2 * nodes_of_all (exprs_of l.exprs.now) + 1

abbrev pub invariant-told_by_some-loop-expr : goal.invariant-told_by_some-loop-expr
invariant-told_by_some-loop-expr l = tells_in_all (exprs_of (drop l.expr-index l.exprs)) ≡ tells_in_all (exprs_of l.exprs)
