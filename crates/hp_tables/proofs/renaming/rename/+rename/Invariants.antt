use Rattle.std.proofs.Common.{◌≡◌, ◌+◌, ◌*◌, take, map}
use Rattle.hp_tree.specs.Expressions.{exprs_of, parts_of}
use Rattle.hp_tree.specs.Sizes.{nodes, nodes_of_all, nodes_of_parts}
use Rattle.hp_tree.proofs.KindSizes.{nodes_of_kind}
use Rattle.hp_tables.specs.Renaming.Renaming.{renamed, renamed_part}
use Rattle.hp_tables.proofs.renaming.rename.+rename.Given as goal

abbrev pub decreases-rename_expr : goal.decreases-rename_expr
decreases-rename_expr g l = 3 * nodes l.expr.now + 1

abbrev pub decreases-rename_kind : goal.decreases-rename_kind
decreases-rename_kind g l = 3 * nodes_of_kind l.kind.now

abbrev pub decreases-rename_args : goal.decreases-rename_args
decreases-rename_args g l = 3 * nodes_of_all (exprs_of l.args.now) + 2

abbrev pub decreases-rename_parts : goal.decreases-rename_parts
decreases-rename_parts g l = 3 * nodes_of_parts (parts_of l.parts.now) + 2

abbrev pub invariant-rename_args-loop-arg : goal.invariant-rename_args-loop-arg
invariant-rename_args-loop-arg g l = l.others.items ≡ map (renamed (g.R.Renaming.reads l.naming) (g.R.Renaming.declares l.naming)) (take l.arg-index l.args)

abbrev pub invariant-rename_parts-loop-cons : goal.invariant-rename_parts-loop-cons
invariant-rename_parts-loop-cons g l = l.others.items ≡ map (renamed_part (g.R.Renaming.reads l.naming) (g.R.Renaming.declares l.naming)) (take l.cons-index l.parts)
