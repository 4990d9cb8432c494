use Rattle.std.proofs.Common.{◌≡◌, ◌+◌, ◌*◌, drop}
use Rattle.hp_tree.specs.Expressions.{exprs_of, parts_of}
use Rattle.hp_tree.specs.Sizes.{nodes, nodes_of_all, nodes_of_parts}
use Rattle.hp_past.specs.Names.{noted, names_in_all, names_in_parts}
use Rattle.hp_past.proofs.names.+expr.Given as goal

abbrev pub decreases-note_expr : goal.decreases-note_expr
decreases-note_expr l = 4 * nodes l.expr.now

abbrev pub decreases-note_two : goal.decreases-note_two
decreases-note_two l = 4 * (nodes l.a.now + nodes l.b.now) + 1

abbrev pub decreases-note_all : goal.decreases-note_all
decreases-note_all l = 4 * nodes_of_all (exprs_of l.exprs.now) + 1

abbrev pub decreases-note_parts : goal.decreases-note_parts
decreases-note_parts l = 4 * nodes_of_parts (parts_of l.parts.now) + 1

abbrev pub invariant-note_all-loop-expr : goal.invariant-note_all-loop-expr
invariant-note_all-loop-expr l =
    noted l.names (names_in_all (exprs_of (drop l.expr-index l.exprs))) ≡ noted l.initial.names (names_in_all (exprs_of l.exprs))

abbrev pub invariant-note_parts-loop-expr : goal.invariant-note_parts-loop-expr
invariant-note_parts-loop-expr l =
    noted l.names (names_in_parts (parts_of (drop l.expr-index l.parts))) ≡ noted l.initial.names (names_in_parts (parts_of l.parts))
